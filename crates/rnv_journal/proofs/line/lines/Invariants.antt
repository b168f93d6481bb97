use Rattle.std.proofs.Common.{◌≡◌, ◌++◌}
use Rattle.std.specs.List.{All}
use Rattle.rnv_journal.specs.Found.{strings}
use Rattle.rnv_journal.specs.Held.{payloads, IsLine}
use Rattle.rnv_journal.proofs.line.lines.Given as goal

abbrev pub invariant-loop-payload : goal.invariant-loop-payload
invariant-loop-payload l = record {
  parts : l.yielded ++ l.payload-iterator.rest.items ≡ l.fn.list;
  made : payloads l.made.items ≡ strings l.yielded;
  lines : All IsLine l.made.items;
}
