use Rattle.std.proofs.Common.{◌≡◌, ◌-◌}
use Rattle.rnv_spelling.specs.Reading.{parts_at}
use Rattle.rnv_spelling.proofs.Readings.{with_front}
use Rattle.rnv_spelling.proofs.spelled.read_parts.Given as goal

abbrev pub invariant-loop : goal.invariant-loop
invariant-loop g l = with_front l.parts (parts_at g.T.Spelled.reading (l.count - l.counter) l.rest) ≡ parts_at g.T.Spelled.reading l.count l.bytes
