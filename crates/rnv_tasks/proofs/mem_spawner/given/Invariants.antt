use Rattle.std.proofs.Common.{◌≡◌, drop}
use Rattle.rnv_tasks.specs.Told.{given_by}
use Rattle.rnv_tasks.proofs.mem_spawner.given.Given as goal

abbrev pub invariant-loop-answer : goal.invariant-loop-answer
invariant-loop-answer l =
    given_by (record { words = l.words; input = l.input.bytes }) l.answers ≡ given_by (record { words = l.words; input = l.input.bytes }) (drop l.answer-index l.answers)
