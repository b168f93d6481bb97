use Rattle.std.proofs.Common.{◌≡◌, map, not, take}
use Rattle.std.specs.List.{filter}
use Rattle.rnv_tasks.specs.Tasks.{is_none}
use Rattle.rnv_tasks.proofs.command.non_empty.Given as goal

abbrev pub invariant-loop-piece : goal.invariant-loop-piece
invariant-loop-piece l = l.words ≡ filter (λ word. not (is_none word)) (map (λ piece. piece.now) (take l.piece-index l.pieces))
