use Rattle.std.proofs.Common.{◌≡◌, ◌++◌, codes, flat_map, string_bytes, take}
use Rattle.rnv_tasks.proofs.joining.add_others.Given as goal

abbrev pub invariant-loop-other : goal.invariant-loop-other
invariant-loop-other l = string_bytes l.text ≡ string_bytes l.initial.text ++ flat_map (λ other. codes "; " ++ other) (take l.other-index l.others)
