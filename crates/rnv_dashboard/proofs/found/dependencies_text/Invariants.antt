use Rattle.std.proofs.Common.{◌≡◌, flat_map, string_bytes, take}
use Rattle.rnv_dashboard.specs.Lines.{ended}
use Rattle.rnv_dashboard.specs.Page.{dependency_line}
use Rattle.rnv_dashboard.proofs.found.dependencies_text.Given as goal

abbrev pub invariant-loop-line : goal.invariant-loop-line
invariant-loop-line l = string_bytes l.text ≡ flat_map (λ x. ended (dependency_line x)) (take l.line-index l.lines)
