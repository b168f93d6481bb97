use Rattle.std.proofs.Common.{◌∙◌, sym, ap, flat_map}
use Rattle.std.proofs.lemmas.List.{take_all}
use Rattle.rnv_dashboard.specs.Lines.{ended}
use Rattle.rnv_dashboard.specs.Page.{dependency_line}
use Rattle.rnv_dashboard.proofs.Texts.{text_of_mapped}
use Rattle.rnv_dashboard.proofs.found.dependencies_text.Goals as goal

pub returns : goal.returns
returns c = c.loop-line.invariant ∙ ap (flat_map (λ x. ended (dependency_line x))) (take_all c.loop-line.line-index c.args.lines.now c.loop-line-test.false) ∙ sym (text_of_mapped dependency_line c.args.lines.now)
