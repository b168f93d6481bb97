use Rattle.std.proofs.Common.{◌∙◌, sym, ap, flat_map}
use Rattle.std.proofs.lemmas.List.{take_all}
use Rattle.rnv_dashboard.specs.Lines.{text_of}
use Rattle.rnv_dashboard.specs.Page.{file_lines}
use Rattle.rnv_dashboard.proofs.Texts.{text_of_each}
use Rattle.rnv_dashboard.proofs.found.files_text.Goals as goal

pub returns : goal.returns
returns c = c.loop-file.invariant ∙ ap (flat_map (λ f. text_of (file_lines f))) (take_all c.loop-file.file-index c.args.found.now c.loop-file-test.false) ∙ sym (text_of_each file_lines c.args.found.now)
