use Rattle.std.proofs.Common.{◌≡◌, flat_map, string_bytes, take}
use Rattle.rnv_dashboard.specs.Lines.{text_of}
use Rattle.rnv_dashboard.specs.Page.{file_lines}
use Rattle.rnv_dashboard.proofs.found.files_text.Given as goal

abbrev pub invariant-loop-file : goal.invariant-loop-file
invariant-loop-file l = string_bytes l.lines ≡ flat_map (λ f. text_of (file_lines f)) (take l.file-index l.found)
