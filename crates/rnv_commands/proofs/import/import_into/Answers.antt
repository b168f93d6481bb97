use Rattle.std.proofs.Common.{◌≡◌, ◌∙◌, ◌+◌, List, subst, sym, ap}
use Rattle.rnv_repo.specs.Base.{path_of}
use Rattle.rnv_repo.specs.Files.{MarkedFile}
use Rattle.rnv_repo.specs.Named.{IsRisingBy}
use Rattle.rnv_commands.specs.Difference.{IsDifference}
use Rattle.rnv_commands.specs.Import.{files_of, import_text}
use Rattle.rnv_commands.proofs.Imports.{prepared_of}
use Rattle.rnv_commands.proofs.import.import_into.Goals as goal

pub changes_of-requires-clause-old : goal.changes_of-requires-clause-old
changes_of-requires-clause-old c = subst (IsRisingBy path_of) (sym (c.as_slice.ensures ∙ c.known_base-known.ensures.files)) c.requires.files.rising

pub returns : goal.returns
returns c =
    let files : c.as_slice.result.now ≡ files_of c.args.repo = c.as_slice.ensures ∙ c.known_base-known.ensures.files in
    prepared_of c.args.repo c.args.base.files c.args.base.passed c.in_ok-changes.changes _ c.revision_with-revision.result c.requires.files c.requires.order
    (subst (λ (l : List MarkedFile). IsDifference l c.args.base.files c.in_ok-changes.changes) files c.in_ok-changes.ensures)
    (λ e. c.revision_with-revision.ensures.none e ∙ c.known_base-known.ensures.revision)
    (λ ne. c.revision_with-revision.ensures.some ne ∙ ap (λ n. n + 1) c.known_base-known.ensures.revision)
    (c.new.ensures ∙ c.in_ok-text.ensures ∙ ap (λ n. import_text n c.revision_with-revision.result c.args.base.passed) c.len-count.ensures)
