use Rattle.rnv_patch.proofs.Trims.{on_ok}
use Rattle.rnv_patch.proofs.Files.{changed}
use Rattle.rnv_patch.proofs.diffs.add_changed.Goals as goal

pub returns : goal.returns
returns c = on_ok c.add_hunks.result
    (changed c.args.path.now c.args.old.now c.args.new.now _ _ _ _ c.requires c.in_ok-add_git_line.ensures c.in_ok-add_name_lines.ensures)
    c.add_hunks.ensures
