use Rattle.rnv_patch.proofs.Trims.{on_ok}
use Rattle.rnv_patch.proofs.Files.{empty}
use Rattle.rnv_patch.proofs.diffs.add_empty.Goals as goal

pub returns : goal.returns
returns c = on_ok c.add_mode_line.result (empty c.args.path.now _ _ _ c.in_ok-add_git_line.ensures) c.add_mode_line.ensures
