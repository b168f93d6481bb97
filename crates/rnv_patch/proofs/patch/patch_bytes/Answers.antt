use Rattle.rnv_patch.proofs.Parts.{next_file}
use Rattle.rnv_patch.proofs.patch.patch_bytes.Goals as goal

pub loop-file-preserved : goal.loop-file-preserved
loop-file-preserved c =
    next_file c.args.base.now c.args.files.now c.loop-file.file-index c.file-item.result _ _ c.loop-file-test.true c.file-item.is c.loop-file.invariant c.in_ok-add_file.ensures
