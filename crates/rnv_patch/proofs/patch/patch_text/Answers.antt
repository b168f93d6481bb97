use Rattle.rnv_patch.proofs.Applied.{taken}
use Rattle.rnv_patch.proofs.patch.patch_text.Goals as goal

pub returns-clause-applied : goal.returns-clause-applied
returns-clause-applied c = taken c.args.base.now c.as_slice.result.now c.args.files.now c.as_slice-2.result.now _ _ c.as_slice.ensures c.as_slice-2.ensures c.new.ensures c.requires.files c.in_ok-patch.ensures
