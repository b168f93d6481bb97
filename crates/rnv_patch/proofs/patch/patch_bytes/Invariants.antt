use Rattle.std.proofs.Common.{take}
use Rattle.rnv_patch.specs.Patch.{IsPatch}
use Rattle.rnv_patch.proofs.patch.patch_bytes.Given as goal

abbrev pub invariant-loop-file : goal.invariant-loop-file
invariant-loop-file l = IsPatch l.base (take l.file-index l.files) l.patch.items
