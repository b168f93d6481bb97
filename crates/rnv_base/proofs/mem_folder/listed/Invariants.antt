use Rattle.std.proofs.Common.{◌≡◌, take}
use Rattle.rnv_base.specs.Files.{listed_of}
use Rattle.rnv_base.proofs.mem_folder.listed.Given as goal

abbrev pub invariant-loop-file : goal.invariant-loop-file
invariant-loop-file l = l.paths ≡ listed_of l.prefix (take l.file-index l.files)
