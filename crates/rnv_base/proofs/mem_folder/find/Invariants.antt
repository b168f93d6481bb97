use Rattle.std.proofs.Common.{◌≡◌, drop}
use Rattle.rnv_base.specs.Files.{read_of}
use Rattle.rnv_base.proofs.mem_folder.find.Given as goal

abbrev pub invariant-loop-file : goal.invariant-loop-file
invariant-loop-file l = read_of l.path l.files ≡ read_of l.path (drop l.file-index l.files)
