use Rattle.std.proofs.Common.{◌≡◌, ◌+◌, ◌-◌, ◌^◌, min, take}
use Rattle.rnv_forge.specs.Writes.{length_of}
use Rattle.rnv_forge.proofs.mem_forge.lengthened.Given as goal

abbrev pub invariant-loop-write : goal.invariant-loop-write
invariant-loop-write l = l.length ≡ min (l.fn.before + length_of (take l.write-index l.writes) - 14) (2 ^ 64 - 1)
