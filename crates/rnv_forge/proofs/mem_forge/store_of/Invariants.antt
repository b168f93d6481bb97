use Rattle.rnv_forge.proofs.InMemory.{IsBuilt}
use Rattle.rnv_forge.proofs.mem_forge.store_of.Given as goal

abbrev pub invariant-loop-write : goal.invariant-loop-write
invariant-loop-write l = IsBuilt l.writes l.write-index l.store
