use Rattle.std.proofs.Common.{◌≡◌, ◌≤◌, ◌+◌, ◌-◌, ◌^◌, ℕ, List, ap, arith, min, subst, sym, take}
use Rattle.rnv_repo.specs.declared.write.Write.{Write}
use Rattle.rnv_forge.specs.InMemory.{HoldsInMemory, in_memory_length}
use Rattle.rnv_forge.specs.Writes.{length_of}
use Rattle.rnv_forge.proofs.mem_forge.MemForge.length.Goals as goal

-- a length within the limit needs no more than 64 bits
whole : (all front : List Write) (done limit n : ℕ) → HoldsInMemory all done limit → front ≡ take done all → n ≡ min (14 + length_of front - 14) (2 ^ 64 - 1) → n ≡ length_of (take done all)
whole all front done limit n h is counted =
    omega (arith, counted, ap length_of is, in_memory_length all done limit h, h.small)

pub returns-clause-counted : goal.returns-clause-counted
returns-clause-counted c =
    whole c.args.self.now.all.items _ c.args.self.now.done c.args.self.now.limit _ c.requires (ap (λ (l : List Write). take c.args.self.now.done l) c.deref.ensures.value) c.in_ok-length.ensures

pub returns-clause-within : goal.returns-clause-within
returns-clause-within c =
    let same = whole c.args.self.now.all.items _ c.args.self.now.done c.args.self.now.limit _ c.requires (ap (λ (l : List Write). take c.args.self.now.done l) c.deref.ensures.value) c.in_ok-length.ensures in
    subst (λ (n : ℕ). n ≤ c.args.self.now.limit) (sym same) (in_memory_length c.args.self.now.all.items c.args.self.now.done c.args.self.now.limit c.requires)
