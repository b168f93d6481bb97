use Rattle.std.proofs.Common.{List, ap, take}
use Rattle.rnv_repo.specs.declared.write.Write.{Write}
use Rattle.rnv_forge.proofs.InMemory.{held_few, held_front, held_orderly}
use Rattle.rnv_forge.proofs.mem_forge.MemForgeForge.names.Goals as goal

pub store_of-requires-clause-few : goal.store_of-requires-clause-few
store_of-requires-clause-few c =
    let done = c.args.self.now.done in
    held_few _ done c.args.self.now.limit (held_front _ done _ c.requires _ (ap (λ (l : List Write). take done l) c.deref.ensures.value))

pub store_of-requires-clause-orderly : goal.store_of-requires-clause-orderly
store_of-requires-clause-orderly c =
    let done = c.args.self.now.done in
    held_orderly _ done c.args.self.now.limit (held_front _ done _ c.requires _ (ap (λ (l : List Write). take done l) c.deref.ensures.value))

pub store_of-requires-clause-permitted : goal.store_of-requires-clause-permitted
store_of-requires-clause-permitted c =
    let done = c.args.self.now.done in
    (held_front _ done _ c.requires _ (ap (λ (l : List Write). take done l) c.deref.ensures.value)).permitted
