use Rattle.std.proofs.Common.{rules}
use Rattle.std.specs.Ordering.{is_lt}
use Rattle.std.proofs.lemmas.List.Sorted.{IsPartitionPoint-from_clause}
use Rattle.rnv_repo.specs.declared.branch.Branch.{Branch}
use Rattle.rnv_repo.specs.Store.{name_of}
use Rattle.rnv_repo.proofs.Places.{below_in_front, count_of_point}
use Rattle.rnv_repo.proofs.Texts.{cmp}
use Rattle.rnv_repo.proofs.lookup.place_of.Goals as goal

pub returns-clause-count : goal.returns-clause-count
returns-clause-count c =
    let parted = below_in_front name_of c.args.name.now c.args.branches.now c.requires in
    let point =
    IsPartitionPoint-from_clause (λ (b : Branch). is_lt (cmp b.name c.args.name.now)) c.args.branches.now c.partition_point.result c.partition_point.ensures.partitioned parted
    (λ a r q k. search rules) in
    count_of_point (λ (b : Branch). is_lt (cmp b.name c.args.name.now)) c.args.branches.now c.partition_point.result c.partition_point.ensures.bound point
