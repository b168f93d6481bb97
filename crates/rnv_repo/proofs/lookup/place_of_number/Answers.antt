use Rattle.std.proofs.Common.{rules, ltb}
use Rattle.std.proofs.lemmas.List.Sorted.{IsPartitionPoint-from_clause, IsPartitionedBy-ltb}
use Rattle.rnv_repo.specs.declared.request.Request.{Request}
use Rattle.rnv_repo.proofs.Numbers.{numbers_rise}
use Rattle.rnv_repo.proofs.Places.{count_of_point}
use Rattle.rnv_repo.proofs.lookup.place_of_number.Goals as goal

pub returns-clause-count : goal.returns-clause-count
returns-clause-count c =
    let parted = IsPartitionedBy-ltb (λ (r : Request). r.number) c.args.requests.now c.args.number (numbers_rise c.args.requests.now c.requires) in
    let point =
    IsPartitionPoint-from_clause (λ (r : Request). ltb r.number c.args.number) c.args.requests.now c.partition_point.result c.partition_point.ensures.partitioned parted
    (λ a r q k. search rules) in
    count_of_point (λ (r : Request). ltb r.number c.args.number) c.args.requests.now c.partition_point.result c.partition_point.ensures.bound point
