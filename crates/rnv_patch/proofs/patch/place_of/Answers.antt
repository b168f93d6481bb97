use Rattle.std.proofs.Common.{rules}
use Rattle.std.specs.Ordering.{is_lt}
use Rattle.std.proofs.lemmas.List.Sorted.{IsPartitionPoint-from_clause}
use Rattle.rnv_repo.specs.Base.{path_of}
use Rattle.rnv_repo.specs.Files.{MarkedFile}
use Rattle.rnv_repo.proofs.Places.{below_in_front, count_of_point}
use Rattle.rnv_repo.proofs.Texts.{cmp}
use Rattle.rnv_patch.proofs.patch.place_of.Goals as goal

pub returns : goal.returns
returns c =
    let parted = below_in_front path_of c.args.path.now c.args.base.now c.requires in
    let point =
    IsPartitionPoint-from_clause (λ (f : MarkedFile). is_lt (cmp f.path c.args.path.now)) c.args.base.now c.partition_point.result c.partition_point.ensures.partitioned parted
    (λ a r q k. search rules) in
    count_of_point (λ (f : MarkedFile). is_lt (cmp f.path c.args.path.now)) c.args.base.now c.partition_point.result c.partition_point.ensures.bound point
