use Rattle.std.proofs.Common.{sym, ◌∙◌}
use Rattle.std.proofs.lemmas.Bool.{both_ways}
use Rattle.rnv_repo.specs.Requests.{is_live_number}
use Rattle.rnv_repo.proofs.Numbers.{live_at}
use Rattle.rnv_repo.proofs.indexed.branch_of.Goals as goal

pub returns-then-not-is_live_at : goal.returns-then-not-is_live_at
returns-then-not-is_live_at c =
    let same =
    live_at c.args.number c.args.requests.now c.place_of_number-at.result c.is_live_at.result c.requires c.place_of_number-at.ensures.count c.is_live_at.ensures.within c.is_live_at.ensures.same in
    λ live. absurd (both_ways (is_live_number c.args.number c.args.requests.now) (sym same ∙ c.if-not-is_live_at.true) live)
