use Rattle.std.proofs.Common.{rules, ◌≡◌, ap}
use Rattle.std.specs.Ordering.{is_lt}
use Rattle.std.specs.Cmp.{on_total}
use Rattle.std.proofs.lemmas.List.Sorted.{IsStrictWeakOrder-flip, ranks_by, sorted_far}
use Rattle.std.proofs.lemmas.Fn.{always_returns_same}
use Rattle.rnv_pick.specs.declared.live.Live.{Live}
use Rattle.rnv_pick.specs.Listing.{listed_cmp, listed_total}
use Rattle.rnv_pick.specs.Seen.{seen}
use Rattle.rnv_pick.proofs.Falling.{falling_from, falling_seen}
use Rattle.rnv_pick.proofs.live.rank.Goals as goal

pub returns-clause-falling : goal.returns-clause-falling
returns-clause-falling g c =
    let n = g.V.Versioning.numbering c.args.versioning.now in
    let cmp = λ (a b : Live g.row.V-Version.Denot). listed_cmp n (seen a) (seen b) in
    let total = on_total (λ (a : Live g.row.V-Version.Denot). seen a) (listed_total n (g.met.V.Versioning.total c.args.versioning.now)) in
    let lt = λ (a b : Live g.row.V-Version.Denot). is_lt (cmp b a) in
    let order = IsStrictWeakOrder-flip (λ (a b : Live g.row.V-Version.Denot). is_lt (cmp a b)) (ranks_by total (λ (a : Live g.row.V-Version.Denot). a)) in
    let sorted = c.sort_unstable_by.ensures.sorted lt order (always_returns_same _ (λ a r. is_lt r ≡ lt a.0.now a.1.0.now) _ (λ a r q k. let e : r ≡ cmp a.1.0.now a.0.now = search rules in (ap is_lt e, search rules))) in
    falling_seen seen (listed_cmp n) _ (falling_from cmp total _ (λ i j d up h. sorted_far lt order _ sorted i j d up h))
