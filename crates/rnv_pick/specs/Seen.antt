-- What is asked for and found, without where it lies in memory.
use Rattle.std.specs.Prelude.{List, Option, map, option_map}
use denote.Ref.{Bor}
use Rattle.rnv_pick.specs.declared.live.Live.{Live}
use Rattle.rnv_pick.specs.declared.target.Target.{Target}
use Rattle.rnv_pick.specs.Candidates.{Aim}
use Rattle.rnv_pick.specs.Listing.{Listed}

abbrev pub seen : {X : Type 0} → Live X → Listed X
seen l = record { release = l.release; version = l.version }

abbrev pub aim_of : {X R : Type 0} → Target X R → Aim X
aim_of t = record { dep = t.dep.now; options = t.options.now; start = t.start.now }

abbrev pub seen_at : {X : Type 0} → Option (Bor (Live X)) → Option (Listed X)
seen_at live = option_map (λ l. seen l.now) live

abbrev pub all_seen : {X : Type 0} → Option (Bor (List (Live X))) → Option (List (Listed X))
all_seen found = option_map (λ ls. map seen ls.now) found
