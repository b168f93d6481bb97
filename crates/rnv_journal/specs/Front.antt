-- How far what a journal has prepared is appended.
use Rattle.std.specs.Prelude.{◌≡◌, ◌<◌, ◌≤◌, ℕ, true, List, ◌++◌, length, take, drop}
use Rattle.rnv_disk.specs.Stops.{Past}
use Rattle.rnv_journal.specs.Held.{Held}
use Rattle.rnv_journal.specs.Readings.{ReadsOnlySince}

-- the entries, and behind them the first of the prepared byte strings, at least so many
pub record IsFront (held : Held) (least : ℕ) (list : List (List ℕ)) : Type 0 where
  pub count : ℕ
  pub at_least : least ≤ count
  pub at_most : count ≤ length held.prepared
  pub is : list ≡ held.entries ++ take count held.prepared

-- from some moment of the run on, each reading has at least the first k
pub record StandsSince (held : Held) (old new : Past) (k : ℕ) : Type 0 where
  pub moment : ℕ
  pub since : old.moment ≤ moment
  pub so_far : moment ≤ new.moment
  pub reads : ReadsOnlySince held.limit moment new (IsFront held k)

-- closed, after an append of some of the prepared byte strings, not of all
pub record IsStopped (held new : Held) : Type 0 where
  pub count : ℕ
  pub fewer : count < length held.prepared
  pub is : new ≡ record held { entries = held.entries ++ take count held.prepared; prepared = drop count held.prepared; closed = true }
