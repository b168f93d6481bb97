-- The calls of a fake, some of which fail.
use Rattle.std.specs.Prelude.{ℕ, ◌+◌, ◌-◌, ◌^◌, List, Contains, min}

-- the numbers of the calls that fail, from 0, and how many calls there were
pub record Turns : Type 0 where
  pub listed : List ℕ
  pub calls : ℕ

-- before the first call
abbrev pub first_turn : List ℕ → Turns
first_turn listed = record { listed = listed; calls = 0 }

-- whether the call that comes is among those that fail
abbrev pub IsListed : Turns → Type 0
IsListed t = Contains t.listed t.calls

-- one call more
abbrev pub next_turn : Turns → Turns
next_turn t = record { listed = t.listed; calls = min (t.calls + 1) (2 ^ 64 - 1) }
