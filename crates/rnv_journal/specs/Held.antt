-- What a journal holds, and what a call leaves of it.
use Rattle.std.specs.Prelude.{◌≡◌, ◌<◌, ◌≤◌, ℕ, ◌+◌, ◌-◌, ◌^◌, Bool, false, List, [], ◌∷◌, ◌++◌, length, map, min, take, drop}
use Rattle.std.specs.List.{All}
use Rattle.rnv_base.specs.Buffer.{Buffer}
use Rattle.rnv_journal.specs.File.{body, end_of, counted}
use Rattle.rnv_journal.specs.Found.{strings}
use Rattle.rnv_journal.specs.declared.line.Line.{Line}

-- the entries, what is prepared to come next, the limit, and whether a fault of the disk has closed it
pub record Held : Type 0 where
  pub entries : List (List ℕ)
  pub prepared : List (List ℕ)
  pub limit : ℕ
  pub closed : Bool

-- the prepared byte strings
abbrev pub payloads : List Line → List (List ℕ)
payloads lines = map (λ line. line.payload.bytes) lines

-- beside a byte string, what an append of it writes behind the gate at the end
abbrev pub IsLine : Line → Type 0
IsLine line = line.written.bytes ≡ body line.payload.bytes ++ 0 ∷ []

-- the entries end at this offset, and there is room for what is prepared: within the limit, and in memory
pub record IsHeld (entries : List Buffer) (capacity : ℕ) (prepared : List Line) (limit end : ℕ) : Type 0 where
  pub place : end ≡ end_of (strings entries)
  pub within : counted (strings entries ++ payloads prepared) ≤ limit
  pub small : limit ≤ 4294967295
  pub room : length entries + length prepared ≤ capacity
  pub lines : All IsLine prepared

-- not closed, and the file would be longer than the limit, by this length, or the greatest number of 64 bits where that is less
pub record IsTooLong (held : Held) (list : List (List ℕ)) (length limit : ℕ) : Type 0 where
  pub not_closed : held.closed ≡ false
  pub above : held.limit < counted (held.entries ++ list)
  pub length_is : length ≡ min (counted (held.entries ++ list)) (2 ^ 64 - 1)
  pub limit_is : limit ≡ held.limit

-- the first prepared byte string has joined the entries
abbrev pub appended : Held → Held
appended held = record held { entries = held.entries ++ take 1 held.prepared; prepared = drop 1 held.prepared }
