-- What is read of the bytes of a file.
use Rattle.std.specs.Prelude.{◌≡◌, ℕ, ◌+◌, ◌<◌, ◌≤◌, List, ◌∷◌, ◌++◌, length, map}
use Rattle.rnv_base.specs.Buffer.{Buffer}
use Rattle.rnv_journal.specs.File.{body, entries, end_of, IsImage, IsInMaking, IsFileWrongAt}
use Rattle.rnv_journal.specs.declared.reading.Reading.{Reading}
use Rattle.rnv_journal.specs.declared.reading.Reading.TheVariants.{InMaking, Entries}
use Rattle.rnv_journal.specs.declared.reading.ReadError.{ReadError}
use Rattle.rnv_journal.specs.declared.reading.ReadError.TheVariants.{NotAJournal, Memory}

-- the byte strings
abbrev pub strings : List Buffer → List (List ℕ)
strings list = map (λ b. b.bytes) list

-- a whole entry with this payload at the front, within so many bytes, and these bytes behind it
pub record IsEntry (bytes : List ℕ) (room : ℕ) (payload behind : List ℕ) : Type 0 where
  pub within : 5 + length payload ≤ room
  pub spells : bytes ≡ 1 ∷ body payload ++ behind

-- no entry at the front, or none within so many bytes
abbrev pub NoEntry : List ℕ → ℕ → Type 0
NoEntry bytes room = (payload more : List ℕ) → bytes ≡ 1 ∷ body payload ++ more → room < 5 + length payload

-- entries at the front, from offset 13 on, the bytes behind them, and how many more are within the limit
pub record IsFound (limit : ℕ) (bytes : List ℕ) (found : List Buffer) (rest : List ℕ) (room : ℕ) : Type 0 where
  pub spells : bytes ≡ entries (strings found) ++ rest
  pub room_left : end_of (strings found) + room ≡ limit

-- the file is an image of these entries, with this gate at this offset
pub record IsEnded (limit : ℕ) (file : List ℕ) (found : List Buffer) (end gate : ℕ) : Type 0 where
  pub rest : List ℕ
  pub image : IsImage limit file (strings found) gate rest
  pub place : end ≡ end_of (strings found)

-- the file is in making, or an image of these entries
abbrev pub IsReadFrom : ℕ → List ℕ → Reading → Type 0
IsReadFrom limit file InMaking = IsInMaking file
IsReadFrom limit file (Entries found end gate) = IsEnded limit file found end gate

-- the file is no image, and this is where
abbrev pub IsRefused : ℕ → List ℕ → ReadError → Type 0
IsRefused limit file (NotAJournal offset) = IsFileWrongAt limit file offset
IsRefused limit file Memory = Unit {0}
