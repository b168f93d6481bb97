-- What the journal on a disk is read as, over time. A stop leaves an image of both files, which a start reads.
--
-- What a call promises of stops is said on the disk's past before it and after it, and speaks of lists of byte strings alone:
-- `ReadsOnly limit old new P` says that a stop at any moment of the call leaves a disk that has readings, and each of them has P.
-- It holds however the call ends. A start promises `KeepsReadings`, since what it finds is not known before; an append, which
-- begins with the disk at rest at a list, promises that each reading is this list, or this list with the next string. Both
-- end, where they answer Ok, with the disk at rest at the journal's entries, which is what the next append asks for.
--
-- So a caller opens none of these words. It weakens P, joins one run to the next, begins with a disk at rest, and keeps
-- through a start what holds of each reading on entry: by `reads_weaker`, `reads_then`, `rest_reads` and `kept_reads`. As each of
-- its runs may begin at any moment, what stands in every reading at the start of one stands in every reading from then on.
use Rattle.std.specs.Prelude.{◌≡◌, ◌≤◌, ◌⊎◌, ℕ, List, [], ◌∷◌, ◌++◌, take}
use Rattle.rnv_disk.specs.declared.device.FileNo.TheVariants.{Zero}
use Rattle.rnv_disk.specs.Images.{Image, On, Torn}
use Rattle.rnv_disk.specs.Stops.{Past, LeftNow, IsDurable, LeavesOnly}
use Rattle.rnv_journal.specs.File.{body, end_of, counted, spelled, IsImage}
use Rattle.rnv_journal.specs.Held.{Held}
use Rattle.rnv_journal.specs.Reading.{IsReading, HasReadings, EachReading, IsMade}

-- whatever a stop at this moment leaves has readings
abbrev pub HasReadingsNow : ℕ → Past → Type 0
HasReadingsNow limit past = (c : Image) → LeftNow past c → HasReadings limit c

-- one of the lists that the disk is read as after a stop at this moment
pub record IsReadingNow (limit : ℕ) (past : Past) (list : List (List ℕ)) : Type 0 where
  pub image : Image
  pub left : LeftNow past image
  pub reading : IsReading limit image list

-- whatever a stop at this moment leaves has readings, and each of them is so
abbrev pub EachReadingNow : ℕ → (List (List ℕ) → Type 0) → Past → Type 0
EachReadingNow limit P past = (c : Image) → LeftNow past c → EachReading limit P c

-- Whatever a stop at some moment since old leaves has readings, and each of them is so.
abbrev pub ReadsOnly : ℕ → Past → Past → (List (List ℕ) → Type 0) → Type 0
ReadsOnly limit old new P = LeavesOnly old new (λ c. EachReading limit P c)

-- the same since a moment before new
abbrev pub ReadsOnlySince : ℕ → ℕ → Past → (List (List ℕ) → Type 0) → Type 0
ReadsOnlySince limit moment new P = (c : Image) → new.left moment c → EachReading limit P c

-- From a disk that has readings, a stop at any moment since old leaves a disk that has readings, each of them one of those at old.
abbrev pub KeepsReadings : ℕ → Past → Past → Type 0
KeepsReadings limit old new = HasReadingsNow limit old → ReadsOnly limit old new (IsReadingNow limit old)

-- whatever a stop at this moment leaves is read as this list alone, and is not in making
pub record IsAtRest (limit : ℕ) (past : Past) (list : List (List ℕ)) : Type 0 where
  pub settled : EachReadingNow limit (λ reading. reading ≡ list) past
  pub made : (c : Image) → LeftNow past c → IsMade c

-- each stop leaves one file, which spells this list with this gate at its end
pub record IsOneImage (limit : ℕ) (past : Past) (list : List (List ℕ)) (gate : ℕ) : Type 0 where
  pub rest : List ℕ
  pub image : IsImage limit (spelled list gate rest) list gate rest
  pub durable : IsDurable Zero past (spelled list gate rest)

-- what is written behind the gate at this offset, so that this payload comes next, within the limit
pub record IsNext (limit : ℕ) (list : List (List ℕ)) (payload : List ℕ) (end : ℕ) (line : List ℕ) : Type 0 where
  pub place : end ≡ end_of list
  pub spells : line ≡ body payload ++ 0 ∷ []
  pub within : counted (list ++ payload ∷ []) ≤ limit

-- what a stop at that moment leaves, with n bytes of file `Zero` torn from an offset on
pub record IsTornFrom (past : Past) (at n : ℕ) (c : Image) : Type 0 where
  pub image : Image
  pub left : LeftNow past image
  pub torn : On Zero (Torn at n) image c

-- the entries, or the entries and the first prepared byte string
abbrev pub IsOldOrAppended : Held → List (List ℕ) → Type 0
IsOldOrAppended held list = (list ≡ held.entries) ⊎ (list ≡ held.entries ++ take 1 held.prepared)

-- what a stop at that moment may leave of file `One`, whatever of file `Zero`
pub record HasOneOf (past : Past) (c : Image) : Type 0 where
  pub image : Image
  pub left : LeftNow past image
  pub same : c.one ≡ image.one

-- Whatever a stop at some moment since old leaves, it leaves of file `One` what a stop at old may leave of it.
abbrev pub KeepsOne : Past → Past → Type 0
KeepsOne old new = LeavesOnly old new (HasOneOf old)
