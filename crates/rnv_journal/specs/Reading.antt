-- What the bytes of a disk's two files are read as. So far the journal is file `Zero`, and file `One` is unused: of all that is
-- said of readings, in this crate and above it, these definitions alone know that.
use Rattle.std.specs.Prelude.{ℕ, List}
use Rattle.rnv_disk.specs.Images.{Image}
use Rattle.rnv_journal.specs.File.{IsInMaking, IsFileWrongAt}
use Rattle.rnv_journal.specs.FileReading.{FileReadsAs, IsFileReading, HasFileReadings, EachFileReading}

-- The image is one of a journal, and reads as this list: one in making as the empty list.
abbrev pub ReadsAs : ℕ → Image → List (List ℕ) → Type 0
ReadsAs limit image payloads = FileReadsAs limit image.zero payloads

-- one of the lists that the image may be read as: its own, or that with its torn gate set to 1
abbrev pub IsReading : ℕ → Image → List (List ℕ) → Type 0
IsReading limit image payloads = IsFileReading limit image.zero payloads

-- The image is one of a journal, and where its last gate is torn, it is one too with that gate set to 1, and its last gate is then 0.
abbrev pub HasReadings : ℕ → Image → Type 0
HasReadings limit image = HasFileReadings limit image.zero

-- the image has readings, and each of them is so
abbrev pub EachReading : ℕ → (List (List ℕ) → Type 0) → Image → Type 0
EachReading limit P image = EachFileReading limit P image.zero

-- no stop in the making of a journal leaves this image
abbrev pub IsMade : Image → Type 0
IsMade image = ¬ IsInMaking image.zero

-- the image is none of a journal, and the offset says where its bytes go wrong: 0 where the head is wrong
abbrev pub IsWrongAt : ℕ → Image → ℕ → Type 0
IsWrongAt limit image offset = IsFileWrongAt limit image.zero offset
