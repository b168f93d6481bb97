-- What the bytes of a journal's file are read as.
use Rattle.std.specs.Prelude.{◌≡◌, ◌≢◌, ◌⊎◌, ℕ, List, []}
use Rattle.rnv_journal.specs.File.{IsImage, IsInMaking, spelled}

-- the file spells this list
pub record IsSpelled (limit : ℕ) (file : List ℕ) (payloads : List (List ℕ)) : Type 0 where
  pub gate : ℕ
  pub rest : List ℕ
  pub image : IsImage limit file payloads gate rest

-- The file is an image, and reads as this list: a file in making as the empty one.
abbrev pub FileReadsAs : ℕ → List ℕ → List (List ℕ) → Type 0
FileReadsAs limit file payloads = (IsInMaking file × (payloads ≡ [])) ⊎ IsSpelled limit file payloads

-- the gate at the end is torn, neither 0 nor 1, and with that gate set to 1 the file is opened
pub record IsTorn (limit : ℕ) (file opened : List ℕ) : Type 0 where
  pub payloads : List (List ℕ)
  pub gate : ℕ
  pub rest : List ℕ
  pub image : IsImage limit file payloads gate rest
  pub torn : gate ≢ 0
  pub is_opened : opened ≡ spelled payloads 1 rest

-- one of the lists that the file may be read as: its own, or that of the file with its torn gate set to 1
abbrev pub IsFileReading : ℕ → List ℕ → List (List ℕ) → Type 0
IsFileReading limit file payloads = FileReadsAs limit file payloads ⊎ ((opened : List ℕ) × IsTorn limit file opened × FileReadsAs limit opened payloads)

-- the file is an image whose gate at the end is 0
pub record IsClosed (limit : ℕ) (file : List ℕ) : Type 0 where
  pub payloads : List (List ℕ)
  pub rest : List ℕ
  pub image : IsImage limit file payloads 0 rest

-- The file is an image, and where its gate is torn, the file with that gate set to 1 is an image too, whose gate at the end is 0.
pub record HasFileReadings (limit : ℕ) (file : List ℕ) : Type 0 where
  pub image : (payloads : List (List ℕ)) × FileReadsAs limit file payloads
  pub opened : (opened : List ℕ) → IsTorn limit file opened → IsClosed limit opened

-- the file has readings, and each of them is so
pub record EachFileReading (limit : ℕ) (P : List (List ℕ) → Type 0) (file : List ℕ) : Type 0 where
  pub some : HasFileReadings limit file
  pub each : (payloads : List (List ℕ)) → IsFileReading limit file payloads → P payloads
