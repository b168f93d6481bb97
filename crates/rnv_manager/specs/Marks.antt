-- A file in pieces: gaps and finds in turn. A gap is a run of bytes, which may be empty; so a file is a
-- list of marks, each of which is one byte of a gap or one find, and the gaps and the values in their
-- order are the file.
use Rattle.std.specs.Prelude.{ℕ, suc, ◌+◌, List, [], ◌∷◌, ◌++◌, length}
use Rattle.rnv_base.specs.declared.kinds.SourceKind.{SourceKind}
use Rattle.rnv_manager.specs.Finds.{Find}

-- what a find is, but for its value
pub record Slot : Type 0 where
  pub name : List ℕ
  pub «package» : List ℕ
  pub place : List ℕ
  pub source : SourceKind

-- a byte outside the values, or a find with its value
pub data Mark : Type 0 where
  byte : ℕ → Mark
  find : Slot → List ℕ → Mark

-- these bytes, and then the marks
abbrev pub bytes : List ℕ → List Mark → List Mark
bytes [] ms = ms
bytes (x ∷ xs) ms = byte x ∷ bytes xs ms

-- the file
abbrev pub text_of : List Mark → List ℕ
text_of [] = []
text_of (byte x ∷ ms) = x ∷ text_of ms
text_of (find slot value ∷ ms) = value ++ text_of ms

abbrev pub find_at : Slot → List ℕ → ℕ → Find
find_at slot value start = record { name = slot.name; «package» = slot.«package»; place = slot.place; source = slot.source; value = value; start = start }

-- the finds, where the marks begin at that place in the file
abbrev pub finds_from : ℕ → List Mark → List Find
finds_from at [] = []
finds_from at (byte x ∷ ms) = finds_from (suc at) ms
finds_from at (find slot value ∷ ms) = find_at slot value at ∷ finds_from (at + length value) ms
