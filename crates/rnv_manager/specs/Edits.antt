-- Edits of a file, and what it is that an edited file is read back.
use Rattle.std.specs.Prelude.{◌≡◌, ◌≢◌, ◌⊎◌, ℕ, suc, ◌≤◌, ◌<◌, ⊤, List, [], ◌∷◌, length, take, slice_get, Bool, IsTrue, ◌==◌, if◌then◌else◌}
use Rattle.std.specs.Option.{option_map_or}
use Rattle.rnv_manager.specs.declared.edits.Edit.{Edit}
use Rattle.rnv_manager.specs.declared.edits.EditError.{EditError}
use Rattle.rnv_manager.specs.declared.edits.EditError.TheVariants.{NotReadBack, Memory}
use Rattle.rnv_manager.specs.Finds.{Find}
use Rattle.rnv_manager.specs.Marks.{Mark, byte, find, text_of, finds_from}

-- The indexes rise from a first one on, and are below the number of finds.
abbrev pub AreIndexes : ℕ → List Edit → ℕ → Type 0
AreIndexes from [] number = ⊤
AreIndexes from (e ∷ edits) number = (from ≤ e.index) × (e.index < number) × AreIndexes (suc e.index) edits number

-- each new value passes the test
abbrev pub AllFit : (List ℕ → Bool) → List Edit → Type 0
AllFit fits [] = ⊤
AllFit fits (e ∷ edits) = IsTrue (fits e.new_value) × AllFit fits edits

-- the value of the find with that index
abbrev pub value_after : List Edit → ℕ → List ℕ → List ℕ
value_after [] index value = value
value_after (e ∷ edits) index value = if e.index == index then e.new_value else value_after edits index value

-- the same pieces with the values at the chosen indexes replaced, where the first find has that index
abbrev pub edited : List Edit → ℕ → List Mark → List Mark
edited edits index [] = []
edited edits index (byte x ∷ ms) = byte x ∷ edited edits index ms
edited edits index (find slot value ∷ ms) = find slot (value_after edits index value) ∷ edited edits (suc index) ms

-- the pieces with the values blanked
abbrev pub skeleton : List Mark → List Mark
skeleton [] = []
skeleton (byte x ∷ ms) = byte x ∷ skeleton ms
skeleton (find slot value ∷ ms) = find slot [] ∷ skeleton ms

abbrev pub edited_file : List Edit → List Mark → List ℕ
edited_file edits ms = text_of (edited edits 0 ms)

-- the finds with the new values, at their places in the edited file
abbrev pub expected_finds : List Edit → List Mark → List Find
expected_finds edits ms = finds_from 0 (edited edits 0 ms)

-- The edit law: the edited file has the same skeleton and exactly the expected finds.
pub record IsReadBack (Reads : List ℕ → List Mark → Type 0) (edits : List Edit) (ms : List Mark) : Type 0 where
  pub pieces : List Mark
  pub read : Reads (edited_file edits ms) pieces
  pub same_skeleton : skeleton pieces ≡ skeleton ms
  pub expected : finds_from 0 pieces ≡ expected_finds edits ms

-- The law holds of each file with new values that pass the test.
abbrev pub KeepsLaw : (List ℕ → List Mark → Type 0) → (List ℕ → Bool) → Type 0
KeepsLaw Reads fits = (file : List ℕ) (ms : List Mark) (edits : List Edit) → Reads file ms → AreIndexes 0 edits (length (finds_from 0 ms)) → AllFit fits edits → IsReadBack Reads edits ms

-- ---- where it fails

-- The finds of a file: those of a reading, and none where it has no reading.
abbrev pub AreActual : (List Mark → Type 0) → List Find → Type 0
AreActual Reads finds = ((ms : List Mark) × Reads ms × (finds ≡ finds_from 0 ms)) ⊎ (((ms : List Mark) → ¬ Reads ms) × (finds ≡ []))

-- the first index at which two lists of finds differ, where one may have ended
pub record IsFirstDifference (expected actual : List Find) (index : ℕ) : Type 0 where
  pub same : take index expected ≡ take index actual
  pub differs : slice_get expected index ≢ slice_get actual index

-- Of the first expected find that differs its start and value, or that end and the empty text; and the
-- value of the actual find with that index, or the empty text.
pub record IsDifference (expected actual : List Find) (end start : ℕ) (wanted found : List ℕ) : Type 0 where
  pub index : ℕ
  pub first : IsFirstDifference expected actual index
  pub start_is : start ≡ option_map_or (λ f. f.start) (slice_get expected index) end
  pub wanted_is : wanted ≡ option_map_or (λ f. f.value) (slice_get expected index) []
  pub found_is : found ≡ option_map_or (λ f. f.value) (slice_get actual index) []

-- the same, of the finds that a file has
pub record HasDifference (Reads : List Mark → Type 0) (expected : List Find) (end start : ℕ) (wanted found : List ℕ) : Type 0 where
  pub actual : List Find
  pub are_actual : AreActual Reads actual
  pub difference : IsDifference expected actual end start wanted found

-- The edit law fails, by that difference.
pub record IsNotReadBack (Reads : List ℕ → List Mark → Type 0) (edits : List Edit) (ms : List Mark) (start : ℕ) (wanted found : List ℕ) : Type 0 where
  pub fails : ¬ IsReadBack Reads edits ms
  pub difference : HasDifference (Reads (edited_file edits ms)) (expected_finds edits ms) (length (edited_file edits ms)) start wanted found

abbrev pub IfNotReadBack : (ℕ → List ℕ → List ℕ → Type 0) → EditError → Type 0
IfNotReadBack P (NotReadBack start wanted found) = P start wanted found
IfNotReadBack P Memory = ⊤
