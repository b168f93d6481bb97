-- Dependencies in a file, without where they lie in memory.
use Rattle.std.specs.Prelude.{◌≡◌, ℕ, ◌+◌, ◌≤◌, ⊤, List, [], ◌∷◌, length, take, drop, map, Option, Some, None, Result, Ok, Err}
use Rattle.std.specs.Str.{IsCharBoundary}
use Rattle.rnv_base.specs.declared.kinds.SourceKind.{SourceKind}
use Rattle.rnv_manager.specs.declared.found.Found.{Found}
use Rattle.rnv_manager.specs.declared.found.ExtractError.{ExtractError}
use Rattle.rnv_manager.specs.declared.found.ExtractError.TheVariants.{BadSyntax, Memory}

pub record Find : Type 0 where
  pub name : List ℕ
  pub «package» : List ℕ
  pub place : List ℕ
  pub source : SourceKind
  pub value : List ℕ
  pub start : ℕ

abbrev pub view : Found → Find
view f = record { name = f.name.now; «package» = f.«package».now; place = f.place.now; source = f.source; value = f.value.now; start = f.start }

abbrev pub views : List Found → List Find
views fs = map view fs

-- The finds rise, do not meet, and lie between the two ends.
abbrev pub AreApart : ℕ → List Find → ℕ → Type 0
AreApart from [] end = from ≤ end
AreApart from (f ∷ fs) end = (from ≤ f.start) × AreApart (f.start + length f.value) fs end

-- Each value is what the file has at its place.
abbrev pub AreThere : List ℕ → List Find → Type 0
AreThere file [] = ⊤
AreThere file (f ∷ fs) = (take (length f.value) (drop f.start file) ≡ f.value) × AreThere file fs

-- Between characters the file can be cut before and behind each value.
abbrev pub AreCut : List ℕ → List Find → Type 0
AreCut file [] = ⊤
AreCut file (f ∷ fs) = IsCharBoundary file f.start × IsCharBoundary file (f.start + length f.value) × AreCut file fs

-- What a function returned is what reading gives, where None is bad syntax, unless memory ran out.
abbrev pub GivesFinds : {X : Type 0} → (X → List Find) → Result X ExtractError → Option (List Find) → Type 0
GivesFinds finds (Ok x) read = read ≡ Some (finds x)
GivesFinds finds (Err BadSyntax) read = read ≡ None
GivesFinds finds (Err Memory) read = Unit {0}
