-- Byte strings that spell writes, and the length of a journal of them.
use Rattle.std.specs.Prelude.{◌≡◌, ℕ, ◌+◌, List, [], ◌∷◌, ◌++◌, length, map, Some}
use Rattle.std.specs.List.{AllByRecursion, filter_map}
use Rattle.rnv_repo.specs.declared.repo.Repo.{Repo}
use Rattle.rnv_repo.specs.declared.write.Write.{Write}
use Rattle.rnv_repo.specs.Store.{ArePermitted, IsPermitted, after, applied}
use Rattle.rnv_repo.specs.WellFormed.{IsWellFormed}
use Rattle.rnv_spelling.specs.Reading.{whole_write}
use Rattle.rnv_spelling.specs.Spelling.{spelling}

-- the writes that are read of byte strings
abbrev pub writes_in : List (List ℕ) → List Write
writes_in payloads = filter_map whole_write payloads

-- the byte strings spell these writes, each well-formed
pub record IsSpelledBy (payloads : List (List ℕ)) (ws : List Write) : Type 0 where
  pub spells : payloads ≡ map spelling ws
  pub well_formed : AllByRecursion IsWellFormed ws

-- each byte string spells a write, and these are permitted in their turn, from the empty store on
pub record AreWrites (payloads : List (List ℕ)) : Type 0 where
  pub spelled : IsSpelledBy payloads (writes_in payloads)
  pub permitted : ArePermitted (writes_in payloads) []

-- no permitted write has this spelling
abbrev pub SpellsNone : List ℕ → List Repo → Type 0
SpellsNone payload store = (w : Write) → IsWellFormed w → payload ≡ spelling w → ¬ IsPermitted w store

-- behind these writes, so many, the next byte string spells no permitted write
pub record IsDamaged (payloads : List (List ℕ)) (index : ℕ) : Type 0 where
  pub front : List Write
  pub payload : List ℕ
  pub rest : List (List ℕ)
  pub is : payloads ≡ map spelling front ++ payload ∷ rest
  pub well_formed : AllByRecursion IsWellFormed front
  pub permitted : ArePermitted front []
  pub place : index ≡ length front
  pub no_write : SpellsNone payload (after front [])

-- the write that a byte string spells is permitted in a store, and makes this one of it
pub record IsAdded (payload : List ℕ) (old new : List Repo) : Type 0 where
  pub write : Write
  pub read : whole_write payload ≡ Some write
  pub spells : payload ≡ spelling write
  pub well_formed : IsWellFormed write
  pub permitted : IsPermitted write old
  pub is : new ≡ applied write old

-- how much longer one write makes a journal's file: by 5 bytes and its spelling
abbrev pub entry_length : Write → ℕ
entry_length w = 5 + length (spelling w)

-- the length of a journal's file with these writes: 14 without any, and so much more for each
abbrev pub length_of : List Write → ℕ
length_of [] = 14
length_of (w ∷ ws) = entry_length w + length_of ws
