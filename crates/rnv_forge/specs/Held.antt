-- What the journal of a store holds.
use Rattle.std.specs.Prelude.{◌≡◌, ◌≤◌, ℕ, false, List, [], ◌++◌, Option, IfSome}
use Rattle.rnv_disk.specs.Stops.{Past}
use Rattle.rnv_repo.specs.declared.repo.Repo.{Repo}
use Rattle.rnv_repo.specs.declared.write.Write.{Write}
use Rattle.rnv_repo.specs.Store.{ArePermitted, after}
use Rattle.rnv_journal.specs.File.{counted}
use Rattle.rnv_journal.specs.Held.{Held}
use Rattle.rnv_journal.specs.Readings.{IsAtRest}
use Rattle.rnv_forge.specs.Writes.{IsSpelledBy, writes_in}

-- The entries and then what is prepared are permitted writes within the limit, and unless the journal is closed the disk is
-- at rest at the entries.
pub record HoldsWrites (held : Held) (past : Past) : Type 0 where
  pub entries : IsSpelledBy held.entries (writes_in held.entries)
  pub prepared : IsSpelledBy held.prepared (writes_in held.prepared)
  pub permitted : ArePermitted (writes_in held.entries ++ writes_in held.prepared) []
  pub within : counted (held.entries ++ held.prepared) ≤ held.limit
  pub small : held.limit ≤ 4294967295
  pub rests : held.closed ≡ false → IsAtRest held.limit past held.entries

-- the store that the entries and then what is prepared make
abbrev pub IsStoreOf : Held → List Repo → Type 0
IsStoreOf held store = store ≡ after (writes_in held.entries ++ writes_in held.prepared) []

-- A journal of a store, and beside it that store, if one is kept: of the entries and of what is prepared, so that a write which
-- is done changes nothing of it.
pub record HoldsStore (store : Option (List Repo)) (held : Held) (past : Past) : Type 0 where
  pub writes : HoldsWrites held past
  pub kept : IfSome store (IsStoreOf held)

-- the journal has these writes prepared, which are permitted in their turn and within the limit
pub record IsPrepared (old : Held) (ws : List Write) (new : Held) : Type 0 where
  pub payloads : List (List ℕ)
  pub spelled : IsSpelledBy payloads ws
  pub read : writes_in payloads ≡ ws
  pub permitted : ArePermitted ws (after (writes_in old.entries) [])
  pub within : counted (old.entries ++ payloads) ≤ old.limit
  pub is : new ≡ record old { prepared = payloads }
