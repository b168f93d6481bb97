-- The store that is kept beside a journal.
use Rattle.std.proofs.Common.{◌≡◌, ◌≤◌, ◌<◌, ◌+◌, ℕ, List, [], ◌∷◌, ◌++◌, length, Option, Some, None, sym, ap, subst, ◌∙◌, arith, append-nil}
use Rattle.std.specs.List.{AllByRecursion}
use Rattle.std.specs.Prelude.{IfSome}
use Rattle.rnv_disk.specs.Stops.{Past}
use Rattle.rnv_repo.specs.declared.repo.Repo.{Repo}
use Rattle.rnv_repo.specs.declared.write.Write.{Write}
use Rattle.rnv_repo.specs.Store.{after}
use Rattle.rnv_repo.proofs.Bounds.{IsWithin, within_after}
use Rattle.rnv_journal.specs.Held.{Held, appended}
use Rattle.rnv_forge.specs.Held.{HoldsWrites, IsPrepared, IsStoreOf}
use Rattle.rnv_forge.specs.Writes.{AreWrites, writes_in}
use Rattle.rnv_forge.proofs.Turns.{length_map, next_whole}
use Rattle.rnv_forge.proofs.Writes.{after_both, all_each}

-- nothing is prepared

no_writes : (entries prepared : List (List ℕ)) → length prepared ≡ 0 → writes_in entries ++ writes_in prepared ≡ writes_in entries
no_writes entries [] none = append-nil (writes_in entries)
no_writes entries (p ∷ ps) none = absurd (omega (arith, none))

store_now : (held : Held) → length held.prepared ≡ 0 → (store : List Repo) → IsStoreOf held store → store ≡ after (writes_in held.entries) []
store_now held none store is = is ∙ ap (λ (l : List Write). after l []) (no_writes held.entries held.prepared none)

pub store_alone : (held : Held) → held.prepared ≡ [] → (store : List Repo) → store ≡ after (writes_in held.entries) [] → IsStoreOf held store
store_alone held none store is = is ∙ ap (λ (l : List Write). after l []) (sym (no_writes held.entries held.prepared (ap length none)))

each_kept : (P Q : List Repo → Type 0) → ((store : List Repo) → P store → Q store) → (o : Option (List Repo)) → IfSome o P → IfSome o Q
each_kept P Q f None h = tt
each_kept P Q f (Some store) h = f store h

pub kept_now : (held : Held) (o : Option (List Repo)) → length held.prepared ≡ 0 → IfSome o (IsStoreOf held) → IfSome o (λ store. store ≡ after (writes_in held.entries) [])
kept_now held o none h = each_kept (IsStoreOf held) (λ store. store ≡ after (writes_in held.entries) []) (store_now held none) o h

-- so few entries raise no revision further
pub revisions_small : (ps : List (List ℕ)) → AreWrites ps → length ps ≤ 900000000 → (store : List Repo) → store ≡ after (writes_in ps) [] → (n : ℕ) → n ≤ 3000000000
    → AllByRecursion (λ r. r.revision + n < 4294967295) store
revisions_small ps are few store is n small =
    let count : length (writes_in ps) ≤ 900000000 = omega (arith, few, ap length are.spelled.spells, length_map (writes_in ps)) in
    subst (λ (s : List Repo). AllByRecursion (λ (r : Repo). r.revision + n < 4294967295) s) (sym is)
    (all_each (IsWithin (length (writes_in ps))) (λ r. r.revision + n < 4294967295) (λ r h. omega (arith, h.revision, count, small)) (after (writes_in ps) []) (within_after (writes_in ps) are.permitted))

-- what is prepared is applied
pub prepared_store : (held new : Held) (ws : List Write) → IsPrepared held ws new → (store : List Repo) → store ≡ after ws (after (writes_in held.entries) []) → IsStoreOf new store
prepared_store held new ws p store is =
    subst (λ (h : Held). IsStoreOf h store) (sym p.is)
    (is ∙ sym (ap (λ (l : List Write). after (writes_in held.entries ++ l) []) p.read ∙ after_both (writes_in held.entries) ws []))

-- a write that is done changes nothing of the store
pub next_kept : (held : Held) (past : Past) → HoldsWrites held past → (o : Option (List Repo)) → IfSome o (IsStoreOf held) → IfSome o (IsStoreOf (appended held))
next_kept held past h o kept =
    each_kept (IsStoreOf held) (IsStoreOf (appended held)) (λ store is. is ∙ ap (λ (l : List Write). after l []) (sym (next_whole held past h))) o kept
