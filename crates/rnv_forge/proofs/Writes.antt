-- Lists of writes, and the byte strings that spell them.
use Rattle.std.proofs.Common.{◌≡◌, ℕ, ◌+◌, ◌*◌, ◌≤◌, List, [], ◌∷◌, ◌++◌, length, refl, arith}
use Rattle.std.specs.List.{AllByRecursion}
use Rattle.std.proofs.lemmas.List.Elements.{filter_map-append}
use Rattle.rnv_repo.specs.declared.repo.Repo.{Repo}
use Rattle.rnv_repo.specs.declared.write.Write.{Write}
use Rattle.rnv_repo.specs.Store.{ArePermitted, after, applied}
use Rattle.rnv_journal.specs.File.{counted}
use Rattle.rnv_spelling.specs.Reading.{whole_write}
use Rattle.rnv_forge.specs.Writes.{writes_in}

pub writes_append : (ps qs : List (List ℕ)) → writes_in (ps ++ qs) ≡ writes_in ps ++ writes_in qs
writes_append ps qs = filter_map-append whole_write ps qs

pub all_front : {X : Type 0} (P : X → Type 0) (xs ys : List X) → AllByRecursion P (xs ++ ys) → AllByRecursion P xs
all_front P [] ys a = tt
all_front P (x ∷ xs) ys a = (a.0, all_front P xs ys a.1)

pub all_back : {X : Type 0} (P : X → Type 0) (xs ys : List X) → AllByRecursion P (xs ++ ys) → AllByRecursion P ys
all_back P [] ys a = a
all_back P (x ∷ xs) ys a = all_back P xs ys a.1

pub all_each : {X : Type 0} (P Q : X → Type 0) → ((x : X) → P x → Q x) → (xs : List X) → AllByRecursion P xs → AllByRecursion Q xs
all_each P Q f [] a = tt
all_each P Q f (x ∷ xs) a = (f x a.0, all_each P Q f xs a.1)

pub after_both : (vs ws : List Write) (store : List Repo) → after (vs ++ ws) store ≡ after ws (after vs store)
after_both [] ws store = refl
after_both (v ∷ vs) ws store = after_both vs ws (applied v store)

pub permitted_both : (vs ws : List Write) (store : List Repo) → ArePermitted vs store → ArePermitted ws (after vs store) → ArePermitted (vs ++ ws) store
permitted_both [] ws store p q = q
permitted_both (v ∷ vs) ws store p q = (p.0, permitted_both vs ws (applied v store) p.1 q)

pub permitted_front : (vs ws : List Write) (store : List Repo) → ArePermitted (vs ++ ws) store → ArePermitted vs store
permitted_front [] ws store p = tt
permitted_front (v ∷ vs) ws store p = (p.0, permitted_front vs ws (applied v store) p.1)

pub permitted_back : (vs ws : List Write) (store : List Repo) → ArePermitted (vs ++ ws) store → ArePermitted ws (after vs store)
permitted_back [] ws store p = p
permitted_back (v ∷ vs) ws store p = permitted_back vs ws (applied v store) p.1

-- each byte string takes five bytes beside its own
pub many_counted : (ps : List (List ℕ)) → 5 * length ps + 14 ≤ counted ps
many_counted [] = omega arith
many_counted (p ∷ ps) = omega (arith, many_counted ps)
