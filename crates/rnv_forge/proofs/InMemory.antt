-- A forge that has no disk: its writes as its calls change them.
use Rattle.std.proofs.Common.{◌≡◌, ◌≢◌, ◌≤◌, ◌<◌, ◌+◌, ◌-◌, ◌*◌, ◌^◌, ℕ, zero, suc, List, [], ◌∷◌, ◌++◌, length, get_or, min, take, drop, refl, sym, ap, subst, ◌∙◌, arith, length-append}
use Rattle.std.specs.List.{AllByRecursion}
use Rattle.std.proofs.Math.Seq.{drop-append_seam, take-add, take-append_seam}
use Rattle.std.proofs.lemmas.List.{length-take-le, take-append-drop}
use Rattle.rnv_repo.specs.declared.repo.Repo.{Repo}
use Rattle.rnv_repo.specs.declared.write.Write.{Write}
use Rattle.rnv_repo.specs.Store.{ArePermitted, IsPermitted, IsSoundStore, after, applied}
use Rattle.rnv_repo.specs.WellFormed.{IsOrderly, IsWellFormed}
use Rattle.rnv_repo.proofs.Sound.{sound_from_nothing}
use Rattle.rnv_spelling.specs.Spelling.{spelling}
use Rattle.rnv_forge.specs.Forge.{LeavesWrites}
use Rattle.rnv_forge.specs.InMemory.{HoldsInMemory, in_memory_permitted, in_memory_well_formed, in_memory_within, no_past}
use Rattle.rnv_forge.specs.Laws.{all_both}
use Rattle.rnv_forge.specs.Writes.{entry_length, length_of}
use Rattle.rnv_forge.proofs.Folding.{drop_here, take_more}
use Rattle.rnv_forge.proofs.Revisions.{revisions_more}
use Rattle.rnv_forge.proofs.Turns.{take_none}
use Rattle.rnv_forge.proofs.Writes.{after_both, all_each, all_front, permitted_back, permitted_both, permitted_front}

-- lengths

-- each write takes five bytes beside its spelling
pub many_writes : (ws : List Write) → 5 * length ws + 14 ≤ length_of ws
many_writes [] = omega arith
many_writes (w ∷ ws) = omega (arith, many_writes ws)

pub length_both : (vs ws : List Write) → length_of (vs ++ ws) + 14 ≡ length_of vs + length_of ws
length_both [] ws = omega arith
length_both (v ∷ vs) ws = omega (arith, length_both vs ws)

length_more : (ws : List Write) (i : ℕ) (w : Write) → i < length ws → get_or ws i w ≡ w → length_of (take (suc i) ws) ≡ length_of (take i ws) + 5 + length (spelling w)
length_more ws i w less at = omega (arith, ap length_of (take_more ws i w less at), length_both (take i ws) (w ∷ []))

pub lengthened_none : (before : ℕ) (ws : List Write) → before < 2 ^ 64 → before ≡ min (before + length_of (take 0 ws) - 14) (2 ^ 64 - 1)
lengthened_none before ws fits = omega (arith, fits, ap length_of (take_none ws))

pub lengthened_more : (before n : ℕ) (ws : List Write) (i : ℕ) (w : Write) → i < length ws → get_or ws i w ≡ w → n ≡ min (before + length_of (take i ws) - 14) (2 ^ 64 - 1)
    → min (min (n + 5) (2 ^ 64 - 1) + length (spelling w)) (2 ^ 64 - 1) ≡ min (before + length_of (take (suc i) ws) - 14) (2 ^ 64 - 1)
lengthened_more before n ws i w less at is = omega (arith, is, length_more ws i w less at, many_writes (take i ws))

pub lengthened_both : (vs ws : List Write) (m n : ℕ) → m ≡ min (14 + length_of vs - 14) (2 ^ 64 - 1) → n ≡ min (m + length_of ws - 14) (2 ^ 64 - 1) → n ≡ min (length_of (vs ++ ws)) (2 ^ 64 - 1)
lengthened_both vs ws m n one two = omega (arith, one, two, length_both vs ws, many_writes ws)

-- one write more stands
pub stands_longer : (all : List Write) (done : ℕ) (w : Write) (ws : List Write) → drop done all ≡ w ∷ ws → length_of (take (done + 1) all) ≡ length_of (take done all) + entry_length w
stands_longer all done w ws is =
    let first : take 1 (drop done all) ≡ w ∷ [] = ap (λ (l : List Write). take 1 l) is ∙ ap (λ (l : List Write). w ∷ l) (take_none ws) in
    let more : take (done + 1) all ≡ take done all ++ w ∷ [] = take-add done 1 all ∙ ap (λ (l : List Write). take done all ++ l) first in
    omega (arith, ap length_of more, length_both (take done all) (w ∷ []))

-- the store of the first i writes
pub record IsBuilt (ws : List Write) (i : ℕ) (store : List Repo) : Type 0 where
  pub is : store ≡ after (take i ws) []
  pub revisions : AllByRecursion (λ r. r.revision ≤ i) store

pub built_none : (ws : List Write) → IsBuilt ws 0 []
built_none ws = record { is = ap (λ (l : List Write). after l []) (sym (take_none ws)); revisions = tt }

module _ (ws : List Write) (i : ℕ) (store : List Repo) (b : IsBuilt ws i store) where
  pub built_sound : AllByRecursion IsOrderly ws → ArePermitted ws [] → IsSoundStore store
  built_sound orderly permitted =
      let parts = sym (take-append-drop i ws) in
      subst IsSoundStore (sym b.is)
      (sound_from_nothing (take i ws) (all_front IsOrderly (take i ws) (drop i ws) (subst (λ (l : List Write). AllByRecursion IsOrderly l) parts orderly))
      (permitted_front (take i ws) (drop i ws) [] (subst (λ (l : List Write). ArePermitted l []) parts permitted)))

  pub built_small : i < 4294967295 → AllByRecursion (λ r. r.revision < 4294967295) store
  built_small less = all_each (λ r. r.revision ≤ i) (λ r. r.revision < 4294967295) (λ r le. omega (arith, le, less)) store b.revisions

  module _ (w : Write) (less : i < length ws) (at : get_or ws i w ≡ w) where
    pub built_permitted : ArePermitted ws [] → IsPermitted w store
    built_permitted permitted =
        subst (λ (s : List Repo). IsPermitted w s) (sym b.is)
        (permitted_back (take i ws) (w ∷ drop (suc i) ws) [] (subst (λ (l : List Write). ArePermitted l []) (drop_here ws i w less at) permitted)).0

    pub built_more : (new : List Repo) → new ≡ applied w store → IsBuilt ws (suc i) new
    built_more new is = record {
      is = is ∙ ap (λ (s : List Repo). applied w s) b.is ∙ sym (ap (λ (l : List Write). after l []) (take_more ws i w less at) ∙ after_both (take i ws) (w ∷ []) []);
      revisions = subst (λ (s : List Repo). AllByRecursion (λ r. r.revision ≤ suc i) s) (sym is)
          (all_each (λ r. r.revision ≤ i + 1) (λ r. r.revision ≤ suc i) (λ r le. omega (arith, le)) (applied w store) (revisions_more w store i b.revisions));
    }

-- what stands and what is prepared, as parts of one list

pub taken_again : {X : Type 0} (n : ℕ) (xs : List X) → take n (take n xs) ≡ take n xs
taken_again zero [] = refl
taken_again (suc n) [] = refl
taken_again zero (x ∷ xs) = refl
taken_again (suc n) (x ∷ xs) = ap (λ l. x ∷ l) (taken_again n xs)

pub nothing_left : {X : Type 0} (n : ℕ) (xs : List X) → drop n (take n xs) ≡ []
nothing_left zero [] = refl
nothing_left (suc n) [] = refl
nothing_left zero (x ∷ xs) = refl
nothing_left (suc n) (x ∷ xs) = nothing_left n xs

pub some_left : {X : Type 0} (n : ℕ) (xs : List X) → drop n xs ≢ [] → n < length xs
some_left zero [] some = absurd (some refl)
some_left (suc n) [] some = absurd (some refl)
some_left zero (x ∷ xs) some = omega arith
some_left (suc n) (x ∷ xs) some = omega (arith, some_left n xs some)

pub seam_front : {X : Type 0} (n : ℕ) (xs ys : List X) → length xs ≡ n → take n (xs ++ ys) ≡ xs
seam_front n xs ys is = subst (λ (k : ℕ). take k (xs ++ ys) ≡ xs) is (take-append_seam xs ys)

pub seam_back : {X : Type 0} (n : ℕ) (xs ys : List X) → length xs ≡ n → drop n (xs ++ ys) ≡ ys
seam_back n xs ys is = subst (λ (k : ℕ). drop k (xs ++ ys) ≡ ys) is (drop-append_seam xs ys)

-- of no image anything may be said
pub nothing_leaves : (limit : ℕ) (P : List Write → Type 0) → LeavesWrites limit no_past no_past P
nothing_leaves limit P = record { later = omega arith; each = λ c none. absurd none; before = λ t c le none. absurd none }

module _ (all : List Write) (done limit : ℕ) (h : HoldsInMemory all done limit) where
  pub held_few : length all ≤ 900000000
  held_few = omega (arith, many_writes all, h.within, h.small)

  pub held_orderly : AllByRecursion IsOrderly all
  held_orderly = all_each IsWellFormed IsOrderly (λ w fits. fits.orderly) all h.well_formed

  -- so many stand
  pub held_standing : length (take done all) ≡ done
  held_standing = length-take-le done all h.standing

  -- nothing is prepared
  pub held_cut : HoldsInMemory (take done all) done limit
  held_cut = record {
    well_formed = all_front IsWellFormed (take done all) (drop done all) (in_memory_well_formed all done limit h);
    permitted = permitted_front (take done all) (drop done all) [] (in_memory_permitted all done limit h);
    within = omega (arith, in_memory_within all done limit h, length_both (take done all) (drop done all), many_writes (drop done all));
    small = h.small;
    standing = omega (arith, held_standing);
  }

  -- a list of those that stand
  pub held_front : (front : List Write) → front ≡ take done all → HoldsInMemory front done limit
  held_front front is = subst (λ (l : List Write). HoldsInMemory l done limit) (sym is) held_cut

  pub held_alone : (front : List Write) → front ≡ take done all → HoldsInMemory front (length front) limit
  held_alone front is = subst (λ (k : ℕ). HoldsInMemory front k limit) (sym (ap length is ∙ held_standing)) (held_front front is)

  -- one more stands
  pub held_next : done < length all → HoldsInMemory all (done + 1) limit
  held_next less = record { well_formed = h.well_formed; permitted = h.permitted; within = h.within; small = h.small; standing = omega (arith, less) }

-- writes that come next, within the limit
module _ (vs ws : List Write) (limit n : ℕ) (h : HoldsInMemory vs (length vs) limit) (permitted : ArePermitted ws (after vs [])) (is : n ≡ min (length_of (vs ++ ws)) (2 ^ 64 - 1)) where
  pub held_both : AllByRecursion IsWellFormed ws → n ≤ limit → HoldsInMemory (vs ++ ws) (length vs) limit
  held_both fits within = record {
    well_formed = all_both IsWellFormed vs ws h.well_formed fits;
    permitted = permitted_both vs ws [] h.permitted permitted;
    within = omega (arith, is, within, h.small);
    small = h.small;
    standing = omega (arith, length-append vs ws);
  }
