-- The store of the first of some byte strings, and of one more.
use Rattle.std.proofs.Common.{◌≡◌, ◌≤◌, ◌<◌, ◌+◌, ℕ, zero, suc, List, [], ◌∷◌, ◌++◌, length, get_or, map, take, drop, Option, refl, sym, ap, subst, ◌∙◌, arith}
use Rattle.std.specs.List.{AllByRecursion, cons_option}
use Rattle.std.proofs.lemmas.List.{append_cancel_left, map-append, take-append-drop}
use Rattle.rnv_base.specs.Buffer.{Buffer}
use Rattle.rnv_repo.specs.declared.repo.Repo.{Repo}
use Rattle.rnv_repo.specs.declared.write.Write.{Write}
use Rattle.rnv_repo.specs.Store.{ArePermitted, IsPermitted, IsSoundStore, after, applied}
use Rattle.rnv_repo.specs.WellFormed.{IsOrderly, IsWellFormed}
use Rattle.rnv_repo.proofs.Sound.{sound_from_nothing}
use Rattle.rnv_journal.specs.Found.{strings}
use Rattle.rnv_spelling.specs.Spelling.{spelling}
use Rattle.rnv_forge.specs.Laws.{spelled_both}
use Rattle.rnv_forge.specs.Writes.{AreWrites, IsAdded, IsDamaged, IsSpelledBy, SpellsNone, writes_in}
use Rattle.rnv_forge.proofs.Revisions.{revisions_more}
use Rattle.rnv_forge.proofs.Turns.{drop_none, length_map, take_none}
use Rattle.rnv_forge.proofs.Writes.{after_both, all_back, all_each, permitted_back, permitted_both, writes_append}

pub take_more : {X : Type 0} (xs : List X) (i : ℕ) (x : X) → i < length xs → get_or xs i x ≡ x → take (suc i) xs ≡ take i xs ++ x ∷ []
take_more [] i x less is = absurd (omega (arith, less))
take_more (y ∷ ys) zero x less is = ap (λ l. y ∷ l) (take_none ys) ∙ ap (λ z. z ∷ []) is
take_more (y ∷ ys) (suc i) x less is = ap (λ l. y ∷ l) (take_more ys i x (omega (arith, less)) is)

pub drop_here : {X : Type 0} (xs : List X) (i : ℕ) (x : X) → i < length xs → get_or xs i x ≡ x → xs ≡ take i xs ++ x ∷ drop (suc i) xs
drop_here [] i x less is = absurd (omega (arith, less))
drop_here (y ∷ ys) zero x less is = ap (λ z. z ∷ ys) is ∙ ap (λ l. x ∷ l) (sym (drop_none ys))
drop_here (y ∷ ys) (suc i) x less is = ap (λ l. y ∷ l) (drop_here ys i x (omega (arith, less)) is)

pub strings_at : (es : List Buffer) (i : ℕ) (e : Buffer) → i < length es → get_or es i e ≡ e → get_or (strings es) i e.bytes ≡ e.bytes
strings_at [] i e less is = refl
strings_at (f ∷ es) zero e less is = ap (λ (b : Buffer). b.bytes) is
strings_at (f ∷ es) (suc i) e less is = strings_at es i e (omega (arith, less)) is

pub strings_length : (es : List Buffer) → length (strings es) ≡ length es
strings_length [] = refl
strings_length (e ∷ es) = omega (arith, strings_length es)

pub take_length : {X : Type 0} (xs : List X) (i : ℕ) → i ≤ length xs → length (take i xs) ≡ i
take_length [] zero le = refl
take_length [] (suc i) le = absurd (omega (arith, le))
take_length (x ∷ xs) zero le = refl
take_length (x ∷ xs) (suc i) le = omega (arith, take_length xs i (omega (arith, le)))

-- the store of the first i byte strings
pub record IsFolded (ps : List (List ℕ)) (i : ℕ) (store : List Repo) : Type 0 where
  pub spelled : IsSpelledBy (take i ps) (writes_in (take i ps))
  pub permitted : ArePermitted (writes_in (take i ps)) []
  pub is : store ≡ after (writes_in (take i ps)) []
  pub revisions : AllByRecursion (λ r. r.revision ≤ i) store

pub folded_none : (ps : List (List ℕ)) → IsFolded ps 0 []
folded_none ps =
    let none : take 0 ps ≡ [] = take_none ps in
    record {
      spelled = subst (λ (l : List (List ℕ)). IsSpelledBy l (writes_in l)) (sym none) (record { spells = refl; well_formed = tt });
      permitted = subst (λ (l : List (List ℕ)). ArePermitted (writes_in l) []) (sym none) tt;
      is = ap (λ (l : List (List ℕ)). after (writes_in l) []) (sym none);
      revisions = tt;
    }

module _ (ps : List (List ℕ)) (i : ℕ) (store : List Repo) (f : IsFolded ps i store) where
  pub folded_sound : IsSoundStore store
  folded_sound =
      subst IsSoundStore (sym f.is) (sound_from_nothing (writes_in (take i ps)) (all_each IsWellFormed IsOrderly (λ w fits. fits.orderly) (writes_in (take i ps)) f.spelled.well_formed) f.permitted)

  pub folded_small : i < 4294967295 → AllByRecursion (λ r. r.revision < 4294967295) store
  folded_small less = all_each (λ r. r.revision ≤ i) (λ r. r.revision < 4294967295) (λ r le. omega (arith, le, less)) store f.revisions

  module _ (p : List ℕ) (less : i < length ps) (at : get_or ps i p ≡ p) where
    pub folded_more : (new : List Repo) → IsAdded p store new → IsFolded ps (suc i) new
    folded_more new a =
        let one : writes_in (p ∷ []) ≡ a.write ∷ [] = ap (λ (o : Option Write). cons_option o []) a.read in
        let longer : take (suc i) ps ≡ take i ps ++ p ∷ [] = take_more ps i p less at in
        let all : writes_in (take (suc i) ps) ≡ writes_in (take i ps) ++ a.write ∷ [] =
        ap writes_in longer ∙ writes_append (take i ps) (p ∷ []) ∙ ap (λ (l : List Write). writes_in (take i ps) ++ l) one in
        let spelled : IsSpelledBy (take i ps ++ p ∷ []) (writes_in (take i ps) ++ a.write ∷ []) =
        spelled_both (take i ps) (p ∷ []) (writes_in (take i ps)) (a.write ∷ []) f.spelled (record { spells = ap (λ (q : List ℕ). q ∷ []) a.spells; well_formed = (a.well_formed, tt) }) in
        record {
          spelled = subst (λ (l : List (List ℕ)). IsSpelledBy l (writes_in (take (suc i) ps))) (sym longer) (subst (λ (l : List Write). IsSpelledBy (take i ps ++ p ∷ []) l) (sym all) spelled);
          permitted = subst (λ (l : List Write). ArePermitted l []) (sym all) (permitted_both (writes_in (take i ps)) (a.write ∷ []) [] f.permitted (subst (λ (s : List Repo). IsPermitted a.write s) f.is a.permitted, tt));
          is = a.is ∙ ap (λ (s : List Repo). applied a.write s) f.is ∙ sym (ap (λ (l : List Write). after l []) all ∙ after_both (writes_in (take i ps)) (a.write ∷ []) []);
          revisions = subst (λ (s : List Repo). AllByRecursion (λ r. r.revision ≤ suc i) s) (sym a.is)
              (all_each (λ r. r.revision ≤ i + 1) (λ r. r.revision ≤ suc i) (λ r le. omega (arith, le)) (applied a.write store) (revisions_more a.write store i f.revisions));
        }

    front_length : i ≡ length (writes_in (take i ps))
    front_length = omega (arith, take_length ps i (omega (arith, less)), ap length f.spelled.spells, length_map (writes_in (take i ps)))

    whole : ps ≡ map spelling (writes_in (take i ps)) ++ p ∷ drop (suc i) ps
    whole = drop_here ps i p less at ∙ ap (λ (l : List (List ℕ)). l ++ p ∷ drop (suc i) ps) f.spelled.spells

    pub folded_damaged : SpellsNone p store → IsDamaged ps i
    folded_damaged none = record {
      front = writes_in (take i ps);
      payload = p;
      rest = drop (suc i) ps;
      is = whole;
      well_formed = f.spelled.well_formed;
      permitted = f.permitted;
      place = front_length;
      no_write = subst (λ (s : List Repo). SpellsNone p s) f.is none;
    }

    sure_by : (back : List Write) (rest : List (List ℕ)) (s : List Repo) → p ∷ rest ≡ map spelling back → ArePermitted back s → AllByRecursion IsWellFormed back → SpellsNone p s → ⊥
    sure_by [] rest s e permitted fits none = absurd cc
    sure_by (w ∷ ws) rest s e permitted fits none = none w fits.0 (let k : p ≡ spelling w = cc in k) permitted.0

    -- where each byte string spells a permitted write, this one does
    pub folded_sure : AreWrites ps → SpellsNone p store → ⊥
    folded_sure are none =
        let front = writes_in (take i ps) in
        let back = writes_in (drop i ps) in
        let all : writes_in ps ≡ front ++ back = ap writes_in (sym (take-append-drop i ps)) ∙ writes_append (take i ps) (drop i ps) in
        let same : map spelling front ++ p ∷ drop (suc i) ps ≡ map spelling front ++ map spelling back =
        sym whole ∙ are.spelled.spells ∙ ap (λ (l : List Write). map spelling l) all ∙ map-append spelling front back in
        sure_by back (drop (suc i) ps) (after front []) (append_cancel_left (map spelling front) (p ∷ drop (suc i) ps) (map spelling back) same)
        (permitted_back front back [] (subst (λ (l : List Write). ArePermitted l []) all are.permitted))
        (all_back IsWellFormed front back (subst (λ (l : List Write). AllByRecursion IsWellFormed l) all are.spelled.well_formed))
        (subst (λ (s : List Repo). SpellsNone p s) f.is none)
