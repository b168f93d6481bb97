-- Writes that are permitted in their turn, as far as a loop has come.
use Rattle.std.proofs.Common.{◌≡◌, ◌≤◌, ◌<◌, ◌+◌, ◌-◌, ℕ, zero, suc, List, [], ◌∷◌, ◌++◌, length, get_or, take, drop, Option, Some, refl, sym, ap, subst, ◌∙◌, arith}
use Rattle.std.specs.List.{AllByRecursion, cons_option}
use Rattle.rnv_repo.specs.declared.refusal.Refusal.{Refusal}
use Rattle.rnv_repo.specs.declared.repo.Repo.{Repo}
use Rattle.rnv_repo.specs.declared.write.Write.{Write}
use Rattle.rnv_repo.specs.Store.{ArePermitted, IsPermitted, IsSoundStore, after, applied, refusal}
use Rattle.rnv_repo.specs.WellFormed.{IsWellFormed}
use Rattle.rnv_repo.proofs.Sound.{sound_store}
use Rattle.rnv_spelling.specs.Reading.{whole_write}
use Rattle.rnv_spelling.specs.Spelling.{spelling}
use Rattle.rnv_forge.specs.Laws.{spelled_both}
use Rattle.rnv_forge.specs.Refused.{IsFirstRefused}
use Rattle.rnv_forge.specs.Writes.{IsSpelledBy, writes_in}
use Rattle.rnv_forge.proofs.Folding.{drop_here, take_length, take_more}
use Rattle.rnv_forge.proofs.Revisions.{revisions_more}
use Rattle.rnv_forge.proofs.Turns.{take_none}
use Rattle.rnv_forge.proofs.Writes.{after_both, all_each, permitted_both, writes_append}

-- the first i writes are permitted in their turn, and spelled
pub record IsChecked (first : List Repo) (ws : List Write) (i : ℕ) (store : List Repo) (payloads : List (List ℕ)) : Type 0 where
  pub permitted : ArePermitted (take i ws) first
  pub is : store ≡ after (take i ws) first
  pub sound : IsSoundStore store
  pub revisions : AllByRecursion (λ r. r.revision + length ws < 4294967295 + i) store
  pub spelled : IsSpelledBy payloads (take i ws)
  pub read : writes_in payloads ≡ take i ws

pub checked_none : (first : List Repo) (ws : List Write) → IsSoundStore first → AllByRecursion (λ r. r.revision + length ws < 4294967295) first → IsChecked first ws 0 first []
checked_none first ws sound revisions =
    let none : take 0 ws ≡ [] = take_none ws in
    record {
      permitted = subst (λ (l : List Write). ArePermitted l first) (sym none) tt;
      is = ap (λ (l : List Write). after l first) (sym none);
      sound = sound;
      revisions = all_each (λ r. r.revision + length ws < 4294967295) (λ r. r.revision + length ws < 4294967295 + 0) (λ r less. omega (arith, less)) first revisions;
      spelled = subst (λ (l : List Write). IsSpelledBy [] l) (sym none) (record { spells = refl; well_formed = tt });
      read = sym none;
    }

pub all_at : {X : Type 0} (P : X → Type 0) (xs : List X) (i : ℕ) (x : X) → i < length xs → get_or xs i x ≡ x → AllByRecursion P xs → P x
all_at P [] i x less is all = absurd (omega (arith, less))
all_at P (y ∷ ys) zero x less is all = subst P is all.0
all_at P (y ∷ ys) (suc i) x less is all = all_at P ys i x (omega (arith, less)) is all.1

module _ (first : List Repo) (ws : List Write) (i : ℕ) (store : List Repo) (payloads : List (List ℕ)) (k : IsChecked first ws i store payloads) where
  pub checked_small : i < length ws → AllByRecursion (λ r. r.revision < 4294967295) store
  checked_small less = all_each (λ r. r.revision + length ws < 4294967295 + i) (λ r. r.revision < 4294967295) (λ r le. omega (arith, le, less)) store k.revisions

  module _ (w : Write) (less : i < length ws) (at : get_or ws i w ≡ w) where
    pub checked_more : (new : List Repo) (p : List ℕ) → length ws < 4294967295 → IsPermitted w store → new ≡ applied w store → p ≡ spelling w → whole_write p ≡ Some w → IsWellFormed w
        → IsChecked first ws (suc i) new (payloads ++ p ∷ [])
    checked_more new p few permitted is spells read fits =
        let longer : take (suc i) ws ≡ take i ws ++ w ∷ [] = take_more ws i w less at in
        let most = 4294967295 + i - length ws - 1 in
        let raised : AllByRecursion (λ r. r.revision ≤ most + 1) (applied w store) =
        revisions_more w store most (all_each (λ r. r.revision + length ws < 4294967295 + i) (λ r. r.revision ≤ most) (λ r le. omega (arith, le, few)) store k.revisions) in
        record {
          permitted = subst (λ (l : List Write). ArePermitted l first) (sym longer) (permitted_both (take i ws) (w ∷ []) first k.permitted (subst (λ (s : List Repo). IsPermitted w s) k.is permitted, tt));
          is = is ∙ ap (λ (s : List Repo). applied w s) k.is ∙ sym (ap (λ (l : List Write). after l first) longer ∙ after_both (take i ws) (w ∷ []) first);
          sound = subst IsSoundStore (sym is) (sound_store w store fits.orderly permitted k.sound);
          revisions = subst (λ (s : List Repo). AllByRecursion (λ r. r.revision + length ws < 4294967295 + suc i) s) (sym is)
              (all_each (λ r. r.revision ≤ most + 1) (λ r. r.revision + length ws < 4294967295 + suc i) (λ r le. omega (arith, le, few)) (applied w store) raised);
          spelled = subst (λ (l : List Write). IsSpelledBy (payloads ++ p ∷ []) l) (sym longer) (spelled_both payloads (p ∷ []) (take i ws) (w ∷ []) k.spelled (record { spells = ap (λ (q : List ℕ). q ∷ []) spells; well_formed = (fits, tt) }));
          read = writes_append payloads (p ∷ []) ∙ ap (λ (l : List Write). l ++ writes_in (p ∷ [])) k.read ∙ ap (λ (o : Option Write). take i ws ++ cons_option o []) read ∙ sym longer;
        }

    pub checked_refused : (cause : Refusal) → refusal w store ≡ Some cause → IsFirstRefused ws first i cause
    checked_refused cause is = record {
      front = take i ws;
      write = w;
      rest = drop (suc i) ws;
      is = drop_here ws i w less at;
      place = sym (take_length ws i (omega (arith, less)));
      permitted = k.permitted;
      refused = subst (λ (s : List Repo). refusal w s ≡ Some cause) k.is is;
    }
