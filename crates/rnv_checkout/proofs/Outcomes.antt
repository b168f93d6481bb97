-- What becomes of the paths of a folder, in turn.
use Rattle.std.proofs.Common.{◌≡◌, ◌<◌, ◌+◌, ℕ, suc, List, [], ◌∷◌, ◌++◌, length, take, get_or, Option, Result, Ok, Err, IfOk, IfErr, refl, sym, ◌∙◌, ap, subst, arith}
use Rattle.std.proofs.lemmas.List.{take_more}
use Rattle.std.specs.List.{AllZip}
use Rattle.rnv_base.specs.Files.{NamedFile, listed_of}
use Rattle.rnv_checkout.specs.declared.error.BaseError.{BaseError}
use Rattle.rnv_checkout.specs.declared.error.BaseError.TheVariants.{FolderFault, Limit, UnknownRepo, Memory}
use Rattle.rnv_checkout.specs.declared.gathered.Gathered.{Gathered}
use Rattle.rnv_checkout.specs.Base.{kept_of, AreKept, IsOutcome, IsPlaced}
use Rattle.rnv_checkout.specs.Gathered.{IsGathered}
use Rattle.rnv_checkout.specs.Refusal.{IsWrong, IsRefusal}

zip_push : {A B : Type 0} (R : A → B → Type 0) (xs : List A) (ys : List B) (x : A) (y : B) → AllZip R xs ys → R x y → AllZip R (xs ++ x ∷ []) (ys ++ y ∷ [])
zip_push R [] [] x y all r = (r, tt)
zip_push R [] (z ∷ ys) x y all r = absurd all
zip_push R (w ∷ xs) [] x y all r = absurd all
zip_push R (w ∷ xs) (z ∷ ys) x y all r = (all.0, zip_push R xs ys x y all.1 r)

zip_length : {A B : Type 0} (R : A → B → Type 0) (xs : List A) (ys : List B) → AllZip R xs ys → length ys ≡ length xs
zip_length R [] [] all = refl
zip_length R [] (z ∷ ys) all = absurd all
zip_length R (w ∷ xs) [] all = absurd all
zip_length R (w ∷ xs) (z ∷ ys) all = ap suc (zip_length R xs ys all.1)

-- one path more
pub each_more : (files now : List NamedFile) (front : List ℕ) (paths : List (List ℕ)) (i : ℕ) (path shown : List ℕ) (outcomes : List (Option NamedFile)) (outcome : Option NamedFile)
    → AllZip (IsOutcome files front) (take i paths) outcomes → now ≡ files → shown ≡ path → path ≡ get_or paths i path → i < length paths → IsOutcome now front shown outcome
    → AllZip (IsOutcome files front) (take (i + 1) paths) (outcomes ++ outcome ∷ [])
each_more files now front paths i path shown outcomes outcome so_far same is here less one =
    let goes = subst (λ (fs : List NamedFile). IsOutcome fs front shown outcome) same one in
    let goes_on = subst (λ (p : List ℕ). IsOutcome files front p outcome) (is ∙ here) goes in
    let whole : take (i + 1) paths ≡ take i paths ++ get_or paths i path ∷ [] = take_more paths i path less in
    subst (λ (l : List (List ℕ)). AllZip (IsOutcome files front) l (outcomes ++ outcome ∷ [])) (sym whole)
    (zip_push (IsOutcome files front) (take i paths) outcomes (get_or paths i path) outcome so_far goes_on)

pub placed_more : (front : List ℕ) (paths : List (List ℕ)) (i : ℕ) (path shown : List ℕ) (outcomes : List (Option NamedFile)) (outcome : Option NamedFile)
    → AllZip (IsPlaced front) (take i paths) outcomes → shown ≡ path → path ≡ get_or paths i path → i < length paths → IsPlaced front shown outcome
    → AllZip (IsPlaced front) (take (i + 1) paths) (outcomes ++ outcome ∷ [])
placed_more front paths i path shown outcomes outcome so_far is here less one =
    let goes_on = subst (λ (p : List ℕ). IsPlaced front p outcome) (is ∙ here) one in
    let whole : take (i + 1) paths ≡ take i paths ++ get_or paths i path ∷ [] = take_more paths i path less in
    subst (λ (l : List (List ℕ)). AllZip (IsPlaced front) l (outcomes ++ outcome ∷ [])) (sym whole)
    (zip_push (IsPlaced front) (take i paths) outcomes (get_or paths i path) outcome so_far goes_on)

module _ (files : List NamedFile) (front : List ℕ) (paths : List (List ℕ)) (gathered : Gathered) (outcomes : List (Option NamedFile))
    (are : IsGathered gathered outcomes) (each : AllZip (IsOutcome files front) paths outcomes) where
  pub kept_are : (kept : List NamedFile) (passed : ℕ) → kept ≡ kept_of outcomes → passed ≡ gathered.passed → AreKept files front paths kept passed
  kept_are kept passed same is = record {
    outcomes = outcomes;
    each = each;
    kept_are = same;
    passed_are = omega (arith, are.passed, is, ap length same, zip_length (IsOutcome files front) paths outcomes each);
  }

pub refusal_of : (files : List NamedFile) (front : List ℕ) (gathered : Gathered) (outcomes : List (Option NamedFile)) → IsGathered gathered outcomes
    → AllZip (IsOutcome files front) (listed_of front files) outcomes → (error : BaseError) → IsWrong error (kept_of outcomes) → IsRefusal files front error
refusal_of files front gathered outcomes are each FolderFault wrong = tt
refusal_of files front gathered outcomes are each (Limit which number) wrong =
    record { kept = kept_of outcomes; passed = gathered.passed; base = kept_are files front (listed_of front files) gathered outcomes are each (kept_of outcomes) gathered.passed refl refl; wrong = wrong }
refusal_of files front gathered outcomes are each UnknownRepo wrong =
    record {
      kept = kept_of outcomes;
      passed = gathered.passed;
      base = kept_are files front (listed_of front files) gathered outcomes are each (kept_of outcomes) gathered.passed refl refl;
      wrong = wrong;
    }
refusal_of files front gathered outcomes are each Memory wrong = tt

pub ok_both : {T E : Type 0} (r : Result T E) (P Q R : T → Type 0) → ((x : T) → P x → Q x → R x) → IfOk r P → IfOk r Q → IfOk r R
ok_both (Ok x) P Q R both p q = both x p q
ok_both (Err e) P Q R both p q = tt

pub err_weaker : {T E : Type 0} (r : Result T E) (P Q : E → Type 0) → ((e : E) → P e → Q e) → IfErr r P → IfErr r Q
err_weaker (Ok x) P Q weaker p = tt
err_weaker (Err e) P Q weaker p = weaker e p
