-- What a disk in memory holds after a stop within a call is one of its images.
use Rattle.std.proofs.Common.{◌≡◌, inl, inr, ℕ, ◌+◌, ◌-◌, ◌≤◌, Bool, true, false, ◌&&◌, IsTrue, List, [], ◌∷◌, ◌++◌, min, length, take, drop, reverse, refl, sym, ◌∙◌, ap, subst, arith, length-append}
use Rattle.std.proofs.lemmas.Grind.{common_steps}
use Rattle.std.proofs.lemmas.List.{take-append-drop, reverse-append, length-take}
use Rattle.std.proofs.Math.Seq.{take-append-add, take-append_seam}
use Rattle.std.proofs.lemmas.Bool.{leb-true}
use Rattle.rnv_disk.specs.declared.call.Call.{Call}
use Rattle.rnv_disk.specs.declared.call.Call.TheVariants.{Write, Cut, Sync}
use Rattle.rnv_disk.specs.Images.{Image, part, put, Torn, CutTo}
use Rattle.rnv_disk.specs.Course.{Course, IsImage, is_image, LeftSince, after, after_part, part_torn, fits, all_fit, stopped_of}
use Rattle.rnv_disk.proofs.Ranges.{torn_put, on_part}

-- a cut that leaves other bytes past its length
cut_torn : (n : ℕ) (torn old : List ℕ) → CutTo n old (take n old ++ take (length old - n) torn)
cut_torn n torn old = record { front = grind (arith, common_steps); no_longer = grind (arith, common_steps) }

short : (n : ℕ) (torn : List ℕ) → length (take n torn) ≤ n
short n torn = omega (arith, length-take n torn)

both : (a b : Bool) → IsTrue (a && b) → IsTrue a × IsTrue b
both a b pass = elim a as (λ v. IsTrue (v && b) → IsTrue v × IsTrue b) [ true ↦ λ (rest : IsTrue (true && b)). (refl, rest) | false ↦ λ (no : IsTrue (false && b)). absurd (let never : ⊥ = cc in never) ] pass

-- the older calls of those that fit
fits_older : (first : Image) (xs ys : List Call) → IsTrue (all_fit first (xs ++ ys)) → IsTrue (all_fit first ys)
fits_older first [] ys fit = fit
fits_older first (x ∷ xs) ys fit = fits_older first xs ys ((both (fits x (after first (xs ++ ys))) (all_fit first (xs ++ ys)) fit).1)

-- a stop within a call
torn_image : (first : Image) (older : List Call) (call : Call) (torn : List ℕ) → IsTrue (fits call (after first older))
    → IsImage first (call ∷ older) (after_part first older (call ∷ []) torn)
torn_image first older (Write file at bytes) torn fit = inr (
  after first older,
  (
    is_image first older,
    on_part file (Torn at (length bytes.bytes)) (put at (take (length bytes.bytes) torn) (part file (after first older))) (after first older)
        (torn_put at (length bytes.bytes) (take (length bytes.bytes) torn) (part file (after first older)) (leb-true at (length (part file (after first older))) fit) (short (length bytes.bytes) torn)),
  ),
)
torn_image first older (Cut file n) torn fit = inr (
  after first older,
  (
    is_image first older,
    on_part file (CutTo n) (part_torn (Cut file n) torn (part file (after first older))) (after first older) (cut_torn n torn (part file (after first older))),
  ),
)
torn_image first older (Sync file) torn fit = inl refl

-- a stop after some of the calls, within the next
split_image : (first : Image) (before later : List Call) (torn : List ℕ) → IsTrue (all_fit first (reverse (before ++ later)))
    → LeftSince (record { first = first; calls = before ++ later }) (length before) (after_part first (reverse before) later torn)
split_image first before [] torn fit = record {
  count = length before;
  since = omega arith;
  so_far = omega (arith, length-append before []);
  image = rw (take-append_seam before []) (is_image first (reverse before));
}
split_image first before (call ∷ later) torn fit = record {
  count = length before + 1;
  since = omega arith;
  so_far = omega (arith, length-append before (call ∷ later));
  image = subst (λ (l : List Call). IsImage first l (after_part first (reverse before) (call ∷ later) torn)) (sym to_call) (torn_image first (reverse before) call torn begins);
}
  where
    to_call : reverse (take (length before + 1) (before ++ call ∷ later)) ≡ call ∷ reverse before
    to_call = ap (λ (l : List Call). reverse l) (take-append-add before (call ∷ later) 1) ∙ reverse-append before (call ∷ [])

    begins : IsTrue (fits call (after first (reverse before)))
    begins =
        let is : reverse (before ++ call ∷ later) ≡ reverse later ++ (call ∷ reverse before) = grind (arith, common_steps, reverse-append) in
        let fitting = fits_older first (reverse later) (call ∷ reverse before) (subst (λ (l : List Call). IsTrue (all_fit first l)) is fit) in
        (both (fits call (after first (reverse before))) (all_fit first (reverse before)) fitting).0

-- a stop after the calls before a place, or within the call there
pub stopped_image : (course : Course) (call : ℕ) (torn : List ℕ) → IsTrue (all_fit course.first (reverse course.calls))
    → LeftSince course (min call (length course.calls)) (stopped_of course call torn)
stopped_image course call torn fit = subst P (length-take call course.calls) (subst Q whole split)
  where
    whole : take call course.calls ++ drop call course.calls ≡ course.calls
    whole = take-append-drop call course.calls

    P : ℕ → Type 0
    P t = LeftSince course t (stopped_of course call torn)

    Q : List Call → Type 0
    Q l = LeftSince (record { first = course.first; calls = l }) (length (take call course.calls)) (stopped_of course call torn)

    split : LeftSince (record { first = course.first; calls = take call course.calls ++ drop call course.calls }) (length (take call course.calls)) (stopped_of course call torn)
    split = split_image course.first (take call course.calls) (drop call course.calls) torn
        (subst (λ (l : List Call). IsTrue (all_fit course.first (reverse l))) (sym whole) fit)
