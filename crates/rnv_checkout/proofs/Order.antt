-- The files that are kept stand in the order of their paths, as the paths of the folder do.
use Rattle.std.proofs.Common.{◌≡◌, ◌<◌, ℕ, List, [], ◌∷◌, ◌++◌, Option, None, Some, refl, sym, ◌∙◌, ap, subst, arith}
use Rattle.std.specs.List.{AllByRecursion, AllZip}
use Rattle.std.specs.List.Sorted.{IsStrictlySortedBy}
use Rattle.std.specs.declared.cmp.Ordering.{Ordering}
use Rattle.std.specs.declared.cmp.Ordering.TheVariants.{Less, Equal, Greater}
use Rattle.std.specs.Ordering.{on, nat_cmp, ordering_then, MatchOrdering}
use Rattle.std.proofs.lemmas.Cmp.{ranked}
use Rattle.std.specs.Cmp.Lexicographic.{slice_cmp}
use Rattle.std.proofs.lemmas.List.Elements.{All-from_recursion}
use Rattle.rnv_base.specs.Files.{NamedFile, IsRising}
use Rattle.rnv_base.specs.Names.{IsPath}
use Rattle.rnv_repo.specs.WellFormed.{AreInOrder}
use Rattle.rnv_checkout.specs.Base.{kept_of, IsPlaced}

itself : (x : ℕ) (r : Ordering) → MatchOrdering r (x < x) (x ≡ x) (x < x) → r ≡ Equal
itself x Less below = absurd (omega (arith, below))
itself x Equal same = refl
itself x Greater above = absurd (omega (arith, above))

-- a front that both have does not count
behind_front : (front a b : List ℕ) → slice_cmp nat_cmp (front ++ a) (front ++ b) ≡ slice_cmp nat_cmp a b
behind_front [] a b = refl
behind_front (x ∷ front) a b =
    let same : nat_cmp x x ≡ Equal = itself x (nat_cmp x x) (ranked x x (nat_cmp x x) refl) in
    ap (λ (o : Ordering). ordering_then o (slice_cmp nat_cmp (front ++ a) (front ++ b))) same ∙ behind_front front a b

module _ (front : List ℕ) where
  -- a path that is below the others of the folder
  below_kept : (path a : List ℕ) (paths : List (List ℕ)) (outcomes : List (Option NamedFile)) → path ≡ front ++ a → AllByRecursion (λ q. slice_cmp nat_cmp path q ≡ Less) paths
      → AllZip (IsPlaced front) paths outcomes → AllByRecursion (λ g. slice_cmp nat_cmp a g.path ≡ Less) (kept_of outcomes)
  below_kept path a [] [] is below each = tt
  below_kept path a [] (o ∷ os) is below each = absurd each
  below_kept path a (q ∷ qs) [] is below each = absurd each
  below_kept path a (q ∷ qs) (None ∷ os) is below each = below_kept path a qs os is below.1 each.1
  below_kept path a (q ∷ qs) (Some g ∷ os) is below each =
      let less : slice_cmp nat_cmp (front ++ a) (front ++ g.path) ≡ Less =
      subst (λ (p : List ℕ). slice_cmp nat_cmp p (front ++ g.path) ≡ Less) is (subst (λ (p : List ℕ). slice_cmp nat_cmp path p ≡ Less) each.0.0 below.0) in
      (sym (behind_front front a g.path) ∙ less, below_kept path a qs os is below.1 each.1)

  rising_kept : (paths : List (List ℕ)) (outcomes : List (Option NamedFile)) → IsRising paths → AllZip (IsPlaced front) paths outcomes
      → IsStrictlySortedBy (on (λ f. f.path) (slice_cmp nat_cmp)) (kept_of outcomes)
  unfolding IsStrictlySortedBy
  rising_kept [] [] rising each = tt
  rising_kept [] (o ∷ os) rising each = absurd each
  rising_kept (p ∷ ps) [] rising each = absurd each
  rising_kept (p ∷ ps) (None ∷ os) rising each = rising_kept ps os rising.1 each.1
  rising_kept (p ∷ ps) (Some f ∷ os) rising each = (below_kept p f.path ps os each.0.0 rising.0 each.1, rising_kept ps os rising.1 each.1)

  paths_kept : (paths : List (List ℕ)) (outcomes : List (Option NamedFile)) → AllZip (IsPlaced front) paths outcomes → AllByRecursion (λ f. IsPath f.path) (kept_of outcomes)
  paths_kept [] [] each = tt
  paths_kept [] (o ∷ os) each = absurd each
  paths_kept (p ∷ ps) [] each = absurd each
  paths_kept (p ∷ ps) (None ∷ os) each = paths_kept ps os each.1
  paths_kept (p ∷ ps) (Some f ∷ os) each = (each.0.1, paths_kept ps os each.1)

  pub kept_in_order : (paths : List (List ℕ)) (outcomes : List (Option NamedFile)) (kept : List NamedFile) → kept ≡ kept_of outcomes → IsRising paths
      → AllZip (IsPlaced front) paths outcomes → AreInOrder (λ f. f.path) kept
  kept_in_order paths outcomes kept same rising each = subst (λ (l : List NamedFile). AreInOrder (λ f. f.path) l) (sym same) (record {
    each = All-from_recursion (λ (f : NamedFile). IsPath f.path) (kept_of outcomes) (paths_kept paths outcomes each);
    rising = rising_kept paths outcomes rising each;
  })
