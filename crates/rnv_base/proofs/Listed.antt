use Rattle.std.proofs.Common.{◌≡◌, ℕ, zero, suc, ◌+◌, ◌-◌, ◌<◌, ◌≤◌, List, [], ◌∷◌, length, get_or, arith, add-one, refl, ap}
use Rattle.std.specs.List.Sorted.{IsStrictlySortedBy}
use Rattle.std.specs.declared.cmp.Ordering.{Ordering}
use Rattle.std.specs.declared.cmp.Ordering.TheVariants.{Less}
use Rattle.std.proofs.lemmas.List.Kept.{IsStrictlySortedBy-filter}
use Rattle.std.proofs.lemmas.List.{get_or_default}
use Rattle.rnv_base.specs.Files.{NamedFile, paths_of, listed_of, IsRising}

-- the paths with a prefix rise as all paths do
pub listed_rises : (prefix : List ℕ) (files : List NamedFile) → IsRising (paths_of files) → IsRising (listed_of prefix files)
listed_rises prefix files rising = IsStrictlySortedBy-filter _ _ (paths_of files) rising

-- in a list that rises each element is below the next
pub adjacent_below : {K : Type 0} (c : K → K → Ordering) (ks : List K) (d : K) (k : ℕ) → IsStrictlySortedBy c ks → k + 1 < length ks → c (get_or ks k d) (get_or ks (k + 1) d) ≡ Less
unfolding IsStrictlySortedBy
adjacent_below c [] d k rising within = absurd (omega arith)
adjacent_below c (x ∷ []) d k rising within = absurd (omega arith)
adjacent_below c (x ∷ y ∷ r) d zero rising within = rising.0.0
adjacent_below c (x ∷ y ∷ r) d (suc k) rising within =
    let next = rw add-one at (adjacent_below c (y ∷ r) d k rising.1 (omega arith)) in
    rw add-one next

-- two neighbours in a list that rises, as a read at their places gives them
pub neighbours_rise : {K : Type 0} (c : K → K → Ordering) (ks : List K) (at : ℕ) (x y : K) → x ≡ get_or ks (at - 1) x → y ≡ get_or ks at y → 1 ≤ at → at < length ks → IsStrictlySortedBy c ks → c x y ≡ Less
neighbours_rise c ks at x y left right low within rising =
    let back : at - 1 + 1 ≡ at = omega arith in
    let found = adjacent_below c ks x (at - 1) rising (omega arith) in
    let same = get_or_default ks at x y within in
    let found' = rw back at found in
    cc

-- a list filtered by a prefix that is empty is the list
pub listed_all : (files : List NamedFile) → listed_of [] files ≡ paths_of files
listed_all [] = refl
listed_all (f ∷ files) = ap (λ paths. f.path ∷ paths) (listed_all files)
