-- One file rises, and so does none.
use Rattle.std.proofs.Common.{◌≡◌, List, [], ◌∷◌, ◌++◌, sym, subst}
use Rattle.std.specs.List.Sorted.{IsStrictlySortedBy}
use Rattle.rnv_base.specs.Files.{NamedFile}
use Rattle.rnv_repo.specs.Base.{path_of}
use Rattle.rnv_patch.specs.Patch.{branch_path}
use Rattle.rnv_repo.specs.Files.{MarkedFile}
use Rattle.rnv_repo.specs.Named.{IsRisingBy}

one : (f : MarkedFile) → IsRisingBy path_of (f ∷ [])
unfolding IsStrictlySortedBy
one f = (tt, tt)

none : IsRisingBy path_of []
unfolding IsStrictlySortedBy
none = tt

pub one_rises : (f : MarkedFile) (base before : List MarkedFile) → before ≡ [] → base ≡ before ++ f ∷ [] → IsRisingBy path_of base
one_rises f base before start e = subst (λ (files : List MarkedFile). IsRisingBy path_of files) (sym (rw start at e)) (one f)

pub none_rises : (base : List MarkedFile) → base ≡ [] → IsRisingBy path_of base
none_rises base e = subst (λ (files : List MarkedFile). IsRisingBy path_of files) (sym e) none

one-branch : (f : NamedFile) → IsRisingBy branch_path (f ∷ [])
unfolding IsStrictlySortedBy
one-branch f = (tt, tt)

pub one_branch_rises : (f : NamedFile) (files before : List NamedFile) → before ≡ [] → files ≡ before ++ f ∷ [] → IsRisingBy branch_path files
one_branch_rises f files before start e = subst (λ (fs : List NamedFile). IsRisingBy branch_path fs) (sym (rw start at e)) (one-branch f)
