-- What is picked fits the base: its files, their finds, and the updates of each dependency.
use Rattle.std.proofs.Common.{◌≡◌, ℕ, List, Option, map, sym, ◌∙◌, subst}
use Rattle.std.specs.Prelude.{filter}
use Rattle.std.specs.List.{All, Contains}
use Rattle.std.proofs.lemmas.List.Elements.{All-filter, All-contains_itself}
use Rattle.rnv_base.specs.declared.kinds.ManagerKind.{ManagerKind}
use Rattle.rnv_base.specs.declared.kinds.SourceKind.{SourceKind}
use Rattle.rnv_repo.specs.Files.{MarkedFile}
use Rattle.rnv_repo.specs.Named.{IsRisingBy}
use Rattle.rnv_release.specs.declared.release.Release.{Release}
use Rattle.rnv_pick.specs.declared.dep.Dep.{Dep}
use Rattle.rnv_pick.specs.Options.{with_current}
use Rattle.rnv_pick.proofs.Own.{own_from}
use Rattle.rnv_plan.specs.declared.inputs.PickedDep.{PickedDep}
use Rattle.rnv_plan.specs.declared.inputs.PickedFile.{PickedFile}
use Rattle.rnv_plan.specs.declared.taken.TakenFile.{TakenFile}
use Rattle.rnv_plan.specs.Plain.{plain}
use Rattle.rnv_plan.specs.Taken.{AreDeps, IsTaken, is_taken}
use Rattle.rnv_plan.specs.Gather.{IsPickedDep, IsPickedFile, IsPickedFrom, IsPickedOf, AreFit}
use Rattle.rnv_plan.proofs.Rising.{zip_rising}
use Rattle.rnv_plan.proofs.TakenFiles.{taken-rising}
use Rattle.rnv_plan.proofs.Zips.{zip_each, zip_map}

-- ---- each update is of its dependency

own-dep : (moment : ℕ) (look : SourceKind → List ℕ → Option (List Release)) (d : Dep) (p : PickedDep) → IsPickedDep moment look d p → All (λ u. u.dep ≡ with_current p.dep p.picked.current) p.picked.updates
own-dep moment look d p picked =
    subst (λ (e : Dep). All (λ u. u.dep ≡ with_current e p.picked.current) p.picked.updates) (sym picked.dep) (own_from d.source plain moment d (look d.source d.«package») p.picked picked.picked)

-- ---- each file is one of the base

record IsFrom (base : List MarkedFile) (t : TakenFile) : Type 0 where
  file : MarkedFile
  there : Contains base file
  taken : IsTaken file t

of-file : (moment : ℕ) (look : SourceKind → List ℕ → Option (List Release)) (base : List MarkedFile) (t : TakenFile) (p : PickedFile) → IsFrom base t → IsPickedFile moment look t p → IsPickedOf base p
of-file moment look base t p from picked =
    let deps : map (λ (d : PickedDep). d.dep) p.deps ≡ t.deps = zip_map (IsPickedDep moment look) (λ (d : PickedDep). d.dep) (λ d q here. here.dep) t.deps p.deps picked.deps in
    record {
      file = from.file;
      there = from.there;
      path = picked.path ∙ from.taken.path;
      deps = subst (λ (ds : List Dep). AreDeps p.manager from.file ds) (sym deps) (subst (λ (m : ManagerKind). AreDeps m from.file t.deps) (sym picked.manager) from.taken.deps);
      own = zip_each (IsPickedDep moment look) (λ d. Unit {0}) (λ q. All (λ u. u.dep ≡ with_current q.dep q.picked.current) q.picked.updates) (λ d q one here. own-dep moment look d q here) t.deps p.deps (λ k d l. tt) picked.deps;
    }

pub are-fit : (moment : ℕ) (base : List MarkedFile) (picked : List PickedFile) → IsRisingBy (λ f. f.path) base → IsPickedFrom moment base picked → AreFit base picked
are-fit moment base picked rising from =
    let read = from.built.few.read in
    let files : All (IsFrom base) from.taken =
    zip_each IsTaken (Contains base) (IsFrom base) (λ f t there here. record { file = f; there = there; taken = here }) (filter is_taken base) from.taken
    (All-filter is_taken (Contains base) base (All-contains_itself base)) read in
    record {
      rising = zip_rising (λ (t : TakenFile). t.path) (λ (p : PickedFile). p.path) (IsPickedFile moment from.releases) (λ t p here. here.path) from.taken picked from.each (taken-rising base from.taken read rising);
      each = zip_each (IsPickedFile moment from.releases) (IsFrom base) (IsPickedOf base) (λ t p is_from here. of-file moment from.releases base t p is_from here) from.taken picked files from.each;
    }
