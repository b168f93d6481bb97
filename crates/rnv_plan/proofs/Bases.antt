-- A folder gives a repository one base, and has one refusal at most; a plan that is made has none.
use Rattle.std.proofs.Common.{◌≡◌, ℕ, List, [], ◌∷◌, Option, None, Some, length, map, refl, sym, ◌∙◌, ap, subst, inl, inr, arith}
use Rattle.std.specs.List.{AllByRecursion}
use Rattle.std.specs.List.Sorted.{IsStrictlySortedBy}
use Rattle.std.specs.Ordering.{nat_cmp}
use Rattle.std.specs.Cmp.Lexicographic.{slice_cmp}
use Rattle.std.specs.declared.cmp.Ordering.TheVariants.{Less}
use Rattle.std.proofs.lemmas.List.Elements.{All-map}
use Rattle.std.proofs.lemmas.List.{append_cancel_left}
use Rattle.std.proofs.lemmas.Option.{same_Some}
use Rattle.rnv_base.specs.Files.{NamedFile, listed_of}
use Rattle.rnv_repo.specs.Files.{MarkedFile}
use Rattle.rnv_repo.specs.Named.{IsRisingBy}
use Rattle.rnv_repo.specs.WellFormed.{AreInOrder}
use Rattle.rnv_base.specs.Names.{IsPath}
use Rattle.rnv_checkout.specs.Base.{folder_of, kept_of, size_of, IsBase, IsOutcome, IsWithin}
use Rattle.rnv_checkout.specs.Refusal.{HasWrong, IsAbove}
use Rattle.rnv_checkout.specs.declared.error.BaseError.TheVariants as of_base
use Rattle.rnv_pick.specs.declared.update.Update.{Update}
use Rattle.rnv_plan.specs.declared.error.RunError.{RunError}
use Rattle.rnv_plan.specs.declared.error.RunError.TheVariants.{Limit}
use Rattle.rnv_plan.specs.declared.inputs.PickedFile.{PickedFile}
use Rattle.rnv_plan.specs.declared.inputs.Planned.{Planned}
use Rattle.rnv_plan.specs.declared.group.Group.{Group}
use Rattle.rnv_plan.specs.declared.taken.TakenFile.{TakenFile}
use Rattle.rnv_plan.specs.Gather.{IsGathered, ArePicked, releases_for}
use Rattle.rnv_plan.specs.Kept.{kept_updates}
use Rattle.rnv_plan.specs.Refusal.{IsRefusal}
use Rattle.rnv_plan.specs.Plan.{unchanged, IsFolderBase, IsGatheredOf, IsFolderRefusal, large, unknown, of_files, AreFewGroups, HaveManyGroups, IsPlanned, IsPlanRefusal, not_gathered, many_items}
use Rattle.rnv_plan.proofs.OneList.{items_are_unique}
use Rattle.rnv_plan.proofs.Picks.{picked-one}
use Rattle.rnv_plan.proofs.Refused.{gathered-fine, refusal-one}
use Rattle.rnv_plan.proofs.TakenFiles.{taken-one}
use Rattle.rnv_plan.proofs.Zips.{zip_one}

-- ---- one base

same-named : (p q bs cs : List ℕ) → p ≡ q → bs ≡ cs → ◌≡◌ {A = NamedFile} (record { path = p; bytes = bs }) (record { path = q; bytes = cs })
same-named p q bs cs paths bytes = cc

outcome-one : (files : List NamedFile) (front path : List ℕ) (o p : Option NamedFile) → IsOutcome files front path o → IsOutcome files front path p → o ≡ p
outcome-one files front path None None a b = refl
outcome-one files front path None (Some g) a b = absurd (a g b.0 b.1)
outcome-one files front path (Some f) None a b = absurd (b f a.0 a.1)
outcome-one files front path (Some f) (Some g) a b =
    ap (λ (n : NamedFile). Some n)
    (same-named f.path g.path f.bytes g.bytes (append_cancel_left front f.path g.path (sym a.0.place ∙ b.0.place)) (same_Some f.bytes g.bytes (sym a.0.bytes ∙ b.0.bytes)))

pub kept-one : (files : List NamedFile) (front : List ℕ) (kept other : List NamedFile) (passed more : ℕ) → IsBase files front kept passed → IsBase files front other more → kept ≡ other
kept-one files front kept other passed more a b =
    a.kept_are ∙ (ap kept_of (zip_one (IsOutcome files front) (outcome-one files front) (listed_of front files) a.outcomes b.outcomes a.each b.each) ∙ sym b.kept_are)

base-one : (repo : List ℕ) (files : List NamedFile) (base other : List MarkedFile) → IsFolderBase repo files base → IsFolderBase repo files other → base ≡ other
base-one repo files base other a b = a.same ∙ (ap (map unchanged) (kept-one files (folder_of repo) a.kept b.kept a.passed b.passed a.read b.read) ∙ sym b.same)

-- ---- one refusal

pub within-above : (kept : List NamedFile) (which : List ℕ) (number : ℕ) → IsWithin kept → IsAbove which number kept → ⊥
within-above kept which number within (inl above) = omega (arith, within.few, above.2)
within-above kept which number within (inr above) = omega (arith, within.small, above.3)

pub none-above : (kept : List NamedFile) (which : List ℕ) (number : ℕ) → kept ≡ [] → IsAbove which number kept → ⊥
none-above kept which number none (inl above) = omega (arith, ap length none, above.2)
none-above kept which number none (inr above) = omega (arith, ap size_of none, above.3)

above-one : (kept : List NamedFile) (v w : List ℕ) (m n : ℕ) → IsAbove v m kept → IsAbove w n kept → Limit v m ≡ Limit w n
above-one kept v w m n (inl a) (inl b) = let x = a.0 in let y = b.0 in let z = a.1 in let u = b.1 in cc
above-one kept v w m n (inl a) (inr b) = absurd (omega (arith, a.2, b.2))
above-one kept v w m n (inr a) (inl b) = absurd (omega (arith, a.2, b.2))
above-one kept v w m n (inr a) (inr b) = let x = a.0 in let y = b.0 in let z = a.1 in let u = b.1 in cc

module _ (repo : List ℕ) (files : List NamedFile) where
  same-kept : (kept other : List NamedFile) (passed more : ℕ) → IsBase files (folder_of repo) kept passed → IsBase files (folder_of repo) other more → kept ≡ other
  same-kept kept other passed more a b = kept-one files (folder_of repo) kept other passed more a b

  large-base : (base : List MarkedFile) (which : List ℕ) (number : ℕ) → IsFolderBase repo files base → HasWrong files (folder_of repo) (of_base.Limit which number) → ⊥
  large-base base which number b w = within-above w.kept which number (subst IsWithin (same-kept b.kept w.kept b.passed w.passed b.read w.base) b.within) w.wrong

  unknown-base : (base : List MarkedFile) → IsFolderBase repo files base → HasWrong files (folder_of repo) of_base.UnknownRepo → ⊥
  unknown-base base b w =
      let none = ap length (same-kept b.kept w.kept b.passed w.passed b.read w.base ∙ w.wrong) in
      omega (arith, none, b.within.some)

  large-unknown : (which : List ℕ) (number : ℕ) → HasWrong files (folder_of repo) (of_base.Limit which number) → HasWrong files (folder_of repo) of_base.UnknownRepo → ⊥
  large-unknown which number l u = none-above l.kept which number (same-kept l.kept u.kept l.passed u.passed l.base u.base ∙ u.wrong) l.wrong

  large-one : (v w : List ℕ) (m n : ℕ) → HasWrong files (folder_of repo) (of_base.Limit v m) → HasWrong files (folder_of repo) (of_base.Limit w n) → Limit v m ≡ Limit w n
  large-one v w m n a b = above-one b.kept v w m n (subst (IsAbove v m) (same-kept a.kept b.kept a.passed b.passed a.base b.base) a.wrong) b.wrong

  folder-one : (e f : RunError) → IsFolderRefusal repo files e → IsFolderRefusal repo files f → e ≡ f
  folder-one e f (large v m a same) (large w n b same') = same ∙ (large-one v w m n a b ∙ sym same')
  folder-one e f (large v m a same) (unknown b same') = absurd (large-unknown v m a b)
  folder-one e f (large v m a same) (of_files base b refused) = absurd (large-base base v m b a)
  folder-one e f (unknown a same) (large w n b same') = absurd (large-unknown w n b a)
  folder-one e f (unknown a same) (unknown b same') = same ∙ sym same'
  folder-one e f (unknown a same) (of_files base b refused) = absurd (unknown-base base b a)
  folder-one e f (of_files base a refused) (large w n b same') = absurd (large-base base w n a b)
  folder-one e f (of_files base a refused) (unknown b same') = absurd (unknown-base base a b)
  folder-one e f (of_files base a refused) (of_files other b refused') =
      refusal-one files other e f (subst (λ (fs : List MarkedFile). IsRefusal files fs e) (base-one repo files base other a b) refused) refused'

  -- what is gathered is refused nowhere
  pub folder-fine : (moment : ℕ) (planned : Planned) → IsGatheredOf repo moment files planned → (e : RunError) → ¬ (IsFolderRefusal repo files e)
  folder-fine moment planned g e (large which number wrong same) = large-base planned.files which number g.base wrong
  folder-fine moment planned g e (unknown wrong same) = unknown-base planned.files g.base wrong
  folder-fine moment planned g e (of_files base b refused) =
      gathered-fine files moment planned.files planned.inputs.picked g.gathered e (subst (λ (fs : List MarkedFile). IsRefusal files fs e) (base-one repo files base planned.files b g.base) refused)

  -- ---- one plan

  pub picked-of : (moment : ℕ) (base : List MarkedFile) (ps qs : List PickedFile) → IsGathered files moment base ps → IsGathered files moment base qs → ps ≡ qs
  picked-of moment base ps qs a b =
      picked-one moment (releases_for files) b.taken ps qs (subst (λ (ts : List TakenFile). ArePicked moment (releases_for files) ts ps) (taken-one base a.taken b.taken a.built.few.read b.built.few.read) a.each) b.each

  gathered-one : (moment : ℕ) (p q : Planned) → IsGatheredOf repo moment files p → IsGatheredOf repo moment files q → p.inputs.picked ≡ q.inputs.picked
  gathered-one moment p q a b = picked-of moment q.files p.inputs.picked q.inputs.picked (subst (λ (fs : List MarkedFile). IsGathered files moment fs p.inputs.picked) (base-one repo files p.files q.files a.base b.base) a.gathered) b.gathered

  few-many : (updates : List Update) (items : List Group) (e : RunError) → AreFewGroups updates items → ¬ (HaveManyGroups updates e)
  few-many updates items e few many =
      let same = ap length (items_are_unique updates items many.items few.are_items many.are_items) in
      omega (arith, same, few.few, many.many)

  pub plan-fine : (moment : ℕ) (items : List Group) → IsPlanned repo moment files items → (e : RunError) → ¬ (IsPlanRefusal repo moment files e)
  plan-fine moment items p e (not_gathered refused) = folder-fine moment p.planned p.gathered e refused
  plan-fine moment items p e (many_items planned gathered many) =
      few-many (kept_updates planned.inputs.picked) items e (subst (λ (ps : List PickedFile). AreFewGroups (kept_updates ps) items) (gathered-one moment p.planned planned p.gathered gathered) p.few) many

  pub plan-one : (moment : ℕ) (e f : RunError) → IsPlanRefusal repo moment files e → IsPlanRefusal repo moment files f → e ≡ f
  plan-one moment e f (not_gathered a) (not_gathered b) = folder-one e f a b
  plan-one moment e f (not_gathered a) (many_items planned gathered many) = absurd (folder-fine moment planned gathered e a)
  plan-one moment e f (many_items planned gathered many) (not_gathered b) = absurd (folder-fine moment planned gathered f b)
  plan-one moment e f (many_items planned gathered many) (many_items planned' gathered' many') = many.same ∙ sym many'.same

-- ---- the files of a folder stand by path

below-unchanged : (path : List ℕ) (xs : List NamedFile) → AllByRecursion (λ f. slice_cmp nat_cmp path f.path ≡ Less) xs → AllByRecursion (λ (f : MarkedFile). slice_cmp nat_cmp path f.path ≡ Less) (map unchanged xs)
below-unchanged path [] below = tt
below-unchanged path (x ∷ xs) below = (below.0, below-unchanged path xs below.1)

rising-unchanged : (xs : List NamedFile) → IsRisingBy (λ f. f.path) xs → IsRisingBy (λ (f : MarkedFile). f.path) (map unchanged xs)
unfolding IsStrictlySortedBy
rising-unchanged [] rising = tt
rising-unchanged (x ∷ xs) rising = (below-unchanged x.path xs rising.0, rising-unchanged xs rising.1)

pub order-unchanged : (xs : List NamedFile) (base : List MarkedFile) → base ≡ map unchanged xs → AreInOrder (λ f. f.path) xs → AreInOrder (λ (f : MarkedFile). f.path) base
order-unchanged xs base same order = subst (AreInOrder (λ (f : MarkedFile). f.path)) (sym same) (record {
  each = All-map (λ (f : MarkedFile). IsPath f.path) unchanged xs order.each;
  rising = rising-unchanged xs order.rising;
})

pub large-at : (repo : List ℕ) (files : List NamedFile) (e : RunError) (which : List ℕ) (number : ℕ) → HasWrong files (folder_of repo) (of_base.Limit which number) → e ≡ Limit which number → IsFolderRefusal repo files e
large-at repo files e which number wrong same = large which number wrong same
