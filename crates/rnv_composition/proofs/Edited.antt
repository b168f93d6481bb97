-- The files that a run puts differ from those of the base only at the chosen spans.
use Rattle.std.proofs.Common.{◌≡◌, ◌⊎◌, inl, inr, ℕ, Bool, true, false, cond, List, [], ◌∷◌, filter, Option, None, Some, refl, sym, ◌∙◌, ap, subst}
use Rattle.std.specs.List.{AllByRecursion, AllZip}
use Rattle.std.specs.Str.{bytes_eq}
use Rattle.rnv_base.specs.Files.{NamedFile}
use Rattle.rnv_desired.specs.Desired.{IsItemOf, item_of}
use Rattle.rnv_desired.specs.Edits.{AreEdits, GivesFiles, IsEditedFile, is_edited}
use Rattle.rnv_desired.specs.Givens.{IsGiven}
use Rattle.rnv_desired.proofs.Made.{branch-of, files-made}
use Rattle.rnv_repo.specs.Files.{MarkedFile}
use Rattle.rnv_repo.specs.declared.branch.Branch.{Branch}
use Rattle.rnv_repo.specs.declared.repo.Repo.{Repo}
use Rattle.rnv_repo.specs.declared.write.Write.{Write}
use Rattle.rnv_repo.specs.declared.write.Write.TheVariants.{SetBase, PutBranch, DropBranch, OpenRequest, EditRequest, Autoclose, Finish}
use Rattle.rnv_outcome.specs.declared.item.Item.{Item}
use Rattle.rnv_outcome.specs.declared.item.ItemEdits.{ItemEdits}
use Rattle.rnv_outcome.specs.declared.item.ItemEdits.TheVariants.{Plain, Errored}
use Rattle.rnv_outcome.specs.Content.{Base, base_of, content}
use Rattle.rnv_outcome.specs.Given.{Given}
use Rattle.rnv_outcome.specs.Items.{edited_files}
use Rattle.rnv_outcome.specs.Law.{IsFit}
use Rattle.rnv_outcome.specs.Outcome.{item_at}
use Rattle.rnv_outcome.specs.Puts.{IsContent, PutsContent}
use Rattle.rnv_outcome.specs.Steps.{steps}
use Rattle.rnv_outcome.proofs.Contents.{puts}
use Rattle.rnv_plan.specs.declared.inputs.PickedFile.{PickedFile}
use Rattle.rnv_plan.specs.declared.group.Group.{Group}
use Rattle.rnv_composition.specs.History.{ArePutEdited, HasEditedFiles, PutsEdited}

module _ (base : List MarkedFile) (picked : List PickedFile) where
  -- an item that is found by a name is that of a branch of the plan
  item_found : (name : List ℕ) (gs : List Group) (is : List Item) (i : Item) → AllZip (IsItemOf base picked) gs is → item_at name is ≡ Some i → (g : Group) × IsItemOf base picked g i
  item_found name [] [] i each found = absurd (cc found)
  item_found name [] (j ∷ is) i each found = absurd each
  item_found name (g ∷ gs) [] i each found = absurd each
  item_found name (g ∷ gs) (j ∷ is) i each found = by (bytes_eq j.branch name) (λ e. item_found name gs is i each.1 e) found
    where
      by : (t : Bool) → (item_at name is ≡ Some i → (h : Group) × IsItemOf base picked h i) → cond t (Some j) (item_at name is) ≡ Some i → (h : Group) × IsItemOf base picked h i
      by true rest e = let same : j ≡ i = cc e in (g, subst (IsItemOf base picked g) same each.0)
      by false rest e = rest e

  edits_give : (branch : List ℕ) (edits : ItemEdits) → AreEdits base picked branch edits → AllZip (IsEditedFile base branch) (filter (is_edited branch) picked) (edited_files edits) ⊎ (edited_files edits ≡ [])
  edits_give branch (Plain files) are = inl are
  edits_give branch (Errored path wanted found) are = inr refl

  module _ (files : List NamedFile) (g : Given) (moment : ℕ) (groups : List Group) (each : AllZip (IsItemOf base picked) groups g.items) (edits : (i : Item) → g.files i ≡ edited_files i.edits) where
    branch_edited : (b : Base) (branch : Branch) → IsContent g b branch → HasEditedFiles base picked branch
    branch_edited b branch is =
        let here = item_found is.item.branch groups g.items is.item each is.among in
        let e = here.1.edits in
        let named : is.item.branch ≡ here.0.branch = ap (λ (i : Item). i.branch) here.1.same ∙ branch-of here.0 e in
        let put : g.files is.item ≡ edited_files e = edits is.item ∙ ap (λ (i : Item). edited_files i.edits) here.1.same ∙ files-made base picked here.0 e in
        let gives = edits_give here.0.branch e here.1.are_edits in
        subst (λ (x : Branch). HasEditedFiles base picked x) (sym is.is)
        (subst (λ (n : List ℕ). AllZip (IsEditedFile base n) (filter (is_edited n) picked) (g.files is.item) ⊎ (g.files is.item ≡ [])) (sym named)
        (subst (λ (fs : List NamedFile). AllZip (IsEditedFile base here.0.branch) (filter (is_edited here.0.branch) picked) fs ⊎ (fs ≡ [])) (sym put) gives))

    puts_edited : (b : Base) (w : Write) → PutsContent g b w → PutsEdited base picked w
    puts_edited b (SetBase repo changes) p = p
    puts_edited b (PutBranch repo branch) p = branch_edited b branch p
    puts_edited b w p = tt

    all_edited : (b : Base) (ws : List Write) → AllByRecursion (PutsContent g b) ws → AllByRecursion (PutsEdited base picked) ws
    all_edited b [] p = tt
    all_edited b (w ∷ ws) p = (puts_edited b w p.0, all_edited b ws p.1)

pub put_edited : (files : List NamedFile) (moment : ℕ) (first : Repo) (g : Given) → IsGiven (Unit {0}) files first.files moment g → IsFit g → ArePutEdited files moment first.files (steps g first)
put_edited files moment first g is fit = record {
  picked = is.picked;
  gathered = is.gathered tt;
  each = all_edited first.files is.picked files g moment is.desired.groups is.desired.each is.edits (base_of first) (steps g first) (puts g first fit);
}
