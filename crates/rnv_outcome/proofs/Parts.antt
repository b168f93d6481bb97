-- What a change at one name leaves of how the items are judged.
use Rattle.std.proofs.Common.{◌≡◌, ℕ, Bool, true, false, not, ◌&&◌, ◌||◌, List, [], Some, None, refl, sym, ◌∙◌, ap, subst, ◌⊎◌, inl, inr}
use Rattle.std.specs.Prelude.{is_none, is_some}
use Rattle.std.proofs.lemmas.Bool.{and_from}
use Rattle.rnv_repo.specs.declared.branch.Branch.{Branch}
use Rattle.rnv_repo.specs.declared.repo.Repo.{Repo}
use Rattle.rnv_repo.specs.declared.request.Request.{Request}
use Rattle.rnv_repo.specs.declared.write.Write.{Write}
use Rattle.rnv_outcome.proofs.Found.{at_name}
use Rattle.rnv_outcome.proofs.Kept.{KeepsName, order_changed, wanted_after}
use Rattle.rnv_outcome.proofs.Made.{Uses}
use Rattle.rnv_outcome.proofs.Views.{changed}
use Rattle.rnv_outcome.proofs.Written.{with_live}
use Rattle.rnv_outcome.specs.Given.{Given}
use Rattle.rnv_outcome.specs.Limits.{is_chosen}
use Rattle.rnv_outcome.specs.Outcome.{item_at}
use Rattle.rnv_outcome.specs.Parts.{LawOfParts, StaysInWork, eligible_put}
use Rattle.rnv_outcome.specs.Parts.StaysInWork.{Alike, Opened}
use Rattle.rnv_outcome.specs.Views.{View, is_kept, is_touched, is_wanted, view}
use Rattle.rnv_outcome.specs.Work.{is_worked, is_worked_over, todo_of}
use Rattle.rnv_outcome.specs.declared.item.Item.{Item}

-- where the item of that name stays in the work
pub parts_of : (g : Given) (repo : Repo) (bs : List Branch) (rs : List Request) (n : List ℕ) (w : Write) (is : List Item) → KeepsName g repo bs rs n → Uses g repo (changed repo bs rs) is → eligible_put g repo w ≡ is
    → ((e : Item) → item_at n g.items ≡ Some e → StaysInWork g repo (changed repo bs rs) e) → LawOfParts g repo w (changed repo bs rs)
parts_of g repo bs rs n w is keeps uses put here =
    let u = subst (Uses g repo (changed repo bs rs)) (sym put) uses in
    record {
      wanted = wanted_after g repo bs rs n keeps;
      concurrent = u.concurrent;
      hourly = u.hourly;
      eligible = u.eligible;
      order = λ _. order_changed g repo bs rs;
      work = λ _ i f. at_name (StaysInWork g repo (changed repo bs rs)) g.items n here
          (λ j a. Alike (ap (λ c. is_worked c j (view g (changed repo bs rs) j)) (keeps.chooses j a) ∙ ap (is_worked (is_chosen g repo j) j) (keeps.away j a))) i.branch i f;
    }

-- an item whose request is opened leaves the work where it was touched only because it had none

open_work : (t s a : Bool) → ((t || (s || (a || false))) ≡ true) ⊎ (((t || (s || (a || false))) ≡ false) × ((not t && (not s && (not a && true))) ≡ true))
open_work true s a = inl refl
open_work false true a = inl refl
open_work false false true = inl refl
open_work false false false = inr (refl, refl)

pub opened_stays : (g : Given) (repo new : Repo) (e : Item) (b : Branch) (r : Request) → view g new e ≡ with_live (view g repo e) (Some r) → (view g repo e).branch ≡ Some b → (view g repo e).live ≡ None
    → is_wanted e (view g repo e) ≡ true → is_wanted e (with_live (view g repo e) (Some r)) ≡ true → is_worked (is_chosen g repo e) e (view g repo e) ≡ true → todo_of g new e ≡ [] → StaysInWork g repo new e
opened_stays g repo new e b r here o l w w' work none = go (open_work (view g repo e).ticked e.scheduled e.anyway)
  where
    v : View
    v = view g repo e

    u : View
    u = with_live (view g repo e) (Some r)

    over : is_worked (is_chosen g new e) e (view g new e) ≡ (v.ticked || (e.scheduled || (e.anyway || false)))
    over = ap (is_worked (is_chosen g new e) e) here ∙ ap (λ x. x && is_worked_over (v.ticked || is_chosen g new e) (is_touched e u) v.branch) w' ∙ ap (is_worked_over (v.ticked || is_chosen g new e) (is_touched e u)) o

    go : ((v.ticked || (e.scheduled || (e.anyway || false))) ≡ true) ⊎ (((v.ticked || (e.scheduled || (e.anyway || false))) ≡ false) × ((not v.ticked && (not e.scheduled && (not e.anyway && true))) ≡ true)) → StaysInWork g repo new e
    go (inl h) = Alike (over ∙ h ∙ sym work)
    go (inr h) = Opened
        (and_from (is_kept e v) (not v.ticked && (not e.scheduled && (not e.anyway && is_none v.live))) (and_from (is_wanted e v) (is_some v.branch) w (ap is_some o))
        (ap (λ l. not v.ticked && (not e.scheduled && (not e.anyway && is_none l))) l ∙ h.1))
        (over ∙ h.0) none
