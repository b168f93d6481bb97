-- What one write of a run leaves of how the items are judged.
use Rattle.std.specs.Prelude.{◌≡◌, ℕ, ◌+◌, Bool, true, false, not, ◌&&◌, if◌then◌else◌, List, [], ◌∷◌, ◌++◌, length, Option, None, Some, is_none}
use Rattle.rnv_repo.specs.declared.repo.Repo.{Repo}
use Rattle.rnv_repo.specs.declared.write.Write.{Write}
use Rattle.rnv_repo.specs.declared.write.Write.TheVariants.{SetBase, PutBranch, DropBranch, OpenRequest, EditRequest, Autoclose, Finish}
use Rattle.rnv_outcome.specs.declared.item.Item.{Item}
use Rattle.rnv_outcome.specs.Given.{Given}
use Rattle.rnv_outcome.specs.Limits.{concurrent_used, eligible, hourly_used, is_chosen}
use Rattle.rnv_outcome.specs.Outcome.{item_at}
use Rattle.rnv_outcome.specs.Steps.{is_wanted_name}
use Rattle.rnv_outcome.specs.Views.{View, view, is_eligible, is_kept}
use Rattle.rnv_outcome.specs.Work.{is_worked, todo_of, work_order}

abbrev pub eligible_over : Given → Repo → Option Item → List Item
eligible_over g repo None = []
eligible_over g repo (Some i) = if is_eligible i (view g repo i) then i ∷ [] else []

-- the item whose branch a write puts, if it is an eligible one
abbrev pub eligible_put : Given → Repo → Write → List Item
eligible_put g repo (PutBranch name branch) = eligible_over g repo (item_at branch.name g.items)
eligible_put g repo w = []

abbrev pub is_end : Write → Bool
is_end (Finish name page) = true
is_end w = false

abbrev pub is_in_work : Given → Repo → Item → Bool
is_in_work g repo i = is_worked (is_chosen g repo i) i (view g repo i)

-- kept, and touched only because it has no live request
abbrev pub only_lacks_request : Item → View → Bool
only_lacks_request i v = is_kept i v && (not v.ticked && (not i.scheduled && (not i.anyway && is_none v.live)))

-- An item is in the work as before, or it was touched only because it had no live request, leaves the work now that the
-- request is open, and nothing is left to do for it.
pub data StaysInWork (g : Given) (repo new : Repo) (i : Item) : Type 0 where
  Alike : is_in_work g new i ≡ is_in_work g repo i → StaysInWork g repo new i
  Opened : only_lacks_request i (view g repo i) ≡ true → is_in_work g new i ≡ false → todo_of g new i ≡ [] → StaysInWork g repo new i

-- Wanted stays. Both used counts rise by one where the write puts an eligible item, which is then the first eligible one;
-- with every other write they stay, and so do the eligible items. Until the end the work stays, in its order.
pub record LawOfParts (g : Given) (repo : Repo) (w : Write) (new : Repo) : Type 0 where
  pub wanted : (name : List ℕ) → is_wanted_name g new name ≡ is_wanted_name g repo name
  pub concurrent : concurrent_used g new ≡ concurrent_used g repo + length (eligible_put g repo w)
  pub hourly : hourly_used g new ≡ hourly_used g repo + length (eligible_put g repo w)
  pub eligible : eligible g repo ≡ eligible_put g repo w ++ eligible g new
  pub order : is_end w ≡ false → work_order g new ≡ work_order g repo
  pub work : is_end w ≡ false → (i : Item) → item_at i.branch g.items ≡ Some i → StaysInWork g repo new i
