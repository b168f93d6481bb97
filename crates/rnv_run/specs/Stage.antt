-- What a run is given while there are no tasks and no pages yet.
use Rattle.std.specs.Prelude.{◌≡◌, ℕ, false, List, [], Option, None}
use Rattle.rnv_outcome.specs.declared.item.Item.{Item}
use Rattle.rnv_outcome.specs.declared.shown.Shown.{Shown}
use Rattle.rnv_outcome.specs.Given.{Given}
use Rattle.rnv_outcome.specs.Items.{edited_files}
use Rattle.rnv_steps.specs.declared.terms.Terms.{Terms}

-- the branch of an item has the files of its edits and no problem, and there is no page
pub record IsPlain (g : Given) : Type 0 where
  pub files : (i : Item) → g.files i ≡ edited_files i.edits
  pub problem : (i : Item) → g.problem i ≡ []
  pub page : (all : List Shown) → g.page all ≡ None

-- these items at a moment, without limits, ticks, tasks and pages, where a closed request blocks nothing
abbrev pub given_by : ℕ → List Item → Given
given_by moment items = record {
  items = items;
  moment = moment;
  hourly = 0;
  concurrent = 0;
  branches = 0;
  heeds_closed = false;
  files = λ i. edited_files i.edits;
  problem = λ i. [];
  ticks = λ page. [];
  page = λ all. None;
}

-- the terms of such a run
abbrev pub plain_terms : ℕ → Terms
plain_terms moment = record {
  moment = moment;
  hourly = 0;
  concurrent = 0;
  branches = 0;
  heeds_closed = false;
  ticked = [];
}
