-- What a write means, a row for each kind of write.
use Rattle.std.specs.Prelude.{ℕ, ◌+◌, nat_eq, true, false, not, List, [], ◌∷◌, ◌++◌, IfSome, Option, None}
use Rattle.std.specs.List.{AllByRecursion}
use Rattle.std.specs.Str.{IsUtf8}
use Rattle.rnv_base.specs.Moment.{IsMoment}
use Rattle.rnv_repo.specs.declared.refusal.Refusal.{Refusal}
use Rattle.rnv_repo.specs.declared.refusal.Refusal.TheVariants.{NumberTaken, NotLive, BaseFull, NoChange}
use Rattle.rnv_repo.specs.declared.repo.Repo.{Repo}
use Rattle.rnv_repo.specs.declared.request.RequestState.TheVariants.{Live}
use Rattle.rnv_repo.specs.declared.write.Write.{Write}
use Rattle.rnv_repo.specs.declared.write.Write.TheVariants.{SetBase, PutBranch, DropBranch, OpenRequest, EditRequest, Autoclose, Finish}
use Rattle.rnv_repo.specs.Base.{changed, is_changing, is_over}
use Rattle.rnv_repo.specs.Files.{PathChange}
use Rattle.rnv_repo.specs.Named.{AreInOrder, put, without}
use Rattle.rnv_repo.specs.Refusing.{name_of, refused_branch, refused_if}
use Rattle.rnv_repo.specs.Requests.{is_live_number, next_number, at_number, edited, autoclosed}
use Rattle.rnv_repo.specs.Texts.{HasBranchTexts, HasRequestTexts}

-- the name of the repository that a write changes; what its fields keep for it to be in order; its texts, each UTF-8;
-- why the repository refuses it, the first cause; and what it makes of the repository
pub record Meaning : Type 1 where
  pub repo : List ℕ
  pub order : Type 0
  pub texts : Type 0
  pub refused : Repo → Option Refusal
  pub makes : Repo → Repo

abbrev pub with_base : ℕ → List PathChange → Repo → Repo
with_base revision changes repo =
    record repo { revision = revision; files = changed revision changes repo.files; due = true }

abbrev pub meaning : Write → Meaning
meaning (SetBase repo changes) = record {
  repo = repo;
  order = AreInOrder (λ c. c.path) changes;
  texts = IsUtf8 repo × AllByRecursion (λ c. IsUtf8 c.path) changes;
  refused = λ r.
      refused_if (is_over (changed (r.revision + 1) changes r.files)) BaseFull (refused_if (not (is_changing changes r.files)) NoChange None);
  makes = λ r. with_base (r.revision + 1) changes r;
}
meaning (PutBranch repo branch) = record {
  repo = repo;
  order = AreInOrder (λ f. f.path) branch.files;
  texts = IsUtf8 repo × HasBranchTexts branch;
  refused = λ r. None;
  makes = λ r. record r { branches = put name_of branch r.branches };
}
meaning (DropBranch repo name) = record {
  repo = repo;
  order = Unit {0};
  texts = IsUtf8 repo × IsUtf8 name;
  refused = λ r. refused_branch name r None;
  makes = λ r. record r { branches = without name_of name r.branches };
}
meaning (OpenRequest repo number branch updates title body labels made_at) = record {
  repo = repo;
  order = IsMoment made_at;
  texts = IsUtf8 repo × IsUtf8 branch × HasRequestTexts updates title body labels;
  refused = λ r. refused_branch branch r (refused_if (not (nat_eq number (next_number r.requests))) (NumberTaken number) None);
  makes = λ r.
      record r {
        requests = r.requests ++ record {
          number = number;
          branch = branch;
          updates = updates;
          title = title;
          body = body;
          labels = labels;
          made_at = made_at;
          state = Live;
        } ∷ [];
      };
}
meaning (EditRequest repo number updates title body labels) = record {
  repo = repo;
  order = Unit {0};
  texts = IsUtf8 repo × HasRequestTexts updates title body labels;
  refused = λ r. refused_if (not (is_live_number number r.requests)) (NotLive number) None;
  makes = λ r. record r { requests = at_number number (edited updates title body labels) r.requests };
}
meaning (Autoclose repo number) = record {
  repo = repo;
  order = Unit {0};
  texts = IsUtf8 repo;
  refused = λ r. refused_if (not (is_live_number number r.requests)) (NotLive number) None;
  makes = λ r. record r { requests = at_number number autoclosed r.requests };
}
meaning (Finish repo page) = record {
  repo = repo;
  order = Unit {0};
  texts = IsUtf8 repo × IfSome page IsUtf8;
  refused = λ r. None;
  makes = λ r. record r { page = page; due = false };
}
