-- Runs that are stopped, or fail, and are given again, one after the other.
use Rattle.std.specs.List.{AllByRecursion, AllZip}
use Rattle.std.specs.Prelude.{filter, ◌≡◌, ◌⊎◌, ◌≤◌, ◌<◌, ℕ, suc, List, [], ◌∷◌, ◌++◌, map, flat_map}
use Rattle.rnv_base.specs.Files.{NamedFile}
use Rattle.rnv_base.specs.Limits.{store_bytes}
use Rattle.rnv_desired.specs.Edits.{IsEditedFile, is_edited}
use Rattle.rnv_disk.specs.Images.{Image}
use Rattle.rnv_disk.specs.Stops.{LeftNow, Past}
use Rattle.rnv_repo.specs.Files.{MarkedFile}
use Rattle.rnv_repo.specs.declared.branch.Branch.{Branch}
use Rattle.rnv_repo.specs.declared.repo.Repo.{Repo}
use Rattle.rnv_repo.specs.declared.write.Write.{Write}
use Rattle.rnv_repo.specs.declared.write.Write.TheVariants.{SetBase, PutBranch, DropBranch, OpenRequest, EditRequest, Autoclose, Finish}
use Rattle.rnv_journal.specs.Readings.{EachReadingNow, IsAtRest, IsReadingNow, ReadsOnly}
use Rattle.rnv_outcome.specs.Given.{Given}
use Rattle.rnv_outcome.specs.Law.{HaveDistinct}
use Rattle.rnv_outcome.specs.Steps.{steps}
use Rattle.rnv_spelling.specs.Spelling.{spelling}
use Rattle.rnv_plan.specs.Gather.{IsGathered}
use Rattle.rnv_plan.specs.declared.inputs.PickedFile.{PickedFile}
use Rattle.rnv_run.specs.Front.{SpellsFront}
use Rattle.rnv_run.specs.OnDisk.{IsBegun, ReadsFront}
use Rattle.rnv_run.specs.Run.{LeavesOutcome}
use Rattle.rnv_app.specs.Top.{IsRunEnd, Sight}

-- A call of the program: what is told of the folder and the disk, what the output held before and after, its faults
-- before and after, and the status.
pub record Call : Type 1 where
  pub sight : Sight
  pub out_tells : Type 0
  pub before : List ℕ
  pub after : List ℕ
  pub faults : ℕ
  pub now : ℕ
  pub code : ℕ

-- the same, of a disk by what stops may leave before and after the call, and what it holds before
abbrev pub call_of : Type 0 → List NamedFile → Type 0 → Past → Past → Image → Type 0 → List ℕ → List ℕ → ℕ → ℕ → ℕ → Call
call_of folder_tells files disk_tells entry exit seen out_tells before after faults now code = record {
  sight = record { folder_tells = folder_tells; files = files; disk_tells = disk_tells; seen = seen; entry = entry; exit = exit; same_disk = Unit {0} };
  out_tells = out_tells;
  before = before;
  after = after;
  faults = faults;
  now = now;
  code = code;
}

-- a run of a repository at a moment, over these files of the folder, ends as the top call's clause says
pub record IsRunCall (files : List NamedFile) (name : List ℕ) (moment : ℕ) (c : Call) : Type 0 where
  pub folder_told : c.sight.folder_tells
  pub disk_told : c.sight.disk_tells
  pub files_are : c.sight.files ≡ files
  pub ends : IsRunEnd c.sight name moment c.out_tells c.before c.after c.faults c.now c.code

-- the next call finds on the disk what a stop at some moment of this one, or after it, left there
pub record FindsLeft (a b : Call) : Type 0 where
  pub image : Image
  pub left : a.sight.exit.left a.sight.entry.moment image
  pub only : (c : Image) → LeftNow b.sight.entry c → c ≡ image

-- runs from the one with number 0 to the one with number n, each behind the one before
pub record AreRuns (files : List NamedFile) (name : List ℕ) (moment : ℕ) (calls : ℕ → Call) (n : ℕ) : Type 0 where
  pub each : (i : ℕ) → i ≤ n → IsRunCall files name moment (calls i)
  pub next : (i : ℕ) → i < n → FindsLeft (calls i) (calls (suc i))

-- the branch that a write puts, and the one on which it opens a request, if it does so
abbrev pub put_of : Write → List (List ℕ)
put_of (PutBranch repo branch) = branch.name ∷ []
put_of w = []

abbrev pub opened_of : Write → List (List ℕ)
opened_of (OpenRequest repo number branch updates title body labels made_at) = branch ∷ []
opened_of w = []

-- no branch is put twice, and on none two requests are opened
pub record IsOnce (ws : List Write) : Type 0 where
  pub branches : HaveDistinct (λ (n : List ℕ). n) (flat_map put_of ws)
  pub requests : HaveDistinct (λ (n : List ℕ). n) (flat_map opened_of ws)

-- The files of a branch are those of the base in which something was chosen for the branch, by path: each is the base's with the new
-- values at the chosen spans, and nothing else of it differs. Where an edit was not read back there are none.
abbrev pub HasEditedFiles : List MarkedFile → List PickedFile → Branch → Type 0
HasEditedFiles base picked b = AllZip (IsEditedFile base b.name) (filter (is_edited b.name) picked) b.files ⊎ (b.files ≡ [])

abbrev pub PutsEdited : List MarkedFile → List PickedFile → Write → Type 0
PutsEdited base picked (SetBase repo changes) = ⊥
PutsEdited base picked (PutBranch repo branch) = HasEditedFiles base picked branch
PutsEdited base picked w = Unit {0}

-- what is gathered of the base at a moment, and each file that is put has the base's bytes but for it
pub record ArePutEdited (files : List NamedFile) (moment : ℕ) (base : List MarkedFile) (ws : List Write) : Type 0 where
  pub picked : List PickedFile
  pub gathered : IsGathered files moment base picked
  pub each : AllByRecursion (PutsEdited base picked) ws

-- all was done, though its text may have been printed in part
abbrev pub IsDone : ℕ → Type 0
IsDone code = (code ≡ 0) ⊎ (code ≡ 10)

-- What the runs make together of the store, where the first began with some writes in it: at every moment of each run whatever
-- a stop leaves spells these writes and the first of those of the first run, from one run to the next no fewer, and once a run is
-- done all of them, each once and in order, with what the first run was to leave; and these make no branch and no request twice,
-- and the files that they put differ from the base only at the chosen spans.
pub record Compose (files : List NamedFile) (name : List ℕ) (moment : ℕ) (start : List Write) (first : Repo) (g : Given) (calls : ℕ → Call) (n : ℕ) : Type 0 where
  pub at_every_moment : (i : ℕ) → i ≤ n → ReadsOnly store_bytes (calls i).sight.entry (calls i).sight.exit (SpellsFront start (steps g first) 0)
  pub never_fewer : (i k least : ℕ) → i ≤ k → k ≤ n → ReadsFront store_bytes (calls i).sight.entry start (steps g first) least
      → ReadsFront store_bytes (calls k).sight.entry start (steps g first) least
  pub settled : IsDone (calls n).code → IsAtRest store_bytes (calls n).sight.exit (map spelling (start ++ steps g first))
  pub once : IsOnce (steps g first)
  pub outcome : IsDone (calls n).code → LeavesOutcome g name first (start ++ steps g first)
  pub edited : IsDone (calls n).code → ArePutEdited files moment first.files (steps g first)

-- ---- from any disk that has readings

-- a first run, behind writes that stood on a disk
pub record IsBegunOn (files : List NamedFile) (name : List ℕ) (moment : ℕ) (entry : Past) (start : List Write) (first : Repo) (g : Given) : Type 0 where
  pub reading : IsReadingNow store_bytes entry (map spelling start)
  pub begun : IsBegun files name moment start first g

-- Whatever a stop at this moment leaves has only readings that stood at entry, or each of them is ONE of these and the first writes
-- of ONE run over it.
pub data Origin (files : List NamedFile) (name : List ℕ) (moment : ℕ) (entry past : Past) : Type 0 where
  untouched : EachReadingNow store_bytes (IsReadingNow store_bytes entry) past → Origin files name moment entry past
  since : (start : List Write) (first : Repo) (g : Given) → IsBegunOn files name moment entry start first g → ReadsFront store_bytes past start (steps g first) 0 → Origin files name moment entry past

-- ONE run over ONE reading that stood at entry is done: the disk is at rest at these writes and all of its own, with what it was to
-- leave; it makes no branch and no request twice, and the files that it puts differ from the base only at the chosen spans
pub record IsSettled (files : List NamedFile) (name : List ℕ) (moment : ℕ) (entry exit : Past) : Type 0 where
  pub start : List Write
  pub first : Repo
  pub given : Given
  pub on : IsBegunOn files name moment entry start first given
  pub at_rest : IsAtRest store_bytes exit (map spelling (start ++ steps given first))
  pub outcome : LeavesOutcome given name first (start ++ steps given first)
  pub once : IsOnce (steps given first)
  pub edited : ArePutEdited files moment first.files (steps given first)

-- What the runs make together of a disk that has readings, also of one where an import was stopped.
pub record ComposeFrom (files : List NamedFile) (name : List ℕ) (moment : ℕ) (calls : ℕ → Call) (n : ℕ) : Type 0 where
  pub origin : (i : ℕ) → i ≤ n → Origin files name moment (calls 0).sight.entry (calls i).sight.entry
  pub settled : IsDone (calls n).code → IsSettled files name moment (calls 0).sight.entry (calls n).sight.exit
