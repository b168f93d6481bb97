-- What each status tells, from what was told of a text or a refusal.
use Rattle.std.specs.Option.{IfSome}
use Rattle.std.proofs.Common.{◌≡◌, ◌≢◌, ◌⊎◌, inl, inr, ℕ, List, ◌++◌, take, Result, Ok, Err, IsErrOf, sym, subst, ◌∙◌, ap, refl, arith}
use Rattle.rnv_base.specs.Causes.{Rose}
use Rattle.rnv_base.specs.Limits.{store_bytes}
use Rattle.rnv_plan.specs.declared.error.RunError.{RunError}
use Rattle.rnv_plan.specs.declared.error.RunError.TheVariants as run
use Rattle.rnv_run.specs.declared.on_disk.RunRefusal.{RunRefusal}
use Rattle.rnv_run.specs.declared.on_disk.RunRefusal.TheVariants as of_run
use Rattle.rnv_run.specs.OnDisk.{IsRefusedIn, Runs}
use Rattle.rnv_run.proofs.Exact.{refused_one, run_unrefused, stored_whole}
use Rattle.rnv_app.specs.Top.{running, IsFreeRun, IsRunCauseOr, IsRunEnd, Sight}
use Rattle.rnv_app.specs.declared.refusal.Refusal.{Refusal}
use Rattle.rnv_app.specs.declared.refusal.Refusal.TheVariants.{Memory, Usage, UnknownRepo, FolderFault, DiskFault, NotAJournal, Limit, IndexRefused, NotBuilt}
use Rattle.rnv_app.specs.Refusals.{code_of, refusal_text, line_of, status_of as error_status, IsLine, IsStatus, IsTold}

abbrev pub Answer : Type 0
Answer = Result (List ℕ) Refusal

refusal_status : (refusal : Refusal) → IsStatus (code_of refusal)
refusal_status Memory = refl
refusal_status Usage = refl
refusal_status UnknownRepo = refl
refusal_status FolderFault = refl
refusal_status DiskFault = refl
refusal_status (NotAJournal offset) = refl
refusal_status (Limit which number) = refl
refusal_status (IndexRefused file at) = refl
refusal_status (NotBuilt path) = refl

never_zero : (refusal : Refusal) → ¬ (code_of refusal ≡ 0)
never_zero Memory e = absurd (omega (arith, e))
never_zero Usage e = absurd (omega (arith, e))
never_zero UnknownRepo e = absurd (omega (arith, e))
never_zero FolderFault e = absurd (omega (arith, e))
never_zero DiskFault e = absurd (omega (arith, e))
never_zero (NotAJournal offset) e = absurd (omega (arith, e))
never_zero (Limit which number) e = absurd (omega (arith, e))
never_zero (IndexRefused file at) e = absurd (omega (arith, e))
never_zero (NotBuilt path) e = absurd (omega (arith, e))

never_ten : (refusal : Refusal) → ¬ (code_of refusal ≡ 10)
never_ten Memory e = absurd (omega (arith, e))
never_ten Usage e = absurd (omega (arith, e))
never_ten UnknownRepo e = absurd (omega (arith, e))
never_ten FolderFault e = absurd (omega (arith, e))
never_ten DiskFault e = absurd (omega (arith, e))
never_ten (NotAJournal offset) e = absurd (omega (arith, e))
never_ten (Limit which number) e = absurd (omega (arith, e))
never_ten (IndexRefused file at) e = absurd (omega (arith, e))
never_ten (NotBuilt path) e = absurd (omega (arith, e))

only_2 : (refusal : Refusal) → code_of refusal ≡ 2 → refusal ≡ Usage
only_2 Memory e = absurd (omega (arith, e))
only_2 Usage e = refl
only_2 UnknownRepo e = absurd (omega (arith, e))
only_2 FolderFault e = absurd (omega (arith, e))
only_2 DiskFault e = absurd (omega (arith, e))
only_2 (NotAJournal offset) e = absurd (omega (arith, e))
only_2 (Limit which number) e = absurd (omega (arith, e))
only_2 (IndexRefused file at) e = absurd (omega (arith, e))
only_2 (NotBuilt path) e = absurd (omega (arith, e))

only_5 : (refusal : Refusal) → code_of refusal ≡ 5 → refusal ≡ FolderFault
only_5 Memory e = absurd (omega (arith, e))
only_5 Usage e = absurd (omega (arith, e))
only_5 UnknownRepo e = absurd (omega (arith, e))
only_5 FolderFault e = refl
only_5 DiskFault e = absurd (omega (arith, e))
only_5 (NotAJournal offset) e = absurd (omega (arith, e))
only_5 (Limit which number) e = absurd (omega (arith, e))
only_5 (IndexRefused file at) e = absurd (omega (arith, e))
only_5 (NotBuilt path) e = absurd (omega (arith, e))

only_7 : (refusal : Refusal) → code_of refusal ≡ 7 → refusal ≡ DiskFault
only_7 Memory e = absurd (omega (arith, e))
only_7 Usage e = absurd (omega (arith, e))
only_7 UnknownRepo e = absurd (omega (arith, e))
only_7 FolderFault e = absurd (omega (arith, e))
only_7 DiskFault e = refl
only_7 (NotAJournal offset) e = absurd (omega (arith, e))
only_7 (Limit which number) e = absurd (omega (arith, e))
only_7 (IndexRefused file at) e = absurd (omega (arith, e))
only_7 (NotBuilt path) e = absurd (omega (arith, e))

only_8 : (refusal : Refusal) → code_of refusal ≡ 8 → (offset : ℕ) × (refusal ≡ NotAJournal offset)
only_8 Memory e = absurd (omega (arith, e))
only_8 Usage e = absurd (omega (arith, e))
only_8 UnknownRepo e = absurd (omega (arith, e))
only_8 FolderFault e = absurd (omega (arith, e))
only_8 DiskFault e = absurd (omega (arith, e))
only_8 (NotAJournal offset) e = (offset, refl)
only_8 (Limit which number) e = absurd (omega (arith, e))
only_8 (IndexRefused file at) e = absurd (omega (arith, e))
only_8 (NotBuilt path) e = absurd (omega (arith, e))

module _ (tells : Type 0) (before after : List ℕ) (faults now : ℕ) where
  abbrev pub Told : Answer → ℕ → Type 0
  Told answer code = IsTold tells before after faults now answer code

  abbrev pub Line : List ℕ → Type 0
  Line text = IsLine before after faults now text

  pub status_of : (answer : Answer) (code : ℕ) → Told answer code → IsStatus code
  status_of (Ok text) code (inl w) = subst IsStatus (sym w.status) refl
  status_of (Ok text) code (inr p) = subst IsStatus (sym p.status) refl
  status_of (Err refusal) code r = subst IsStatus (sym r.status) (refusal_status refusal)

  -- another status than 0 and 10
  pub refused_at : (answer : Answer) (code n : ℕ) → Told answer code → code ≡ n → n ≢ 0 → n ≢ 10 → (refusal : Refusal) × (answer ≡ Err refusal) × (code_of refusal ≡ n) × (tells → Line (refusal_text refusal))
  refused_at (Ok text) code n (inl w) e n0 n10 = absurd (n0 (sym e ∙ w.status))
  refused_at (Ok text) code n (inr p) e n0 n10 = absurd (n10 (sym e ∙ p.status))
  refused_at (Err refusal) code n r e n0 n10 = (refusal, refl, sym r.status ∙ e, r.line)

  pub usage_at : (answer : Answer) (code : ℕ) → Told answer code → code ≡ 2 → answer ≡ Err Usage
  usage_at answer code told e = let r = refused_at answer code 2 told e (λ k. absurd (omega (arith, k))) (λ k. absurd (omega (arith, k))) in r.1 ∙ ap Err (only_2 r.0 r.2)

  pub folder_at : (answer : Answer) (code : ℕ) → Told answer code → code ≡ 5 → answer ≡ Err FolderFault
  folder_at answer code told e = let r = refused_at answer code 5 told e (λ k. absurd (omega (arith, k))) (λ k. absurd (omega (arith, k))) in r.1 ∙ ap Err (only_5 r.0 r.2)

  pub disk_at : (answer : Answer) (code : ℕ) → Told answer code → code ≡ 7 → answer ≡ Err DiskFault
  disk_at answer code told e = let r = refused_at answer code 7 told e (λ k. absurd (omega (arith, k))) (λ k. absurd (omega (arith, k))) in r.1 ∙ ap Err (only_7 r.0 r.2)

  pub damaged_at : (answer : Answer) (code : ℕ) → Told answer code → code ≡ 8 → (offset : ℕ) × (answer ≡ Err (NotAJournal offset))
  damaged_at answer code told e =
      let r = refused_at answer code 8 told e (λ k. absurd (omega (arith, k))) (λ k. absurd (omega (arith, k))) in
      let o = only_8 r.0 r.2 in
      (o.0, r.1 ∙ ap Err o.1)

  pub done_at : (answer : Answer) (code : ℕ) → Told answer code → code ≡ 0 → (text : List ℕ) × (answer ≡ Ok text) × (tells → after ≡ before ++ text)
  done_at (Ok text) code (inl w) e = (text, refl, w.whole)
  done_at (Ok text) code (inr p) e = absurd (omega (arith, e, p.status))
  done_at (Err refusal) code r e = absurd (never_zero refusal (sym r.status ∙ e))

  pub part_at : (answer : Answer) (code : ℕ) → Told answer code → code ≡ 10 → (text : List ℕ) × (answer ≡ Ok text) × Rose faults now × (tells → (count : ℕ) × (after ≡ before ++ take count text))
  part_at (Ok text) code (inl w) e = absurd (omega (arith, e, w.status))
  part_at (Ok text) code (inr p) e = (text, refl, p.rose, p.part)
  part_at (Err refusal) code r e = absurd (never_ten refusal (sym r.status ∙ e))

  line_at : (refusal : Refusal) → Line (refusal_text refusal) → IfSome (line_of (code_of refusal)) Line
  line_at Memory line = line
  line_at Usage line = line
  line_at UnknownRepo line = line
  line_at FolderFault line = line
  line_at DiskFault line = line
  line_at (NotAJournal offset) line = tt
  line_at (Limit which number) line = tt
  line_at (IndexRefused file at) line = tt
  line_at (NotBuilt path) line = tt

  pub refused_line : (answer : Answer) (code : ℕ) → Told answer code → tells → IfSome (line_of code) Line
  refused_line (Ok text) code (inl w) t = subst (λ (n : ℕ). IfSome (line_of n) Line) (sym w.status) tt
  refused_line (Ok text) code (inr p) t = subst (λ (n : ℕ). IfSome (line_of n) Line) (sym p.status) tt
  refused_line (Err refusal) code r t = subst (λ (n : ℕ). IfSome (line_of n) Line) (sym r.status) (line_at refusal (r.line t))

-- a fault that is answered was counted

pub error_of : (answer : Answer) (refusal : Refusal) → answer ≡ Err refusal → IsErrOf answer refusal
error_of answer refusal e = subst (λ (a : Answer). IsErrOf a refusal) (sym e) refl

-- a run without a cause of a refusal and without a fault
pub run_complete : (s : Sight) (repo : List ℕ) (moment : ℕ) (tells : Type 0) (before after : List ℕ) (faults now code : ℕ) (Folds Disks : Type 0) → IsRunEnd s repo moment tells before after faults now code → s.folder_tells → s.disk_tells
    → IsFreeRun s.files repo moment s.seen → (code ≡ 5 → Folds) → (code ≡ 7 → Disks) → ¬ Folds → ¬ Disks → ¬ (Rose faults now) → (code ≡ 0) ⊎ (code ≡ 1)
run_complete s repo moment tells before after faults now code Folds Disks end t d free five seven folder disk still = by end.answer end.told end.runs
  where
    by : (answer : Result (List ℕ) RunRefusal) → IsTold tells before after faults now (running answer) code → Runs s.folder_tells s.files s.disk_tells s.seen s.entry s.exit repo moment answer → (code ≡ 0) ⊎ (code ≡ 1)
    by (Ok text) (inl w) runs = inl w.status
    by (Ok text) (inr p) runs = absurd (still p.rose)
    by (Err (of_run.NotAJournal offset)) r runs = absurd (free.whole offset (runs.refused t d))
    by (Err (of_run.Ended run.Memory)) r runs = inr r.status
    by (Err (of_run.Ended run.FolderFault)) r runs = absurd (folder (five r.status))
    by (Err (of_run.Ended run.DiskFault)) r runs = absurd (disk (seven r.status))
    by (Err (of_run.Ended run.UnknownRepo)) r runs = absurd (free.free run.UnknownRepo (runs.refused t d))
    by (Err (of_run.Ended (run.NotBuilt path))) r runs = absurd (free.free (run.NotBuilt path) (runs.refused t d))
    by (Err (of_run.Ended (run.Limit which number))) r runs = absurd (free.free (run.Limit which number) (runs.refused t d))
    by (Err (of_run.Ended (run.IndexRefused file line))) r runs = absurd (free.free (run.IndexRefused file line) (runs.refused t d))

-- a run whose refusal has this cause
pub run_exactly : (s : Sight) (repo : List ℕ) (moment : ℕ) (tells : Type 0) (before after : List ℕ) (faults now code : ℕ) → IsRunEnd s repo moment tells before after faults now code → s.folder_tells → s.disk_tells
    → (error : RunError) → IsRefusedIn s.files repo moment store_bytes s.seen error → IsRunCauseOr repo s.seen error code
run_exactly s repo moment tells before after faults now code end t d error cause = by end.answer end.told end.runs
  where
    one : (e : RunError) → IsRefusedIn s.files repo moment store_bytes s.seen e → code ≡ error_status e → IsRunCauseOr repo s.seen error code
    one e refused is = inl (is ∙ ap error_status (refused_one s.files repo moment store_bytes s.seen e error refused cause))

    by : (answer : Result (List ℕ) RunRefusal) → IsTold tells before after faults now (running answer) code → Runs s.folder_tells s.files s.disk_tells s.seen s.entry s.exit repo moment answer → IsRunCauseOr repo s.seen error code
    by (Ok text) told runs = absurd (run_unrefused s.folder_tells s.files repo moment store_bytes s.seen s.entry s.exit text error t (runs.done d) cause)
    by (Err (of_run.NotAJournal offset)) r runs = absurd (stored_whole store_bytes s.seen cause.old offset cause.stored (runs.refused t d))
    by (Err (of_run.Ended run.Memory)) r runs = inr (inl r.status)
    by (Err (of_run.Ended run.FolderFault)) r runs = inr (inr (inr (r.status, runs.image_told d)))
    by (Err (of_run.Ended run.DiskFault)) r runs = inr (inr (inl r.status))
    by (Err (of_run.Ended run.UnknownRepo)) r runs = one run.UnknownRepo (runs.refused t d) r.status
    by (Err (of_run.Ended (run.NotBuilt path))) r runs = one (run.NotBuilt path) (runs.refused t d) r.status
    by (Err (of_run.Ended (run.Limit which number))) r runs = one (run.Limit which number) (runs.refused t d) r.status
    by (Err (of_run.Ended (run.IndexRefused file line))) r runs = one (run.IndexRefused file line) (runs.refused t d) r.status
