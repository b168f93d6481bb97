-- What the words of a command tell of its answer.
use Rattle.std.specs.Result.{IfErr, IfOk}
use Rattle.std.proofs.Common.{◌≡◌, ◌≢◌, ◌⊎◌, inl, inr, ℕ, List, [], ◌∷◌, length, get_or, Result, Ok, Err, IsErrOf, ◌↔◌, sym, subst, ◌∙◌, ap, refl, arith, codes}
use Rattle.rnv_base.specs.Causes.{Rose, FaultsBy}
use Rattle.rnv_base.specs.Files.{NamedFile}
use Rattle.rnv_base.specs.Limits.{store_bytes}
use Rattle.rnv_base.specs.Moment.{IsMomentText}
use Rattle.rnv_disk.specs.Images.{Image}
use Rattle.rnv_disk.specs.Stops.{Past}
use Rattle.rnv_journal.specs.Readings.{KeepsReadings}
use Rattle.rnv_commands.proofs.Stops.{or_import}
use Rattle.rnv_commands.specs.OnDisk.{IsDamaged}
use Rattle.rnv_plan.specs.declared.group.Group.{Group}
use Rattle.rnv_plan.specs.declared.error.RunError.{RunError}
use Rattle.rnv_plan.specs.declared.error.RunError.TheVariants as run
use Rattle.rnv_plan.specs.Plan.{IsPlanned, IsPlanRefusal}
use Rattle.rnv_plan.specs.Refusal.{IfTold}
use Rattle.rnv_plan.proofs.Bases.{plan-one}
use Rattle.rnv_commands.specs.declared.error.CommandError.{CommandError}
use Rattle.rnv_commands.specs.declared.error.CommandError.TheVariants as command
use Rattle.rnv_run.specs.declared.on_disk.RunRefusal.{RunRefusal}
use Rattle.rnv_run.specs.declared.on_disk.RunRefusal.TheVariants as of_run
use Rattle.rnv_app.specs.declared.refusal.Refusal.{Refusal}
use Rattle.rnv_app.specs.declared.refusal.Refusal.TheVariants.{Memory, Usage, UnknownRepo, FolderFault, DiskFault, NotAJournal, Limit, IndexRefused, NotBuilt}
use Rattle.rnv_app.specs.declared.words.Words.{Words}
use Rattle.rnv_app.specs.declared.words.WordsError.{WordsError}
use Rattle.rnv_app.specs.declared.words.WordsError.TheVariants.{Usage as words_usage, Memory as words_memory}
use Rattle.rnv_app.specs.Words.{IsCommand, IsImport, IsOfStore, IsPlan, IsRun, IsShow, IsTimed, IsUsage}
use Rattle.rnv_app.specs.Text.{plan_text}
use Rattle.rnv_app.specs.Refusals.{code_of, plan_refusal_of, refusal_of, status_of, IsCause, IsCauseOr, IsTold}
use Rattle.rnv_app.specs.Top.{refusing, running, HasPlan, HasNoPlan, Imports, IsAnswered, IsDamagedOr, IsForPlan, IsImportEnd, IsFree, IsNamed, IsOfPlan, IsPrinted, IsPrintedInPart, IsRefusedWith, IsRunEnd, IsShowEnd, IsShowing, LeavesNoStore, Sight, Tells}
use Rattle.rnv_run.specs.OnDisk.{Runs}
use Rattle.rnv_run.proofs.Disks.{runs_none}
use Rattle.rnv_app.proofs.Four.{one-repo, one_time}
use Rattle.rnv_app.proofs.Ends.{Answer, done_at, part_at, usage_at}
use Rattle.rnv_app.proofs.Stores.{import_damaged, run_damaged, show_damaged}

pub has_plan : (words : List (List ℕ)) (files : List NamedFile) (text repo : List ℕ) (now : ℕ) (items : List Group) → IsPlan words repo now → IsPlanned repo now files items → ((error : RunError) → ¬ (IsPlanRefusal repo now files error)) → (time : List ℕ) × IsMomentText time now × (text ≡ plan_text time items) → HasPlan words files text
has_plan words files text repo now items asked planned free printed = record {
  repo = repo;
  now = now;
  asked = asked;
  items = items;
  planned = planned;
  free = free;
  time = printed.0;
  timed = printed.1;
  same = printed.2;
}

-- what all of the words and a plan of them say is one
no_cause : (words : List (List ℕ)) (files : List NamedFile) (repo : List ℕ) (now : ℕ) → IsPlan words repo now → ((error : RunError) → ¬ (IsPlanRefusal repo now files error)) → (error : RunError) → ¬ (HasNoPlan words files error)
no_cause words files repo now asked free error none =
    let same = one_time words (codes "plan") none.repo repo none.now now none.asked asked in
    free error (subst (λ (n : ℕ). IsPlanRefusal repo n files error) same.1 (subst (λ (r : List ℕ). IsPlanRefusal r none.now files error) same.0 none.cause))

one_cause : (words : List (List ℕ)) (files : List NamedFile) (e f : RunError) → HasNoPlan words files e → HasNoPlan words files f → e ≡ f
one_cause words files e f a b =
    let same = one_time words (codes "plan") a.repo b.repo a.now b.now a.asked b.asked in
    plan-one b.repo files b.now e f (subst (λ (n : ℕ). IsPlanRefusal b.repo n files e) same.1 (subst (λ (r : List ℕ). IsPlanRefusal r a.now files e) same.0 a.cause)) b.cause

-- a status of one cause is that of the other
or_one : (words : List (List ℕ)) (files : List NamedFile) (code : ℕ) (e f : RunError) → HasNoPlan words files e → HasNoPlan words files f → IsCauseOr (status_of e) code → IsCauseOr (status_of f) code
or_one words files code e f a b this = subst (λ (g : RunError). IsCauseOr (status_of g) code) (one_cause words files e f a b) this

-- the refusal of a plan

pub refusal_tells : (words : List (List ℕ)) (files : List NamedFile) (repo : List ℕ) (now : ℕ) (error : RunError) → error ≢ run.DiskFault → IsPlan words repo now → IfTold (IsPlanRefusal repo now files) error → Tells words files (Err (plan_refusal_of error))
refusal_tells words files repo now run.Memory ne asked cause = tt
refusal_tells words files repo now run.FolderFault ne asked cause = tt
refusal_tells words files repo now run.DiskFault ne asked cause = absurd (ne refl)
refusal_tells words files repo now run.UnknownRepo ne asked cause = record { repo = repo; now = now; asked = asked; cause = cause }
refusal_tells words files repo now (run.NotBuilt path) ne asked cause = record { repo = repo; now = now; asked = asked; cause = cause }
refusal_tells words files repo now (run.Limit which number) ne asked cause = record { repo = repo; now = now; asked = asked; cause = cause }
refusal_tells words files repo now (run.IndexRefused file line) ne asked cause = record { repo = repo; now = now; asked = asked; cause = cause }

pub refusal_plain : (error : RunError) → error ≢ run.DiskFault → IsOfPlan (plan_refusal_of error)
refusal_plain run.Memory ne = tt
refusal_plain run.FolderFault ne = tt
refusal_plain run.DiskFault ne = absurd (ne refl)
refusal_plain run.UnknownRepo ne = tt
refusal_plain (run.NotBuilt path) ne = tt
refusal_plain (run.Limit which number) ne = tt
refusal_plain (run.IndexRefused file line) ne = tt

pub plan_fault : (error : RunError) → plan_refusal_of error ≡ FolderFault → error ≡ run.FolderFault
plan_fault run.Memory e = cc
plan_fault run.FolderFault e = refl
plan_fault run.DiskFault e = cc
plan_fault run.UnknownRepo e = cc
plan_fault (run.NotBuilt path) e = cc
plan_fault (run.Limit which number) e = cc
plan_fault (run.IndexRefused file line) e = cc

-- words ask for one thing

not_both : (words : List (List ℕ)) (command repo : List ℕ) (now : ℕ) (name other : List ℕ) → IsTimed command words repo now → ¬ (IsCommand name words other)
not_both words command repo now name other timed two = absurd (omega (arith, ap length timed.four, ap length two.two))

one_timed : (words : List (List ℕ)) (command repo command' repo' : List ℕ) (now now' : ℕ) → IsTimed command words repo now → IsTimed command' words repo' now' → command ≡ command'
one_timed words command repo command' repo' now now' a b =
    ap (λ (l : List (List ℕ)). get_or l 0 []) (sym a.four ∙ b.four)

not_run : (words : List (List ℕ)) (repo repo' : List ℕ) (now now' : ℕ) → IsPlan words repo now → ¬ (IsRun words repo' now')
not_run words repo repo' now now' a b = absurd (omega (arith, ap length (one_timed words (codes "plan") repo (codes "run") repo' now now' a b)))

one_command : (words : List (List ℕ)) (name repo name' repo' : List ℕ) → IsCommand name words repo → IsCommand name' words repo' → (name ≡ name') × (repo ≡ repo')
one_command words name repo name' repo' a b =
    let same : name ∷ repo ∷ [] ≡ name' ∷ repo' ∷ [] = sym a.two ∙ b.two in
    (ap (λ (l : List (List ℕ)). get_or l 0 []) same, ap (λ (l : List (List ℕ)). get_or l 1 []) same)

not_show : (words : List (List ℕ)) (repo repo' : List ℕ) → IsImport words repo → ¬ (IsShow words repo')
not_show words repo repo' a b = absurd (omega (arith, ap length (one_command words (codes "import") repo (codes "show") repo' a b).0))

-- a command over the store is refused for neither of these
abbrev IsOwn : Refusal → Type 0
IsOwn Memory = ⊥
IsOwn Usage = Unit {0}
IsOwn UnknownRepo = ⊥
IsOwn FolderFault = ⊥
IsOwn DiskFault = ⊥
IsOwn (NotAJournal offset) = ⊥
IsOwn (Limit which number) = ⊥
IsOwn (IndexRefused file line) = Unit {0}
IsOwn (NotBuilt path) = Unit {0}

not_own : (error : CommandError) → ¬ (IsOwn (refusal_of error))
not_own command.Memory own = own
not_own command.UnknownRepo own = own
not_own command.FolderFault own = own
not_own command.DiskFault own = own
not_own (command.NotAJournal offset) own = own
not_own (command.Limit which number) own = own

-- a run is no misuse of words
run_never : (answer : Result (List ℕ) RunRefusal) → ¬ (running answer ≡ Err Usage)
run_never (Ok text) e = absurd (cc e)
run_never (Err (of_run.NotAJournal offset)) e = absurd (cc e)
run_never (Err (of_run.Ended run.Memory)) e = absurd (cc e)
run_never (Err (of_run.Ended run.FolderFault)) e = absurd (cc e)
run_never (Err (of_run.Ended run.DiskFault)) e = absurd (cc e)
run_never (Err (of_run.Ended run.UnknownRepo)) e = absurd (cc e)
run_never (Err (of_run.Ended (run.NotBuilt path))) e = absurd (cc e)
run_never (Err (of_run.Ended (run.Limit which number))) e = absurd (cc e)
run_never (Err (of_run.Ended (run.IndexRefused file line))) e = absurd (cc e)

abbrev first_refusal : Answer → Refusal → Refusal
first_refusal (Ok text) other = other
first_refusal (Err refusal) other = refusal

-- answers that differ
one_refusal : (answer : Answer) (a b : Refusal) → answer ≡ Err a → answer ≡ Err b → code_of a ≡ code_of b
one_refusal answer a b x y = ap (λ (r : Answer). code_of (first_refusal r Memory)) (sym x ∙ y)

abbrev count_text : Answer → ℕ
count_text (Ok text) = 1
count_text (Err refusal) = 0

own_never : (answer : Result (List ℕ) CommandError) (refusal : Refusal) → IsOwn refusal → ¬ (refusing answer ≡ Err refusal)
own_never (Ok text) refusal own e = absurd cc
own_never (Err error) refusal own e = not_own error (subst IsOwn (sym (ap (λ (a : Answer). first_refusal a Memory) e)) own)

module _ (s : Sight) (words : List (List ℕ)) (text : Answer) (answered : IsAnswered s words text) where
  -- words that ask for a plan have its answer, or memory ran out
  abbrev IsPlanOrNone : Type 0
  IsPlanOrNone = IsForPlan s words text ⊎ (s.same_disk × (text ≡ Err Memory))

  plan_or_none : (repo : List ℕ) (now : ℕ) → IsPlan words repo now → IsAnswered s words text → IsPlanOrNone
  plan_or_none repo now asked (inl p) = inl p
  plan_or_none repo now asked (inr (inl i)) = absurd (not_both words (codes "plan") repo now (codes "import") i.repo asked i.asked)
  plan_or_none repo now asked (inr (inr (inl i))) = absurd (not_both words (codes "plan") repo now (codes "show") i.repo asked i.asked)
  plan_or_none repo now asked (inr (inr (inr (inl r)))) = absurd (not_run words repo r.repo now r.now asked r.asked)
  plan_or_none repo now asked (inr (inr (inr (inr n)))) = none_then n.refused
    where
      none_then : ((text ≡ Err Usage) × IsUsage words) ⊎ ((text ≡ Err Memory) × ¬ (IsUsage words)) → IsPlanOrNone
      none_then (inl u) = absurd (u.1.plan repo now asked)
      none_then (inr m) = inr (n.same, m.0)

  -- the plan that there is, of words with another answer than want of memory
  plan_of : (repo : List ℕ) (now : ℕ) → IsPlan words repo now → ¬ (text ≡ Err Memory) → IsForPlan s words text
  plan_of repo now asked ne = the (plan_or_none repo now asked answered)
    where
      the : IsPlanOrNone → IsForPlan s words text
      the (inl p) = p
      the (inr m) = absurd (ne m.1)

  pub plan_same : (repo : List ℕ) (now : ℕ) → IsPlan words repo now → s.same_disk
  plan_same repo now asked = the (plan_or_none repo now asked answered)
    where
      the : IsPlanOrNone → s.same_disk
      the (inl p) = p.same
      the (inr m) = m.0

  usage_then : text ≡ Err Usage → IsAnswered s words text → IsUsage words
  usage_then e (inl p) = absurd (subst (λ (a : Answer). IfErr a IsOfPlan) e p.plain)
  usage_then e (inr (inl i)) = absurd (own_never i.answer Usage tt (sym i.is ∙ e))
  usage_then e (inr (inr (inl i))) = absurd (own_never i.answer Usage tt (sym i.is ∙ e))
  usage_then e (inr (inr (inr (inl r)))) = absurd (run_never r.answer (sym r.is ∙ e))
  usage_then e (inr (inr (inr (inr n)))) = none_then n.refused
    where
      none_then : ((text ≡ Err Usage) × IsUsage words) ⊎ ((text ≡ Err Memory) × ¬ (IsUsage words)) → IsUsage words
      none_then (inl u) = u.1
      none_then (inr m) = absurd (omega (arith, one_refusal text Usage Memory e m.0))

  -- where the words ask for nothing, the disk is left alone
  usage_alone : text ≡ Err Usage → IsAnswered s words text → s.same_disk
  usage_alone e (inl p) = p.same
  usage_alone e (inr (inl i)) = absurd (own_never i.answer Usage tt (sym i.is ∙ e))
  usage_alone e (inr (inr (inl i))) = absurd (own_never i.answer Usage tt (sym i.is ∙ e))
  usage_alone e (inr (inr (inr (inl r)))) = absurd (run_never r.answer (sym r.is ∙ e))
  usage_alone e (inr (inr (inr (inr n)))) = n.same

  usage_text : IsUsage words → IsAnswered s words text → text ≡ Err Usage
  usage_text u (inl p) = absurd (u.plan p.repo p.now p.asked)
  usage_text u (inr (inl i)) = absurd (u.import i.repo i.asked)
  usage_text u (inr (inr (inl i))) = absurd (u.show i.repo i.asked)
  usage_text u (inr (inr (inr (inl r)))) = absurd (u.run r.repo r.now r.asked)
  usage_text u (inr (inr (inr (inr n)))) = none_then n.refused
    where
      none_then : ((text ≡ Err Usage) × IsUsage words) ⊎ ((text ≡ Err Memory) × ¬ (IsUsage words)) → text ≡ Err Usage
      none_then (inl k) = k.0
      none_then (inr m) = absurd (m.1 u)

  module _ (tells : Type 0) (before after : List ℕ) (faults now : ℕ) (code : ℕ) (told : IsTold tells before after faults now text code) where
    pub usage_is : (code ≡ 2) ↔ IsUsage words
    usage_is = (
      λ e. usage_then (usage_at tells before after faults now text code told e) answered,
      λ u. (subst (λ (a : Answer). IsTold tells before after faults now a code) (usage_text u answered) told).status,
    )

    pub usage_same : code ≡ 2 → s.same_disk
    usage_same e = usage_alone (usage_at tells before after faults now text code told e) answered

    -- a status of a cause is none of these
    never : (n : ℕ) → code ≡ n → IsCause code → IsCause n
    never n e cause = subst IsCause e cause

    no_memory : text ≡ Err Memory → ¬ (IsCause code)
    no_memory m cause = let at = never 1 (subst (λ (a : Answer). IsTold tells before after faults now a code) m told).status cause in absurd (cc at)

    pub causes_is : (repo : List ℕ) (at : ℕ) → IsPlan words repo at → s.folder_tells → IsCause code → IsRefusedWith words s.files code
    causes_is repo at asked t cause = the (plan_or_none repo at asked answered)
      where
        by_text : (a : Answer) → IsTold tells before after faults now a code → Tells words s.files a → IsRefusedWith words s.files code
        by_text (Ok t') (inl w) plan = let not_so = never 0 w.status cause in absurd (cc not_so)
        by_text (Ok t') (inr p) plan = let not_so = never 10 p.status cause in absurd (cc not_so)
        by_text (Err Memory) d plan = let not_so = never 1 d.status cause in absurd (cc not_so)
        by_text (Err Usage) d plan = absurd plan
        by_text (Err UnknownRepo) d plan = record { error = run.UnknownRepo; plan = plan; status = sym d.status }
        by_text (Err FolderFault) d plan = let not_so = never 5 d.status cause in absurd (cc not_so)
        by_text (Err DiskFault) d plan = absurd plan
        by_text (Err (NotAJournal offset)) d plan = absurd plan
        by_text (Err (Limit which number)) d plan = record { error = run.Limit which number; plan = plan; status = sym d.status }
        by_text (Err (IndexRefused file line)) d plan = record { error = run.IndexRefused file line; plan = plan; status = sym d.status }
        by_text (Err (NotBuilt path)) d plan = record { error = run.NotBuilt path; plan = plan; status = sym d.status }

        the : IsPlanOrNone → IsRefusedWith words s.files code
        the (inl p) = by_text text told (p.told t)
        the (inr m) = absurd (no_memory m.1 cause)

    pub named_is : (repo : List ℕ) (at : ℕ) → IsPlan words repo at → s.folder_tells → tells → IsCause code → IsNamed words s.files before after faults now
    named_is repo at asked t k cause = the (plan_or_none repo at asked answered)
      where
        by_text : (a : Answer) → IsTold tells before after faults now a code → Tells words s.files a → IsNamed words s.files before after faults now
        by_text (Ok t') (inl w) plan = let not_so = never 0 w.status cause in absurd (cc not_so)
        by_text (Ok t') (inr p) plan = let not_so = never 10 p.status cause in absurd (cc not_so)
        by_text (Err Memory) d plan = let not_so = never 1 d.status cause in absurd (cc not_so)
        by_text (Err Usage) d plan = absurd plan
        by_text (Err UnknownRepo) d plan = record { error = run.UnknownRepo; plan = plan; line = d.line k }
        by_text (Err FolderFault) d plan = let not_so = never 5 d.status cause in absurd (cc not_so)
        by_text (Err DiskFault) d plan = absurd plan
        by_text (Err (NotAJournal offset)) d plan = absurd plan
        by_text (Err (Limit which number)) d plan = record { error = run.Limit which number; plan = plan; line = d.line k }
        by_text (Err (IndexRefused file line)) d plan = record { error = run.IndexRefused file line; plan = plan; line = d.line k }
        by_text (Err (NotBuilt path)) d plan = record { error = run.NotBuilt path; plan = plan; line = d.line k }

        the : IsPlanOrNone → IsNamed words s.files before after faults now
        the (inl p) = by_text text told (p.told t)
        the (inr m) = absurd (no_memory m.1 cause)

    ok_not_memory : (t : List ℕ) → text ≡ Ok t → ¬ (text ≡ Err Memory)
    ok_not_memory t e m = absurd (omega (arith, ap count_text (sym e ∙ m)))

    pub printed_is : (repo : List ℕ) (at : ℕ) → IsPlan words repo at → s.folder_tells → tells → code ≡ 0 → IsPrinted words s.files before after
    printed_is repo at asked t k e =
        let d = done_at tells before after faults now text code told e in
        let p = plan_of repo at asked (ok_not_memory d.0 d.1) in
        record { text = d.0; plan = subst (Tells words s.files) d.1 (p.told t); written = d.2 k }

    pub in_part_is : (repo : List ℕ) (at : ℕ) → IsPlan words repo at → s.folder_tells → tells → code ≡ 10 → IsPrintedInPart words s.files before after
    in_part_is repo at asked t k e =
        let d = part_at tells before after faults now text code told e in
        let p = plan_of repo at asked (ok_not_memory d.0 d.1) in
        record { text = d.0; plan = subst (Tells words s.files) d.1 (p.told t); count = (d.3 k).0; written = (d.3 k).1 }

    pub exactly_is : s.folder_tells → (error : RunError) → HasNoPlan words s.files error → IsCauseOr (status_of error) code
    exactly_is t error none = the (plan_or_none none.repo none.now none.asked answered)
      where
        by_code : (n : ℕ) → code ≡ n → IsCauseOr (status_of error) n → IsCauseOr (status_of error) code
        by_code n e h = subst (IsCauseOr (status_of error)) (sym e) h

        by_cause : (e : RunError) → code ≡ status_of e → HasNoPlan words s.files e → IsCauseOr (status_of e) (status_of e) → IsCauseOr (status_of error) code
        by_cause e same plan this = or_one words s.files code e error plan none (subst (IsCauseOr (status_of e)) (sym same) this)

        by_text : (a : Answer) → IsTold tells before after faults now a code → Tells words s.files a → IsCauseOr (status_of error) code
        by_text (Ok t') d plan = absurd (no_cause words s.files plan.repo plan.now plan.asked plan.free error none)
        by_text (Err Memory) d plan = by_code 1 d.status refl
        by_text (Err Usage) d plan = absurd plan
        by_text (Err UnknownRepo) d plan = by_cause run.UnknownRepo d.status plan refl
        by_text (Err FolderFault) d plan = by_code 5 d.status refl
        by_text (Err DiskFault) d plan = absurd plan
        by_text (Err (NotAJournal offset)) d plan = absurd plan
        by_text (Err (Limit which number)) d plan = by_cause (run.Limit which number) d.status plan refl
        by_text (Err (IndexRefused file line)) d plan = by_cause (run.IndexRefused file line) d.status plan refl
        by_text (Err (NotBuilt path)) d plan = by_cause (run.NotBuilt path) d.status plan refl

        the : IsPlanOrNone → IsCauseOr (status_of error) code
        the (inl p) = by_text text told (p.told t)
        the (inr m) = by_code 1 (subst (λ (b : Answer). IsTold tells before after faults now b code) m.1 told).status refl

    pub complete_is : (first last : ℕ) → FaultsBy first last text FolderFault → s.folder_tells → IsFree words s.files → ¬ (Rose first last) → ¬ (Rose faults now) → (code ≡ 0) ⊎ (code ≡ 1)
    complete_is first last f t b quiet still = the (plan_or_none b.repo b.now b.asked answered)
      where
        by_text : (a : Answer) → IsTold tells before after faults now a code → Tells words s.files a → FaultsBy first last a FolderFault → (code ≡ 0) ⊎ (code ≡ 1)
        by_text (Ok t') (inl w) plan f' = inl w.status
        by_text (Ok t') (inr p) plan f' = absurd (still p.rose)
        by_text (Err Memory) d plan f' = inr d.status
        by_text (Err Usage) d plan f' = absurd plan
        by_text (Err UnknownRepo) d plan f' = absurd (no_cause words s.files b.repo b.now b.asked b.free run.UnknownRepo plan)
        by_text (Err FolderFault) d plan f' = absurd (quiet (f'.failed refl))
        by_text (Err DiskFault) d plan f' = absurd plan
        by_text (Err (NotAJournal offset)) d plan f' = absurd plan
        by_text (Err (Limit which number)) d plan f' = absurd (no_cause words s.files b.repo b.now b.asked b.free (run.Limit which number) plan)
        by_text (Err (IndexRefused file line)) d plan f' = absurd (no_cause words s.files b.repo b.now b.asked b.free (run.IndexRefused file line) plan)
        by_text (Err (NotBuilt path)) d plan f' = absurd (no_cause words s.files b.repo b.now b.asked b.free (run.NotBuilt path) plan)

        the : IsPlanOrNone → (code ≡ 0) ⊎ (code ≡ 1)
        the (inl p) = by_text text told (p.told t) f
        the (inr m) = inr (subst (λ (a : Answer). IsTold tells before after faults now a code) m.1 told).status

    told_as : (a : Answer) → text ≡ a → IsTold tells before after faults now a code
    told_as a e = subst (λ (b : Answer). IsTold tells before after faults now b code) e told

    -- nothing was done
    imports_none : (repo : List ℕ) → KeepsReadings store_bytes s.entry s.exit → Imports s repo (Err command.Memory)
    imports_none repo keeps = record {
      stops = or_import store_bytes s.entry s.exit s.folder_tells s.files repo keeps;
      unwritten = λ ne. keeps;
      imported = λ t. tt;
      refused = λ t. tt;
    }

    shows_none : (repo : List ℕ) → KeepsReadings store_bytes s.entry s.exit → IsShowing s repo (Err command.Memory)
    shows_none repo keeps = record { stops = keeps; shown = λ t. tt; refused = λ t. tt }

    pub import_is : (repo : List ℕ) → IsImport words repo → IsImportEnd s repo tells before after faults now code
    import_is repo asked = the answered
      where
        end : (answer : Result (List ℕ) CommandError) → text ≡ refusing answer → Imports s repo answer → IsImportEnd s repo tells before after faults now code
        end answer e i = record { answer = answer; told = told_as (refusing answer) e; imports = i }

        none_then : KeepsReadings store_bytes s.entry s.exit → ((text ≡ Err Usage) × IsUsage words) ⊎ ((text ≡ Err Memory) × ¬ (IsUsage words)) → IsImportEnd s repo tells before after faults now code
        none_then keeps (inl u) = absurd (u.1.import repo asked)
        none_then keeps (inr m) = end (Err command.Memory) m.0 (imports_none repo keeps)

        the : IsAnswered s words text → IsImportEnd s repo tells before after faults now code
        the (inl p) = absurd (not_both words (codes "plan") p.repo p.now (codes "import") repo p.asked asked)
        the (inr (inl i)) = end i.answer i.is (subst (λ (r : List ℕ). Imports s r i.answer) (one_command words (codes "import") i.repo (codes "import") repo i.asked asked).1 i.imports)
        the (inr (inr (inl i))) = absurd (not_show words repo i.repo asked i.asked)
        the (inr (inr (inr (inl r)))) = absurd (not_both words (codes "run") r.repo r.now (codes "import") repo r.asked asked)
        the (inr (inr (inr (inr n)))) = none_then n.keeps n.refused

    pub show_is : (repo : List ℕ) → IsShow words repo → IsShowEnd s repo tells before after faults now code
    show_is repo asked = the answered
      where
        end : (answer : Result (List ℕ) CommandError) → text ≡ refusing answer → IsShowing s repo answer → IsShowEnd s repo tells before after faults now code
        end answer e i = record { answer = answer; told = told_as (refusing answer) e; showing = i }

        none_then : KeepsReadings store_bytes s.entry s.exit → ((text ≡ Err Usage) × IsUsage words) ⊎ ((text ≡ Err Memory) × ¬ (IsUsage words)) → IsShowEnd s repo tells before after faults now code
        none_then keeps (inl u) = absurd (u.1.show repo asked)
        none_then keeps (inr m) = end (Err command.Memory) m.0 (shows_none repo keeps)

        the : IsAnswered s words text → IsShowEnd s repo tells before after faults now code
        the (inl p) = absurd (not_both words (codes "plan") p.repo p.now (codes "show") repo p.asked asked)
        the (inr (inl i)) = absurd (not_show words i.repo repo i.asked asked)
        the (inr (inr (inl i))) = end i.answer i.is (subst (λ (r : List ℕ). IsShowing s r i.answer) (one_command words (codes "show") i.repo (codes "show") repo i.asked asked).1 i.showing)
        the (inr (inr (inr (inl r)))) = absurd (not_both words (codes "run") r.repo r.now (codes "show") repo r.asked asked)
        the (inr (inr (inr (inr n)))) = none_then n.keeps n.refused

    pub run_is : (repo : List ℕ) (at : ℕ) → IsRun words repo at → IsRunEnd s repo at tells before after faults now code
    run_is repo at asked = the answered
      where
        end : (answer : Result (List ℕ) RunRefusal) → text ≡ running answer → Runs s.folder_tells s.files s.disk_tells s.seen s.entry s.exit repo at answer → IsRunEnd s repo at tells before after faults now code
        end answer e r = record { answer = answer; told = told_as (running answer) e; runs = r }

        none_then : KeepsReadings store_bytes s.entry s.exit → ((text ≡ Err Usage) × IsUsage words) ⊎ ((text ≡ Err Memory) × ¬ (IsUsage words)) → IsRunEnd s repo at tells before after faults now code
        none_then keeps (inl u) = absurd (u.1.run repo at asked)
        none_then keeps (inr m) = end (Err (of_run.Ended run.Memory)) m.0 (runs_none s.folder_tells s.files s.disk_tells s.seen s.entry s.exit repo at keeps)

        the : IsAnswered s words text → IsRunEnd s repo at tells before after faults now code
        the (inl p) = absurd (not_run words p.repo repo p.now at p.asked asked)
        the (inr (inl i)) = absurd (not_both words (codes "run") repo at (codes "import") i.repo asked i.asked)
        the (inr (inr (inl i))) = absurd (not_both words (codes "run") repo at (codes "show") i.repo asked i.asked)
        the (inr (inr (inr (inl r)))) =
            let same = one_time words (codes "run") r.repo repo r.now at r.asked asked in
            end r.answer r.is (subst (λ (n : ℕ). Runs s.folder_tells s.files s.disk_tells s.seen s.entry s.exit repo n r.answer) same.1
            (subst (λ (n : List ℕ). Runs s.folder_tells s.files s.disk_tells s.seen s.entry s.exit n r.now r.answer) same.0 r.runs))
        the (inr (inr (inr (inr n)))) = none_then n.keeps n.refused

-- a refusal of a command over the store, as the program's

pub folder_of : (answer : Result (List ℕ) CommandError) → IsErrOf (refusing answer) FolderFault → IsErrOf answer command.FolderFault
folder_of (Ok text) is = absurd (cc is)
folder_of (Err command.Memory) is = absurd (cc is)
folder_of (Err command.UnknownRepo) is = absurd (cc is)
folder_of (Err command.FolderFault) is = refl
folder_of (Err command.DiskFault) is = absurd (cc is)
folder_of (Err (command.NotAJournal offset)) is = absurd (cc is)
folder_of (Err (command.Limit which number)) is = absurd (cc is)

pub disk_of : (answer : Result (List ℕ) CommandError) → IsErrOf (refusing answer) DiskFault → IsErrOf answer command.DiskFault
disk_of (Ok text) is = absurd (cc is)
disk_of (Err command.Memory) is = absurd (cc is)
disk_of (Err command.UnknownRepo) is = absurd (cc is)
disk_of (Err command.FolderFault) is = absurd (cc is)
disk_of (Err command.DiskFault) is = refl
disk_of (Err (command.NotAJournal offset)) is = absurd (cc is)
disk_of (Err (command.Limit which number)) is = absurd (cc is)

-- words that ask for nothing

abbrev pub IsNoText : List (List ℕ) → Answer → Type 0
IsNoText words text = ((text ≡ Err Usage) × IsUsage words) ⊎ ((text ≡ Err Memory) × ¬ (IsUsage words))

pub none_of : (words : List (List ℕ)) (error : WordsError) (refusal : Refusal) → (error ≡ words_usage → refusal ≡ Usage) → (error ≡ words_memory → refusal ≡ Memory)
    → IsErrOf {T = Words} (Err error) words_usage ↔ IsUsage words → IsNoText words (Err refusal)
none_of words words_usage refusal usage memory exactly = inl (ap Err (usage refl), exactly.0 refl)
none_of words words_memory refusal usage memory exactly = inr (ap Err (memory refl), λ u. absurd (cc (exactly.1 u)))

-- what is left of the disk, where these words or a plan are refused
module _ (old new : Image) (before now : Past) where
  pub none_left : (error : WordsError) (refusal : Refusal) → (error ≡ words_usage → refusal ≡ Usage) → (error ≡ words_memory → refusal ≡ Memory) → LeavesNoStore store_bytes old new before now refusal
  none_left words_usage refusal usage memory = subst (LeavesNoStore store_bytes old new before now) (sym (usage refl)) tt
  none_left words_memory refusal usage memory = subst (LeavesNoStore store_bytes old new before now) (sym (memory refl)) tt

  of_plan : (refusal : Refusal) → IsOfPlan refusal → LeavesNoStore store_bytes old new before now refusal
  of_plan Memory plain = tt
  of_plan Usage plain = tt
  of_plan UnknownRepo plain = tt
  of_plan FolderFault plain = tt
  of_plan DiskFault plain = tt
  of_plan (NotAJournal offset) plain = absurd plain
  of_plan (Limit which number) plain = tt
  of_plan (IndexRefused file line) plain = tt
  of_plan (NotBuilt path) plain = tt

  pub plan_left : (answer : Answer) → IfErr answer IsOfPlan → IfErr answer (LeavesNoStore store_bytes old new before now)
  plan_left (Ok text) plain = tt
  plan_left (Err refusal) plain = of_plan refusal plain

-- the text of a plan, or want of memory

pub tells_of : (words : List (List ℕ)) (files : List NamedFile) (answer : Answer) → IfOk answer (HasPlan words files) → IfErr answer (λ refusal. refusal ≡ Memory) → Tells words files answer
tells_of words files (Ok text) plan memory = plan
tells_of words files (Err refusal) plan memory = subst (λ (r : Refusal). Tells words files (Err r)) (sym memory) tt

pub plain_of : (answer : Answer) → IfErr answer (λ refusal. refusal ≡ Memory) → IfErr answer IsOfPlan
plain_of (Ok text) memory = tt
plain_of (Err refusal) memory = subst IsOfPlan (sym memory) tt

-- a refusal of a run, as the program's

pub run_folder_of : (answer : Result (List ℕ) RunRefusal) → IsErrOf (running answer) FolderFault → IsErrOf answer (of_run.Ended run.FolderFault)
run_folder_of (Ok text) is = absurd (cc is)
run_folder_of (Err (of_run.NotAJournal offset)) is = absurd (cc is)
run_folder_of (Err (of_run.Ended run.Memory)) is = absurd (cc is)
run_folder_of (Err (of_run.Ended run.FolderFault)) is = refl
run_folder_of (Err (of_run.Ended run.DiskFault)) is = absurd (cc is)
run_folder_of (Err (of_run.Ended run.UnknownRepo)) is = absurd (cc is)
run_folder_of (Err (of_run.Ended (run.NotBuilt path))) is = absurd (cc is)
run_folder_of (Err (of_run.Ended (run.Limit which number))) is = absurd (cc is)
run_folder_of (Err (of_run.Ended (run.IndexRefused file line))) is = absurd (cc is)

pub run_disk_of : (answer : Result (List ℕ) RunRefusal) → IsErrOf (running answer) DiskFault → IsErrOf answer (of_run.Ended run.DiskFault)
run_disk_of (Ok text) is = absurd (cc is)
run_disk_of (Err (of_run.NotAJournal offset)) is = absurd (cc is)
run_disk_of (Err (of_run.Ended run.Memory)) is = absurd (cc is)
run_disk_of (Err (of_run.Ended run.FolderFault)) is = absurd (cc is)
run_disk_of (Err (of_run.Ended run.DiskFault)) is = refl
run_disk_of (Err (of_run.Ended run.UnknownRepo)) is = absurd (cc is)
run_disk_of (Err (of_run.Ended (run.NotBuilt path))) is = absurd (cc is)
run_disk_of (Err (of_run.Ended (run.Limit which number))) is = absurd (cc is)
run_disk_of (Err (of_run.Ended (run.IndexRefused file line))) is = absurd (cc is)

-- ---- a command over the store, whichever it is

pub store_damaged : (s : Sight) (words : List (List ℕ)) (text : Answer) → IsAnswered s words text → (tells : Type 0) (before after : List ℕ) (faults now code : ℕ) → IsTold tells before after faults now text code → s.disk_tells
    → (repo : List ℕ) → IsOfStore words repo → (offset : ℕ) → IsDamaged store_bytes s.seen offset → IsDamagedOr code
store_damaged s words text answered tells before after faults now code told d repo asked offset damaged = by asked
  where
    by : IsOfStore words repo → IsDamagedOr code
    by (inl r) = run_damaged s repo tells before after faults now code r.0 (run_is s words text answered tells before after faults now code told repo r.0 r.1) d offset damaged
    by (inr (inl i)) = import_damaged s repo tells before after faults now code (import_is s words text answered tells before after faults now code told repo i) d offset damaged
    by (inr (inr w)) = show_damaged s repo tells before after faults now code (show_is s words text answered tells before after faults now code told repo w) d offset damaged
