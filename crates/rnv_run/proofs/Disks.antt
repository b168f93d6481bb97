-- What is said of stops, from the start of a forge to the end of a run over a disk.
use Rattle.std.proofs.Common.{◌⊎◌, inl, inr, IsErrOf, Option, None, ◌≡◌, ◌≢◌, ◌≤◌, IfErr, IfOk, OnOk, ℕ, List, [], ◌∷◌, ◌++◌, length, take, drop, map, Some, Result, Ok, Err, refl, sym, ap, subst, ◌∙◌, arith, append_assoc}
use Rattle.std.specs.List.{AllByRecursion}
use Rattle.std.proofs.lemmas.List.{append_cancel_left, drop_at, length-append, length-take, take_at, take-append-drop}
use Rattle.rnv_base.specs.Files.{NamedFile}
use Rattle.rnv_base.specs.Limits.{store_bytes}
use Rattle.rnv_commands.specs.OnDisk.{IsStored}
use Rattle.rnv_commands.proofs.Stops.{keeps_still}
use Rattle.rnv_disk.specs.Images.{Image}
use Rattle.rnv_disk.specs.Stops.{Past}
use Rattle.rnv_repo.specs.Store.{after, known}
use Rattle.rnv_repo.specs.WellFormed.{IsWellFormed}
use Rattle.rnv_repo.specs.declared.repo.Repo.{Repo}
use Rattle.rnv_repo.specs.declared.write.Write.{Write}
use Rattle.rnv_journal.specs.Readings.{IsAtRest, IsReadingNow, KeepsReadings, ReadsOnly}
use Rattle.rnv_journal.specs.declared.start.StartError.{StartError}
use Rattle.rnv_journal.specs.declared.start.StartError.TheVariants.{DiskFault as start_fault, NotAJournal as start_damaged, Memory as start_memory}
use Rattle.rnv_journal.proofs.Uses.{reads_then, reads_weaker}
use Rattle.rnv_desired.specs.Givens.{IsGiven}
use Rattle.rnv_outcome.specs.Given.{Given}
use Rattle.rnv_outcome.specs.Steps.{steps}
use Rattle.rnv_spelling.specs.Spelling.{spelling}
use Rattle.rnv_spelling.proofs.Formats.{some_is}
use Rattle.rnv_spelling.proofs.WriteFormats.{whole_again}
use Rattle.rnv_plan.specs.declared.error.RunError.{RunError}
use Rattle.rnv_plan.specs.declared.error.RunError.TheVariants.{Memory, FolderFault, DiskFault, UnknownRepo, NotBuilt, Limit, IndexRefused}
use Rattle.rnv_forge.specs.Forge.{LeavesWrites}
use Rattle.rnv_forge.specs.Writes.{length_of}
use Rattle.rnv_forge.specs.Start.{IsStoreRefusal, LeavesRefused}
use Rattle.rnv_forge.proofs.Uses.{leaves_weaker}
use Rattle.rnv_run.specs.declared.on_disk.RunRefusal.{RunRefusal}
use Rattle.rnv_run.specs.declared.on_disk.RunRefusal.TheVariants.{Ended, NotAJournal}
use Rattle.rnv_run.specs.Begun.{BeginsOrStays}
use Rattle.rnv_run.specs.Front.{IsFront, SpellsFront}
use Rattle.rnv_run.specs.OnDisk.{ended, IsBegun, IsFinished, IsNotRun, IsOfImage, IsRefusedIn, IsStartRefusal, LeavesNoStore, LeavesRun, ReadsFront, Runs}
use Rattle.rnv_run.specs.Repository.{IfCaused, IsOfRepo, IsRepoRefusal, IsRun, IsRunDone}
use Rattle.rnv_run.specs.Run.{IsResumed, IsStoppedRun, LeavesOutcome}
use Rattle.rnv_run.specs.Text.{PrintsRun}
use Rattle.rnv_run.proofs.Begun.{begins_later, keeps_begins, told_call}
use Rattle.rnv_run.proofs.Wanted.{given_under}

-- what holds of a run where images are told
pub told_run : (limit : ℕ) (tells : Type 0) (old new : Past) (Q : List (List ℕ) → Type 0) → ((t : ℕ) (c : Image) → new.left t c → tells) → old.moment ≤ new.moment
    → (tells → ReadsOnly limit old new Q) → ReadsOnly limit old new Q
told_run limit tells old new Q told later run = record {
  later = later;
  each = λ c left. (run (told old.moment c left)).each c left;
  before = λ t c le left. (run (told t c left)).before t c le left;
}

-- a byte string spells one write
pub same_write : (v w : Write) → IsWellFormed v → IsWellFormed w → spelling v ≡ spelling w → v ≡ w
same_write v w a b first = some_is v w (sym (whole_again (spelling v) v a.texts refl) ∙ whole_again (spelling v) w b.texts first)

-- byte strings spell one list of writes
pub same_writes : (vs ws : List Write) → AllByRecursion IsWellFormed vs → AllByRecursion IsWellFormed ws → map spelling vs ≡ map spelling ws → vs ≡ ws
same_writes [] [] a b e = refl
same_writes [] (w ∷ ws) a b e = absurd (cc e)
same_writes (v ∷ vs) [] a b e = absurd (cc e)
same_writes (v ∷ vs) (w ∷ ws) a b e =
    let first : spelling v ≡ spelling w = cc in
    let others : map spelling vs ≡ map spelling ws = cc in
    let head : v ≡ w = same_write v w a.0 b.0 first in
    let rest : vs ≡ ws = same_writes vs ws a.1 b.1 others in
    cc

module _ (limit : ℕ) (entry : Past) (start ws : List Write) (least : ℕ) (reads : ReadsFront limit entry start ws least) where
  -- the writes that are read of such a disk
  pub found_front : (found : List Write) → AllByRecursion IsWellFormed found → IsReadingNow limit entry (map spelling found) → IsFront start ws least found
  found_front found fits reading =
      let some = reads.each (map spelling found) reading in
      subst (IsFront start ws least) (same_writes some.writes found some.spelled.well_formed fits (sym some.spelled.spells)) some.each

  -- a disk that keeps its readings
  pub kept_front : (exit : Past) → KeepsReadings limit entry exit → ReadsOnly limit entry exit (SpellsFront start ws least)
  kept_front exit keeps = reads_weaker limit entry exit (IsReadingNow limit entry) (SpellsFront start ws least) reads.each (keeps reads.some)

  pub then_front : (mid exit : Past) → KeepsReadings limit entry mid → ReadsOnly limit mid exit (SpellsFront start ws least) → ReadsOnly limit entry exit (SpellsFront start ws least)
  then_front mid exit keeps run = reads_then limit entry mid exit (SpellsFront start ws least) (kept_front mid keeps) run

-- the first writes of a run that stand, and the others
pub stopped_at : (name : List ℕ) (start : List Write) (first : Repo) (g : Given) (least : ℕ) (now : List Write) → known name (after start []) ≡ Some first
    → (f : IsFront start (steps g first) least now)
    → IsStoppedRun g name start first (take f.count (steps g first)) (drop f.count (steps g first)) now
stopped_at name start first g least now there f = record { there = there; plan = sym (take-append-drop f.count (steps g first)); stands = f.is }

-- no fewer than those
pub front_weaker : (limit : ℕ) (old new : Past) (start ws : List Write) (least count : ℕ) → least ≤ count → count ≤ length ws → LeavesWrites limit old new (IsFront start (take count ws ++ drop count ws) (length (take count ws)))
    → LeavesWrites limit old new (IsFront start ws least)
front_weaker limit old new start ws least count le most run = leaves_weaker limit old new (IsFront start (take count ws ++ drop count ws) (length (take count ws))) (IsFront start ws least) each run
  where
    whole : take count ws ++ drop count ws ≡ ws
    whole = take-append-drop count ws

    each : (list : List Write) → IsFront start (take count ws ++ drop count ws) (length (take count ws)) list → IsFront start ws least list
    each list f = record {
      count = f.count;
      at_least = omega (arith, le, most, f.at_least, length-take count ws);
      at_most = omega (arith, f.at_most, ap length whole);
      is = f.is ∙ ap (λ (l : List Write). start ++ take f.count l) whole;
    }

-- all writes of a run that was stopped, its outcome, and the text of the last of them
pub finished : (limit : ℕ) (exit : Past) (tells : Type 0) (files : List NamedFile) (name : List ℕ) (moment : ℕ) (start : List Write) (first : Repo) (g : Given) (us vs old new : List Write) (text : List ℕ)
    → IsStoppedRun g name start first us vs old → IsResumed g name start first us vs new → (l : LeavesRun tells files name moment limit old exit text) → l.new ≡ new
    → IsFinished limit exit name moment start first g old text
finished limit exit tells files name moment start first g us vs old new text stopped resumed l same = record {
  at_rest = subst (λ (ws : List Write). IsAtRest limit exit (map spelling ws)) (same ∙ whole) l.at_rest;
  leaves = subst (λ (ws : List Write). LeavesOutcome g name first ws) whole resumed.leaves;
  count = length us;
  at_most = omega (arith, ap length stopped.plan, length-append us vs);
  found = stopped.stands ∙ ap (λ (ws : List Write). start ++ ws) (sym front);
  repo = l.done.run.repo;
  there = l.done.run.there;
  prints = subst (λ (ws : List Write). PrintsRun moment l.done.run.repo ws text) (rest ∙ (sym (drop_at us vs (length us) refl) ∙ ap (drop (length us)) (sym stopped.plan))) l.done.prints;
}
  where
    whole : new ≡ start ++ steps g first
    whole = resumed.all ∙ ap (λ (ws : List Write). start ++ ws) (sym stopped.plan)

    front : take (length us) (steps g first) ≡ us
    front = ap (take (length us)) stopped.plan ∙ take_at us vs (length us) refl

    rest : l.done.ws ≡ vs
    rest = append_cancel_left (start ++ us) l.done.ws vs (sym (ap (λ (ws : List Write). ws ++ l.done.ws) stopped.stands) ∙ (sym l.done.all ∙ (same ∙ (resumed.all ∙ sym (append_assoc start us vs)))))

-- the same of a run that may have been refused
pub finished_from : (r : Result (List ℕ) RunError) (limit : ℕ) (exit : Past) (tells : Type 0) (files : List NamedFile) (name : List ℕ) (moment : ℕ) (start : List Write) (first : Repo) (g : Given) (us vs old new : List Write)
    → IsStoppedRun g name start first us vs old → OnOk r (IsResumed g name start first us vs new) → IfOk r (IsRunDone tells files name moment old new)
    → OnOk r (IsAtRest limit exit (map spelling new)) → OnOk r (length_of new ≤ limit) → IfOk r (IsFinished limit exit name moment start first g old)
finished_from (Ok text) limit exit tells files name moment start first g us vs old new stopped resumed done rest room =
    finished limit exit tells files name moment start first g us vs old new text stopped resumed (record { new = new; done = done; at_rest = rest; room = room }) refl
finished_from (Err e) limit exit tells files name moment start first g us vs old new stopped resumed done rest room = tt

-- the room of a journal, within its limit
pub room_at : (ws : List Write) (n limit : ℕ) → n ≡ limit → length_of ws ≤ n → length_of ws ≤ limit
room_at ws n limit same most = subst (λ (m : ℕ). length_of ws ≤ m) same most

-- a run that leaves the disk at rest
pub leaves_run : (r : Result (List ℕ) RunError) (tells : Type 0) (files : List NamedFile) (name : List ℕ) (moment limit : ℕ) (old new : List Write) (exit : Past) → IfOk r (IsRunDone tells files name moment old new)
    → OnOk r (IsAtRest limit exit (map spelling new)) → OnOk r (length_of new ≤ limit) → IfOk r (LeavesRun tells files name moment limit old exit)
leaves_run (Ok text) tells files name moment limit old new exit done rest room = record { new = new; done = done; at_rest = rest; room = room }
leaves_run (Err e) tells files name moment limit old new exit done rest room = tt

-- ---- a run over a disk

ok_ended : (r : Result (List ℕ) RunError) (P Q : List ℕ → Type 0) → ((text : List ℕ) → P text → Q text) → IfOk r P → IfOk (ended r) Q
ok_ended (Ok text) P Q f p = f text p
ok_ended (Err e) P Q f p = tt

caused_in : (files : List NamedFile) (name : List ℕ) (moment limit : ℕ) (image : Image) (old : List Write) → IsStored limit image old → (error : RunError) → IfCaused (IsRepoRefusal files name moment limit old) error
    → IfCaused (IsRefusedIn files name moment limit image) error
caused_in files name moment limit image old stored Memory r = tt
caused_in files name moment limit image old stored FolderFault r = tt
caused_in files name moment limit image old stored DiskFault r = tt
caused_in files name moment limit image old stored UnknownRepo r = record { old = old; stored = stored; cause = r }
caused_in files name moment limit image old stored (NotBuilt path) r = record { old = old; stored = stored; cause = r }
caused_in files name moment limit image old stored (Limit which number) r = record { old = old; stored = stored; cause = r }
caused_in files name moment limit image old stored (IndexRefused path line) r = record { old = old; stored = stored; cause = r }

refused_ended : (r : Result (List ℕ) RunError) (files : List NamedFile) (name : List ℕ) (moment limit : ℕ) (image : Image) (old : List Write) → IsStored limit image old → IfErr r (IfCaused (IsRepoRefusal files name moment limit old))
    → IfErr (ended r) (IsNotRun files name moment limit image)
refused_ended (Ok text) files name moment limit image old stored r = tt
refused_ended (Err e) files name moment limit image old stored r = caused_in files name moment limit image old stored e r

-- what a refusal tells of the image
of_image : (name : List ℕ) (limit : ℕ) (image : Image) (old : List Write) → IsStored limit image old → (error : RunError) → IsOfRepo name old error → IsOfImage name limit image (Ended error)
of_image name limit image old stored Memory u = tt
of_image name limit image old stored FolderFault u = record { old = old; stored = stored; repo = u.repo; there = u.there }
of_image name limit image old stored DiskFault u = tt
of_image name limit image old stored UnknownRepo u = record { writes = old; stored = stored; unknown = u }
of_image name limit image old stored (NotBuilt path) u = record { old = old; stored = stored; repo = u.repo; there = u.there }
of_image name limit image old stored (Limit which number) u = record { old = old; stored = stored; repo = u.repo; there = u.there }
of_image name limit image old stored (IndexRefused path line) u = record { old = old; stored = stored; repo = u.repo; there = u.there }

ended_image : (r : Result (List ℕ) RunError) (name : List ℕ) (limit : ℕ) (image : Image) (old : List Write) → IsStored limit image old → IfErr r (IsOfRepo name old) → IfErr (ended r) (IsOfImage name limit image)
ended_image (Ok text) name limit image old stored u = tt
ended_image (Err e) name limit image old stored u = of_image name limit image old stored e u

-- a run behind a start leaves no disk whose bytes are no store
pub ended_left : (r : Result (List ℕ) RunError) (answer : Result (List ℕ) RunRefusal) → answer ≡ ended r → (limit : ℕ) (old new : Image) (before now : Past) → IfErr answer (LeavesNoStore limit old new before now)
ended_left r answer is limit old new before now = subst (λ (a : Result (List ℕ) RunRefusal). IfErr a (LeavesNoStore limit old new before now)) (sym is) (by r)
  where
    by : (q : Result (List ℕ) RunError) → IfErr (ended q) (LeavesNoStore limit old new before now)
    by (Ok text) = tt
    by (Err e) = tt

module _ (folder_tells disk_tells : Type 0) (files : List NamedFile) (image : Image) (entry mid exit : Past) (name : List ℕ) (moment : ℕ) (old : List Write) (r : Result (List ℕ) RunError)
    (keeps : KeepsReadings store_bytes entry mid) (reading : disk_tells → IsReadingNow store_bytes entry (map spelling old)) (stored : disk_tells → IsStored store_bytes image old)
    (told : (t : ℕ) (c : Image) → exit.left t c → disk_tells) (fits : AllByRecursion IsWellFormed old) (any : BeginsOrStays store_bytes (IsRun folder_tells files name moment) mid exit old)
    (unknown : IfErr r (IsOfRepo name old))
    (unwritten : IfErr r (λ error. error ≢ DiskFault → LeavesWrites store_bytes mid exit (λ ws. ws ≡ old))) (ran : IfOk r (LeavesRun folder_tells files name moment store_bytes old exit))
    (refused : folder_tells → IfErr r (IfCaused (IsRepoRefusal files name moment store_bytes old)))
    (resumed : folder_tells → (start : List Write) (first : Repo) (g : Given) (us vs : List Write) → IsGiven folder_tells files first.files moment g → IsStoppedRun g name start first us vs old
    → IfOk r (IsFinished store_bytes exit name moment start first g old))
    (resumed_any : folder_tells → (start : List Write) (first : Repo) (g : Given) (us vs : List Write) → IsGiven folder_tells files first.files moment g → IsStoppedRun g name start first us vs old
    → LeavesWrites store_bytes mid exit (IsFront start (us ++ vs) (length us))) where
  abbrev over : List Write → List Write → Type 0
  over = IsRun folder_tells files name moment

  wished : (start : List Write) (first : Repo) (g : Given) → IsBegun files name moment start first g → IsGiven folder_tells files first.files moment g
  wished start first g begun = given_under (Unit {0}) folder_tells files first.files moment g (λ t. tt) begun.is_given

  here : (start : List Write) (first : Repo) (g : Given) (least : ℕ) → disk_tells → ReadsFront store_bytes entry start (steps g first) least → IsFront start (steps g first) least old
  here start first g least d reads = found_front store_bytes entry start (steps g first) least reads old fits (reading d)

  kept_unwritten : (q : Result (List ℕ) RunError) → IfErr q (λ error. error ≢ DiskFault → LeavesWrites store_bytes mid exit (λ ws. ws ≡ old)) → IfErr (ended q) (λ refusal. refusal ≢ Ended DiskFault → KeepsReadings store_bytes entry exit)
  kept_unwritten (Ok text) u = tt
  kept_unwritten (Err e) u = λ ne. keeps_still store_bytes disk_tells entry mid exit old keeps reading told (u (λ same. ne (ap Ended same)))

  pub runs_of : Runs folder_tells files disk_tells image entry exit name moment (ended r)
  runs_of = record {
    begins = told_call store_bytes over entry mid exit disk_tells old keeps reading told any;
    stops = λ start first g least t begun reads.
        let W = steps g first in
        then_front store_bytes entry start W least reads mid exit keeps (told_run store_bytes disk_tells mid exit (SpellsFront start W least) told (begins_later store_bytes over mid exit old any) (λ d.
        let f = here start first g least d reads in
        front_weaker store_bytes mid exit start W least f.count f.at_least f.at_most
        (resumed_any t start first g (take f.count W) (drop f.count W) (wished start first g begun) (stopped_at name start first g least old begun.there f))));
    finished = λ start first g least t d begun reads.
        let W = steps g first in
        let f = here start first g least d reads in
        ok_ended r _ _ (λ text h. record { old = old; stored = stored d; reading = reading d; finished = h }) (resumed t start first g (take f.count W) (drop f.count W) (wished start first g begun) (stopped_at name start first g least old begun.there f));
    unwritten = kept_unwritten r unwritten;
    done = λ d. ok_ended r _ _ (λ text leaves. record { old = old; stored = stored d; reading = reading d; leaves = leaves }) ran;
    refused = λ t d. refused_ended r files name moment store_bytes image old (stored d) (refused t);
    image_told = λ d. ended_image r name store_bytes image old (stored d) unknown;
  }

-- the same of an answer that is this one
pub runs_as : (folder_tells : Type 0) (files : List NamedFile) (disk_tells : Type 0) (image : Image) (entry exit : Past) (name : List ℕ) (moment : ℕ) (answer other : Result (List ℕ) RunRefusal) → answer ≡ other
    → Runs folder_tells files disk_tells image entry exit name moment other → Runs folder_tells files disk_tells image entry exit name moment answer
runs_as folder_tells files disk_tells image entry exit name moment answer other same runs = subst (Runs folder_tells files disk_tells image entry exit name moment) (sym same) runs

-- a start that was refused
start_refused : (files : List NamedFile) (name : List ℕ) (moment limit : ℕ) (image : Image) (error : StartError) (refusal : RunRefusal) → IsStartRefusal error refusal → IsStoreRefusal limit image error → IsNotRun files name moment limit image refusal
start_refused files name moment limit image start_fault refusal is r = subst (IsNotRun files name moment limit image) (sym is) tt
start_refused files name moment limit image (start_damaged offset) refusal is r = subst (IsNotRun files name moment limit image) (sym is) r
start_refused files name moment limit image start_memory refusal is r = subst (IsNotRun files name moment limit image) (sym is) tt

start_image : (name : List ℕ) (limit : ℕ) (image : Image) (error : StartError) (refusal : RunRefusal) → IsStartRefusal error refusal → IsStoreRefusal limit image error → IsOfImage name limit image refusal
start_image name limit image start_fault refusal is r = subst (IsOfImage name limit image) (sym is) tt
start_image name limit image (start_damaged offset) refusal is r = subst (IsOfImage name limit image) (sym is) r
start_image name limit image start_memory refusal is r = subst (IsOfImage name limit image) (sym is) tt

pub start_left : (limit : ℕ) (old new : Image) (before now : Past) (error : StartError) (refusal : RunRefusal) → IsStartRefusal error refusal → LeavesRefused limit old new before now error → LeavesNoStore limit old new before now refusal
start_left limit old new before now start_fault refusal is left = subst (LeavesNoStore limit old new before now) (sym is) tt
start_left limit old new before now (start_damaged offset) refusal is left = subst (LeavesNoStore limit old new before now) (sym is) left
start_left limit old new before now start_memory refusal is left = subst (LeavesNoStore limit old new before now) (sym is) tt

pub runs_refused : (folder_tells : Type 0) (files : List NamedFile) (disk_tells : Type 0) (image : Image) (entry exit : Past) (name : List ℕ) (moment : ℕ) (error : StartError) (refusal : RunRefusal) → KeepsReadings store_bytes entry exit
    → IsStartRefusal error refusal → (disk_tells → IsStoreRefusal store_bytes image error) → Runs folder_tells files disk_tells image entry exit name moment (Err refusal)
runs_refused folder_tells files disk_tells image entry exit name moment error refusal keeps is r = record {
  begins = keeps_begins store_bytes (IsRun folder_tells files name moment) entry exit keeps;
  stops = λ start first g least t begun reads. kept_front store_bytes entry start (steps g first) least reads exit keeps;
  finished = λ start first g least t d begun reads. tt;
  unwritten = λ ne. keeps;
  done = λ d. tt;
  refused = λ t d. start_refused files name moment store_bytes image error refusal is (r d);
  image_told = λ d. start_image name store_bytes image error refusal is (r d);
}

-- nothing was done, for want of memory
pub runs_none : (folder_tells : Type 0) (files : List NamedFile) (disk_tells : Type 0) (image : Image) (entry exit : Past) (name : List ℕ) (moment : ℕ) → KeepsReadings store_bytes entry exit
    → Runs folder_tells files disk_tells image entry exit name moment (Err (Ended Memory))
runs_none folder_tells files disk_tells image entry exit name moment keeps = record {
  begins = keeps_begins store_bytes (IsRun folder_tells files name moment) entry exit keeps;
  stops = λ start first g least t begun reads. kept_front store_bytes entry start (steps g first) least reads exit keeps;
  finished = λ start first g least t d begun reads. tt;
  unwritten = λ ne. keeps;
  done = λ t. tt;
  refused = λ t d. tt;
  image_told = λ d. tt;
}
