-- One run after another, by the top call's clause alone.
use Rattle.std.proofs.Common.{◌≡◌, ◌⊎◌, ◌≤◌, ◌<◌, ◌+◌, ◌-◌, ◌++◌, inl, inr, ℕ, zero, suc, List, [], take, map, Result, Ok, Err, IfOk, refl, sym, ◌∙◌, ap, subst, arith, append-nil}
use Rattle.std.specs.List.{AllByRecursion}
use Rattle.rnv_base.specs.Files.{NamedFile}
use Rattle.rnv_base.specs.Limits.{store_bytes}
use Rattle.rnv_commands.specs.OnDisk.{IsStored}
use Rattle.rnv_desired.proofs.Apart.{desired_apart, given_fit}
use Rattle.rnv_disk.specs.Images.{Image}
use Rattle.rnv_disk.specs.Stops.{LeftNow, Past}
use Rattle.rnv_repo.specs.Store.{ArePermitted, IsSound, after}
use Rattle.rnv_repo.specs.WellFormed.{IsWellFormed}
use Rattle.rnv_repo.specs.declared.repo.Repo.{Repo}
use Rattle.rnv_repo.specs.declared.write.Write.{Write}
use Rattle.rnv_journal.proofs.Uses.{each_weaker}
use Rattle.rnv_journal.specs.Reading.{EachReading, HasReadings, IsReading}
use Rattle.rnv_journal.specs.Readings.{EachReadingNow, HasReadingsNow, IsAtRest, IsReadingNow, ReadsOnly}
use Rattle.rnv_outcome.specs.Given.{Given}
use Rattle.rnv_outcome.specs.Law.{IsFit}
use Rattle.rnv_outcome.specs.Steps.{steps}
use Rattle.rnv_outcome.proofs.Named.{all_at}
use Rattle.rnv_spelling.specs.Spelling.{spelling}
use Rattle.rnv_run.specs.declared.on_disk.RunRefusal.{RunRefusal}
use Rattle.rnv_run.specs.Begun.{LeavesOf, LeftOf}
use Rattle.rnv_run.specs.Begun.LeftOf.{begun as was_begun, kept}
use Rattle.rnv_run.specs.Front.{SpellsFront}
use Rattle.rnv_run.specs.OnDisk.{HasFinished, HasRun, IsBegun, ReadsFront}
use Rattle.rnv_run.specs.Repository.{IsRun}
use Rattle.rnv_run.specs.Run.{LeavesOutcome}
use Rattle.rnv_app.specs.Top.{running}
use Rattle.rnv_app.proofs.Ends.{done_at, part_at}
use Rattle.rnv_run.proofs.Stored.{sound_after}
use Rattle.rnv_run.proofs.Wanted.{given_under}
use Rattle.rnv_composition.proofs.Edited.{put_edited}
use Rattle.rnv_composition.proofs.Once.{steps_once}
use Rattle.rnv_composition.specs.History.{ArePutEdited, AreRuns, Call, Compose, ComposeFrom, FindsLeft, IsBegunOn, IsDone, IsRunCall, IsSettled, Origin}
use Rattle.rnv_composition.specs.History.Origin.{since, untouched}

-- what a stop left is read as before
module _ (limit : ℕ) (start ws : List Write) (least : ℕ) where
  found_then : (old new next : Past) (image : Image) → ReadsOnly limit old new (SpellsFront start ws least) → new.left old.moment image → ((c : Image) → LeftNow next c → c ≡ image) → ReadsFront limit next start ws least
  found_then old new next image run left only = record {
    some = λ c there. subst (λ (d : Image). HasReadings limit d) (sym (only c there)) (run.each image left).some;
    each = λ list reading. (run.each image left).each list (subst (λ (d : Image). IsReading limit d list) (only reading.image reading.left) reading.reading);
  }

ok_of : (answer : Result (List ℕ) RunRefusal) (P : List ℕ → Type 0) (text : List ℕ) → running answer ≡ Ok text → IfOk answer P → (t : List ℕ) × P t
ok_of (Ok t) P text e p = (t, p)
ok_of (Err refusal) P text e p = absurd (cc e)

-- what holds of the text of a run that was done
done_of : (files : List NamedFile) (name : List ℕ) (moment : ℕ) (c : Call) (is : IsRunCall files name moment c) (P : List ℕ → Type 0) → IsDone c.code → IfOk is.ends.answer P → (t : List ℕ) × P t
done_of files name moment c is P (inl zero_is) p =
    let d = done_at c.out_tells c.before c.after c.faults c.now (running is.ends.answer) c.code is.ends.told zero_is in ok_of is.ends.answer P d.0 d.1 p
done_of files name moment c is P (inr ten_is) p =
    let d = part_at c.out_tells c.before c.after c.faults c.now (running is.ends.answer) c.code is.ends.told ten_is in ok_of is.ends.answer P d.0 d.1 p

-- what a first run is given is fit, where some writes behind those that it began with are stored
fit_stored : (files : List NamedFile) (name : List ℕ) (moment limit : ℕ) (image : Image) (start more : List Write) (first : Repo) (g : Given) → IsBegun files name moment start first g → IsStored limit image (start ++ more) → IsFit g
fit_stored files name moment limit image start more first g begun stored =
    let sound : IsSound first = all_at (λ (r : Repo). r.name) IsSound name (after start []) first (sound_after start more stored.well_formed stored.permitted).each begun.there in
    given_fit files first.files moment g sound.files begun.is_given

module _ (files : List NamedFile) (name : List ℕ) (moment : ℕ) (start : List Write) (first : Repo) (g : Given) (begun : IsBegun files name moment start first g) where
  abbrev W : List Write
  W = steps g first

  begun_in : (c : Call) → IsRunCall files name moment c → IsBegun c.sight.files name moment start first g
  begun_in c is = subst (λ (fs : List NamedFile). IsBegun fs name moment start first g) (sym is.files_are) begun

  during : (c : Call) → IsRunCall files name moment c → (least : ℕ) → ReadsFront store_bytes c.sight.entry start W least → ReadsOnly store_bytes c.sight.entry c.sight.exit (SpellsFront start W least)
  during c is least reads = is.ends.runs.stops start first g least is.folder_told (begun_in c is) reads

  pub then_next : (a b : Call) → IsRunCall files name moment a → FindsLeft a b → (least : ℕ) → ReadsFront store_bytes a.sight.entry start W least → ReadsFront store_bytes b.sight.entry start W least
  then_next a b is found least reads = found_then store_bytes start W least a.sight.entry a.sight.exit b.sight.entry found.image (during a is least reads) found.left found.only

  pub finished_by : (c : Call) → IsRunCall files name moment c → ReadsFront store_bytes c.sight.entry start W 0 → IsDone c.code → (t : List ℕ) × HasFinished store_bytes c.sight.seen c.sight.entry c.sight.exit name moment start first g t
  finished_by c is reads done =
      done_of files name moment c is (HasFinished store_bytes c.sight.seen c.sight.entry c.sight.exit name moment start first g) done (is.ends.runs.finished start first g 0 is.folder_told is.disk_told (begun_in c is) reads)

  pub finished_edited : (image : Image) (entry exit : Past) (text : List ℕ) → HasFinished store_bytes image entry exit name moment start first g text → ArePutEdited files moment first.files W
  finished_edited image entry exit text has =
      put_edited files moment first g begun.is_given
      (fit_stored files name moment store_bytes image start (take has.finished.count W) first g begun (subst (λ (ws : List Write). IsStored store_bytes image ws) has.finished.found has.stored))

  module _ (calls : ℕ → Call) (n : ℕ) (are : AreRuns files name moment calls n) where
    later_by : (d i least : ℕ) → i + d ≤ n → ReadsFront store_bytes (calls i).sight.entry start W least → ReadsFront store_bytes (calls (i + d)).sight.entry start W least
    later_by zero i least le reads = subst (λ (k : ℕ). ReadsFront store_bytes (calls k).sight.entry start W least) (omega arith) reads
    later_by (suc d) i least le reads =
        let here = later_by d i least (omega (arith, le)) reads in
        let after = then_next (calls (i + d)) (calls (suc (i + d))) (are.each (i + d) (omega (arith, le))) (are.next (i + d) (omega (arith, le))) least here in
        subst (λ (k : ℕ). ReadsFront store_bytes (calls k).sight.entry start W least) (omega arith) after

    later_at : (i k least : ℕ) → i ≤ k → k ≤ n → ReadsFront store_bytes (calls i).sight.entry start W least → ReadsFront store_bytes (calls k).sight.entry start W least
    later_at i k least le most reads =
        let whole : i + (k - i) ≡ k = omega (arith, le) in
        subst (λ (j : ℕ). ReadsFront store_bytes (calls j).sight.entry start W least) whole (later_by (k - i) i least (omega (arith, le, most)) reads)

    pub all_compose : ReadsFront store_bytes (calls 0).sight.entry start W 0 → Compose files name moment start first g calls n
    all_compose reads = record {
      at_every_moment = λ i le. during (calls i) (are.each i le) 0 (later_at 0 i 0 (omega arith) le reads);
      never_fewer = λ i k least le most from. later_at i k least le most from;
      settled = λ done. (end done).1.finished.at_rest;
      once = steps_once g first (desired_apart first.files begun.is_given.picked g.items begun.is_given.desired);
      outcome = λ done. (end done).1.finished.leaves;
      edited = λ done. finished_edited (calls n).sight.seen (calls n).sight.entry (calls n).sight.exit (end done).0 (end done).1;
    }
      where
        end : IsDone (calls n).code → (t : List ℕ) × HasFinished store_bytes (calls n).sight.seen (calls n).sight.entry (calls n).sight.exit name moment start first g t
        end done = finished_by (calls n) (are.each n (omega arith)) (later_at 0 n 0 (omega arith) (omega arith) reads) done

-- ---- from any disk that has readings

module _ (files : List NamedFile) (name : List ℕ) (moment : ℕ) (entry : Past) where
  -- what the next call finds is what was left
  found : (P : List (List ℕ) → Type 0) (a b : Call) (f : FindsLeft a b) → EachReading store_bytes P f.image → EachReadingNow store_bytes P b.sight.entry
  found P a b f reads c left = subst (λ (d : Image). EachReading store_bytes P d) (sym (f.only c left)) reads

  -- readings of which each is so
  front_of : (past : Past) (start ws : List Write) → EachReadingNow store_bytes (SpellsFront start ws 0) past → ReadsFront store_bytes past start ws 0
  front_of past start ws reads = record { some = λ c left. (reads c left).some; each = λ list r. (reads r.image r.left).each list r.reading }

  -- a run over a reading that stood at entry
  begun_of : (folder : Type 0) (t : folder) (fs : List NamedFile) → fs ≡ files → (old ws : List Write) (run : IsRun folder fs name moment old ws) → IsBegun files name moment old run.repo run.given
  begun_of folder t fs same old ws run =
      subst (λ (f : List NamedFile). IsBegun f name moment old run.repo run.given) same
      (record { there = run.there; is_given = given_under folder (Unit {0}) fs run.repo.files moment run.given (λ u. t) run.is_given })

  next : (a b : Call) → IsRunCall files name moment a → FindsLeft a b → Origin files name moment entry a.sight.entry → Origin files name moment entry b.sight.entry
  next a b is f (untouched reads) = by ((is.ends.runs.begins (λ c left. (reads c left).some)).each f.image f.left)
    where
      -- a reading that stood before this call stood at entry
      earlier : (list : List (List ℕ)) → IsReadingNow store_bytes a.sight.entry list → IsReadingNow store_bytes entry list
      earlier list r = (reads r.image r.left).each list r.reading

      by : LeftOf store_bytes (IsRun a.sight.folder_tells a.sight.files name moment) a.sight.entry f.image → Origin files name moment entry b.sight.entry
      by (kept all) = untouched (found (IsReadingNow store_bytes entry) a b f (each_weaker store_bytes (IsReadingNow store_bytes a.sight.entry) (IsReadingNow store_bytes entry) earlier f.image all))
      by (was_begun old ws reading run all) =
          since old run.repo run.given (record { reading = earlier (map spelling old) reading; begun = begun_of a.sight.folder_tells is.folder_told a.sight.files is.files_are old ws run })
          (front_of b.sight.entry old (steps run.given run.repo)
          (found (SpellsFront old (steps run.given run.repo) 0) a b f (subst (λ (l : List Write). EachReading store_bytes (SpellsFront old l 0) f.image) run.is all)))
  next a b is f (since start first g on reads) = since start first g on (then_next files name moment start first g on.begun a b is f 0 reads)

  origin_at : (calls : ℕ → Call) (n : ℕ) → (calls 0).sight.entry ≡ entry → HasReadingsNow store_bytes entry → AreRuns files name moment calls n → (i : ℕ) → i ≤ n → Origin files name moment entry (calls i).sight.entry
  origin_at calls n same some are zero le = subst (λ (past : Past). Origin files name moment entry past) (sym same) (untouched (λ c left. record { some = some c left; each = λ list reading. record { image = c; left = left; reading = reading } }))
  origin_at calls n same some are (suc i) le = next (calls i) (calls (suc i)) (are.each i (omega (arith, le))) (are.next i (omega (arith, le))) (origin_at calls n same some are i (omega (arith, le)))

  settled_at : (c : Call) → IsRunCall files name moment c → Origin files name moment entry c.sight.entry → IsDone c.code → IsSettled files name moment entry c.sight.exit
  settled_at c is (since start first g on reads) done =
      let has = (finished_by files name moment start first g on.begun c is reads done) in
      record {
        start = start;
        first = first;
        given = g;
        on = on;
        at_rest = has.1.finished.at_rest;
        outcome = has.1.finished.leaves;
        once = steps_once g first (desired_apart first.files on.begun.is_given.picked g.items on.begun.is_given.desired);
        edited = finished_edited files name moment start first g on.begun c.sight.seen c.sight.entry c.sight.exit has.0 has.1;
      }
  settled_at c is (untouched reads) done = by (done_of files name moment c is (HasRun c.sight.folder_tells c.sight.files name moment store_bytes c.sight.seen c.sight.entry c.sight.exit) done (is.ends.runs.done is.disk_told)).1
    where
      by : {text : List ℕ} → HasRun c.sight.folder_tells c.sight.files name moment store_bytes c.sight.seen c.sight.entry c.sight.exit text → IsSettled files name moment entry c.sight.exit
      by has =
          let run = has.leaves.done.run in
          let all : has.leaves.new ≡ has.old ++ steps run.given run.repo = has.leaves.done.all ∙ ap (λ (l : List Write). has.old ++ l) run.is in
          let begun = begun_of c.sight.folder_tells is.folder_told c.sight.files is.files_are has.old has.leaves.done.ws run in
          record {
            start = has.old;
            first = run.repo;
            given = run.given;
            on = record { reading = (reads has.reading.image has.reading.left).each (map spelling has.old) has.reading.reading; begun = begun };
            at_rest = subst (λ (ws : List Write). IsAtRest store_bytes c.sight.exit (map spelling ws)) all has.leaves.at_rest;
            outcome = subst (λ (ws : List Write). LeavesOutcome run.given name run.repo ws) all has.leaves.done.leaves;
            once = steps_once run.given run.repo (desired_apart run.repo.files begun.is_given.picked run.given.items begun.is_given.desired);
            edited = put_edited files moment run.repo run.given begun.is_given
                (fit_stored files name moment store_bytes c.sight.seen has.old [] run.repo run.given begun (subst (λ (ws : List Write). IsStored store_bytes c.sight.seen ws) (sym (append-nil has.old)) has.stored));
          }

pub all_from : (files : List NamedFile) (name : List ℕ) (moment : ℕ) (calls : ℕ → Call) (n : ℕ) → AreRuns files name moment calls n → HasReadingsNow store_bytes (calls 0).sight.entry → ComposeFrom files name moment calls n
all_from files name moment calls n are some = record {
  origin = λ i le. origin_at files name moment (calls 0).sight.entry calls n refl some are i le;
  settled = λ done. settled_at files name moment (calls 0).sight.entry (calls n) (are.each n (omega arith)) (origin_at files name moment (calls 0).sight.entry calls n refl some are n (omega arith)) done;
}
