use Rattle.std.proofs.Common.{◌≡◌, ℕ, List, ◌∷◌, length, subst}
use Rattle.std.proofs.lemmas.Result.{on_ok_weaker}
use Rattle.rnv_disk.specs.declared.device.FileNo.TheVariants.{Zero}
use Rattle.rnv_disk.specs.Images.{put}
use Rattle.rnv_disk.specs.Stops.{Past, IsDurable, LeavesOnly}
use Rattle.rnv_journal.specs.File.{made, IsBegun}
use Rattle.rnv_journal.specs.Readings.{IsTornFrom}
use Rattle.rnv_journal.proofs.Changed.{put_rest}
use Rattle.rnv_journal.proofs.Keeps.{filling_keeps, finishing_keeps, keeps_both}
use Rattle.rnv_journal.proofs.Steps.{made_rests}
use Rattle.rnv_journal.proofs.Ones.{one_then}
use Rattle.rnv_journal.proofs.making.fill.Goals as goal

torn_made : (old mid : Past) (bytes : List ℕ) → bytes ≡ made → LeavesOnly old mid (IsTornFrom old 1 (length bytes)) → LeavesOnly old mid (IsTornFrom old 1 13)
unfolding made
torn_made old mid bytes is run = subst (λ (l : List ℕ). LeavesOnly old mid (IsTornFrom old 1 (length l))) is run

filled : (old mid : Past) (bytes file : List ℕ) → bytes ≡ made → IsBegun file → IsDurable Zero old file
    → ((f : List ℕ) → IsDurable Zero old f → IsDurable Zero mid (put 1 bytes f)) → IsDurable Zero mid (0 ∷ made)
filled old mid bytes file is begun durable writes =
    subst (λ (f : List ℕ). IsDurable Zero mid f) (put_rest file begun) (subst (λ (l : List ℕ). IsDurable Zero mid (put 1 l file)) is (writes file durable))

pub returns-in_err-write_synced-clause-any_moment : goal.returns-in_err-write_synced-clause-any_moment
unfolding made
returns-in_err-write_synced-clause-any_moment g c limit enough =
    let begun = c.requires.begun in
    filling_keeps limit _ _ begun.0 enough begun.2 begun.1 (torn_made _ _ c.as_slice.result.now c.as_slice.ensures c.write_synced.ensures.stops)

pub returns-clause-any_moment : goal.returns-clause-any_moment
unfolding made
returns-clause-any_moment g c limit enough =
    let begun = c.requires.begun in
    let first = filling_keeps limit _ _ begun.0 enough begun.2 begun.1 (torn_made _ _ c.as_slice.result.now c.as_slice.ensures c.write_synced.ensures.stops) in
    let durable = filled (g.D.Disk.past c.args.disk.now) (g.D.Disk.past c.write_synced.new.disk) c.as_slice.result.now begun.0 c.as_slice.ensures begun.1 begun.2 c.in_ok-write_synced.ensures.kept in
    keeps_both limit _ _ _ first (finishing_keeps limit _ _ enough durable c.write_synced-2.ensures.stops)

pub returns-clause-at_rest : goal.returns-clause-at_rest
unfolding made
returns-clause-at_rest g c =
    let begun = c.requires.begun in
    let durable = filled (g.D.Disk.past c.args.disk.now) (g.D.Disk.past c.write_synced.new.disk) c.as_slice.result.now begun.0 c.as_slice.ensures begun.1 begun.2 c.in_ok-write_synced.ensures.kept in
    on_ok_weaker c.write_synced-2.result (λ writes limit enough. made_rests limit _ enough (writes (0 ∷ made) durable)) c.write_synced-2.ensures.kept

pub returns-clause-other : goal.returns-clause-other
returns-clause-other g c = one_then _ _ _ c.write_synced.ensures.other c.write_synced-2.ensures.other
