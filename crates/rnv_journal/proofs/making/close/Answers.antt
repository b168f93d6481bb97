use Rattle.std.proofs.Common.{ℕ, List, [], ◌∷◌, subst}
use Rattle.std.proofs.lemmas.Result.{on_ok_weaker}
use Rattle.rnv_disk.specs.declared.device.FileNo.TheVariants.{Zero}
use Rattle.rnv_disk.specs.Images.{put}
use Rattle.rnv_disk.specs.Stops.{IsDurable, LeavesOnly}
use Rattle.rnv_journal.specs.Readings.{IsOneImage, IsTornFrom}
use Rattle.rnv_journal.proofs.Keeps.{closing_keeps}
use Rattle.rnv_journal.proofs.Steps.{closed_rests, written_rests}
use Rattle.rnv_journal.proofs.Ones.{one_self}
use Rattle.rnv_journal.proofs.making.close.Goals as goal

pub returns-then-gate-eq0-clause-at_rest : goal.returns-then-gate-eq0-clause-at_rest
returns-then-gate-eq0-clause-at_rest g c limit list end one =
    closed_rests limit _ list (subst (λ (n : ℕ). IsOneImage limit (g.D.Disk.past c.args.disk.now) list n) c.if-gate-eq0.true one)

pub returns-clause-any_moment : goal.returns-clause-any_moment
returns-clause-any_moment g c limit list end one =
    let old = g.D.Disk.past c.args.disk.now in
    let new = g.D.Disk.past c.write_synced.new.disk in
    closing_keeps limit old new list c.args.gate one c.if-gate-eq0.false
    (subst (λ (n : ℕ). LeavesOnly old new (IsTornFrom old n 1)) end c.write_synced.ensures.stops)

pub returns-clause-at_rest : goal.returns-clause-at_rest
returns-clause-at_rest g c =
    let old = g.D.Disk.past c.args.disk.now in
    let new = g.D.Disk.past c.write_synced.new.disk in
    on_ok_weaker c.write_synced.result (λ writes limit list end one. written_rests limit old new list c.args.gate one
    (subst (λ (n : ℕ). (file : List ℕ) → IsDurable Zero old file → IsDurable Zero new (put n (0 ∷ []) file)) end writes)) c.write_synced.ensures.kept

pub returns-then-gate-eq0-clause-other : goal.returns-then-gate-eq0-clause-other
returns-then-gate-eq0-clause-other g c = one_self _
