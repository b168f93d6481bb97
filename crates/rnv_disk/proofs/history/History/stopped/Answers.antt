use Rattle.std.proofs.Common.{◌≡◌, IsTrue, IfOk, min, length, reverse, arith, sym, subst}
use Rattle.std.proofs.lemmas.Grind.{common_steps}
use Rattle.std.proofs.lemmas.Result.{IfOk-weaker}
use Rattle.rnv_disk.specs.Images.{Image}
use Rattle.rnv_disk.specs.Course.{Course, LeftSince, all_fit, stopped_of}
use Rattle.rnv_disk.proofs.Stopped.{stopped_image}
use Rattle.rnv_disk.proofs.history.History.stopped.Goals as goal

pub returns-clause-image : goal.returns-clause-image
returns-clause-image c =
    let course = c.args.self.now in
    let IsStopped : Image → Type 0 = λ content. content ≡ stopped_of course c.args.call c.args.torn.now in
    let IsLeft : Image → Type 0 = LeftSince course (min c.args.call (length course.calls)) in
    let fit = subst (λ (x : Course). IsTrue (all_fit x.first (reverse x.calls))) c.self.view_is c.self.invariant.1 in
    let stopped : IfOk c.stopped_in.result IsStopped = grind (arith, common_steps) in
    IfOk-weaker c.stopped_in.result IsStopped IsLeft
    (λ content is. subst IsLeft (sym is) (stopped_image course c.args.call c.args.torn.now fit)) stopped
