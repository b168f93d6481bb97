use Rattle.rnv_disk.specs.Images.{On, CutTo}
use Rattle.rnv_disk.specs.declared.call.Call.TheVariants.{Cut}
use Rattle.rnv_disk.proofs.Ranges.{cut_self, on_self}
use Rattle.rnv_disk.proofs.Noted.{noted, cut_more}
use Rattle.rnv_disk.proofs.history.History.cut.Goals as goal

pub returns-clause-stops : goal.returns-clause-stops
returns-clause-stops c =
    let file = c.args.file in
    let step = CutTo c.args.most in
    noted c.note.result c.args.self.now c.note.new.self (Cut file c.args.most) (On file step)
    (on_self file step (cut_self c.args.most)) (cut_more c.args.self.now file c.args.most) c.note.ensures.ok c.note.ensures.err
