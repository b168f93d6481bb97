use Rattle.std.proofs.Common.{refl}
use Rattle.rnv_disk.specs.Images.{Same}
use Rattle.rnv_disk.specs.declared.call.Call.TheVariants.{Sync}
use Rattle.rnv_disk.proofs.Noted.{noted, sync_more}
use Rattle.rnv_disk.proofs.history.History.sync.Goals as goal

pub returns-clause-stops : goal.returns-clause-stops
returns-clause-stops c =
    noted c.note.result c.args.self.now c.note.new.self (Sync c.args.file) Same
    (λ i. refl) (sync_more c.args.self.now c.args.file) c.note.ensures.ok c.note.ensures.err
