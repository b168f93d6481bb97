use Rattle.std.proofs.Common.{◌∙◌, ap, length, ℕ, List}
use Rattle.rnv_disk.specs.Images.{On, Torn}
use Rattle.rnv_disk.specs.declared.call.Call.TheVariants.{Write}
use Rattle.rnv_disk.proofs.Ranges.{torn_self, on_self}
use Rattle.rnv_disk.proofs.Noted.{noted, write_more}
use Rattle.rnv_disk.proofs.history.History.write.Goals as goal

pub returns-clause-stops : goal.returns-clause-stops
returns-clause-stops c =
    let file = c.args.file in
    let kept = c.new-kept.result in
    let count = length c.args.bytes.now in
    let step = Torn c.args.at count in
    let same = ap (λ (l : List ℕ). length l) (c.new-kept.ensures ∙ c.in_ok-from_slice.ensures.items) in
    noted c.note.result c.args.self.now c.note.new.self (Write file c.args.at kept) (On file step)
    (on_self file step (torn_self c.args.at count)) (write_more c.args.self.now file c.args.at count kept c.requires same)
    c.note.ensures.ok c.note.ensures.err
