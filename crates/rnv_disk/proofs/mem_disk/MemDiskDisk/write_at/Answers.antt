use Rattle.std.proofs.Common.{◌/◌, arith, length, length-take}
use Rattle.rnv_disk.proofs.Noted.{torn_longer}
use Rattle.rnv_disk.proofs.mem_disk.MemDiskDisk.write_at.Goals as goal

pub returns-then-strikes-clause-stops : goal.returns-then-strikes-clause-stops
returns-then-strikes-clause-stops c =
    rw c.fault.ensures.history
    (torn_longer c.args.file c.args.at _ (length c.args.bytes.now) _ _ (omega (arith, length-take (length c.args.bytes.now / 2) c.args.bytes.now)) c.write.ensures.stops)
