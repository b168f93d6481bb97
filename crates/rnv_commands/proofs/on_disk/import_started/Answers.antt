use Rattle.std.proofs.Common.{arith}
use Rattle.rnv_base.specs.Limits.{store_bytes}
use Rattle.rnv_commands.proofs.Printed.{both_ok, if_err, if_ok}
use Rattle.rnv_commands.proofs.Stops.{leaves_at, one_at, rest_at}
use Rattle.rnv_commands.proofs.on_disk.import_started.Goals as goal

pub returns-clause-any_moment : goal.returns-clause-any_moment
returns-clause-any_moment g c = leaves_at g.D.Disk.past _ store_bytes _ _ _ _ c.requires.limit c.into_disk.ensures c.import_base-text.ensures.any_moment

pub returns-clause-unwritten : goal.returns-clause-unwritten
returns-clause-unwritten g c =
    if_err c.import_base-text.result _ _ (λ error run ne. leaves_at g.D.Disk.past _ store_bytes _ _ _ _ c.requires.limit c.into_disk.ensures (run ne)) c.import_base-text.ensures.unwritten

pub returns-clause-imported : goal.returns-clause-imported
returns-clause-imported g c =
    if_ok c.import_base-text.result _ _ _
    (λ kept text prints. record { new = _; prints = prints; room = omega (arith, kept.1, c.requires.limit); at_rest = rest_at g.D.Disk.past _ store_bytes _ _ _ c.requires.limit c.into_disk.ensures kept.0 })
    (both_ok c.import_base-text.result _ _ c.import_base-text.ensures.at_rest c.import_base-text.ensures.room) c.import_base-text.ensures.done

pub returns-clause-other : goal.returns-clause-other
returns-clause-other g c = one_at g.D.Disk.past _ _ _ c.into_disk.ensures c.import_base-text.ensures.other
