use Rattle.std.proofs.Common.{◌≤◌, length, sym, subst, ap, arith}
use Rattle.rnv_repo.specs.Store.{IsSoundStore}
use Rattle.rnv_forge.proofs.Kept.{revisions_small}
use Rattle.rnv_forge.proofs.Preparing.{sound_after}
use Rattle.rnv_forge.proofs.journal_forge.checked_after.Goals as goal

pub checked-requires-clause-sound : goal.checked-requires-clause-sound
checked-requires-clause-sound c = subst IsSoundStore (sym c.in-Ok.ensures) (sound_after c.args.journal.now.entries c.requires.writes)

pub checked-requires-clause-revisions : goal.checked-requires-clause-revisions
checked-requires-clause-revisions c =
    let few : length c.as_slice.result.now ≤ 3000000000 = omega (arith, c.if-len-gt3000000000.false, ap length c.as_slice.ensures) in
    revisions_small c.args.journal.now.entries c.requires.writes c.has_few.ensures c.in-Ok.store c.in-Ok.ensures (length c.as_slice.result.now) few
