use Rattle.std.proofs.Common.{◌+◌, ◌<◌, ◌≤◌, length, sym, subst, arith}
use Rattle.rnv_repo.specs.Store.{IsSoundStore}
use Rattle.rnv_repo.proofs.Sound.{sound_from_nothing}
use Rattle.rnv_forge.proofs.Writes.{all_each}
use Rattle.rnv_forge.proofs.mem_forge.check_turns.Goals as goal

pub checked-requires-clause-sound : goal.checked-requires-clause-sound
checked-requires-clause-sound c = subst IsSoundStore (sym c.in-Ok.ensures.ok) (sound_from_nothing c.args.standing.now c.requires.standing c.requires.permitted)

pub checked-requires-clause-revisions : goal.checked-requires-clause-revisions
checked-requires-clause-revisions c =
    let few = c.if-list-gt3000000000.false in
    all_each (λ r. r.revision ≤ 900000000) (λ r. r.revision + length c.args.list.now < 4294967295) (λ r le. omega (arith, le, few)) c.in-Ok.store c.in-Ok.ensures.revisions
