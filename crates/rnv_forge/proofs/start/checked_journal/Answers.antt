use Rattle.std.proofs.Common.{◌≤◌, ℕ, List, [], length, ap, ◌∙◌, Err, arith}
use Rattle.rnv_repo.specs.Store.{after}
use Rattle.rnv_journal.specs.Found.{strings}
use Rattle.rnv_forge.specs.Writes.{writes_in}
use Rattle.rnv_forge.proofs.Folding.{strings_length}
use Rattle.rnv_forge.proofs.Kept.{store_alone}
use Rattle.rnv_forge.proofs.Preparing.{few}
use Rattle.rnv_forge.proofs.Starting.{damaged_within}
use Rattle.rnv_forge.proofs.start.checked_journal.Goals as goal

pub stored-requires : goal.stored-requires
stored-requires c =
    let held = c.args.journal in
    let least : length held.entries ≤ 900000000 = few held.entries held.prepared held.limit c.length.ensures.within c.requires.small in
    omega (arith, least, strings_length c.entries.result.now, ap length c.entries.ensures)

pub place-requires : goal.place-requires
place-requires c =
    let damaged = c.in-Err-Damaged.ensures.damaged c.in-Err-Damaged.index (ap Err c.in-Err-Damaged.field-0-is) in
    omega (arith, damaged_within (strings c.entries.result.now) c.in-Err-Damaged.index damaged, ap length c.entries.ensures)

pub returns-in-Ok-clause-store : goal.returns-in-Ok-clause-store
returns-in-Ok-clause-store c =
    store_alone c.args.journal c.requires.none c.in-Ok.store (c.in-Ok.ensures.ok ∙ ap (λ (l : List (List ℕ)). after (writes_in l) []) c.entries.ensures)
