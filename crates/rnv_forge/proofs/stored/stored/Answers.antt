use Rattle.std.proofs.Common.{◌≡◌, ◌<◌, ◌≤◌, ℕ, length, get_or, Err, sym, ap, subst, arith, add-one}
use Rattle.rnv_journal.specs.Found.{strings}
use Rattle.rnv_forge.specs.Writes.{IsDamaged}
use Rattle.rnv_forge.proofs.Folding.{folded_damaged, folded_more, folded_small, folded_sound, folded_sure, strings_at, strings_length}
use Rattle.rnv_forge.proofs.Writes.{all_each}
use Rattle.rnv_forge.proofs.stored.stored.Goals as goal

pub add-requires-clause-sound : goal.add-requires-clause-sound
add-requires-clause-sound c = folded_sound _ _ _ c.loop-index.invariant

pub add-requires-clause-revisions : goal.add-requires-clause-revisions
add-requires-clause-revisions c = folded_small _ _ _ c.loop-index.invariant (omega (arith, c.loop-index-test.true, c.requires))

pub returns-in-Err-NoWrite-clause-damaged : goal.returns-in-Err-NoWrite-clause-damaged
returns-in-Err-NoWrite-clause-damaged c n e =
    let entries = c.args.entries.now in
    let i = c.loop-index.index in
    let entry = c.index-entries-index.result in
    let at : get_or (strings entries) i c.as_slice.result.now ≡ c.as_slice.result.now =
    subst (λ q. get_or (strings entries) i q ≡ q) (sym c.as_slice.ensures) (strings_at entries i entry c.loop-index-test.true (sym c.index-entries-index.is)) in
    let less : i < length (strings entries) = omega (arith, c.loop-index-test.true, strings_length entries) in
    let same : i ≡ n = cc in
    subst (λ (k : ℕ). IsDamaged (strings entries) k) same (folded_damaged _ _ _ c.loop-index.invariant _ less at (c.in-Err-NoWrite.ensures.no_write (ap Err c.in-Err-NoWrite.field-0-is)))

pub returns-in-Err-NoWrite-clause-undamaged : goal.returns-in-Err-NoWrite-clause-undamaged
returns-in-Err-NoWrite-clause-undamaged c n are e =
    let entries = c.args.entries.now in
    let i = c.loop-index.index in
    let entry = c.index-entries-index.result in
    let at : get_or (strings entries) i c.as_slice.result.now ≡ c.as_slice.result.now =
    subst (λ q. get_or (strings entries) i q ≡ q) (sym c.as_slice.ensures) (strings_at entries i entry c.loop-index-test.true (sym c.index-entries-index.is)) in
    let less : i < length (strings entries) = omega (arith, c.loop-index-test.true, strings_length entries) in
    folded_sure _ _ _ c.loop-index.invariant _ less at are (c.in-Err-NoWrite.ensures.no_write (ap Err c.in-Err-NoWrite.field-0-is))

pub loop-index-preserved : goal.loop-index-preserved
loop-index-preserved c =
    let entries = c.args.entries.now in
    let i = c.loop-index.index in
    let entry = c.index-entries-index.result in
    let at : get_or (strings entries) i c.as_slice.result.now ≡ c.as_slice.result.now =
    subst (λ q. get_or (strings entries) i q ≡ q) (sym c.as_slice.ensures) (strings_at entries i entry c.loop-index-test.true (sym c.index-entries-index.is)) in
    let less : i < length (strings entries) = omega (arith, c.loop-index-test.true, strings_length entries) in
    rw add-one (folded_more _ _ _ c.loop-index.invariant _ less at _ c.in-Ok.ensures.added)

pub returns-clause-revisions : goal.returns-clause-revisions
returns-clause-revisions c = all_each (λ r. r.revision ≤ c.loop-index.index) (λ r. r.revision ≤ length c.args.entries.now) (λ r le. omega (arith, le, c.loop-index.auto.index-end)) _ c.loop-index.invariant.revisions
