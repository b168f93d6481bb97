use Rattle.std.proofs.Common.{◌≤◌, List, [], Err, ap, subst, sym, ◌∙◌, arith, add-one}
use Rattle.std.proofs.lemmas.List.{take_all}
use Rattle.rnv_repo.specs.declared.repo.Repo.{Repo}
use Rattle.rnv_repo.specs.declared.write.Write.{Write}
use Rattle.rnv_repo.specs.Store.{IsPermitted, after}
use Rattle.rnv_repo.specs.WellFormed.{IsOrderly}
use Rattle.rnv_forge.proofs.Checking.{all_at}
use Rattle.rnv_forge.proofs.InMemory.{IsBuilt, built_more, built_none, built_permitted, built_small, built_sound}
use Rattle.rnv_forge.proofs.Writes.{all_each}
use Rattle.rnv_forge.proofs.mem_forge.store_of.Goals as goal

pub loop-write-init : goal.loop-write-init
loop-write-init c = subst (λ (s : List Repo). IsBuilt c.args.writes.now 0 s) (sym c.empty-store.ensures) (built_none c.args.writes.now)

pub apply-requires-clause-sound : goal.apply-requires-clause-sound
apply-requires-clause-sound c = built_sound _ _ _ c.loop-write.invariant c.requires.orderly c.requires.permitted

pub apply-requires-clause-revisions : goal.apply-requires-clause-revisions
apply-requires-clause-revisions c = built_small _ _ _ c.loop-write.invariant (omega (arith, c.loop-write-test.true, c.requires.few))

pub apply-requires-clause-orderly : goal.apply-requires-clause-orderly
apply-requires-clause-orderly c = all_at IsOrderly c.args.writes.now c.loop-write.write-index c.write-item.result c.loop-write-test.true (sym c.write-item.is) c.requires.orderly

pub unreachable-requires : goal.unreachable-requires
unreachable-requires c =
    let allowed : IsPermitted c.write-item.result c.loop-write.store = built_permitted _ _ _ c.loop-write.invariant c.write-item.result c.loop-write-test.true (sym c.write-item.is) c.requires.permitted in
    let refused = c.in-Err-Refused.ensures.refused _ (ap Err c.in-Err-Refused.field-0-is) in
    cc

pub loop-write-preserved : goal.loop-write-preserved
loop-write-preserved c = rw add-one (built_more _ _ _ c.loop-write.invariant c.write-item.result c.loop-write-test.true (sym c.write-item.is) _ c.in-Ok.ensures.ok)

pub returns-clause-ok : goal.returns-clause-ok
returns-clause-ok c = c.loop-write.invariant.is ∙ ap (λ (l : List Write). after l []) (take_all _ c.args.writes.now c.loop-write-test.false)

pub returns-clause-revisions : goal.returns-clause-revisions
returns-clause-revisions c =
    let few : c.loop-write.write-index ≤ 900000000 = omega (arith, c.requires.few, c.loop-write.auto.write-index-end) in
    all_each (λ r. r.revision ≤ c.loop-write.write-index) (λ r. r.revision ≤ 900000000) (λ r le. omega (arith, le, few)) _ c.loop-write.invariant.revisions
