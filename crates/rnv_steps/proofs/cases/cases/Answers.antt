use Rattle.std.proofs.Common.{refl, sym, ap, ◌∙◌, map}
use Rattle.rnv_steps.specs.Sights.{judge, sight_of}
use Rattle.rnv_steps.proofs.Judged.{cases_are}
use Rattle.rnv_steps.proofs.cases.cases.Goals as goal

pub returns : goal.returns
returns c =
    cases_are c.args.lookup.now.terms.now c.args.lookup.now.terms.now c.args.lookup.now.repo.now c.args.lookup.now.repo.now c.args.items.now (map sight_of c.as_slice.result.now) c.room-room.result _
    c.requires.distinct refl refl (ap (map sight_of) c.as_slice.ensures.value ∙ c.in_ok-all.ensures) c.room-room.ensures
    (c.in_ok-cases.ensures ∙ ap (λ l. judge c.room-room.result (map sight_of l)) (c.as_slice-2.ensures.value ∙ sym c.as_slice.ensures.value))
