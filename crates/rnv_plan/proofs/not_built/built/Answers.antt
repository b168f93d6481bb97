use Rattle.std.proofs.Common.{◌≡◌, Err, codes, true, ◌∙◌, ap}
use Rattle.std.proofs.lemmas.Result.{err_from_is_err_and}
use Rattle.rnv_plan.specs.declared.error.RunError.TheVariants.{NotBuilt}
use Rattle.rnv_plan.specs.Taken.{is_configured}
use Rattle.rnv_plan.specs.Refusal.{IsRefusal, configured}
use Rattle.rnv_plan.proofs.Told.{told-at}
use Rattle.rnv_plan.proofs.not_built.built.Goals as goal

pub returns-in_err-check_plain-clause-refused : goal.returns-in_err-check_plain-clause-refused
returns-in_err-check_plain-clause-refused c = λ index.
    let ends = err_from_is_err_and c.from_residual-in_err-check_plain.result c.from_residual-in_err-check_plain.ensures.1 in
    told-at c.from_residual-in_err-check_plain.result c.in_err-check_plain.field-0.0 (λ e. (is_configured c.args.files.now ≡ true) × (e ≡ NotBuilt (codes "renovate.json"))) (IsRefusal index c.args.files.now) (ends.1 ∙ ap Err ends.2)
    (λ e h. configured c.in_ok-taken.taken c.in_ok-taken.ensures.few h.0 h.1) c.in_err-check_plain.ensures.configured
