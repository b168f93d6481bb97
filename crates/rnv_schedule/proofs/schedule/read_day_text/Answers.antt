use Rattle.std.proofs.Common.{◌∙◌, ap, sym, refl, Option, Some, None}
use Rattle.std.specs.Prelude.{option_map}
use Rattle.rnv_schedule.specs.DayTexts.{day_text_of}
use Rattle.rnv_schedule.specs.Schedules.{days_set, hours_set, kind_set}
use Rattle.rnv_schedule.specs.Words.{texts}
use Rattle.rnv_schedule.specs.declared.hours.Hours.{Hours}
use Rattle.rnv_schedule.proofs.DayParts.{parts_are}
use Rattle.rnv_schedule.proofs.Refusals.{passed_on}
use Rattle.rnv_schedule.proofs.schedule.read_day_text.Goals as goal

pub returns-in_default : goal.returns-in_default
returns-in_default c = parts_are c.args.words.now c.days_place-place.result None _ c.days_place-place.ensures.place (sym c.read.ensures ∙ ap (λ (h : Option Hours). option_map hours_set h) c.in_default.is) refl

pub returns-in-Ok : goal.returns-in-Ok
returns-in-Ok c = parts_are c.args.words.now c.days_place-place.result (Some (hours_set c.in-Some.hours)) (Some (days_set c.in-Ok.days)) c.days_place-place.ensures.place (sym c.read.ensures ∙ ap (λ (h : Option Hours). option_map hours_set h) c.in-Some.is) c.in-Ok.ensures

pub returns-in-Err : goal.returns-in-Err
returns-in-Err c =
    passed_on _ (day_text_of (texts c.args.words.now)) days_set kind_set c.in-Err.error c.in-Err.ensures (λ e.
    parts_are c.args.words.now c.days_place-place.result (Some (hours_set c.in-Some.hours)) None c.days_place-place.ensures.place (sym c.read.ensures ∙ ap (λ (h : Option Hours). option_map hours_set h) c.in-Some.is) e)
