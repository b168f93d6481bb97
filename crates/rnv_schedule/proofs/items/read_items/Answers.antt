use Rattle.std.proofs.Common.{◌∷◌, [], ◌∙◌, ap, sym, map, ℕ, List, Option, Some}
use Rattle.std.specs.Prelude.{option_map}
use denote.Ref.{Bor}
use Rattle.std.proofs.lemmas.List.{map-append, take_all}
use Rattle.rnv_schedule.specs.Cron.{Numbers, item_of, items_of, union}
use Rattle.rnv_schedule.specs.Schedules.{span_set, spans_set}
use Rattle.rnv_schedule.specs.Words.{each, pieces, texts}
use Rattle.rnv_schedule.specs.declared.span.Span.{Span}
use Rattle.rnv_schedule.proofs.Eachs.{each_more, each_none, map-texts}
use Rattle.rnv_schedule.proofs.Refusals.{passed_on}
use Rattle.rnv_schedule.proofs.items.read_items.Goals as goal

pub loop-item-preserved : goal.loop-item-preserved
loop-item-preserved c =
    let more = each_more (λ (r : Bor (List ℕ)). item_of c.args.field (pieces 47 r.now)) c.args.items.now c.loop-item.item-index _ (map span_set c.loop-item.spans) (span_set c.in-Ok.span) c.loop-item-test.true c.loop-item.invariant c.in-Ok.ensures in
    more ∙ ap (λ (l : List Numbers). Some l) (sym (map-append span_set c.loop-item.spans (c.in-Ok.span ∷ [])) ∙ ap (λ (l : List Span). map span_set l) (sym c.in_ok-push-in-Ok.ensures.ok))

pub returns : goal.returns
returns c =
    let f : Bor (List ℕ) → Option Numbers = λ r. item_of c.args.field (pieces 47 r.now) in
    let all = ap (λ (l : List (Bor (List ℕ))). each (map f l)) (sym (take_all c.loop-item.item-index c.args.items.now c.loop-item-test.false)) ∙ c.loop-item.invariant in
    ap (λ (l : List (Option Numbers)). option_map union (each l)) (map-texts (λ item. item_of c.args.field (pieces 47 item)) c.args.items.now)
    ∙ ap (λ (o : Option (List Numbers)). option_map union o) all

pub returns-in-Err : goal.returns-in-Err
returns-in-Err c =
    let f : Bor (List ℕ) → Option Numbers = λ r. item_of c.args.field (pieces 47 r.now) in
    passed_on _ (items_of c.args.field (texts c.args.items.now)) span_set spans_set c.in-Err.error c.in-Err.ensures (λ e.
    ap (λ (l : List (Option Numbers)). option_map union (each l)) (map-texts (λ item. item_of c.args.field (pieces 47 item)) c.args.items.now)
    ∙ ap (λ (o : Option (List Numbers)). option_map union o) (each_none f c.args.items.now c.loop-item.item-index _ c.loop-item-test.true e))
