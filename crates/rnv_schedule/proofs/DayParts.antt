-- A day text from its two parts, and texts by their first word.
use Rattle.std.proofs.Common.{arith, ◌≡◌, ◌-◌, ◌≤◌, ℕ, List, [], ◌∷◌, length, take, drop, get_or, false, sym, ap, ◌∙◌, Option}
use Rattle.std.specs.Prelude.{codes}
use Rattle.std.specs.List.{position_or_len}
use Rattle.std.specs.Str.{bytes_eq}
use denote.Ref.{Bor}
use Rattle.std.proofs.lemmas.Bool.{cond-false}
use Rattle.std.proofs.lemmas.List.{drop-map, length-drop, take-map, take_all}
use Rattle.rnv_schedule.specs.Cron.{Locals, Numbers}
use Rattle.rnv_schedule.specs.DayTexts.{begins_days, both_parts, day_text_of, days_of, hours_of, parts_at}
use Rattle.rnv_schedule.specs.Schedules.{words_of}
use Rattle.rnv_schedule.specs.Words.{texts}

pub parts_are : (words : List (Bor (List ℕ))) (place : ℕ) (hours : Option Numbers) (days : Option Locals) → place ≡ position_or_len begins_days (texts words) → hours_of (texts (take place words)) ≡ hours → days_of (texts (take (length words - place) (drop place words))) ≡ days → day_text_of (texts words) ≡ both_parts hours days
parts_are words place hours days e f g =
    let front : hours_of (take place (texts words)) ≡ hours = ap hours_of (take-map (λ r. r.now) place words) ∙ f in
    let rest : take (length words - place) (drop place words) ≡ drop place words = take_all (length words - place) (drop place words) (omega (arith, length-drop place words)) in
    let end : days_of (drop place (texts words)) ≡ days = ap days_of (drop-map (λ r. r.now) place words ∙ ap texts (sym rest)) ∙ g in
    ap (λ (n : ℕ). parts_at n (texts words)) (sym e)
    ∙ (ap (λ (h : Option Numbers). both_parts h (days_of (drop place (texts words)))) front
    ∙ ap (λ (d : Option Locals). both_parts hours d) end)

pub no_star : (words : List (Bor (List ℕ))) (d : Bor (List ℕ)) → 1 ≤ length words → bytes_eq (get_or words 0 d).now (codes "*") ≡ false → words_of (texts words) ≡ day_text_of (texts words)
no_star [] d h e = absurd (omega arith)
no_star (w ∷ words) d h e = cond-false (bytes_eq w.now (codes "*")) _ _ e
