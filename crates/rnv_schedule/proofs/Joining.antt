-- Days that are read one after another.
use Rattle.std.proofs.Common.{arith, ◌≡◌, ◌+◌, ◌<◌, ◌≤◌, ℕ, zero, suc, List, [], ◌∷◌, ◌++◌, length, drop, get_or, Bool, true, false, refl, sym, ap, ◌∙◌, Option, Some, None, append_assoc}
use Rattle.std.specs.Prelude.{if◌then◌else◌, codes}
use denote.Ref.{Bor}
use Rattle.std.proofs.lemmas.List.{drop-map, length-drop, length-map}
use Rattle.std.proofs.Math.Seq.{drop-cons}
use Rattle.rnv_schedule.specs.DayTexts.{day_names, named_days}
use Rattle.rnv_schedule.specs.Joined.{first_day, joined_day}
use Rattle.rnv_schedule.specs.Words.{is_word, place_of, texts, with_each}

-- days, and those that were read before them
abbrev pub behind : List ℕ → Option (List ℕ) → Option (List ℕ)
behind before (Some days) = Some (before ++ days)
behind before None = None

behind-with_each : (before : List ℕ) (day : ℕ) (rest : Option (List ℕ)) → behind before (with_each (Some day) rest) ≡ behind (before ++ day ∷ []) rest
behind-with_each before day (Some days) = ap (λ (l : List ℕ). Some l) (sym (append_assoc before (day ∷ []) days))
behind-with_each before day None = refl

joined : (name and : List ℕ) (rest : Option (List ℕ)) → (if is_word (codes "and") and then with_each (place_of day_names name) rest else None) ≡ with_each (joined_day name and) rest
joined name and rest = chosen (is_word (codes "and") and) where
  chosen : (b : Bool) → (if b then with_each (place_of day_names name) rest else None) ≡ with_each (if b then place_of day_names name else None) rest
  chosen true = refl
  chosen false = refl

-- ---- the names from a place on

pub none_named : (words : List (List ℕ)) → first_day words ≡ None → named_days words ≡ None
none_named [] e = refl
none_named (name ∷ []) e = ap (λ (o : Option ℕ). with_each o (Some [])) e
none_named (name ∷ and ∷ names) e = joined name and (named_days names) ∙ ap (λ (o : Option ℕ). with_each o (named_days names)) e

last_named : (words : List (List ℕ)) (day : ℕ) → length words ≡ 1 → first_day words ≡ Some day → named_days words ≡ Some (day ∷ [])
last_named [] day h e = absurd (omega arith)
last_named (name ∷ []) day h e = ap (λ (o : Option ℕ). with_each o (Some [])) e
last_named (name ∷ and ∷ names) day h e = absurd (omega arith)

next_named : (words : List (List ℕ)) (day : ℕ) → 2 ≤ length words → first_day words ≡ Some day → named_days words ≡ with_each (Some day) (named_days (drop 2 words))
next_named [] day h e = absurd (omega arith)
next_named (name ∷ []) day h e = absurd (omega arith)
next_named (name ∷ and ∷ names) day h e = joined name and (named_days names) ∙ ap (λ (o : Option ℕ). with_each o (named_days names)) e

two_from : (words : List (Bor (List ℕ))) (at : ℕ) (d : Bor (List ℕ)) → suc at < length words → drop at words ≡ get_or words at d ∷ get_or words (suc at) d ∷ drop (suc (suc at)) words
two_from words at d h =
    drop-cons words at d (omega arith)
    ∙ ap (λ (l : List (Bor (List ℕ))). get_or words at d ∷ l) (drop-cons words (suc at) d (omega arith))

-- the name at a place, and the word behind it
pub joined_at : (words : List (Bor (List ℕ))) (at : ℕ) (d : Bor (List ℕ)) → at + 1 < length words → joined_day (get_or words at d).now (get_or words (at + 1) d).now ≡ first_day (drop at (texts words))
joined_at words at d h =
    let next : suc at ≡ at + 1 = omega arith in
    let two = two_from words at d (omega arith) in
    ap (λ (n : ℕ). joined_day (get_or words at d).now (get_or words n d).now) (sym next)
    ∙ sym (ap first_day (drop-map (λ r. r.now) at words ∙ ap texts two))

two_more : (at : ℕ) (l : List (List ℕ)) → drop (suc (suc at)) l ≡ drop 2 (drop at l)
two_more zero l = refl
two_more (suc at) [] = refl
two_more (suc at) (x ∷ l) = two_more at l

-- ---- the loop

pub ends_here : (words : List (Bor (List ℕ))) (at day : ℕ) (days : List ℕ) → at + 1 ≡ length words → first_day (drop at (texts words)) ≡ Some day → behind days (named_days (drop at (texts words))) ≡ named_days (texts words) → named_days (texts words) ≡ Some (days ++ day ∷ [])
ends_here words at day days h e i =
    let one : length (drop at (texts words)) ≡ 1 = omega (arith, length-drop at (texts words), length-map words (λ r. r.now)) in
    sym i ∙ ap (behind days) (last_named (drop at (texts words)) day one e)

pub goes_on : (words : List (Bor (List ℕ))) (at day : ℕ) (days : List ℕ) → at + 1 < length words → first_day (drop at (texts words)) ≡ Some day → behind days (named_days (drop at (texts words))) ≡ named_days (texts words) → behind (days ++ day ∷ []) (named_days (drop (at + 2) (texts words))) ≡ named_days (texts words)
goes_on words at day days h e i =
    let next : at + 2 ≡ suc (suc at) = omega arith in
    let two : 2 ≤ length (drop at (texts words)) = omega (arith, length-drop at (texts words), length-map words (λ r. r.now)) in
    ap (λ (l : List (List ℕ)). behind (days ++ day ∷ []) (named_days l)) (ap (λ (n : ℕ). drop n (texts words)) next ∙ two_more at (texts words))
    ∙ (sym (behind-with_each days day (named_days (drop 2 (drop at (texts words)))))
    ∙ (ap (behind days) (sym (next_named (drop at (texts words)) day two e)) ∙ i))

pub refused_here : (words : List (Bor (List ℕ))) (at : ℕ) (days : List ℕ) → named_days (drop at (texts words)) ≡ None → behind days (named_days (drop at (texts words))) ≡ named_days (texts words) → named_days (texts words) ≡ None
refused_here words at days e i = sym i ∙ ap (behind days) e
