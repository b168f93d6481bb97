-- One line more.
use Rattle.std.proofs.Common.{◌≡◌, ℕ, suc, ◌+◌, ◌-◌, ◌≤◌, Bool, true, false, List, [], ◌∷◌, ◌++◌, length, Option, Some, None, sym, ap, subst, ◌∙◌, arith}
use denote.Ref.{Bor}
use Rattle.std.specs.Option.{MatchOption, option_copied}
use Rattle.rnv_docker.specs.Lines.{lines, has_here}
use Rattle.rnv_docker.proofs.Bools.{if-true, if-false}
use Rattle.std.specs.Prelude.{codes}
use Rattle.rnv_manager.specs.Finds.{Find}
use Rattle.rnv_docker.specs.Stages.{Stage}
use Rattle.rnv_docker.specs.Grammar.{stage_of, continues}
use Rattle.rnv_docker.specs.Read.{HasStage, Tag, tag_in, found_in, State, stepped, step, finish, run, lines_of}

abbrev state_with : List Find → Option Tag → Bool → State
state_with found last on = record { found = found; last = last; continued = on }

pub step-none : (s : State) (line : List ℕ) (end : ℕ) (on : Bool) → stage_of s.continued line ≡ None → on ≡ continues s.continued line → stepped s on end None ≡ step s line end
unfolding step
step-none s line end on none is = ap (λ (b : Bool). stepped s b end None) is ∙ ap (λ (o : Option Stage). stepped s (continues s.continued line) end o) (sym none)

pub step-some : (s : State) (line : List ℕ) (end : ℕ) (on : Bool) (image back : List ℕ) (found : List Find) (last : Option Tag) → HasStage (stage_of s.continued line) image back → on ≡ continues s.continued line → found ≡ s.found ++ found_in (codes "stage") s.last → last ≡ tag_in image back end
    → state_with found last on ≡ step s line end
unfolding step
step-some s line end on image back found last h is f l =
    let tags = l ∙ (ap (λ (i : List ℕ). tag_in i back end) (sym h.same_image) ∙ ap (λ (b : List ℕ). tag_in h.stage.image b end) (sym h.same_back)) in
    ap (λ (x : List Find). state_with x last on) f
    ∙ (ap (λ (x : Option Tag). state_with (s.found ++ found_in (codes "stage") s.last) x on) tags
    ∙ (ap (λ (x : Bool). state_with (s.found ++ found_in (codes "stage") s.last) (tag_in h.stage.image h.stage.back end) x) is ∙ ap (λ (o : Option Stage). stepped s (continues s.continued line) end o) (sym h.is)))

-- ---- the lines in turn

-- what is left to read leads to those finds
abbrev pub Goes : List ℕ → State → Option (Bor (List ℕ)) → List Find → Type 0
Goes file s None total = finish s ≡ total
Goes file s (Some text) total = (length text.now ≤ length file) × (run s (length file - length text.now) (lines text.now) ≡ total)

abbrev pub left : Option (Bor (List ℕ)) → ℕ
left None = 0
left (Some text) = suc (length text.now)

pub goes-stop : (file : List ℕ) (s : State) (text : Bor (List ℕ)) (line : List ℕ) (others : List (List ℕ)) (total : List Find) → Goes file s (Some text) total → lines text.now ≡ line ∷ others → has_here line ≡ true → finish s ≡ total
unfolding run
goes-stop file s text line others total h is here =
    let at = length file - length text.now in
    sym (if-true (has_here line) (finish s) (run (step s line (at + length line)) (suc (at + length line)) others) here) ∙ (ap (run s at) (sym is) ∙ h.1)

pub goes-on : (file : List ℕ) (s s' : State) (text : Bor (List ℕ)) (line : List ℕ) (behind : Option (Bor (List ℕ))) (end : ℕ) (total : List Find) → Goes file s (Some text) total → lines text.now ≡ line ∷ lines_of (option_copied behind)
    → MatchOption behind (length line ≡ length text.now) (λ rest. length line + 1 + length rest.now ≡ length text.now) → has_here line ≡ false → end ≡ length file - length text.now + length line → s' ≡ step s line end → Goes file s' behind total
unfolding run
goes-on file s s' text line None end total h is long clear e same =
    let at = length file - length text.now in
    let more = if-false (has_here line) (finish s) (run (step s line (at + length line)) (suc (at + length line)) []) clear in
    ap finish (same ∙ ap (step s line) e) ∙ (sym more ∙ (ap (run s at) (sym is) ∙ h.1))
goes-on file s s' text line (Some rest) end total h is long clear e same =
    let at = length file - length text.now in
    let within = h.0 in
    let more = if-false (has_here line) (finish s) (run (step s line (at + length line)) (suc (at + length line)) (lines rest.now)) clear in
    let place : length file - length rest.now ≡ suc (at + length line) = omega arith in (
      omega arith,
      ap (λ (n : ℕ). run s' n (lines rest.now)) place ∙ (ap (λ (x : State). run x (suc (at + length line)) (lines rest.now)) (same ∙ ap (step s line) e) ∙ (sym more ∙ (ap (run s at) (sym is) ∙ h.1))),
    )

pub goes-at : (file : List ℕ) (s : State) (rest : Option (Bor (List ℕ))) (text : Bor (List ℕ)) (total : List Find) → Goes file s rest total → rest ≡ Some text → Goes file s (Some text) total
goes-at file s rest text total h is = subst (λ (r : Option (Bor (List ℕ))). Goes file s r total) is h
