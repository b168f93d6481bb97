-- The stage that a line begins, by its first word and what stands behind it.
use Rattle.std.proofs.Common.{◌≡◌, ℕ, true, false, List, [], ◌∷◌, ◌++◌, Option, Some, None, refl, sym, ap, subst, ◌∙◌, inl, inr}
use Rattle.std.specs.Prelude.{is_some, option_map, codes}
use denote.Ref.{Bor}
use Rattle.std.specs.Option.{MatchOption}
use Rattle.rnv_docker.specs.Words.{Words, spaces, word, words, spelled}
use Rattle.rnv_docker.specs.Stages.{Stage, is_same, is_platform, naming, stage_with, imaging, flagged, stage}
use Rattle.rnv_docker.specs.Read.{IsFirst, HasStage}
use Rattle.rnv_docker.proofs.Bools.{if-true, if-false, some_or_none}
use Rattle.rnv_docker.proofs.Words.{spelled-words}

-- what a call gave is that stage
abbrev pub Gives : Option (Bor (List ℕ) × Bor (List ℕ)) → Option Stage → Type 0
Gives r o = MatchOption r (o ≡ None) (λ p. HasStage o p.0.now p.1.now)

pub imaging-some : (front text image rest : List ℕ) → IsFirst text image rest → is_some (naming (words rest)) ≡ true → HasStage (imaging front (words text)) image rest
imaging-some front text image rest f named =
    elim (some_or_none (naming (words rest))) [
      | inl none ↦ absurd (let wrong : false ≡ true = sym (ap is_some none) ∙ named in cc)
      | inr some ↦ record {
        stage = stage_with (front ++ f.gap) image (words rest) some.0;
        is = ap (imaging front) f.are ∙ ap (option_map (stage_with (front ++ f.gap) image (words rest))) some.1;
        same_image = refl;
        same_back = spelled-words rest;
      }
    ]

pub flagged-plain : (front text first rest : List ℕ) (r : Option (Bor (List ℕ) × Bor (List ℕ))) → IsFirst text first rest → is_platform first ≡ false → Gives r (imaging front (words text)) → Gives r (flagged front (words text))
flagged-plain front text first rest r f c h =
    let same : flagged front (words text) ≡ imaging front (words text) =
    ap (flagged front) f.are
    ∙ (if-false (is_platform first) (imaging (front ++ (f.gap ++ first)) (words rest)) (imaging front (word f.gap first (words rest))) c ∙ ap (imaging front) (sym f.are)) in
    subst (Gives r) (sym same) h

pub stage-from : (line from rest : List ℕ) (r : Option (Bor (List ℕ) × Bor (List ℕ))) → IsFirst line from rest → is_same from (codes "from") ≡ true → ((front : List ℕ) → Gives r (flagged front (words rest))) → Gives r (stage (words line))
unfolding stage
stage-from line from rest r f c h =
    let same : stage (words line) ≡ flagged (f.gap ++ from) (words rest) = ap stage f.are ∙ if-true (is_same from (codes "from")) (flagged (f.gap ++ from) (words rest)) None c in
    subst (Gives r) (sym same) (h (f.gap ++ from))

pub stage-other : (line from rest : List ℕ) → IsFirst line from rest → is_same from (codes "from") ≡ false → stage (words line) ≡ None
unfolding stage
stage-other line from rest f c = ap stage f.are ∙ if-false (is_same from (codes "from")) (flagged (f.gap ++ from) (words rest)) None c

pub stage-empty : (line gap : List ℕ) → words line ≡ spaces gap → stage (words line) ≡ None
unfolding stage
stage-empty line gap e = ap stage e
