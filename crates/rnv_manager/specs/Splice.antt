-- A file with other texts in place of some of its spans.
use Rattle.std.specs.Prelude.{ℕ, ◌-◌, ◌≤◌, List, [], ◌∷◌, ◌++◌, take, drop}
use Rattle.rnv_manager.specs.declared.splicing.Span.{Span}

-- The spans rise, do not meet, and lie between the two ends.
abbrev pub AreSpans : ℕ → List Span → ℕ → Type 0
AreSpans from [] end = from ≤ end
AreSpans from (s ∷ spans) end = (from ≤ s.start) × (s.start ≤ s.end) × AreSpans s.end spans end

-- what lies outside the spans, from a place in the file on, and the texts, in turn
abbrev pub spliced : List ℕ → ℕ → List Span → List (List ℕ) → List ℕ
spliced file at [] texts = drop at file
spliced file at (s ∷ spans) [] = drop at file
spliced file at (s ∷ spans) (t ∷ texts) = take (s.start - at) (drop at file) ++ (t ++ spliced file s.end spans texts)
