-- Texts as lists of words.
use Rattle.std.specs.Prelude.{ℕ, ◌==◌, Bool, List, [], ◌∷◌, map, Option, Some, None}
use Rattle.std.specs.Char.{to_ascii_lowercase}
use Rattle.std.specs.Cmp.Lexicographic.{pointwise}
use Rattle.std.specs.List.{position, slice_split}
use Rattle.std.specs.Str.{bytes_eq}
use denote.Ref.{Bor}

-- what stands before, between and behind the bytes of this kind
abbrev pub pieces : ℕ → List ℕ → List (List ℕ)
pieces at text = slice_split (λ b. b == at) text

-- a text is this word, but for the case of ASCII letters
abbrev pub is_word : List ℕ → List ℕ → Bool
is_word word text = bytes_eq (map to_ascii_lowercase text) (map to_ascii_lowercase word)

-- texts are these words, one for each
abbrev pub are_words : List (List ℕ) → List (List ℕ) → Bool
are_words words texts = pointwise is_word words texts

-- the place, from 0, of a text in a list of words
abbrev pub place_of : List (List ℕ) → List ℕ → Option ℕ
place_of words text = position (λ word. is_word word text) words

-- the values of all of them, if each has one
abbrev pub with_each : {A : Type 0} → Option A → Option (List A) → Option (List A)
with_each (Some value) (Some values) = Some (value ∷ values)
with_each (Some value) None = None
with_each None values = None

abbrev pub each : {A : Type 0} → List (Option A) → Option (List A)
each [] = Some []
each (value ∷ values) = with_each value (each values)

-- the texts behind a list of references
abbrev pub texts : List (Bor (List ℕ)) → List (List ℕ)
texts references = map (λ reference. reference.now) references
