-- Lines that begin a stage: `FROM`, perhaps `--platform=P`, IMAGE, and perhaps `AS` NAME.
use Rattle.std.specs.Prelude.{ℕ, List, [], ◌∷◌, ◌++◌, Bool, true, false, ◌&&◌, ◌==◌, if◌then◌else◌, map, codes, Option, Some, None, option_map}
use Rattle.std.specs.Char.{to_ascii_lowercase, is_ascii_alphabetic}
use Rattle.std.specs.List.{list_all}
use Rattle.std.specs.Str.{bytes_eq}
use Rattle.rnv_base.specs.Values.{is_tag_byte}
use Rattle.rnv_docker.specs.Words.{Words, spaces, word, spelled}

-- the same, without regard to case
abbrev pub is_same : List ℕ → List ℕ → Bool
is_same a b = bytes_eq (map to_ascii_lowercase a) (map to_ascii_lowercase b)

-- The text begins with the prefix, which is of lower case; the text's case does not count.
abbrev pub has_prefix : List ℕ → List ℕ → Bool
has_prefix [] text = true
has_prefix (c ∷ cs) [] = false
has_prefix (c ∷ cs) (x ∷ xs) = (to_ascii_lowercase x == c) && has_prefix cs xs

abbrev pub is_platform : List ℕ → Bool
is_platform text = has_prefix (codes "--platform=") text

-- a letter, and then letters, digits, `-`, `_` and `.`
abbrev pub is_name : List ℕ → Bool
is_name [] = false
is_name (x ∷ xs) = is_ascii_alphabetic x && list_all is_tag_byte xs

-- IMAGE, the line before and behind it, and NAME where there is one.
pub record Stage : Type 0 where
  pub front : List ℕ
  pub image : List ℕ
  pub back : List ℕ
  pub name : Option (List ℕ)

abbrev pub stage_with : List ℕ → List ℕ → Words → Option (List ℕ) → Stage
stage_with front image ws name = record { front = front; image = image; back = spelled ws; name = name }

-- What stands behind IMAGE: nothing, or `AS` NAME. None where it is something else.
abbrev pub naming : Words → Option (Option (List ℕ))
naming (spaces gap) = Some None
naming (word gap as_word (spaces end)) = None
naming (word gap as_word (word gap' name (word gap'' text ws))) = None
naming (word gap as_word (word gap' name (spaces end))) = if is_same as_word (codes "as") && is_name name then Some (Some name) else None

-- from IMAGE on
abbrev pub imaging : List ℕ → Words → Option Stage
imaging front (spaces gap) = None
imaging front (word gap image ws) = option_map (stage_with (front ++ gap) image ws) (naming ws)

-- from behind `FROM` on
abbrev pub flagged : List ℕ → Words → Option Stage
flagged front (spaces gap) = None
flagged front (word gap text ws) = if is_platform text then imaging (front ++ (gap ++ text)) ws else imaging front (word gap text ws)

unfoldable pub stage : Words → Option Stage
stage (spaces gap) = None
stage (word gap text ws) = if is_same text (codes "from") then flagged (gap ++ text) ws else None
