-- Reading from left to right.
use Rattle.std.specs.Prelude.{◌≡◌, ℕ, suc, ◌+◌, ◌-◌, ◌<◌, nat_lt, ◌==◌, List, [], ◌∷◌, ◌++◌, length, take, drop, Bool, false, not, if◌then◌else◌, codes, Option, Some, None, option_map}
use Rattle.std.specs.List.{position_or_len, after_first}
use Rattle.rnv_manager.specs.Finds.{Find, views}
use Rattle.rnv_manager.specs.Marks.{find_at}
use Rattle.rnv_docker.specs.declared.reading.Tagged.{Tagged}
use Rattle.rnv_docker.specs.declared.reading.Reading.{Reading}
use Rattle.rnv_docker.specs.Lines.{lines, is_space, has_here}
use Rattle.rnv_docker.specs.Words.{words, word}
use Rattle.rnv_docker.specs.Stages.{Stage}
use Rattle.rnv_docker.specs.Images.{at_colon, tagged}
use Rattle.rnv_docker.specs.Grammar.{stage_of, continues, slot}

-- what follows the longest front of bytes that pass
abbrev pub skip : (ℕ → Bool) → List ℕ → List ℕ
skip p [] = []
skip p (x ∷ xs) = if p x then skip p xs else x ∷ xs

abbrev pub is_ink : ℕ → Bool
is_ink x = not (is_space x)

-- the first word of a text, and what stands behind it
pub record IsFirst (text first rest : List ℕ) : Type 0 where
  pub gap : List ℕ
  pub are : words text ≡ word gap first (words rest)

-- a stage with that image, and that behind it
pub record HasStage (o : Option Stage) (image back : List ℕ) : Type 0 where
  pub stage : Stage
  pub is : o ≡ Some stage
  pub same_image : stage.image ≡ image
  pub same_back : stage.back ≡ back

-- The last colon stands there.
pub record IsColon (text : List ℕ) (at : ℕ) : Type 0 where
  pub within : at < length text
  pub whole : text ≡ take at text ++ 58 ∷ drop (suc at) text
  pub is : at_colon text ≡ Some (take at text, drop (suc at) text)

pub record IsTagged (image name tag : List ℕ) : Type 0 where
  pub is : tagged [] image ≡ Some (name, tag)

-- ---- lines

-- what stands behind the first line feed, if there is one
abbrev pub behind_feed : List ℕ → Option (List ℕ)
behind_feed text = if nat_lt (position_or_len (λ x. x == 10) text) (length text) then Some (after_first (λ x. x == 10) text) else None

abbrev pub lines_of : Option (List ℕ) → List (List ℕ)
lines_of None = []
lines_of (Some text) = lines text

-- a find without its place
pub record Tag : Type 0 where
  pub name : List ℕ
  pub tag : List ℕ
  pub start : ℕ

abbrev pub tag_view : Tagged → Tag
tag_view t = record { name = t.name.now; tag = t.tag.now; start = t.start }

abbrev pub tag_of : List ℕ → ℕ → List ℕ × List ℕ → Tag
tag_of back end p = record { name = p.0; tag = p.1; start = end - length back - length p.1 }

abbrev pub tag_in : List ℕ → List ℕ → ℕ → Option Tag
tag_in image back end = option_map (tag_of back end) (tagged [] image)

abbrev pub found_in : List ℕ → Option Tag → List Find
found_in place None = []
found_in place (Some t) = find_at (slot place t.name) t.tag t.start ∷ []

-- what is read so far
pub record State : Type 0 where
  pub found : List Find
  pub last : Option Tag
  pub continued : Bool

abbrev pub state : Reading → State
state r = record { found = views r.found.items; last = option_map tag_view r.last; continued = r.continued }

abbrev pub started : State
started = record { found = []; last = None; continued = false }

abbrev pub stepped : State → Bool → ℕ → Option Stage → State
stepped s on end None = record { found = s.found; last = s.last; continued = on }
stepped s on end (Some st) = record { found = s.found ++ found_in (codes "stage") s.last; last = tag_in st.image st.back end; continued = on }

-- one line more, which ends at that place
unfoldable pub step : State → List ℕ → ℕ → State
step s line end = stepped s (continues s.continued line) end (stage_of s.continued line)

abbrev pub finish : State → List Find
finish s = s.found ++ found_in (codes "final") s.last

-- the finds, where the lines begin at that place
unfoldable pub run : State → ℕ → List (List ℕ) → List Find
run s at [] = finish s
run s at (l ∷ ls) = if has_here l then finish s else run (step s l (at + length l)) (suc (at + length l)) ls
