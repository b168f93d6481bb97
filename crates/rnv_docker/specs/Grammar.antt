-- A Dockerfile as bytes and finds.
use Rattle.std.specs.Prelude.{◌≡◌, ℕ, List, [], ◌∷◌, ◌++◌, Bool, true, false, ◌&&◌, ◌||◌, not, if◌then◌else◌, codes, Option, Some, None, is_some, option_to_list}
use Rattle.rnv_base.specs.declared.kinds.SourceKind.TheVariants.{Docker}
use Rattle.rnv_manager.specs.Marks.{Mark, Slot, byte, find, bytes, text_of}
use Rattle.rnv_docker.specs.Lines.{lines, is_left, goes_on, has_here}
use Rattle.rnv_docker.specs.Words.{words}
use Rattle.rnv_docker.specs.Stages.{Stage, stage}
use Rattle.rnv_docker.specs.Images.{tagged}

-- The stage that a line begins. One that goes on in the next line begins none, nor does a continuation.
abbrev pub stage_of : Bool → List ℕ → Option Stage
stage_of continued line = if is_left line && not continued && not (goes_on line) then stage (words line) else None

-- whether the line behind it is a continuation
abbrev pub continues : Bool → List ℕ → Bool
continues continued line = if is_left line then goes_on line else continued

-- Whether a stage begins in the lines. From the first line with `<<` on nothing is looked at.
abbrev pub begin : Bool → List (List ℕ) → Bool
begin continued [] = false
begin continued (l ∷ ls) = not (has_here l) && (is_some (stage_of continued l) || begin (continues continued l) ls)

abbrev pub name_of : Option Stage → List (List ℕ)
name_of None = []
name_of (Some s) = option_to_list s.name

-- The place of a stage's find is `final` where no stage begins behind it.
abbrev pub place_of : Bool → List ℕ
place_of later = if later then codes "stage" else codes "final"

-- The package of a find is its name.
abbrev pub slot : List ℕ → List ℕ → Slot
slot place name = record { name = name; «package» = name; place = place; source = Docker }

-- an image, and then the marks ms
abbrev pub image_marks : List ℕ → List ℕ → Option (List ℕ × List ℕ) → List Mark → List Mark
image_marks place image None ms = bytes image ms
image_marks place image (Some p) ms = bytes p.0 (byte 58 ∷ find (slot place p.0) p.1 ∷ ms)

-- a line, and then the marks ms
abbrev pub line_marks : List ℕ → List (List ℕ) → List ℕ → Option Stage → List Mark → List Mark
line_marks place earlier line None ms = bytes line ms
line_marks place earlier line (Some s) ms = bytes s.front (image_marks place s.image (tagged earlier s.image) (bytes s.back ms))

-- a line feed before the next line, if there is one
abbrev pub fed : List (List ℕ) → List Mark → List Mark
fed [] ms = ms
fed (l ∷ ls) ms = byte 10 ∷ ms

abbrev pub plain_marks : List (List ℕ) → List Mark
plain_marks [] = []
plain_marks (l ∷ ls) = bytes l (fed ls (plain_marks ls))

abbrev pub marks : Bool → List (List ℕ) → List (List ℕ) → List Mark
marks continued earlier [] = []
marks continued earlier (l ∷ ls) = if has_here l then plain_marks (l ∷ ls) else line_marks (place_of (begin (continues continued l) ls)) earlier l (stage_of continued l) (fed ls (marks (continues continued l) (earlier ++ name_of (stage_of continued l)) ls))

abbrev pub pieces : List ℕ → List Mark
pieces file = marks false [] (lines file)

-- Each file has one reading.
pub record IsRead (file : List ℕ) (ms : List Mark) : Type 0 where
  pub are : ms ≡ pieces file
  pub whole : file ≡ text_of ms
