-- The text of a package.json as a tree (RFC 8259) that keeps each byte, and the marks of that tree.
use Rattle.std.specs.Prelude.{◌≡◌, ℕ, zero, suc, List, [], ◌∷◌, true, ◌&&◌, if◌then◌else◌, Some, ⊤}
use Rattle.std.specs.List.{list_all}
use Rattle.rnv_manager.specs.Marks.{Mark, byte, find, bytes, text_of}
use Rattle.rnv_package_json.specs.declared.text.Within.TheVariants.{Plain}
use Rattle.rnv_package_json.specs.declared.value.Kind.{Kind}
use Rattle.rnv_package_json.specs.declared.value.Kind.TheVariants.{Array, Object}
use Rattle.rnv_package_json.specs.Text.{is_space, is_inside}
use Rattle.rnv_package_json.specs.Word.{is_word}
use Rattle.rnv_package_json.specs.Roles.{Standing, top, among, entry, other, named, is_clean, slot}

-- What stands before a value: in an array nothing, in an object white space, the name between its quotes,
-- and white space before the colon.
pub data Label : Type 0 where
  unnamed : Label
  name : List ℕ → List ℕ → List ℕ → Label

mutual
  pub data Value : Type 0 where
    -- a number, true, false or null
    word : List ℕ → Value
    -- a string, by what stands between the quotes
    text : List ℕ → Value
    -- brackets round white space
    empty : Kind → List ℕ → Value
    group : Kind → Parts → Value

  -- Values with their labels, white space before and behind each, and a comma between.
  pub data Parts : Type 0 where
    last : Label → List ℕ → Value → List ℕ → Parts
    more : Label → List ℕ → Value → List ℕ → Parts → Parts

-- ---- what is allowed

abbrev pub IsGap : List ℕ → Type 0
IsGap g = list_all is_space g ≡ true

abbrev pub IsInside : List ℕ → Type 0
IsInside s = is_inside (Some Plain) s ≡ true

abbrev pub IsLabel : Kind → Label → Type 0
IsLabel Array unnamed = ⊤
IsLabel Array (name a s b) = ⊥
IsLabel Object unnamed = ⊥
IsLabel Object (name a s b) = IsGap a × IsInside s × IsGap b

-- nested no deeper than the number
abbrev mutual
  pub IsValue : ℕ → Value → Type 0
  IsValue n (word w) = is_word w ≡ true
  IsValue n (text s) = IsInside s
  IsValue zero (empty k g) = ⊥
  IsValue (suc n) (empty k g) = IsGap g
  IsValue zero (group k ps) = ⊥
  IsValue (suc n) (group k ps) = AreParts n k ps

  pub AreParts : ℕ → Kind → Parts → Type 0
  AreParts n k (last l a v b) = IsLabel k l × IsGap a × IsValue n v × IsGap b
  AreParts n k (more l a v b ps) = IsLabel k l × IsGap a × IsValue n v × IsGap b × AreParts n k ps

abbrev pub IsObject : Value → Type 0
IsObject (word w) = ⊥
IsObject (text s) = ⊥
IsObject (empty k g) = k ≡ Object
IsObject (group k ps) = k ≡ Object

-- ---- the bytes and the finds

abbrev pub opening : Kind → ℕ
opening Array = 91
opening Object = 123

abbrev pub close : Kind → ℕ
close Array = 93
close Object = 125

abbrev pub label_marks : Label → List Mark → List Mark
label_marks unnamed ms = ms
label_marks (name a s b) ms = bytes a (byte 34 ∷ bytes s (byte 34 ∷ bytes b (byte 58 ∷ ms)))

abbrev pub labelled : Standing → Label → Standing
labelled standing unnamed = other
labelled standing (name a s b) = named standing s

-- A string is a find where it is the value of a place's member, and name and value are clean.
abbrev pub text_marks : Standing → List ℕ → List Mark → List Mark
text_marks top s ms = bytes s ms
text_marks (among p) s ms = bytes s ms
text_marks (entry p n) s ms = if is_clean n && is_clean s then find (slot p n) s ∷ ms else bytes s ms
text_marks other s ms = bytes s ms

-- a value, and then the marks ms
abbrev mutual
  pub marks : Standing → Value → List Mark → List Mark
  marks standing (word w) ms = bytes w ms
  marks standing (text s) ms = byte 34 ∷ text_marks standing s (byte 34 ∷ ms)
  marks standing (empty k g) ms = byte (opening k) ∷ bytes g (byte (close k) ∷ ms)
  marks standing (group k ps) ms = byte (opening k) ∷ parts_marks standing ps (byte (close k) ∷ ms)

  pub parts_marks : Standing → Parts → List Mark → List Mark
  parts_marks standing (last l a v b) ms = label_marks l (bytes a (marks (labelled standing l) v (bytes b ms)))
  parts_marks standing (more l a v b ps) ms = label_marks l (bytes a (marks (labelled standing l) v (bytes b (byte 44 ∷ parts_marks standing ps ms))))

-- The file is one object with white space round it, nested at most 127 deep, and these are its marks.
pub record IsRead (file : List ℕ) (ms : List Mark) : Type 0 where
  pub before : List ℕ
  pub value : Value
  pub after : List ℕ
  pub is_gap : IsGap before
  pub is_value : IsValue 127 value
  pub is_object : IsObject value
  pub is_gap_after : IsGap after
  pub marked : ms ≡ bytes before (marks top value (bytes after []))
  pub whole : file ≡ text_of ms
