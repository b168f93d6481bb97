-- What a versioning means, as one record, and the laws of its meaning.
use Rattle.std.specs.Prelude.{◌≡◌, ◌≤◌, ℕ, Bool, true, false, List, Option, Some, None, IsSome}
use Rattle.std.specs.Cmp.{IsTotalOrder}
use Rattle.std.specs.Ordering.{is_gt}
use Rattle.std.specs.declared.cmp.Ordering.{Ordering}
use Rattle.rnv_base.specs.Kinds.{rank}
use Rattle.rnv_base.specs.declared.kinds.UpdateKind.{UpdateKind}
use Rattle.rnv_base.specs.declared.kinds.Strategy.{Strategy}
use Rattle.rnv_version.specs.declared.numbers.Numbers.{Numbers}

-- how texts are read as versions V and as ranges R of these, how versions are compared, and what is
-- written for a new one
pub record Numbering (V R : Type 0) : Type 0 where
  -- the version that a text is, if it is one
  pub version_of : List ℕ → Option V
  -- the range that a text is, if it is one
  pub range_of : List ℕ → Option R
  -- whether a text has only the characters with which ranges are written
  pub is_spelled : List ℕ → Bool
  -- which of two versions is the later one
  pub order : V → V → Ordering
  -- whether one of the versions may stand for the other
  pub are_comparable : V → V → Bool
  -- whether the version is in the range
  pub is_satisfied : R → V → Bool
  -- whether the range names one version
  pub is_exact : R → Bool
  -- whether the version is no pre-release
  pub is_stable : V → Bool
  -- how far the second version is from the first
  pub kind_between : V → V → UpdateKind
  -- the first two numbers of a version
  pub numbers_of : V → Numbers
  -- the text of the version that an exact value names; none for other values
  pub exact_text : List ℕ → Option (List ℕ)
  -- the version whose numbers a plain value names; none for other values
  pub bump_start : List ℕ → Option V
  -- by a strategy, what is to stand for a value when the version of this text is wanted, if anything
  pub new_text : Strategy → List ℕ → List ℕ → Option (List ℕ)

-- a later version is of no lesser kind
abbrev pub KindsRise : {V R : Type 0} → Numbering V R → Type 0
KindsRise {V} n = (from a b : V) → is_gt (n.order from a) ≡ false → is_gt (n.order a b) ≡ false
    → rank (n.kind_between from a) ≤ rank (n.kind_between from b)

-- a text is that of a version in the range, which names one
pub record NamesOne {V R : Type 0} (n : Numbering V R) (range : R) (text : List ℕ) : Type 0 where
  pub exact : n.is_exact range ≡ true
  pub version : V
  pub read : n.version_of text ≡ Some version
  pub met : n.is_satisfied range version ≡ true

-- an exact text is that of a version in the exact range that the value is
abbrev pub ExactIsMet : {V R : Type 0} → Numbering V R → Type 0
ExactIsMet {V} {R} n = (value text : List ℕ) (range : R) → n.range_of value ≡ Some range → n.exact_text value ≡ Some text → NamesOne n range text

-- each exact value names one
abbrev pub ExactIsNamed : {V R : Type 0} → Numbering V R → Type 0
ExactIsNamed {V} {R} n = (value : List ℕ) (range : R) → n.range_of value ≡ Some range → n.is_exact range ≡ true → IsSome (n.exact_text value)

-- each text that is a range is spelled with its characters
abbrev pub AreSpelled : {V R : Type 0} → Numbering V R → Type 0
AreSpelled n = (text : List ℕ) → IsSome (n.range_of text) → n.is_spelled text ≡ true

-- a new value is a range that the version satisfies
abbrev pub NewIsMet : {V R : Type 0} → Numbering V R → Type 0
NewIsMet {V} {R} n = (strategy : Strategy) (value version text : List ℕ) (v : V) → IsSome (n.range_of value) → n.version_of version ≡ Some v
    → n.new_text strategy value version ≡ Some text → (r : R) × (n.range_of text ≡ Some r) × (n.is_satisfied r v ≡ true)

-- a new value is spelled with the characters of ranges
abbrev pub NewIsSpelled : {V R : Type 0} → Numbering V R → Type 0
NewIsSpelled n = (strategy : Strategy) (value version text : List ℕ) → IsSome (n.range_of value) → IsSome (n.version_of version)
    → n.new_text strategy value version ≡ Some text → n.is_spelled text ≡ true
