-- The names of repositories, files and packages.
use Rattle.std.specs.Prelude.{ℕ, List, length, ◌≡◌, ◌≢◌, ◌<◌, ◌≤◌, ◌==◌, ◌||◌, Bool, IsTrue, All, codes}
use Rattle.std.specs.Char.{is_ascii_alphanumeric}
use Rattle.std.specs.List.{slice_split}
use Rattle.std.specs.Str.{IsUtf8}

-- the parts of a text between its slashes
abbrev pub segments : List ℕ → List (List ℕ)
segments text = slice_split (λ b. b == 47) text

-- a letter, a digit, `.`, `_` or `-`
abbrev pub is_name_byte : ℕ → Bool
is_name_byte b = is_ascii_alphanumeric b || b == 46 || b == 95 || b == 45

-- a letter, a digit or one of `-_.@:/`
abbrev pub is_package_byte : ℕ → Bool
is_package_byte b = is_name_byte b || b == 64 || b == 58 || b == 47

-- a control character is below U+0020, or U+007F
pub record IsPrintable (b : ℕ) : Type 0 where
  pub above : 32 ≤ b
  pub below : b ≢ 127

-- a segment that stays in its folder
pub record IsSegment (part : List ℕ) : Type 0 where
  pub filled : 0 < length part
  pub not_here : part ≢ codes "."
  pub not_above : part ≢ codes ".."

pub record IsHalf (part : List ℕ) : Type 0 where
  pub segment : IsSegment part
  pub short : length part ≤ 100
  pub bytes : All (λ b. IsTrue (is_name_byte b)) part

-- `OWNER/NAME`
pub record IsRepositoryName (name : List ℕ) : Type 0 where
  pub two : length (segments name) ≡ 2
  pub halves : All IsHalf (segments name)

pub record IsPath (path : List ℕ) : Type 0 where
  pub filled : 0 < length path
  pub short : length path ≤ 1000
  pub text : IsUtf8 path
  pub bytes : All IsPrintable path
  pub segments : All IsSegment (segments path)

pub record IsPackageName (name : List ℕ) : Type 0 where
  pub filled : 0 < length name
  pub short : length name ≤ 214
  pub bytes : All (λ b. IsTrue (is_package_byte b)) name
  pub segments : All IsSegment (segments name)
