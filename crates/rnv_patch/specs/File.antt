-- The diff of a file, and how it is written.
use Rattle.std.specs.Prelude.{◌≡◌, ◌≢◌, ℕ, Bool, true, false, if◌then◌else◌, List, [], ◌∷◌, ◌++◌, flat_map, codes, Option, None, Some}
use Rattle.rnv_patch.specs.Diff.{Hunk}
use Rattle.rnv_patch.specs.Hunks.{AreHunks}
use Rattle.rnv_patch.specs.Lines.{lines}
use Rattle.rnv_patch.specs.Names.{named, name_end}
use Rattle.rnv_patch.specs.Written.{hunks_text}

-- the hunks of a file with this path, which may be a new one
pub record FileDiff : Type 0 where
  pub path : List ℕ
  pub is_new : Bool
  pub hunks : List Hunk

-- ---- what it says

-- a new file had no lines
abbrev pub old_text : Option (List ℕ) → List ℕ
old_text None = []
old_text (Some text) = text

abbrev pub is_none : Option (List ℕ) → Bool
is_none None = true
is_none (Some text) = false

-- the file at that path had this text, or there was none, and its diff takes it to that text
pub record IsDiff (path : List ℕ) (old : Option (List ℕ)) (new : List ℕ) (d : FileDiff) : Type 0 where
  pub path_is : d.path ≡ path
  pub is_new : d.is_new ≡ is_none old
  pub hunks : AreHunks (lines (old_text old)) (lines new) d.hunks

-- ---- how it is written

-- `diff --git a/P b/P`
unfoldable pub git_line : List ℕ → List ℕ
git_line path = codes "diff --git " ++ (named (codes "a/") path ++ (codes " " ++ (named (codes "b/") path ++ codes "\n")))

abbrev pub mode_line : Bool → List ℕ
mode_line is_new = if is_new then codes "new file mode 100644\n" else []

abbrev pub old_name : Bool → List ℕ → List ℕ
old_name is_new path = if is_new then codes "/dev/null" else named (codes "a/") path ++ name_end path

-- `--- a/P` and `+++ b/P`
unfoldable pub name_lines : Bool → List ℕ → List ℕ
name_lines is_new path =
    codes "--- " ++ (old_name is_new path ++ (codes "\n+++ " ++ (named (codes "b/") path ++ (name_end path ++ codes "\n"))))

-- the names stand where there are hunks
abbrev pub body_text : Bool → List ℕ → List Hunk → List ℕ
body_text is_new path [] = []
body_text is_new path (h ∷ hunks) = name_lines is_new path ++ hunks_text (h ∷ hunks)

unfoldable pub diff_text : FileDiff → List ℕ
diff_text d = git_line d.path ++ (mode_line d.is_new ++ body_text d.is_new d.path d.hunks)

-- the text of such a diff at the end
pub record AddDiff (path : List ℕ) (old : Option (List ℕ)) (new : List ℕ) (before after : List ℕ) : Type 0 where
  pub diff : FileDiff
  pub is : IsDiff path old new diff
  pub text : after ≡ before ++ diff_text diff

-- ---- none or one

-- no diff where the file has this text already, and else one
abbrev pub IsPart : List ℕ → Option (List ℕ) → List ℕ → List FileDiff → Type 0
IsPart path old new [] = old ≡ Some new
IsPart path old new (d ∷ []) = (old ≢ Some new) × IsDiff path old new d
IsPart path old new (d ∷ e ∷ diffs) = ⊥

abbrev pub diffs_text : List FileDiff → List ℕ
diffs_text diffs = flat_map diff_text diffs

-- its text at the end
pub record AddPart (path : List ℕ) (old : Option (List ℕ)) (new : List ℕ) (before after : List ℕ) : Type 0 where
  pub part : List FileDiff
  pub is : IsPart path old new part
  pub text : after ≡ before ++ diffs_text part
