-- How a diff is written.
use Rattle.std.specs.Prelude.{ℕ, ◌+◌, ◌==◌, if◌then◌else◌, List, [], ◌∷◌, ◌++◌, length, flat_map, codes}
use Rattle.std.specs.Fmt.{decimal}
use Rattle.rnv_patch.specs.Lines.{is_ended}
use Rattle.rnv_patch.specs.Diff.{Change, kept, removed, added, Hunk, old_lines, new_lines}

-- what stands behind a line without a line feed
abbrev pub line_end : List ℕ → List ℕ
line_end line = if is_ended line then [] else codes "\n\\ No newline at end of file\n"

-- a line behind its sign
abbrev pub signed : ℕ → List ℕ → List ℕ
signed sign line = sign ∷ line ++ line_end line

abbrev pub change_text : Change → List ℕ
change_text (kept line) = signed 32 line
change_text (removed line) = signed 45 line
change_text (added line) = signed 43 line

-- The number of the first line, from 1 on, and how many there are, which is left out where it is one. Of no lines it
-- is the number of the line before.
abbrev pub range_text : ℕ → ℕ → List ℕ
range_text before count =
    if count == 0 then decimal before ++ codes ",0"
    else if count == 1 then decimal (before + 1)
    else decimal (before + 1) ++ (codes "," ++ decimal count)

-- `@@ -OLD +NEW @@`
unfoldable pub header_text : ℕ → ℕ → ℕ → ℕ → List ℕ
header_text old_before old_count new_before new_count =
    codes "@@ -" ++ (range_text old_before old_count ++ (codes " +" ++ (range_text new_before new_count ++ codes " @@\n")))

unfoldable pub hunk_text : Hunk → List ℕ
hunk_text h =
    header_text h.old_before (length (old_lines h.changes)) h.new_before (length (new_lines h.changes))
    ++ flat_map change_text h.changes

abbrev pub hunks_text : List Hunk → List ℕ
hunks_text hunks = flat_map hunk_text hunks
