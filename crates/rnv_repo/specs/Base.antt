-- The base of a repository: its files, and how changes leave them.
use Rattle.std.specs.Prelude.{ℕ, nat_lt, Bool, true, false, not, ◌||◌, if◌then◌else◌, List, [], ◌∷◌, length, sum_by, Option, None, Some}
use Rattle.std.specs.List.{list_any}
use Rattle.std.specs.Str.{bytes_eq}
use Rattle.rnv_base.specs.Limits.{base_bytes, base_files}
use Rattle.rnv_repo.specs.Files.{MarkedFile, PathChange}
use Rattle.rnv_repo.specs.Named.{at, put, without}

abbrev pub path_of : MarkedFile → List ℕ
path_of f = f.path

-- the revision that a file with these new bytes is marked with: an equal one keeps its mark
abbrev pub mark : ℕ → List ℕ → Option MarkedFile → ℕ
mark revision bytes None = revision
mark revision bytes (Some f) = if bytes_eq f.bytes bytes then f.changed else revision

-- the files with these new bytes at a path, or without that path
abbrev pub with_bytes : ℕ → List ℕ → Option (List ℕ) → List MarkedFile → List MarkedFile
with_bytes revision path None files = without path_of path files
with_bytes revision path (Some bytes) files =
    put path_of (record { path = path; bytes = bytes; changed = mark revision bytes (at path_of path files) }) files

-- the files after changes, one after the other
abbrev pub changed : ℕ → List PathChange → List MarkedFile → List MarkedFile
changed revision [] files = files
changed revision (c ∷ cs) files = changed revision cs (with_bytes revision c.path c.bytes files)

-- the file that is there has other bytes, or is removed, or there is none and it is set
abbrev pub differs : Option (List ℕ) → Option MarkedFile → Bool
differs None None = false
differs None (Some f) = true
differs (Some bytes) None = true
differs (Some bytes) (Some f) = not (bytes_eq f.bytes bytes)

-- some change changes a file
abbrev pub is_changing : List PathChange → List MarkedFile → Bool
is_changing cs files = list_any (λ c. differs c.bytes (at path_of c.path files)) cs

-- more than 20,000 files, or more than 67,108,864 bytes
abbrev pub is_over : List MarkedFile → Bool
is_over files = nat_lt base_files (length files) || nat_lt base_bytes (sum_by (λ f. length f.bytes) files)
