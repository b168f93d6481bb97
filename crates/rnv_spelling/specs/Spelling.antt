-- The one spelling of each write: a byte for its kind, the repository's name, and its fields.
use Rattle.std.specs.Prelude.{ℕ, ◌/◌, ◌%◌, List, [], ◌∷◌, ◌++◌, length, Option, None, Some}
use Rattle.std.specs.List.{flat_map}
use Rattle.rnv_base.specs.Files.{NamedFile}
use Rattle.rnv_repo.specs.declared.branch.Branch.{Branch}
use Rattle.rnv_repo.specs.declared.branch.Key.{Key}
use Rattle.rnv_repo.specs.declared.write.Write.{Write}
use Rattle.rnv_repo.specs.declared.write.Write.TheVariants.{SetBase, PutBranch, DropBranch, OpenRequest, EditRequest, Autoclose, Finish}
use Rattle.rnv_repo.specs.Files.{PathChange}

-- A number in four bytes, big end first. Of a number that needs more the first of these is no byte.
unfoldable pub four_bytes : ℕ → List ℕ
four_bytes n = n / 16777216 ∷ n / 65536 % 256 ∷ n / 256 % 256 ∷ n % 256 ∷ []

-- a number in eight bytes, in the same way
unfoldable pub eight_bytes : ℕ → List ℕ
eight_bytes n = four_bytes (n / 4294967296) ++ four_bytes (n % 4294967296)

-- a length, and so many bytes
abbrev pub spelled_bytes : List ℕ → List ℕ
spelled_bytes bytes = four_bytes (length bytes) ++ bytes

-- a count, and so many parts
abbrev pub spelled_list : {X : Type 0} → (X → List ℕ) → List X → List ℕ
spelled_list spelled xs = four_bytes (length xs) ++ flat_map spelled xs

-- 0, or 1 and the value
abbrev pub spelled_option : {X : Type 0} → (X → List ℕ) → Option X → List ℕ
spelled_option spelled None = 0 ∷ []
spelled_option spelled (Some x) = 1 ∷ spelled x

abbrev pub spelled_key : Key → List ℕ
spelled_key k = spelled_bytes k.file ++ spelled_bytes k.«package» ++ spelled_bytes k.new_value

abbrev pub spelled_file : NamedFile → List ℕ
spelled_file f = spelled_bytes f.path ++ spelled_bytes f.bytes

abbrev pub spelled_change : PathChange → List ℕ
spelled_change c = spelled_bytes c.path ++ spelled_option spelled_bytes c.bytes

abbrev pub spelled_branch : Branch → List ℕ
spelled_branch b =
    spelled_bytes b.name ++ four_bytes b.revision ++ spelled_list spelled_key b.updates
    ++ spelled_list spelled_file b.files ++ spelled_bytes b.problem

abbrev pub spelling : Write → List ℕ
spelling (SetBase repo changes) = 1 ∷ spelled_bytes repo ++ spelled_list spelled_change changes
spelling (PutBranch repo branch) = 2 ∷ spelled_bytes repo ++ spelled_branch branch
spelling (DropBranch repo name) = 3 ∷ spelled_bytes repo ++ spelled_bytes name
spelling (OpenRequest repo number branch updates title body labels made_at) =
    4 ∷ spelled_bytes repo ++ four_bytes number ++ spelled_bytes branch ++ spelled_list spelled_key updates
    ++ spelled_bytes title ++ spelled_bytes body ++ spelled_list spelled_bytes labels ++ eight_bytes made_at
spelling (EditRequest repo number updates title body labels) =
    5 ∷ spelled_bytes repo ++ four_bytes number ++ spelled_list spelled_key updates ++ spelled_bytes title
    ++ spelled_bytes body ++ spelled_list spelled_bytes labels
spelling (Autoclose repo number) = 6 ∷ spelled_bytes repo ++ four_bytes number
spelling (Finish repo page) = 7 ∷ spelled_bytes repo ++ spelled_option spelled_bytes page
