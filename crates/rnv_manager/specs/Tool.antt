-- A manager for tests, of files that are one line `tool=fmt v9.9.9` or the like: the last five of fifteen
-- bytes are the only find.
use Rattle.std.specs.Prelude.{◌≡◌, ℕ, List, [], ◌∷◌, take, drop, length, Bool, ◌&&◌, ◌==◌, nat_lt, slice_index, if◌then◌else◌, codes}
use Rattle.rnv_base.specs.declared.kinds.SourceKind.TheVariants.{Npm}
use Rattle.rnv_manager.specs.Marks.{Mark, Slot, find, bytes, text_of}

abbrev pub is_line : List ℕ → Bool
is_line file = (length file == 15) && nat_lt (slice_index file 9) 128

abbrev pub fmt : Slot
fmt = record { name = codes "fmt"; «package» = codes "fmt"; place = codes "custom"; source = Npm }

abbrev pub pieces : List ℕ → List Mark
pieces file = if is_line file then bytes (take 10 file) (find fmt (drop 10 file) ∷ []) else bytes file []

pub record IsTool (file : List ℕ) (ms : List Mark) : Type 0 where
  pub are : ms ≡ pieces file
  pub whole : file ≡ text_of ms
