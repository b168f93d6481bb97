-- The limits of the program.
use Rattle.std.specs.Prelude.{ℕ}

-- the bytes of the store's file
abbrev pub store_bytes : ℕ
store_bytes = 268435456

-- the files of one base
abbrev pub base_files : ℕ
base_files = 20000

-- the bytes of one base's files together
abbrev pub base_bytes : ℕ
base_bytes = 67108864

-- the bytes of the settings, or of one release document
abbrev pub document_bytes : ℕ
document_bytes = 67108864

-- the rules of a resolved configuration
abbrev pub most_rules : ℕ
most_rules = 1000

-- the dependencies found in one repository
abbrev pub most_dependencies : ℕ
most_dependencies = 20000

-- the releases of one document
abbrev pub most_releases : ℕ
most_releases = 50000

-- the branches that the rules want
abbrev pub most_items : ℕ
most_items = 5000
