-- Why a base is not read.
use Rattle.std.specs.Prelude.{◌≡◌, ◌⊎◌, ℕ, ◌<◌, ◌≤◌, List, [], length, codes}
use Rattle.rnv_base.specs.Files.{NamedFile}
use Rattle.rnv_base.specs.Limits.{base_bytes, base_files}
use Rattle.rnv_checkout.specs.declared.error.BaseError.{BaseError}
use Rattle.rnv_checkout.specs.declared.error.BaseError.TheVariants.{FolderFault, Limit, UnknownRepo, Memory}
use Rattle.rnv_checkout.specs.Base.{IsBase, size_of}

-- more files than the limit, or else more bytes
abbrev pub IsAbove : List ℕ → ℕ → List NamedFile → Type 0
IsAbove which number kept =
    ((which ≡ codes "files") × (number ≡ base_files) × (base_files < length kept))
    ⊎ ((which ≡ codes "base") × (number ≡ base_bytes) × (length kept ≤ base_files) × (base_bytes < size_of kept))

-- what is wrong with the files that are kept
abbrev pub IsWrong : BaseError → List NamedFile → Type 0
IsWrong FolderFault kept = ⊥
IsWrong (Limit which number) kept = IsAbove which number kept
IsWrong UnknownRepo kept = kept ≡ []
IsWrong Memory kept = Unit {0}

-- the base has it
pub record HasWrong (files : List NamedFile) (folder : List ℕ) (error : BaseError) : Type 0 where
  pub kept : List NamedFile
  pub passed : ℕ
  pub base : IsBase files folder kept passed
  pub wrong : IsWrong error kept

abbrev pub IsRefusal : List NamedFile → List ℕ → BaseError → Type 0
IsRefusal files folder FolderFault = Unit {0}
IsRefusal files folder (Limit which number) = HasWrong files folder (Limit which number)
IsRefusal files folder UnknownRepo = HasWrong files folder UnknownRepo
IsRefusal files folder Memory = Unit {0}

-- a fault of the folder, or want of memory
abbrev pub IsPlain : BaseError → Type 0
IsPlain FolderFault = Unit {0}
IsPlain (Limit which number) = ⊥
IsPlain UnknownRepo = ⊥
IsPlain Memory = Unit {0}
