-- The candidates of a dependency that one is chosen from.
use Rattle.std.specs.Prelude.{Bool, true, false, not, List, [], ◌∷◌, if◌then◌else◌}
use Rattle.rnv_base.specs.declared.kinds.UpdateKind.{UpdateKind}
use Rattle.rnv_base.specs.declared.kinds.UpdateKind.TheVariants as kind
use Rattle.rnv_pick.specs.declared.bucket.Bucket.{Bucket}
use Rattle.rnv_pick.specs.declared.bucket.Bucket.TheVariants.{Patch, Minor, Major, Rest, All}
use Rattle.rnv_pick.specs.declared.options.DepOptions.{DepOptions}

abbrev pub is_major : UpdateKind → Bool
is_major kind.Major = true
is_major _ = false

abbrev pub is_minor : UpdateKind → Bool
is_minor kind.Minor = true
is_minor _ = false

abbrev pub is_patch : UpdateKind → Bool
is_patch kind.Patch = true
is_patch _ = false

abbrev pub is_in : Bucket → UpdateKind → Bool
is_in Patch k = is_patch k
is_in Minor k = is_minor k
is_in Major k = is_major k
is_in Rest k = not (is_major k)
is_in All k = true

-- one; or major and the rest; or major, minor and patch: from lesser kinds to greater ones
abbrev pub buckets : DepOptions → List Bucket
buckets options =
    if options.split_major then (if options.split_patch then Patch ∷ Minor ∷ Major ∷ [] else Rest ∷ Major ∷ []) else All ∷ []
