-- Which versions are allowed.
use Rattle.std.specs.Prelude.{ℕ, Bool, true, false, List, Option, Some, None}
use Rattle.rnv_pattern.specs.Meaning.{matches_list}
use Rattle.rnv_version.specs.Numbering.{Numbering}
use Rattle.rnv_pick.specs.declared.allowance.Allowance.{Allowance}
use Rattle.rnv_pick.specs.declared.allowance.Allowance.TheVariants as allowance
use Rattle.rnv_pick.specs.declared.options.Allowed.{Allowed}
use Rattle.rnv_pick.specs.declared.options.Allowed.TheVariants as allowed

-- a range that does not read has no versions
abbrev pub range_allowance : {R : Type 0} → Option R → Allowance R
range_allowance None = allowance.Nothing
range_allowance (Some range) = allowance.Within range

abbrev pub named_allowance : {V R : Type 0} → Numbering V R → Allowed → Allowance R
named_allowance n (allowed.Patterns text list) = allowance.Matching list
named_allowance n (allowed.Range text) = range_allowance (n.range_of text)

-- where nothing is named, all are allowed
abbrev pub allowance_of : {V R : Type 0} → Numbering V R → Option Allowed → Allowance R
allowance_of n None = allowance.All
allowance_of n (Some allowed) = named_allowance n allowed

-- the version is in the range, or its text matches the patterns
abbrev pub admits : {V R : Type 0} → Numbering V R → Allowance R → List ℕ → V → Bool
admits n allowance.All text version = true
admits n allowance.Nothing text version = false
admits n (allowance.Within range) text version = n.is_satisfied range version
admits n (allowance.Matching patterns) text version = matches_list patterns text
