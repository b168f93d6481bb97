-- The moments that the object `time` of an npm document tells.
use Rattle.std.specs.Prelude.{ℕ, List, [], ◌∷◌, map, Bool, false, Option, Some, None, String}
use Rattle.std.specs.Ordering.{nat_cmp, is_gt, match_ordering}
use Rattle.std.specs.declared.alloc.Global.{Global}
use Rattle.std.specs.Cmp.Lexicographic.{slice_cmp}
use Rattle.serde_json.specs.Data.{Data, Members, no_members, member}
use Rattle.serde_json.specs.Find.{as_object}
use Rattle.serde_json.specs.View.{members_view}
use Rattle.serde_json.specs.declared.value.Value.{Value}
use Rattle.rnv_base.specs.Files.{IsRising}
use Rattle.rnv_release.specs.declared.release.Release.{Release}
use Rattle.rnv_release.specs.declared.times.Times.{Times}
use Rattle.rnv_release.specs.Moments.{time_of}

-- the members of `time`, which may be missing, and else is an object
abbrev pub times_in : Option Data → Option Members
times_in None = Some no_members
times_in (Some value) = as_object value

-- a name, and the moment that its value tells
pub record ToldTime : Type 0 where
  pub name : List ℕ
  pub time : Option ℕ

-- each name with its moment
abbrev pub told_by : Members → List ToldTime
told_by no_members = []
told_by (member name value rest) = record { name = name; time = time_of value } ∷ told_by rest

abbrev pub members_left : Option (String Global × Value) → List (String Global × Value) → List (String Global × Value)
members_left None rest = []
members_left (Some ahead) rest = ahead ∷ rest

-- what the members tell that a walk has not passed
abbrev pub times_left : Times → List ToldTime
times_left times = told_by (members_view (members_left times.ahead times.rest))

abbrev pub AreRising : List ToldTime → Type 0
AreRising times = IsRising (map (λ (t : ToldTime). t.name) times)

-- the times of the names that are not below this one
abbrev pub times_from : List ℕ → List ToldTime → List ToldTime
times_from name [] = []
times_from name (t ∷ ts) = match_ordering (slice_cmp nat_cmp name t.name) (t ∷ ts) (t ∷ ts) (times_from name ts)

-- whether the first name is below this one
abbrev pub begin_below : List ℕ → List ToldTime → Bool
begin_below name [] = false
begin_below name (t ∷ ts) = is_gt (slice_cmp nat_cmp name t.name)

-- the time of the first, if that has this name
abbrev pub first_time : List ℕ → List ToldTime → Option ℕ
first_time name [] = None
first_time name (t ∷ ts) = match_ordering (slice_cmp nat_cmp name t.name) None t.time None

-- the time that is told for this name
abbrev pub time_for : List ℕ → List ToldTime → Option ℕ
time_for name [] = None
time_for name (t ∷ ts) = match_ordering (slice_cmp nat_cmp name t.name) (time_for name ts) t.time (time_for name ts)

-- the release of this name
abbrev pub release_told : List ToldTime → List ℕ → Release
release_told times name = record { text = name; time = time_for name times; yanked = false }
