-- Two lists in the order of their names, walked side by side.
use Rattle.std.proofs.Common.{◌≡◌, ◌∙◌, [], ◌∷◌, ◌++◌, append-nil, ℕ, List, map, Option, Some, None, Ordering, Less, Equal, Greater, refl, sym, ap, subst, String, string_bytes, string_cmp, nat_cmp}
use Rattle.std.specs.declared.alloc.Global.{Global}
use Rattle.std.specs.List.{AllByRecursion}
use Rattle.std.specs.List.Sorted.{IsStrictlySortedBy}
use Rattle.std.specs.Cmp.Lexicographic.{slice_cmp}
use Rattle.std.specs.Ordering.{match_ordering, ordering_reverse}
use Rattle.std.specs.Map.Iter.{TakesFirst}
use Rattle.std.proofs.lemmas.Cmp.{nat_list_cmp_total}
use Rattle.std.specs.Map.{keys_of}
use Rattle.rnv_base.specs.Files.{IsRising}
use Rattle.serde_json.specs.Data.{Data, Members, no_members, member, object}
use Rattle.serde_json.specs.Find.{get_member}
use Rattle.serde_json.specs.View.{members_view}
use Rattle.serde_json.specs.declared.value.Value.{Value}
use Rattle.std.specs.Prelude.{option_and_then, false}
use Rattle.rnv_release.specs.declared.release.Release.{Release}
use Rattle.rnv_release.specs.Moments.{time_of}
use Rattle.rnv_release.specs.Npm.{names_of, release_of}
use Rattle.rnv_release.specs.Times.{ToldTime, AreRising, members_left, first_time, release_told, time_for, times_from, told_by}

-- a name is below all names of a list
abbrev pub Below : List ℕ → List (List ℕ) → Type 0
Below name names = AllByRecursion (λ n. slice_cmp nat_cmp name n ≡ Less) names

abbrev pub names : List ToldTime → List (List ℕ)
names times = map (λ (t : ToldTime). t.name) times

below-below : (a b : List ℕ) (ns : List (List ℕ)) → slice_cmp nat_cmp a b ≡ Less → Below b ns → Below a ns
below-below a b [] h below = below
below-below a b (n ∷ ns) h below = (nat_list_cmp_total.trans a b n h below.0, below-below a b ns h below.1)

turned : (a b : List ℕ) (o : Ordering) → slice_cmp nat_cmp a b ≡ o → slice_cmp nat_cmp b a ≡ ordering_reverse o
turned a b o is = nat_list_cmp_total.antisymm b a ∙ ap ordering_reverse is

-- no time is told for a name below all
time_for-below : (name : List ℕ) (times : List ToldTime) → Below name (names times) → time_for name times ≡ None
time_for-below name [] below = refl
time_for-below name (t ∷ ts) below = ap (λ o. match_ordering o (time_for name ts) t.time (time_for name ts)) below.0 ∙ time_for-below name ts below.1

-- ---- the times from a name on

from-at : (o : Ordering) (name : List ℕ) (t : ToldTime) (ts : List ToldTime) → slice_cmp nat_cmp name t.name ≡ o → times_from name (t ∷ ts) ≡ match_ordering o (t ∷ ts) (t ∷ ts) (times_from name ts)
from-at o name t ts is = ap (λ o. match_ordering o (t ∷ ts) (t ∷ ts) (times_from name ts)) is

for-at : (o : Ordering) (name : List ℕ) (t : ToldTime) (ts : List ToldTime) → slice_cmp nat_cmp name t.name ≡ o → time_for name (t ∷ ts) ≡ match_ordering o (time_for name ts) t.time (time_for name ts)
for-at o name t ts is = ap (λ o. match_ordering o (time_for name ts) t.time (time_for name ts)) is

rising-from-at : (o : Ordering) (name : List ℕ) (t : ToldTime) (ts : List ToldTime) → slice_cmp nat_cmp name t.name ≡ o → AreRising (t ∷ ts) → AreRising (times_from name ts) → AreRising (times_from name (t ∷ ts))
rising-from-at Less name t ts is rising later = subst AreRising (sym (from-at Less name t ts is)) rising
rising-from-at Equal name t ts is rising later = subst AreRising (sym (from-at Equal name t ts is)) rising
rising-from-at Greater name t ts is rising later = subst AreRising (sym (from-at Greater name t ts is)) later

-- they rise as all do
pub rising-from : (name : List ℕ) (times : List ToldTime) → AreRising times → AreRising (times_from name times)
unfolding IsStrictlySortedBy
rising-from name [] rising = rising
rising-from name (t ∷ ts) rising = rising-from-at _ name t ts refl rising (rising-from name ts rising.1)

first-at : (o : Ordering) (name : List ℕ) (t : ToldTime) (ts : List ToldTime) → slice_cmp nat_cmp name t.name ≡ o → Below t.name (names ts) → first_time name (times_from name ts) ≡ time_for name ts → first_time name (times_from name (t ∷ ts)) ≡ time_for name (t ∷ ts)
first-at Less name t ts is below later =
    ap (first_time name) (from-at Less name t ts is) ∙ ap (λ o. match_ordering o None t.time None) is
    ∙ sym (for-at Less name t ts is ∙ time_for-below name ts (below-below name t.name (names ts) is below))
first-at Equal name t ts is below later =
    ap (first_time name) (from-at Equal name t ts is) ∙ ap (λ o. match_ordering o None t.time None) is ∙ sym (for-at Equal name t ts is)
first-at Greater name t ts is below later = ap (first_time name) (from-at Greater name t ts is) ∙ later ∙ sym (for-at Greater name t ts is)

-- the first of them has the time that all tell for the name
pub first_time-from : (name : List ℕ) (times : List ToldTime) → AreRising times → first_time name (times_from name times) ≡ time_for name times
unfolding IsStrictlySortedBy
first_time-from name [] rising = refl
first_time-from name (t ∷ ts) rising = first-at _ name t ts refl rising.0 (first_time-from name ts rising.1)

above : (name later t : List ℕ) → slice_cmp nat_cmp name later ≡ Less → slice_cmp nat_cmp name t ≡ Greater → slice_cmp nat_cmp later t ≡ Greater
above name later t below past = turned t later Less (nat_list_cmp_total.trans t name later (turned name t Greater past) below)

later-at : (o : Ordering) (name later : List ℕ) (t : ToldTime) (ts : List ToldTime) → slice_cmp nat_cmp name t.name ≡ o → slice_cmp nat_cmp name later ≡ Less → time_for later (times_from name ts) ≡ time_for later ts → time_for later (times_from name (t ∷ ts)) ≡ time_for later (t ∷ ts)
later-at Less name later t ts is below rest = ap (time_for later) (from-at Less name t ts is)
later-at Equal name later t ts is below rest = ap (time_for later) (from-at Equal name t ts is)
later-at Greater name later t ts is below rest = ap (time_for later) (from-at Greater name t ts is) ∙ rest ∙ sym (for-at Greater later t ts (above name later t.name below is))

-- they tell for a later name what all tell
pub time_for-from : (name later : List ℕ) (times : List ToldTime) → slice_cmp nat_cmp name later ≡ Less → time_for later (times_from name times) ≡ time_for later times
time_for-from name later [] below = refl
time_for-from name later (t ∷ ts) below = later-at _ name later t ts refl below (time_for-from name later ts below)

-- ---- the releases of names that rise

-- each release from the times that are left at its name
abbrev pub walked : List (List ℕ) → List ToldTime → List Release
walked [] times = []
walked (name ∷ ns) times = record { text = name; time = first_time name (times_from name times); yanked = false } ∷ walked ns (times_from name times)

same_releases : (name : List ℕ) (ns : List (List ℕ)) (times : List ToldTime) → Below name ns → map (release_told (times_from name times)) ns ≡ map (release_told times) ns
same_releases name [] times below = refl
same_releases name (later ∷ ns) times below =
    ap (λ time. record { text = later; time = time; yanked = false } ∷ map (release_told (times_from name times)) ns) (time_for-from name later times below.0)
    ∙ ap (λ rest. release_told times later ∷ rest) (same_releases name ns times below.1)

pub walked-told : (ns : List (List ℕ)) (times : List ToldTime) → IsRising ns → AreRising times → walked ns times ≡ map (release_told times) ns
unfolding IsStrictlySortedBy
walked-told [] times names_rise rising = refl
walked-told (name ∷ ns) times names_rise rising =
    ap (λ time. record { text = name; time = time; yanked = false } ∷ walked ns (times_from name times)) (first_time-from name times rising)
    ∙ ap (λ rest. release_told times name ∷ rest) (walked-told ns (times_from name times) names_rise.1 (rising-from name times rising) ∙ same_releases name ns times names_rise.0)

-- ---- the members of objects

below-keys : (k : String Global) (ks : List (String Global)) → AllByRecursion (λ n. string_cmp k n ≡ Less) ks → Below (string_bytes k) (map string_bytes ks)
below-keys k [] below = below
below-keys k (n ∷ ks) below = (below.0, below-keys k ks below.1)

-- keys rise by their bytes
pub keys-rise : (ks : List (String Global)) → IsStrictlySortedBy string_cmp ks → IsRising (map string_bytes ks)
unfolding IsStrictlySortedBy
keys-rise [] rising = rising
keys-rise (k ∷ ks) rising = (below-keys k ks rising.0, keys-rise ks rising.1)

-- the times that the members tell have the names of the members
pub names-told : (entries : List (String Global × Value)) → names (told_by (members_view entries)) ≡ map string_bytes (keys_of entries)
names-told [] = refl
names-told (e ∷ entries) = ap (λ ns. string_bytes e.0 ∷ ns) (names-told entries)

told-at : (o : Ordering) (name : List ℕ) (m : Members) (d : Data) → option_and_then time_of (match_ordering o (get_member name m) (Some d) (get_member name m)) ≡ match_ordering o (option_and_then time_of (get_member name m)) (time_of d) (option_and_then time_of (get_member name m))
told-at Less name m d = refl
told-at Equal name m d = refl
told-at Greater name m d = refl

time_for-told : (name : List ℕ) (times : Members) → time_for name (told_by times) ≡ option_and_then time_of (get_member name times)
time_for-told name no_members = refl
time_for-told name (member l d ms) =
    ap (λ rest. match_ordering (slice_cmp nat_cmp name l) rest (time_of d) rest) (time_for-told name ms) ∙ sym (told-at (slice_cmp nat_cmp name l) name ms d)

-- the releases with the times that the members tell
pub releases-told : (ns : List (List ℕ)) (times : Members) → map (release_told (told_by times)) ns ≡ map (release_of (Some (object times))) ns
releases-told [] times = refl
releases-told (name ∷ ns) times =
    ap (λ time. record { text = name; time = time; yanked = false } ∷ map (release_told (told_by times)) ns) (time_for-told name times)
    ∙ ap (λ rest. release_of (Some (object times)) name ∷ rest) (releases-told ns times)

names-keys : (entries : List (String Global × Value)) → map string_bytes (keys_of entries) ≡ names_of (members_view entries)
names-keys [] = refl
names-keys (e ∷ entries) = ap (λ ns. string_bytes e.0 ∷ ns) (names-keys entries)

-- ---- the walks, once nothing is left

pub listed-all : (items : List Release) (rest : List (String Global)) (left times : List ToldTime) (entries : List (String Global × Value)) → items ++ walked (map string_bytes rest) left ≡ walked (map string_bytes (keys_of entries)) times → rest ≡ [] → IsStrictlySortedBy string_cmp (keys_of entries) → AreRising times → items ≡ map (release_told times) (names_of (members_view entries))
listed-all items rest left times entries whole none ordered rising =
    sym (append-nil items) ∙ ap (λ ks. items ++ walked (map string_bytes ks) left) (sym none) ∙ whole
    ∙ walked-told (map string_bytes (keys_of entries)) times (keys-rise (keys_of entries) ordered) rising
    ∙ ap (map (release_told times)) (names-keys entries)

-- the members of a walk whose first step gave this
pub members_left-step : (r : Option (String Global × Value)) (rest all : List (String Global × Value)) → TakesFirst (λ p. p) all r rest → members_left r rest ≡ all
members_left-step None rest all none = sym none.0
members_left-step (Some e) rest all step = sym step

-- they rise as the keys do
pub told-rises : (entries : List (String Global × Value)) → IsStrictlySortedBy string_cmp (keys_of entries) → AreRising (told_by (members_view entries))
told-rises entries ordered = subst IsRising (sym (names-told entries)) (keys-rise (keys_of entries) ordered)
