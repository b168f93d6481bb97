-- The changes that the members of an object tell.
use Rattle.std.proofs.Common.{◌≡◌, ◌∙◌, [], ◌∷◌, ◌++◌, append-nil, ℕ, List, Bool, true, false, if◌then◌else◌, Option, Some, None, option_map, Less, refl, sym, ap, subst, String, string_bytes, string_cmp, nat_cmp}
use Rattle.std.specs.Prelude.{option_and_then}
use Rattle.std.specs.declared.alloc.Global.{Global}
use Rattle.std.specs.List.{AllByRecursion}
use Rattle.std.specs.List.Sorted.{IsStrictlySortedBy}
use Rattle.std.specs.Cmp.Lexicographic.{slice_cmp}
use Rattle.std.specs.Map.{keys_of}
use Rattle.serde_json.specs.View.{view, members_view}
use Rattle.serde_json.specs.declared.value.Value.{Value}
use Rattle.rnv_base.specs.Names.{IsPath}
use Rattle.rnv_repo.specs.Files.{PathChange}
use Rattle.rnv_repo.specs.Named.{AreInOrder, IsRisingBy}
use Rattle.rnv_hook.specs.Body.{bytes_in, change_in, changes_in}
use Rattle.rnv_hook.specs.Paths.{is_path}
use Rattle.rnv_hook.proofs.PathTest.{path-Decides}
use Rattle.std.proofs.lemmas.List.{append_assoc}
use Rattle.std.proofs.lemmas.List.Elements.{All-from_recursion}

abbrev Entry : Type 0
Entry = String Global × Value

-- ---- one member more

moved : (old : List PathChange) (c : PathChange) (more : Option (List PathChange)) → option_map (λ cs. old ++ cs) (option_map (λ cs. c ∷ cs) more) ≡ option_map (λ cs. (old ++ c ∷ []) ++ cs) more
moved old c None = refl
moved old c (Some more) = ap Some (sym (append_assoc old (c ∷ []) more))

pub step : (old new : List PathChange) (c : PathChange) (e : Entry) (rest all : List Entry) → all ≡ e ∷ rest → Some c ≡ change_in (string_bytes e.0) (view e.1) → new ≡ old ++ c ∷ [] → option_map (λ cs. old ++ cs) (changes_in (members_view all)) ≡ option_map (λ cs. new ++ cs) (changes_in (members_view rest))
step old new c e rest all is told pushed =
    ap (λ (es : List Entry). option_map (λ cs. old ++ cs) (changes_in (members_view es))) is
    ∙ ap (λ (o : Option PathChange). option_map (λ cs. old ++ cs) (option_and_then (λ c. option_map (λ cs. c ∷ cs) (changes_in (members_view rest))) o)) (sym told)
    ∙ moved old c (changes_in (members_view rest))
    ∙ ap (λ (n : List PathChange). option_map (λ cs. n ++ cs) (changes_in (members_view rest))) (sym pushed)

-- ---- their paths

-- the change of the first member, and those of the others
record Split (first : Option PathChange) (others : Option (List PathChange)) (cs : List PathChange) : Type 0 where
  pub one : PathChange
  pub more : List PathChange
  pub is_one : first ≡ Some one
  pub are_more : others ≡ Some more
  pub is : cs ≡ one ∷ more

split : (first : Option PathChange) (others : Option (List PathChange)) (cs : List PathChange) → option_and_then (λ c. option_map (λ more. c ∷ more) others) first ≡ Some cs → Split first others cs
split None others cs e = cc
split (Some c) None cs e = cc
split (Some c) (Some more) cs e = record { one = c; more = more; is_one = refl; are_more = refl; is = cc }

record HasPath (path : List ℕ) (c : PathChange) : Type 0 where
  pub test : is_path path ≡ true
  pub same : path ≡ c.path

has-path-by : (p : Bool) (path : List ℕ) (bytes : Option (Option (List ℕ))) (c : PathChange) → is_path path ≡ p → (if p then option_map (λ b. record { path = path; bytes = b }) bytes else None) ≡ Some c → HasPath path c
has-path-by true path None c is e = cc
has-path-by true path (Some b) c is e =
    let same : record { path = path; bytes = b } ≡ c = cc in
    record { test = is; same = ap (λ (c : PathChange). c.path) same }
has-path-by false path bytes c is e = cc

has-path : (e : Entry) (c : PathChange) → change_in (string_bytes e.0) (view e.1) ≡ Some c → HasPath (string_bytes e.0) c
has-path e c is = has-path-by (is_path (string_bytes e.0)) (string_bytes e.0) (bytes_in (view e.1)) c refl is

none-left : (cs : List PathChange) → Some [] ≡ Some cs → [] ≡ cs
none-left cs e = cc

each : (es : List Entry) (cs : List PathChange) → changes_in (members_view es) ≡ Some cs → AllByRecursion (λ (c : PathChange). IsPath c.path) cs
each [] cs is = subst (AllByRecursion (λ (c : PathChange). IsPath c.path)) (none-left cs is) tt
each (e ∷ es) cs is =
    let s = split (change_in (string_bytes e.0) (view e.1)) (changes_in (members_view es)) cs is in
    let p = has-path e s.one s.is_one in
    subst (AllByRecursion (λ (c : PathChange). IsPath c.path)) (sym s.is) (subst IsPath p.same ((path-Decides (string_bytes e.0)).0 p.test), each es s.more s.are_more)

-- a key below all others is below their paths
below : (k : List ℕ) (key : String Global) (es : List Entry) (cs : List PathChange) → string_bytes key ≡ k → changes_in (members_view es) ≡ Some cs → AllByRecursion (λ n. string_cmp key n ≡ Less) (keys_of es) → AllByRecursion (λ (c : PathChange). slice_cmp nat_cmp k c.path ≡ Less) cs
below k key [] cs same is less = subst (AllByRecursion (λ (c : PathChange). slice_cmp nat_cmp k c.path ≡ Less)) (none-left cs is) tt
below k key (e ∷ es) cs same is less =
    let s = split (change_in (string_bytes e.0) (view e.1)) (changes_in (members_view es)) cs is in
    let p = has-path e s.one s.is_one in
    let first : slice_cmp nat_cmp k s.one.path ≡ Less = ap (λ path. slice_cmp nat_cmp k path) (sym p.same) ∙ ap (λ k. slice_cmp nat_cmp k (string_bytes e.0)) (sym same) ∙ less.0 in
    subst (AllByRecursion (λ (c : PathChange). slice_cmp nat_cmp k c.path ≡ Less)) (sym s.is) (first, below k key es s.more same s.are_more less.1)

rises : (es : List Entry) (cs : List PathChange) → changes_in (members_view es) ≡ Some cs → IsStrictlySortedBy string_cmp (keys_of es) → IsRisingBy (λ (c : PathChange). c.path) cs
unfolding IsStrictlySortedBy
rises [] cs is sorted = subst (IsRisingBy (λ (c : PathChange). c.path)) (none-left cs is) tt
rises (e ∷ es) cs is sorted =
    let s = split (change_in (string_bytes e.0) (view e.1)) (changes_in (members_view es)) cs is in
    let p = has-path e s.one s.is_one in
    subst (IsRisingBy (λ (c : PathChange). c.path)) (sym s.is) (below s.one.path e.0 es s.more p.same s.are_more sorted.0, rises es s.more s.are_more sorted.1)

-- all members are read
pub done : (cs : List PathChange) (es rest : List Entry) → changes_in (members_view es) ≡ option_map (λ more. cs ++ more) (changes_in (members_view rest)) → rest ≡ [] → IsStrictlySortedBy string_cmp (keys_of es) → AreInOrder (λ (c : PathChange). c.path) cs
done cs es rest is none sorted =
    let all : changes_in (members_view es) ≡ Some cs = is ∙ ap (λ (r : List Entry). option_map (λ more. cs ++ more) (changes_in (members_view r))) none ∙ ap Some (append-nil cs) in
    record { each = All-from_recursion (λ (c : PathChange). IsPath c.path) cs (each es cs all); rising = rises es cs all sorted }
