-- The updates that stay, with the names of their branches.
use Rattle.std.proofs.Common.{◌≡◌, ℕ, List, [], ◌∷◌, ◌++◌, Bool, true, false, map, refl, sym, ◌∙◌, ap, inl, inr}
use Rattle.std.specs.Prelude.{filter, ◌||◌, if◌then◌else◌}
use Rattle.std.specs.List.{flat_map, list_any}
use Rattle.std.proofs.lemmas.Bool.{cases_Bool}
use Rattle.std.proofs.lemmas.List.{map-append}
use Rattle.rnv_pick.specs.declared.update.Update.{Update}
use Rattle.rnv_plan.specs.declared.inputs.PickedDep.{PickedDep}
use Rattle.rnv_plan.specs.declared.inputs.PickedFile.{PickedFile}
use Rattle.rnv_plan.specs.declared.named.KeptDep.{KeptDep}
use Rattle.rnv_plan.specs.declared.named.NamedUpdate.{NamedUpdate}
use Rattle.rnv_plan.specs.Groups.{not_empty, group_in, group_of}
use Rattle.rnv_plan.specs.Items.{branch_name, is_on}
use Rattle.rnv_plan.specs.Kept.{kept, kept_of, kept_in, kept_updates}
use Rattle.rnv_plan.specs.Named.{with_name, is_named, last_named, kept_dep, kept_file, named_in, all_named}

-- ---- those of one dependency

any-named : (q : List ℕ) (us : List Update) → list_any (is_named q) (map with_name us) ≡ list_any (is_on q) us
any-named q [] = refl
any-named q (u ∷ us) = ap (λ b. is_on q u || b) (any-named q us)

one-kept : (a b : Bool) (u : Update) (ns : List NamedUpdate) (us : List Update) → a ≡ b → ns ≡ map with_name us → (if a then ns else with_name u ∷ ns) ≡ map with_name (if b then us else u ∷ us)
one-kept true true u ns us same rest = rest
one-kept true false u ns us same rest = absurd (cc same)
one-kept false true u ns us same rest = absurd (cc same)
one-kept false false u ns us same rest = ap (λ (ms : List NamedUpdate). with_name u ∷ ms) rest

pub last_kept : (us : List Update) → last_named (map with_name us) ≡ map with_name (kept us)
last_kept [] = refl
last_kept (u ∷ us) =
    one-kept (list_any (is_named (branch_name u)) (map with_name us)) (list_any (is_on (branch_name u)) us) u (last_named (map with_name us)) (kept us) (any-named (branch_name u) us) (last_kept us)

-- ---- those of a branch

named-on : (q : List ℕ) (us : List Update) → map (λ (n : NamedUpdate). n.update) (filter (is_named q) (map with_name us)) ≡ filter (is_on q) us
named-on q [] = refl
named-on q (u ∷ us) = elim (cases_Bool (is_on q u)) [
  | inl on ↦ rw on (ap (λ vs. u ∷ vs) (named-on q us))
  | inr off ↦ rw off (named-on q us)
]

pub group_named : (q : List ℕ) (us : List Update) → group_in q (map with_name us) ≡ group_of q us
group_named q us = ap not_empty (named-on q us)

-- ---- those of all files

file-named : (ds : List PickedDep) → flat_map (λ (d : KeptDep). d.updates) (map kept_dep ds) ≡ map with_name (kept_in ds)
file-named [] = refl
file-named (d ∷ ds) = ap (λ ns. map with_name (kept_of d) ++ ns) (file-named ds) ∙ sym (map-append with_name (kept_of d) (kept_in ds))

pub files_named : (ps : List PickedFile) → all_named (map kept_file ps) ≡ map with_name (kept_updates ps)
files_named [] = refl
files_named (p ∷ ps) =
    ap (λ ns. ns ++ all_named (map kept_file ps)) (file-named p.deps)
    ∙ (ap (λ ns. map with_name (kept_in p.deps) ++ ns) (files_named ps) ∙ sym (map-append with_name (kept_in p.deps) (kept_updates ps)))
