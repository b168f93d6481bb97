-- A map from names to repositories, as the list of the repositories.
use Rattle.std.proofs.Common.{◌≡◌, ℕ, Bool, true, false, cond, List, [], ◌∷◌, Option, Some, None, refl, sym, ap, subst, ◌∙◌}
use Rattle.std.specs.List.{AllByRecursion}
use Rattle.std.specs.List.Sorted.{IsStrictlySortedBy}
use Rattle.std.specs.BTreeMap.{insert_entry, is_at}
use Rattle.std.specs.Map.{keys_of, values_of, lookup, remove_entry}
use Rattle.std.specs.Ordering.{is_eq, match_ordering}
use Rattle.std.specs.Str.{bytes_eq}
use Rattle.std.specs.declared.cmp.Ordering.{Ordering}
use Rattle.std.specs.declared.cmp.Ordering.TheVariants.{Less, Equal, Greater}
use Rattle.std.proofs.lemmas.Cmp.{nat_list_cmp_total}
use Rattle.std.proofs.lemmas.Map.Text.{is_eq-slice_cmp}
use Rattle.std.proofs.lemmas.Slice.Eq.{bytes_eq-Decides}
use Rattle.std.proofs.lemmas.Bool.Decides.{same_from_decides}
use Rattle.std.specs.Prelude.{IfSome}
use Rattle.rnv_repo.specs.declared.repo.Repo.{Repo}
use Rattle.rnv_repo.specs.declared.write.Write.{Write}
use Rattle.rnv_repo.specs.declared.write.Write.TheVariants.{SetBase, PutBranch, DropBranch, OpenRequest, EditRequest, Autoclose, Finish}
use Rattle.rnv_repo.specs.Named.{put, put_beside}
use Rattle.rnv_repo.specs.Store.{applied_in, applied_to, begun, known}
use Rattle.rnv_repo.specs.WellFormed.{repo_of}
use Rattle.rnv_forge.specs.ByName.{IsByName}
use Rattle.rnv_repo.proofs.Texts.{cmp, bytes_true, same_texts, all_weaker}

abbrev pub Entry : Type 0
Entry = List ℕ × Repo

abbrev pub IsNamed : Entry → Type 0
IsNamed e = e.0 ≡ e.1.name

bytes_swap : (a b : List ℕ) → bytes_eq a b ≡ bytes_eq b a
bytes_swap a b =
    let there = bytes_eq-Decides a b in
    let back = bytes_eq-Decides b a in
    same_from_decides (bytes_eq a b) (bytes_eq b a) there (λ e. sym (back.0 e), λ e. back.1 (sym e))

pub known_is : (name : List ℕ) (es : List Entry) → AllByRecursion IsNamed es → lookup (is_at (cmp name)) es ≡ known name (values_of es)
known_is name [] a = refl
known_is name (e ∷ es) a =
    let same : is_eq (cmp name e.0) ≡ bytes_eq e.1.name name = is_eq-slice_cmp name e.0 ∙ bytes_swap name e.0 ∙ ap (λ (n : List ℕ). bytes_eq n name) a.0 in
    ap (λ (b : Bool). cond b (Some e.1) (lookup (is_at (cmp name)) es)) same
    ∙ ap (λ (o : Option Repo). cond (bytes_eq e.1.name name) (Some e.1) o) (known_is name es a.1)

removed_above : (name : List ℕ) (es : List Entry) → AllByRecursion (λ k. cmp name k ≡ Less) (keys_of es) → remove_entry (is_at (cmp name)) es ≡ es
removed_above name [] a = refl
removed_above name (e ∷ es) a = rw a.0 (ap (λ (l : List Entry). e ∷ l) (removed_above name es a.1))

inserted_above : (name : List ℕ) (repo : Repo) (es : List Entry) → AllByRecursion (λ k. cmp name k ≡ Less) (keys_of es) → insert_entry cmp es name repo ≡ (name, repo) ∷ es
inserted_above name repo [] a = refl
inserted_above name repo (e ∷ es) a = rw a.0 refl

abbrev pub name_is : Repo → List ℕ
name_is r = r.name

abbrev pub taken : List ℕ → List Entry → List Entry
taken name es = remove_entry (is_at (cmp name)) es

put_here : (repo : Repo) (e : Entry) (es : List Entry) (o : Ordering) → cmp repo.name e.0 ≡ o → AllByRecursion (λ k. cmp e.0 k ≡ Less) (keys_of es)
    → values_of (insert_entry cmp (taken repo.name es) repo.name repo) ≡ put name_is repo (values_of es)
    → values_of (insert_entry cmp (cond (is_eq o) es (e ∷ taken repo.name es)) repo.name repo) ≡ put_beside o repo e.1 (values_of es) (put name_is repo (values_of es))
put_here repo e es Less is above more =
    rw is (ap (λ (l : List Entry). repo ∷ e.1 ∷ values_of l) (removed_above repo.name es (all_weaker _ _ (λ k less. nat_list_cmp_total.trans repo.name e.0 k is less) (keys_of es) above)))
put_here repo e es Equal is above more =
    let same : e.0 ≡ repo.name = sym (bytes_true repo.name e.0 (same_texts repo.name e.0 is)) in
    ap values_of (inserted_above repo.name repo es (subst (λ (n : List ℕ). AllByRecursion (λ k. cmp n k ≡ Less) (keys_of es)) same above))
put_here repo e es Greater is above more = rw is (ap (λ (l : List Repo). e.1 ∷ l) more)

pub put_is : (repo : Repo) (es : List Entry) → AllByRecursion IsNamed es → IsStrictlySortedBy cmp (keys_of es)
    → values_of (insert_entry cmp (taken repo.name es) repo.name repo) ≡ put name_is repo (values_of es)
unfolding IsStrictlySortedBy
put_is repo [] n s = refl
put_is repo (e ∷ es) n s =
    put_here repo e es (cmp repo.name e.0) refl s.0 (put_is repo es n.1 s.1)
    ∙ ap (λ (k : List ℕ). put_beside (cmp repo.name k) repo e.1 (values_of es) (put name_is repo (values_of es))) n.0

pub named_taken : (name : List ℕ) (es : List Entry) → AllByRecursion IsNamed es → AllByRecursion IsNamed (taken name es)
named_taken name [] n = tt
named_taken name (e ∷ es) n =
    elim (is_at (cmp name) e.0) as (λ b. AllByRecursion IsNamed (cond b es (e ∷ taken name es))) [ true ↦ n.1 | false ↦ (n.0, named_taken name es n.1) ]

named_here : (repo : Repo) (e : Entry) (es more : List Entry) (o : Ordering) → cmp repo.name e.0 ≡ o → AllByRecursion IsNamed (e ∷ es) → AllByRecursion IsNamed more
    → AllByRecursion IsNamed (match_ordering o ((repo.name, repo) ∷ e ∷ es) ((e.0, repo) ∷ es) (e ∷ more))
named_here repo e es more Less is n m = (refl, n)
named_here repo e es more Equal is n m = (sym (bytes_true repo.name e.0 (same_texts repo.name e.0 is)), n.1)
named_here repo e es more Greater is n m = (n.0, m)

named_insert : (repo : Repo) (es : List Entry) → AllByRecursion IsNamed es → AllByRecursion IsNamed (insert_entry cmp es repo.name repo)
named_insert repo [] n = (refl, tt)
named_insert repo (e ∷ es) n = named_here repo e es (insert_entry cmp es repo.name repo) (cmp repo.name e.0) refl n (named_insert repo es n.1)

pub named_put : (name : List ℕ) (repo : Repo) (es : List Entry) → AllByRecursion IsNamed es → AllByRecursion IsNamed (insert_entry cmp (taken name es) repo.name repo)
named_put name repo es n = named_insert repo (taken name es) (named_taken name es n)

-- what holds of each repository holds of the one of a name
pub known_all : (P : Repo → Type 0) (name : List ℕ) (store : List Repo) → AllByRecursion P store → IfSome (known name store) P
known_all P name [] a = tt
known_all P name (r ∷ rs) a =
    elim (bytes_eq r.name name) as (λ b. IfSome (cond b (Some r) (known name rs)) P) [ true ↦ a.0 | false ↦ known_all P name rs a.1 ]

named_if : (r : Repo) (o : Option Repo) (name : List ℕ) (b : Bool) → bytes_eq r.name name ≡ b → IfSome o (λ q. q.name ≡ name) → IfSome (cond b (Some r) o) (λ q. q.name ≡ name)
named_if r o name true is rest = bytes_true r.name name is
named_if r o name false is rest = rest

named_in : (w : Write) (r : Repo) → (applied_in w r).name ≡ r.name
named_in (SetBase repo changes) r = refl
named_in w r = refl

named_begun : (w : Write) → (begun w).name ≡ repo_of w
named_begun (SetBase repo changes) = refl
named_begun w = refl

named_so : (w : Write) (o : Option Repo) → IfSome o (λ r. r.name ≡ repo_of w) → (applied_to w o).name ≡ repo_of w
named_so w None n = named_begun w
named_so w (Some r) n = named_in w r ∙ n

known_named : (name : List ℕ) (store : List Repo) → IfSome (known name store) (λ r. r.name ≡ name)
known_named name [] = tt
known_named name (r ∷ rs) = named_if r (known name rs) name (bytes_eq r.name name) refl (known_named name rs)

-- what a write makes of the repository of its name has that name
pub applied_name : (w : Write) (store : List Repo) → (applied_to w (known (repo_of w) store)).name ≡ repo_of w
applied_name w store = named_so w (known (repo_of w) store) (known_named (repo_of w) store)

-- a repository put in the place of the one that was taken out
pub put_whole : (es rs ns : List Entry) (name key : List ℕ) (repo : Repo) → IsByName es → rs ≡ taken name es → ns ≡ insert_entry cmp rs key repo → key ≡ repo.name
    → AllByRecursion IsNamed ns × (name ≡ repo.name → values_of ns ≡ put name_is repo (values_of es))
put_whole es rs ns name key repo by took put' named =
    let is : ns ≡ insert_entry cmp (taken name es) repo.name repo = put' ∙ ap (λ (l : List Entry). insert_entry cmp l key repo) took ∙ ap (λ (k : List ℕ). insert_entry cmp (taken name es) k repo) named in (
      subst (λ (l : List Entry). AllByRecursion IsNamed l) (sym is) (named_put name repo es by.named),
      λ same. ap values_of is ∙ ap (λ (n : List ℕ). values_of (insert_entry cmp (taken n es) repo.name repo)) same ∙ put_is repo es by.named by.ordered,
    )
