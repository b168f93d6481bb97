-- A write raises no revision by more than one.
use Rattle.std.proofs.Common.{◌≤◌, ◌+◌, ℕ, List, [], ◌∷◌, Option, Some, None, arith}
use Rattle.std.specs.List.{AllByRecursion}
use Rattle.std.specs.Prelude.{IfSome}
use Rattle.std.specs.declared.cmp.Ordering.TheVariants.{Less, Equal, Greater}
use Rattle.rnv_repo.specs.declared.repo.Repo.{Repo}
use Rattle.rnv_repo.specs.declared.write.Write.{Write}
use Rattle.rnv_repo.specs.declared.write.Write.TheVariants.{SetBase, PutBranch, DropBranch, OpenRequest, EditRequest, Autoclose, Finish}
use Rattle.rnv_repo.specs.Named.{put, put_beside}
use Rattle.rnv_repo.specs.Store.{applied, applied_in, applied_to, begun, known}
use Rattle.rnv_repo.specs.WellFormed.{repo_of}
use Rattle.rnv_repo.proofs.Texts.{cmp}
use Rattle.rnv_forge.proofs.ByName.{known_all}
use Rattle.rnv_forge.proofs.Writes.{all_each}

all_put : {X : Type 0} (P : X → Type 0) (key : X → List ℕ) (x : X) (xs : List X) → P x → AllByRecursion P xs → AllByRecursion P (put key x xs)
all_put P key x [] h a = (h, tt)
all_put P key x (y ∷ ys) h a =
    elim (cmp (key x) (key y)) as (λ o. AllByRecursion P (put_beside o x y ys (put key x ys))) [
      | Less ↦ (h, a)
      | Equal ↦ (h, a.1)
      | Greater ↦ (a.0, all_put P key x ys h a.1)
    ]

in_more : (w : Write) (r : Repo) (n : ℕ) → r.revision ≤ n → (applied_in w r).revision ≤ n + 1
in_more (SetBase repo changes) r n le = omega (arith, le)
in_more w r n le = omega (arith, le)

begun_more : (w : Write) (n : ℕ) → (begun w).revision ≤ n + 1
begun_more (SetBase repo changes) n = omega arith
begun_more w n = omega arith

to_more : (w : Write) (o : Option Repo) (n : ℕ) → IfSome o (λ r. r.revision ≤ n) → (applied_to w o).revision ≤ n + 1
to_more w None n h = begun_more w n
to_more w (Some r) n h = in_more w r n h

pub revisions_more : (w : Write) (store : List Repo) (n : ℕ) → AllByRecursion (λ r. r.revision ≤ n) store → AllByRecursion (λ r. r.revision ≤ n + 1) (applied w store)
revisions_more w store n all =
    all_put (λ r. r.revision ≤ n + 1) (λ r. r.name) (applied_to w (known (repo_of w) store)) store
    (to_more w (known (repo_of w) store) n (known_all (λ r. r.revision ≤ n) (repo_of w) store all))
    (all_each (λ r. r.revision ≤ n) (λ r. r.revision ≤ n + 1) (λ r le. omega (arith, le)) store all)
