-- A write raises no revision and no number of a request by more than one.
use Rattle.std.proofs.Common.{◌≡◌, ◌≤◌, ◌<◌, ◌+◌, ◌++◌, ℕ, Bool, true, false, cond, eqb, List, [], ◌∷◌, length, Option, Some, None, refl, arith}
use Rattle.std.specs.List.{AllByRecursion}
use Rattle.std.specs.Prelude.{IfSome, not}
use Rattle.std.specs.Str.{bytes_eq}
use Rattle.rnv_repo.specs.declared.refusal.Refusal.TheVariants.{NumberTaken}
use Rattle.rnv_repo.specs.declared.repo.Repo.{Repo}
use Rattle.rnv_repo.specs.declared.request.Request.{Request}
use Rattle.rnv_repo.specs.declared.write.Write.{Write}
use Rattle.rnv_repo.specs.declared.write.Write.TheVariants.{SetBase, PutBranch, DropBranch, OpenRequest, EditRequest, Autoclose, Finish}
use Rattle.rnv_repo.specs.Requests.{at_number, autoclosed, edited, greatest, next_number}
use Rattle.rnv_repo.specs.Store.{ArePermitted, IsPermitted, after, applied, applied_in, applied_to, begun, known, refusal_in, refusal_to, refused_if}
use Rattle.rnv_repo.specs.WellFormed.{repo_of}
use Rattle.rnv_repo.proofs.Sound.{all_append, all_put, free_of, next_of}
use Rattle.rnv_repo.proofs.Texts.{all_weaker}

abbrev IsUpTo : ℕ → List Request → Type 0
IsUpTo n rs = AllByRecursion (λ (r : Request). r.number ≤ n) rs

-- the revision and the numbers of the requests are at most n
pub record IsWithin (n : ℕ) (repo : Repo) : Type 0 where
  pub revision : repo.revision ≤ n
  pub numbers : AllByRecursion (λ r. r.number ≤ n) repo.requests

up_more : (n : ℕ) (rs : List Request) → IsUpTo n rs → IsUpTo (n + 1) rs
up_more n rs all = all_weaker (λ (r : Request). r.number ≤ n) (λ (r : Request). r.number ≤ n + 1) (λ r le. omega (arith, le)) rs all

up_greatest : (n : ℕ) (rs : List Request) → IsUpTo n rs → greatest rs ≤ n
up_greatest n [] all = omega arith
up_greatest n (r ∷ rs) all = omega (arith, all.0, up_greatest n rs all.1)

up_at : (n number : ℕ) (f : Request → Request) (rs : List Request) → ((r : Request) → (f r).number ≡ r.number) → IsUpTo n rs → IsUpTo n (at_number number f rs)
up_at n number f [] same all = tt
up_at n number f (r ∷ rs) same all = (one, up_at n number f rs same all.1)
  where
    one : (cond (eqb r.number number) (f r) r).number ≤ n
    one = elim (eqb r.number number) as (λ b. (cond b (f r) r).number ≤ n) [ true ↦ omega (arith, same r, all.0) | false ↦ all.0 ]

next_up : (n number : ℕ) (branch : List ℕ) (repo : Repo) → refusal_in (OpenRequest [] number branch [] [] [] [] 0) repo ≡ None → IsUpTo n repo.requests → number ≤ n + 1
next_up n number branch repo e all =
    let free = free_of branch repo (refused_if (not (eqb number (next_number repo.requests))) (NumberTaken number) None) e in
    omega (arith, next_of number repo.requests free.rest, up_greatest n repo.requests all)

within_in : (w : Write) (r : Repo) (n : ℕ) → refusal_in w r ≡ None → IsWithin n r → IsWithin (n + 1) (applied_in w r)
within_in (SetBase repo changes) r n e h = record { revision = omega (arith, h.revision); numbers = up_more n r.requests h.numbers }
within_in (PutBranch repo branch) r n e h = record { revision = omega (arith, h.revision); numbers = up_more n r.requests h.numbers }
within_in (DropBranch repo name) r n e h = record { revision = omega (arith, h.revision); numbers = up_more n r.requests h.numbers }
within_in (OpenRequest repo number branch updates title body labels made_at) r n e h = record {
  revision = omega (arith, h.revision);
  numbers = all_append (λ (q : Request). q.number ≤ n + 1) r.requests _ (up_more n r.requests h.numbers) (next_up n number branch r e h.numbers);
}
within_in (EditRequest repo number updates title body labels) r n e h = record {
  revision = omega (arith, h.revision);
  numbers = up_at (n + 1) number (edited updates title body labels) r.requests (λ r. refl) (up_more n r.requests h.numbers);
}
within_in (Autoclose repo number) r n e h = record {
  revision = omega (arith, h.revision);
  numbers = up_at (n + 1) number autoclosed r.requests (λ r. refl) (up_more n r.requests h.numbers);
}
within_in (Finish repo page) r n e h = record { revision = omega (arith, h.revision); numbers = up_more n r.requests h.numbers }

within_begun : (w : Write) (n : ℕ) → IsWithin (n + 1) (begun w)
within_begun (SetBase repo changes) n = record { revision = omega arith; numbers = tt }
within_begun w n = record { revision = omega arith; numbers = tt }

within_to : (w : Write) (o : Option Repo) (n : ℕ) → refusal_to w o ≡ None → IfSome o (IsWithin n) → IsWithin (n + 1) (applied_to w o)
within_to w None n e h = within_begun w n
within_to w (Some r) n e h = within_in w r n e h

known_each : (P : Repo → Type 0) (name : List ℕ) (store : List Repo) → AllByRecursion P store → IfSome (known name store) P
known_each P name [] a = tt
known_each P name (r ∷ rs) a =
    elim (bytes_eq r.name name) as (λ b. IfSome (cond b (Some r) (known name rs)) P) [ true ↦ a.0 | false ↦ known_each P name rs a.1 ]

wider : (m n : ℕ) → m ≤ n → (r : Repo) → IsWithin m r → IsWithin n r
wider m n le r h = record {
  revision = omega (arith, le, h.revision);
  numbers = all_weaker (λ (q : Request). q.number ≤ m) (λ (q : Request). q.number ≤ n) (λ q small. omega (arith, le, small)) r.requests h.numbers;
}

within_applied : (w : Write) (store : List Repo) (n : ℕ) → IsPermitted w store → AllByRecursion (IsWithin n) store → AllByRecursion (IsWithin (n + 1)) (applied w store)
within_applied w store n permitted all =
    all_put (IsWithin (n + 1)) (λ r. r.name) (applied_to w (known (repo_of w) store)) store
    (within_to w (known (repo_of w) store) n permitted (known_each (IsWithin n) (repo_of w) store all))
    (all_weaker (IsWithin n) (IsWithin (n + 1)) (wider n (n + 1) (omega arith)) store all)

within_from : (ws : List Write) (store : List Repo) (n : ℕ) → ArePermitted ws store → AllByRecursion (IsWithin n) store → AllByRecursion (IsWithin (n + length ws)) (after ws store)
within_from [] store n permitted all = all_weaker (IsWithin n) (IsWithin (n + 0)) (wider n (n + 0) (omega arith)) store all
within_from (w ∷ ws) store n permitted all =
    all_weaker (IsWithin (n + 1 + length ws)) (IsWithin (n + length (w ∷ ws))) (wider (n + 1 + length ws) (n + length (w ∷ ws)) (omega arith)) (after ws (applied w store))
    (within_from ws (applied w store) (n + 1) permitted.1 (within_applied w store n permitted.0 all))

-- after so many writes
pub within_after : (ws : List Write) → ArePermitted ws [] → AllByRecursion (IsWithin (length ws)) (after ws [])
within_after ws permitted =
    all_weaker (IsWithin (0 + length ws)) (IsWithin (length ws)) (wider (0 + length ws) (length ws) (omega arith)) (after ws []) (within_from ws [] 0 permitted tt)
