-- What each write leaves of the live requests by their branch.
use Rattle.std.proofs.Common.{◌≡◌, ℕ, zero, suc, ◌<◌, Bool, true, false, cond, ◌&&◌, eqb, eq-eqb, List, [], ◌∷◌, ◌++◌, length, get_or, Option, Some, None, refl, sym, ap, subst, ◌∙◌, arith}
use Rattle.std.specs.Prelude.{option_map, not, IfOk, Result}
use Rattle.std.specs.List.{AllByRecursion}
use Rattle.std.specs.Str.{bytes_eq}
use Rattle.std.proofs.lemmas.Bool.{false_from_ne_true, both_ways, eqb-true, and_parts}
use Rattle.rnv_repo.specs.declared.branch.Key.{Key}
use Rattle.rnv_repo.specs.declared.refusal.Refusal.TheVariants.{NotLive}
use Rattle.rnv_repo.specs.declared.repo.Repo.{Repo}
use Rattle.rnv_repo.specs.declared.request.Request.{Request}
use Rattle.rnv_repo.specs.declared.request.RequestState.TheVariants.{Live}
use Rattle.rnv_repo.specs.declared.write.Write.{Write}
use Rattle.rnv_repo.specs.declared.write.Write.TheVariants.{SetBase, PutBranch, DropBranch, OpenRequest, EditRequest, Autoclose, Finish}
use Rattle.rnv_repo.specs.Live.{number_on, IsLiveAt, IsClosedBy, live_after}
use Rattle.rnv_repo.specs.Requests.{is_live, is_live_number, is_live_on, live_on, at_number, edited, autoclosed, IsApart, AreApart}
use Rattle.rnv_repo.specs.Applying.{Applies}
use Rattle.rnv_repo.specs.declared.applying.ApplyError.{ApplyError}
use Rattle.rnv_repo.specs.Store.{IsSound, applied_in, refusal_in, refused_if}
use Rattle.rnv_repo.specs.WellFormed.{IsOrderly}
use Rattle.rnv_repo.proofs.Numbers.{same_above, above_one}
use Rattle.rnv_repo.proofs.Places.{each_at}
use Rattle.rnv_repo.proofs.Sound.{free_of, sound_result}
use Rattle.rnv_repo.proofs.Texts.{bytes_true, bytes_refl}

-- a case of the first request

abbrev of_first : Bool → Request → Option ℕ → Option ℕ
of_first b r more = cond b (Some r.number) more

number_first : (branch : List ℕ) (r : Request) (rs : List Request) → number_on branch (r ∷ rs) ≡ of_first (is_live_on branch r) r (number_on branch rs)
number_first branch r rs = elim (is_live_on branch r) as (λ b. option_map (λ (q : Request). q.number) (cond b (Some r) (live_on branch rs)) ≡ of_first b r (number_on branch rs)) [ true ↦ refl | false ↦ refl ]

-- a request that is opened where none is live

swapped : (branch : List ℕ) (r q : Request) (qs : List Request) → is_live_on r.branch q ≡ false
    → of_first (is_live_on branch q) q (cond (bytes_eq r.branch branch) (Some r.number) (number_on branch qs)) ≡ cond (bytes_eq r.branch branch) (Some r.number) (of_first (is_live_on branch q) q (number_on branch qs))
swapped branch r q qs other =
    elim (bytes_eq r.branch branch) as (λ b. bytes_eq r.branch branch ≡ b → of_first (is_live_on branch q) q (cond b (Some r.number) (number_on branch qs)) ≡ cond b (Some r.number) (of_first (is_live_on branch q) q (number_on branch qs))) [
      | true ↦ λ same.
          let here : is_live_on branch q ≡ false = ap (λ n. is_live_on n q) (sym (bytes_true r.branch branch same)) ∙ other in
          ap (λ b. of_first b q (Some r.number)) here
      | false ↦ λ same. refl
    ] refl

pub opened_live : (branch : List ℕ) (r : Request) (rs : List Request) → is_live r.state ≡ true → number_on r.branch rs ≡ None
    → number_on branch (rs ++ r ∷ []) ≡ cond (bytes_eq r.branch branch) (Some r.number) (number_on branch rs)
opened_live branch r [] live none = number_first branch r [] ∙ ap (λ b. of_first (b && bytes_eq r.branch branch) r None) live
opened_live branch r (q ∷ qs) live none =
    let none' : of_first (is_live_on r.branch q) q (number_on r.branch qs) ≡ None = sym (number_first r.branch q qs) ∙ none in
    elim (is_live_on r.branch q) as (λ b. is_live_on r.branch q ≡ b → of_first b q (number_on r.branch qs) ≡ None → number_on branch (q ∷ qs ++ r ∷ []) ≡ cond (bytes_eq r.branch branch) (Some r.number) (number_on branch (q ∷ qs))) [
      | true ↦ λ is h. absurd cc
      | false ↦ λ is h.
          let more = opened_live branch r qs live h in
          number_first branch q (qs ++ r ∷ []) ∙ ap (of_first (is_live_on branch q) q) more ∙ swapped branch r q qs is ∙ ap (cond (bytes_eq r.branch branch) (Some r.number)) (sym (number_first branch q qs))
    ] refl none'

-- a request that is edited

pub edited_live : (branch : List ℕ) (number : ℕ) (updates : List Key) (title body : List ℕ) (labels : List (List ℕ)) (rs : List Request)
    → number_on branch (at_number number (edited updates title body labels) rs) ≡ number_on branch rs
edited_live branch number updates title body labels [] = refl
edited_live branch number updates title body labels (r ∷ rs) =
    let f = edited updates title body labels in
    number_first branch (cond (eqb r.number number) (f r) r) (at_number number f rs)
    ∙ ap (of_first (is_live_on branch (cond (eqb r.number number) (f r) r)) (cond (eqb r.number number) (f r) r)) (edited_live branch number updates title body labels rs)
    ∙ elim (eqb r.number number) as (λ b. of_first (is_live_on branch (cond b (f r) r)) (cond b (f r) r) (number_on branch rs) ≡ of_first (is_live_on branch r) r (number_on branch rs)) [ true ↦ refl | false ↦ refl ]
    ∙ sym (number_first branch r rs)

-- a live request that is closed

none_on : (branch : List ℕ) (rs : List Request) → AllByRecursion (λ r. is_live_on branch r ≡ false) rs → number_on branch rs ≡ None
none_on branch [] a = refl
none_on branch (r ∷ rs) a = number_first branch r rs ∙ ap (λ b. of_first b r (number_on branch rs)) a.0 ∙ none_on branch rs a.1

apart_none : (r : Request) (rs : List Request) → is_live r.state ≡ true → AllByRecursion (IsApart r) rs → AllByRecursion (λ q. is_live_on r.branch q ≡ false) rs
apart_none r [] live a = tt
apart_none r (q ∷ qs) live a = (a.0.one_live live, apart_none r qs live a.1)

clash : (branch : List ℕ) (r gone : Request) → IsApart r gone → is_live gone.state ≡ true → is_live_on branch r ≡ true → bytes_eq gone.branch branch ≡ true → ⊥
clash branch r gone apart live on same =
    let p = and_parts (is_live r.state) (bytes_eq r.branch branch) on in
    let e : gone.branch ≡ r.branch = bytes_true gone.branch branch same ∙ sym (bytes_true r.branch branch p.1) in
    let eq : bytes_eq gone.branch r.branch ≡ true = ap (λ n. bytes_eq n r.branch) e ∙ bytes_refl r.branch in
    let both : is_live_on r.branch gone ≡ true = ap (λ b. b && bytes_eq gone.branch r.branch) live ∙ eq in
    both_ways (is_live_on r.branch gone) (apart.one_live p.0) both

passed : (branch : List ℕ) (r gone : Request) → IsApart r gone → is_live gone.state ≡ true → (more : Option ℕ)
    → of_first (is_live_on branch r) r (cond (bytes_eq gone.branch branch) None more) ≡ cond (bytes_eq gone.branch branch) None (of_first (is_live_on branch r) r more)
passed branch r gone apart live more =
    elim (is_live_on branch r) as (λ b. is_live_on branch r ≡ b → of_first b r (cond (bytes_eq gone.branch branch) None more) ≡ cond (bytes_eq gone.branch branch) None (of_first b r more)) [
      | true ↦ λ on.
          let other : bytes_eq gone.branch branch ≡ false = false_from_ne_true (bytes_eq gone.branch branch) (λ t. clash branch r gone apart live on t) in
          sym (ap (λ b. cond {A = Option ℕ} b None (Some r.number)) other)
      | false ↦ λ on. refl
    ] refl

pub closed_live : (branch : List ℕ) (number : ℕ) (rs : List Request) (k : ℕ) (d : Request) → AreApart rs → k < length rs → (get_or rs k d).number ≡ number → is_live (get_or rs k d).state ≡ true
    → number_on branch (at_number number autoclosed rs) ≡ cond (bytes_eq (get_or rs k d).branch branch) None (number_on branch rs)
closed_live branch number [] k d a within is live = absurd (omega arith)
closed_live branch number (r ∷ rs) zero d a within is live =
    let its : eqb r.number number ≡ true = eq-eqb r.number number is in
    let rest = same_above number autoclosed rs (above_one number r rs (omega arith) a.0) in
    let here : is_live_on branch r ≡ bytes_eq r.branch branch = ap (λ b. b && bytes_eq r.branch branch) live in
    ap (λ b. number_on branch (cond b (autoclosed r) r ∷ at_number number autoclosed rs)) its
    ∙ number_first branch (autoclosed r) (at_number number autoclosed rs)
    ∙ ap (number_on branch) rest
    ∙ elim (bytes_eq r.branch branch) as (λ b. bytes_eq r.branch branch ≡ b → number_on branch rs ≡ cond b None (of_first b r (number_on branch rs))) [
      | true ↦ λ same. ap (λ n. number_on n rs) (sym (bytes_true r.branch branch same)) ∙ none_on r.branch rs (apart_none r rs live a.0)
      | false ↦ λ same. refl
    ] refl
    ∙ ap (λ b. cond (bytes_eq r.branch branch) None (of_first b r (number_on branch rs))) (sym here)
    ∙ ap (cond (bytes_eq r.branch branch) None) (sym (number_first branch r rs))
closed_live branch number (r ∷ rs) (suc k) d a within is live =
    let gone = get_or rs k d in
    let apart : IsApart r gone = each_at (IsApart r) rs k d a.0 (omega arith) in
    let below = apart.rises in
    let other : eqb r.number number ≡ false = false_from_ne_true (eqb r.number number) (λ t. let e = eqb-true r.number number t in absurd (omega arith)) in
    ap (λ b. number_on branch (cond b (autoclosed r) r ∷ at_number number autoclosed rs)) other
    ∙ number_first branch r (at_number number autoclosed rs)
    ∙ ap (of_first (is_live_on branch r) r) (closed_live branch number rs k d a.1 (omega arith) is live)
    ∙ passed branch r gone apart live (number_on branch rs)
    ∙ ap (cond (bytes_eq gone.branch branch) None) (sym (number_first branch r rs))

-- the same with the request itself
pub closing_live : (branch : List ℕ) (number : ℕ) (rs : List Request) (r : Request) (k : ℕ) → AreApart rs → IsLiveAt number rs r k
    → number_on branch (at_number number autoclosed rs) ≡ cond (bytes_eq r.branch branch) None (number_on branch rs)
closing_live branch number rs r k a at =
    let numbered : (get_or rs k r).number ≡ number = ap (λ (q : Request). q.number) at.there ∙ at.numbered in
    let live : is_live (get_or rs k r).state ≡ true = ap (λ (q : Request). is_live q.state) at.there ∙ at.live in
    closed_live branch number rs k r a at.within numbered live ∙ ap (λ (q : Request). cond (bytes_eq q.branch branch) None (number_on branch rs)) at.there

-- each kind of write

number_none : (branch : List ℕ) (rs : List Request) → live_on branch rs ≡ None → number_on branch rs ≡ None
number_none branch rs e = ap (option_map (λ (r : Request). r.number)) e

live_if : (number : ℕ) (rs : List Request) → refused_if (not (is_live_number number rs)) (NotLive number) None ≡ None → is_live_number number rs ≡ true
live_if number rs e =
    elim (is_live_number number rs) as (λ b. is_live_number number rs ≡ b → refused_if (not b) (NotLive number) None ≡ None → is_live_number number rs ≡ true) [
      | true ↦ λ is h. is
      | false ↦ λ is h. absurd cc
    ] refl e

pub kept_live : (w : Write) (repo : Repo) (closed : Option (List ℕ)) (branch : List ℕ) → AreApart repo.requests → refusal_in w repo ≡ None → IsClosedBy w repo.requests closed
    → number_on branch (applied_in w repo).requests ≡ live_after w closed branch (number_on branch repo.requests)
kept_live (SetBase name changes) repo closed branch a e is = sym (ap (λ o. live_after (SetBase name changes) o branch (number_on branch repo.requests)) is)
kept_live (PutBranch name b) repo closed branch a e is = sym (ap (λ o. live_after (PutBranch name b) o branch (number_on branch repo.requests)) is)
kept_live (DropBranch name b) repo closed branch a e is = sym (ap (λ o. live_after (DropBranch name b) o branch (number_on branch repo.requests)) is)
kept_live (OpenRequest name number b updates title body labels made_at) repo closed branch a e is =
    let f = free_of b repo _ e in
    let r : Request = record { number = number; branch = b; updates = updates; title = title; body = body; labels = labels; made_at = made_at; state = Live } in
    opened_live branch r repo.requests refl (number_none b repo.requests f.free)
    ∙ sym (ap (λ o. live_after (OpenRequest name number b updates title body labels made_at) o branch (number_on branch repo.requests)) is)
kept_live (EditRequest name number updates title body labels) repo closed branch a e is =
    edited_live branch number updates title body labels repo.requests
    ∙ sym (ap (λ o. live_after (EditRequest name number updates title body labels) o branch (number_on branch repo.requests)) is)
kept_live (Autoclose name number) repo closed branch a e is =
    let found = is (live_if number repo.requests e) in
    closing_live branch number repo.requests found.0 found.1 a found.2
    ∙ sym (ap (λ o. live_after (Autoclose name number) o branch (number_on branch repo.requests)) found.3)
kept_live (Finish name page) repo closed branch a e is = sym (ap (λ o. live_after (Finish name page) o branch (number_on branch repo.requests)) is)

-- the same with the values that the code has
pub sound_seen : (w : Write) (known seen : Repo) (r : Result Repo ApplyError) → IsOrderly w → IsSound known → seen ≡ known → Applies r (refusal_in w seen) (applied_in w seen) → IfOk r IsSound
sound_seen w known seen r o s is a = sound_result w (Some known) r o s (subst (λ (q : Repo). Applies r (refusal_in w q) (applied_in w q)) is a)
