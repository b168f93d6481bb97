-- Reading as the code does it: texts, and the parts of a list one after the other.
use Rattle.std.proofs.Common.{◌≡◌, ℕ, suc, ◌+◌, ◌-◌, ◌<◌, ◌≤◌, true, false, cond, List, [], ◌∷◌, ◌++◌, Option, Some, None, refl, sym, ap, ◌∙◌, append_assoc, arith}
use Rattle.std.specs.Str.{IsUtf8, is_utf8}
use Rattle.std.proofs.lemmas.List.{append-nil}
use Rattle.std.proofs.lemmas.Str.{IsUtf8-from_is_utf8, is_utf8-from_IsUtf8}
use Rattle.rnv_spelling.specs.declared.spelled.ReadError.{ReadError}
use Rattle.rnv_spelling.specs.declared.spelled.ReadError.TheVariants.{Memory, NotSpelled}
use Rattle.rnv_spelling.specs.Reading.{Fails, Reading, ◌>>=◌, parts_at, bytes_at, text_at}

pub text_of : (bytes t rest : List ℕ) → bytes_at bytes ≡ Some (t, rest) → IsUtf8 t → text_at bytes ≡ Some (t, rest)
unfolding text_at
text_of bytes t rest e utf8 = rw (e, is_utf8-from_IsUtf8 t utf8) refl

pub no_text : (bytes t rest : List ℕ) → bytes_at bytes ≡ Some (t, rest) → ¬ IsUtf8 t → text_at bytes ≡ None
unfolding text_at
no_text bytes t rest e other =
    rw e
    (elim (is_utf8 t) as (λ b. is_utf8 t ≡ b → cond {A = Option (List ℕ × List ℕ)} b (Some (t, rest)) None ≡ None) [
      | true ↦ λ is. absurd (other (IsUtf8-from_is_utf8 t is))
      | false ↦ λ is. refl
    ] refl)

-- what was read before, and what is still read
abbrev pub with_front : {A : Type 0} → List A → Option (List A × List ℕ) → Option (List A × List ℕ)
with_front front read = read >>= λ x. Some (front ++ x.0, x.1)

regroup : {A : Type 0} (front : List A) (n : A) (read : Option (List A × List ℕ)) → with_front front (read >>= λ x. Some (n ∷ x.0, x.1)) ≡ with_front (front ++ n ∷ []) read
regroup front n (Some x) = ap (λ ns. Some (ns, x.1)) (sym (append_assoc front (n ∷ []) x.0))
regroup front n None = refl

pub goes_on : {A : Type 0} (r : Reading A) (front : List A) (count i : ℕ) (bytes : List ℕ) (n : A) (after : List ℕ) (total : Option (List A × List ℕ)) → i < count → r bytes ≡ Some (n, after)
    → with_front front (parts_at r (count - i) bytes) ≡ total → with_front (front ++ n ∷ []) (parts_at r (count - (i + 1)) after) ≡ total
goes_on r front count i bytes n after total lt h so_far =
    let k : count - i ≡ suc (count - (i + 1)) = omega arith in
    let one : with_front front (parts_at r (count - i) bytes) ≡ with_front (front ++ n ∷ []) (parts_at r (count - (i + 1)) after) = rw (k, h) (regroup front n (parts_at r (count - (i + 1)) after)) in
    sym one ∙ so_far

pub ends : {A : Type 0} (r : Reading A) (e : ReadError) (front : List A) (count i : ℕ) (bytes : List ℕ) (total : Option (List A × List ℕ)) → i < count → Fails e (r bytes)
    → with_front front (parts_at r (count - i) bytes) ≡ total → Fails e total
ends r Memory front count i bytes total lt h so_far = tt
ends r NotSpelled front count i bytes total lt h so_far =
    let k : count - i ≡ suc (count - (i + 1)) = omega arith in
    let one : with_front front (parts_at r (count - i) bytes) ≡ None = rw (k, h) refl in
    sym so_far ∙ one

pub is_done : {A : Type 0} (r : Reading A) (front : List A) (count i : ℕ) (bytes : List ℕ) (total : Option (List A × List ℕ)) → count ≤ i → with_front front (parts_at r (count - i) bytes) ≡ total → total ≡ Some (front, bytes)
is_done r front count i bytes total le so_far =
    let k : count - i ≡ 0 = omega arith in
    let one : with_front front (parts_at r (count - i) bytes) ≡ Some (front, bytes) = rw k (ap (λ ns. Some (ns, bytes)) (append-nil front)) in
    sym so_far ∙ one
