-- What is handed over of an output says as much as the whole.
use Rattle.std.proofs.Common.{◌≡◌, ℕ, ◌+◌, ◌<◌, nat_lt, true, false, List, length, take, inl, inr, refl, ap, arith, length-take}
use Rattle.std.proofs.lemmas.Bool.{cases_Bool, ltb-false, ltb-true, lt-ltb}
use Rattle.std.proofs.lemmas.List.{take_all}
use Rattle.rnv_tasks.specs.Tasks.{ended}
use Rattle.rnv_tasks.specs.Told.{End, handed}

long_front : (n : ℕ) (output : List ℕ) → nat_lt n (length output) ≡ true → nat_lt n (length (take (n + 1) output)) ≡ true
long_front n output long =
    let above : n < length output = ltb-true n (length output) long in
    lt-ltb n (length (take (n + 1) output)) (omega (arith, above, length-take (n + 1) output))

short_whole : (n : ℕ) (output : List ℕ) → nat_lt n (length output) ≡ false → take (n + 1) output ≡ output
short_whole n output short = take_all (n + 1) output (omega (arith, ltb-false n (length output) short))

pub ended_handed : (command : List ℕ) (e : End) → ended command (handed e) ≡ ended command e
ended_handed command e = elim (cases_Bool (nat_lt 1048576 (length e.output))) [
  | inl long ↦ rw (long, long_front 1048576 e.output long) refl
  | inr short ↦ ap (λ output. ended command (record { status = e.status; output = output })) (short_whole 1048576 e.output short)
]
