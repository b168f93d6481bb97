-- One more call joins those that a disk in memory has done.
use Rattle.std.proofs.Common.{◌≡◌, inl, inr, ℕ, ◌+◌, ◌<◌, ◌≤◌, List, [], ◌∷◌, ◌++◌, length, take, reverse, sym, ◌∙◌, ap, subst, arith, length-append}
use Rattle.std.proofs.lemmas.Bool.{cases_lt}
use Rattle.std.proofs.lemmas.List.{take_all, take-append-le, reverse-append}
use Rattle.rnv_disk.specs.declared.call.Call.{Call}
use Rattle.rnv_disk.specs.Images.{Image}
use Rattle.rnv_disk.specs.Stops.{Past, LeftNow, Elapses}
use Rattle.rnv_disk.specs.Course.{Course, IsImage, past_of}

-- no call
pub none : (past : Past) (step : Image → Image → Type 0) → ((c : Image) → step c c) → Elapses step past past
none past step stays = record {
  later = omega arith;
  nothing_else = λ t c le left. inl left;
  keeps = λ t c le left. left;
  follows = λ c left. (c, left, stays c);
}

module _ (course : Course) (call : Call) where
  abbrev pub longer : Course
  longer = record course { calls = course.calls ++ call ∷ [] }

  count_longer : length longer.calls ≡ length course.calls + 1
  count_longer = length-append course.calls (call ∷ [])

  whole : (n : ℕ) → length course.calls < n → reverse (take n longer.calls) ≡ call ∷ reverse course.calls
  whole n lt = ap (λ (l : List Call). reverse l) (take_all n longer.calls (omega (arith, count_longer))) ∙ reverse-append course.calls (call ∷ [])

  older : (n : ℕ) → n ≤ length course.calls → take n longer.calls ≡ take n course.calls
  older n le = take-append-le n course.calls (call ∷ []) le

  -- what a stop after the call leaves
  left_longer : (c : Image) → LeftNow (past_of longer) c → IsImage course.first (call ∷ reverse course.calls) c
  left_longer c left =
      let lt : length course.calls < left.count = omega (arith, count_longer, left.since) in
      subst (λ (l : List Call). IsImage course.first l c) (whole left.count lt) left.image

  pub one_more : (step : Image → Image → Type 0) → ((c : Image) → IsImage course.first (call ∷ reverse course.calls) c → (d : Image) × IsImage course.first (reverse course.calls) d × step d c)
      → Elapses step (past_of course) (past_of longer)
  one_more step comes = record {
    later = omega (arith, count_longer);
    nothing_else = λ t c le left. elim (cases_lt (length course.calls) left.count) [
      | inl lt ↦ inr (record { count = left.count; since = omega (arith, count_longer, lt); so_far = left.so_far; image = left.image })
      | inr short ↦ inl (record { count = left.count; since = left.since; so_far = short; image = subst (λ (l : List Call). IsImage course.first (reverse l) c) (older left.count short) left.image })
    ];
    keeps = λ t c le left. record {
      count = left.count;
      since = left.since;
      so_far = omega (arith, count_longer, left.so_far);
      image = subst (λ (l : List Call). IsImage course.first (reverse l) c) (sym (older left.count left.so_far)) left.image;
    };
    follows = λ c left.
        let from = comes c (left_longer c left) in
        let all = take_all (length course.calls) course.calls (omega arith) in
        (from.0, record { count = length course.calls; since = omega arith; so_far = omega arith; image = subst (λ (l : List Call). IsImage course.first (reverse l) from.0) (sym all) from.1 }, from.2);
  }
