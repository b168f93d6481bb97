-- How a run of calls goes on: for callers of a disk, who say what any stop leaves.
use Rattle.std.proofs.Common.{inl, inr, ⊎_elim, arith, sym, subst}
use Rattle.rnv_disk.specs.Images.{Image, Same}
use Rattle.rnv_disk.specs.Stops.{Past, LeftNow, Elapses, LeavesOnly}

-- before the first call
pub started : (old : Past) (P : Image → Type 0) → ((c : Image) → LeftNow old c → P c) → LeavesOnly old old P
started old P here = record { later = omega arith; each = here; before = λ t c le left. inl left }

-- one call more, after which a stop leaves what has P
pub goes_on : (old mid new : Past) (P : Image → Type 0) (step : Image → Image → Type 0) → LeavesOnly old mid P → Elapses step mid new
    → ((d c : Image) → LeftNow mid d → P d → step d c → P c) → LeavesOnly old new P
goes_on old mid new P step so_far time here = record {
  later = omega (arith, so_far.later, time.later);
  each = λ c left. ⊎_elim (so_far.each c) (now c) (time.nothing_else old.moment c so_far.later left);
  before = λ t c le left. ⊎_elim (so_far.before t c le) (λ is. inr (now c is)) (time.nothing_else t c (omega (arith, le, so_far.later)) left);
}
  where
    now : (c : Image) → LeftNow new c → P c
    now c left =
        let from = time.follows c left in
        here from.0 c from.1 (so_far.each from.0 (mid.earlier old.moment mid.moment from.0 so_far.later from.1)) from.2

-- a call that changes nothing
pub stays : (old mid new : Past) (P : Image → Type 0) → LeavesOnly old mid P → Elapses Same mid new → LeavesOnly old new P
stays old mid new P so_far time = goes_on old mid new P Same so_far time (λ d c left was same. subst P (sym same) was)

-- two runs, one after the other
pub joined : (old mid new : Past) (P : Image → Type 0) → LeavesOnly old mid P → LeavesOnly mid new P → LeavesOnly old new P
joined old mid new P one two = record {
  later = omega (arith, one.later, two.later);
  each = λ c left. ⊎_elim (one.each c) (λ has. has) (two.before old.moment c one.later left);
  before = λ t c le left. ⊎_elim (one.before t c le) (λ has. inr has) (two.before t c (omega (arith, le, one.later)) left);
}

-- a run that leaves less leaves only what the weaker fact allows
pub widened : (old new : Past) (P Q : Image → Type 0) → ((c : Image) → P c → Q c) → LeavesOnly old new P → LeavesOnly old new Q
widened old new P Q wider run = record {
  later = run.later;
  each = λ c left. wider c (run.each c left);
  before = λ t c le left. ⊎_elim (λ was. inl was) (λ has. inr (wider c has)) (run.before t c le left);
}

-- what a stop after the run leaves
pub ended : (old new : Past) (P : Image → Type 0) → LeavesOnly old new P → (c : Image) → LeftNow new c → P c
ended old new P run c left = run.each c (new.earlier old.moment new.moment c run.later left)
