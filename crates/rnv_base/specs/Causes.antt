-- A fault is answered only where a count of faults rose, or stood at its last value.
use Rattle.std.specs.Prelude.{◌≡◌, ℕ, ◌+◌, ◌-◌, ◌^◌, ◌≤◌, min, Result, OnErr, IsErrOf}

abbrev pub Rose : ℕ → ℕ → Type 0
Rose before now = min (before + 1) (2 ^ 64 - 1) ≤ now

-- a call whose only error is a fault
pub record FailsBy {T E : Type 0} (before now : ℕ) (result : Result T E) : Type 0 where
  pub later : before ≤ now
  pub failed : OnErr result (Rose before now)

-- a call that has other errors beside the fault
pub record FaultsBy {T E : Type 0} (before now : ℕ) (result : Result T E) (fault : E) : Type 0 where
  pub later : before ≤ now
  pub failed : IsErrOf result fault → Rose before now

-- no fault is passed over: where none is answered, the count is as before
abbrev pub PassesNone : {T E : Type 0} → ℕ → ℕ → Result T E → E → Type 0
PassesNone before now result fault = ¬ IsErrOf result fault → now ≡ before
