-- How a call changes what engines tell of the rules that they were asked for.
use Rattle.std.specs.Prelude.{◌≡◌, ℕ, List, [], ◌∷◌, ◌++◌, Result, OnOk, OnErr, IsErrOf}
use Rattle.rnv_schedule.specs.declared.zones.ZoneError.{ZoneError}
use Rattle.rnv_schedule.specs.declared.zones.ZoneError.TheVariants.{BadZone}

-- A call adds its text to those that the engine refused, or to those that it took.
pub record Asked {T : Type 0} (text : List ℕ) (refused took now_refused now_took : List (List ℕ)) (result : Result T ZoneError) : Type 0 where
  pub takes : OnOk result (now_took ≡ took ++ text ∷ [])
  pub untaking : OnErr result (now_took ≡ took)
  pub refuses : IsErrOf result BadZone → now_refused ≡ refused ++ text ∷ []
  pub unrefusing : ¬ IsErrOf result BadZone → now_refused ≡ refused
