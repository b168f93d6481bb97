-- What engines took and refused in a call, and in calls one after another.
use Rattle.std.specs.Prelude.{◌≡◌, ⊤, ℕ, List, ◌++◌, Bool, true, false, not, Result, Ok, Err}
use Rattle.std.specs.List.{list_all}
use Rattle.rnv_pattern.specs.declared.error.PatternError.{PatternError}
use Rattle.rnv_pattern.specs.declared.error.PatternError.TheVariants.{BadGlob, BadExpression, Memory}

-- No text was taken out of the engines' two lists, and the other lists are as before.
pub record Asks (refused took : List (List ℕ)) (others : List (List (List ℕ))) (now_refused now_took : List (List ℕ)) (now_others : List (List (List ℕ))) : Type 0 where
  pub more_refused : List (List ℕ)
  pub more_took : List (List ℕ)
  pub refused_is : now_refused ≡ refused ++ more_refused
  pub took_is : now_took ≡ took ++ more_took
  pub others_is : now_others ≡ others

-- Wrong are all texts that the engines refused meanwhile, and none that they took.
pub record Agrees (wrong : List ℕ → Bool) (refused took now_refused now_took : List (List ℕ)) : Type 0 where
  pub more_refused : List (List ℕ)
  pub more_took : List (List ℕ)
  pub refused_is : now_refused ≡ refused ++ more_refused
  pub took_is : now_took ≡ took ++ more_took
  pub all : list_all wrong more_refused ≡ true
  pub none : list_all (λ t. not (wrong t)) more_took ≡ true

-- a reading that is refused exactly where the test fails, unless memory runs out
abbrev pub TellsTest : {T : Type 0} → Result T PatternError → Bool → Type 0
TellsTest (Ok x) passed = passed ≡ true
TellsTest (Err BadGlob) passed = passed ≡ false
TellsTest (Err BadExpression) passed = passed ≡ false
TellsTest (Err Memory) passed = ⊤
