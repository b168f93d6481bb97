-- A test of one pattern, as one of a list.
use Rattle.std.proofs.Common.{◌≡◌, ℕ, List, [], ◌∷◌, Bool, true, false, ◌&&◌, refl, subst}
use Rattle.std.specs.List.{list_all}
use Rattle.std.specs.Prelude.{Result, Err}
use Rattle.rnv_pattern.specs.Turns as patterns
use Rattle.rnv_pattern.specs.declared.error.PatternError.{PatternError}
use Rattle.rnv_pattern.specs.Meaning.{is_pattern}
use Rattle.rnv_options.specs.Readings.{Lists, TellsTest}
use Rattle.rnv_options.specs.declared.error.Wrong.{Wrong}

and-one : (b : Bool) → (b && true) ≡ b
and-one true = refl
and-one false = refl

pub tests-one : {T : Type 0} (wrong : List ℕ → Bool) (text : List ℕ) (texts : Lists) (r : Result T Wrong) → TellsTest r (list_all (is_pattern wrong) texts) → texts ≡ text ∷ [] → TellsTest r (is_pattern wrong text)
tests-one {T} wrong text texts r h e =
    subst (λ (b : Bool). TellsTest {T = T} r b) (and-one (is_pattern wrong text)) (subst (λ (ts : Lists). TellsTest {T = T} r (list_all (is_pattern wrong) ts)) e h)

pub told-as : (T : Type 0) (e f : PatternError) (b : Bool) → e ≡ f → patterns.TellsTest {T = T} (Err e) b → patterns.TellsTest {T = T} (Err f) b
told-as T e f b is h = subst (λ (x : PatternError). patterns.TellsTest {T = T} (Err x) b) is h
