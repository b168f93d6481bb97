-- That a text is an age, by what a reading of it gives.
use Rattle.std.proofs.Common.{◌≡◌, ◌↔◌, ℕ, List, Option, Some, None, refl}
use Rattle.std.specs.Prelude.{is_some}
use Rattle.rnv_schedule.specs.Ages.{IsAge, age_of}
use Rattle.rnv_schedule.proofs.AgeTexts.{ages_are}

both-some : (a b : Option ℕ) → ((n : ℕ) → (a ≡ Some n) ↔ (b ≡ Some n)) → is_some a ≡ is_some b
both-some None None h = refl
both-some None (Some n) h = absurd (let e = (h n).1 refl in cc)
both-some (Some n) None h = absurd (let e = (h n).0 refl in cc)
both-some (Some n) (Some m) h = refl

pub age-told : (text : List ℕ) (read : Option ℕ) → ((n : ℕ) → (read ≡ Some n) ↔ IsAge text n) → is_some read ≡ is_some (age_of text)
age-told text read h = both-some read (age_of text) (λ n. let is = ages_are text (age_of text) refl n in ((λ e. is.1 ((h n).0 e)), (λ e. (h n).1 (is.0 e))))
