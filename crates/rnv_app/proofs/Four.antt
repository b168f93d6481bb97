-- What two words and four words ask for.
use Rattle.std.proofs.Common.{◌≡◌, ◌≢◌, ◌↔◌, ℕ, pos, List, [], ◌∷◌, length, get_or, codes, arith, sym, subst, ap, ◌∙◌, Option, Some, None, IfNone}
use Rattle.rnv_base.specs.Names.{IsRepositoryName}
use Rattle.rnv_base.specs.Moment.{IsMomentText}
use Rattle.rnv_base.proofs.Civils.{same_seconds, spelt}
use Rattle.rnv_app.specs.declared.words.Words.{Words}
use Rattle.rnv_app.specs.declared.words.Words.TheVariants.{Plan, Run, Import, Show}
use Rattle.rnv_app.specs.Words.{AreWords, IsAsked, IsCommand, IsPlan, IsTimed, IsUsage}

pub two-elements : {X : Type 0} (xs : List X) (a b : X) → length xs ≡ 2 → a ≡ get_or xs 0 a → b ≡ get_or xs 1 b → xs ≡ a ∷ b ∷ []
two-elements [] a b len ha hb = absurd (omega arith)
two-elements (v ∷ []) a b len ha hb = absurd (omega arith)
two-elements (v ∷ w ∷ []) a b len ha hb = cc
two-elements (v ∷ w ∷ x ∷ xs) a b len ha hb = absurd (omega arith)

pub four-elements : {X : Type 0} (xs : List X) (a b c d : X) → length xs ≡ 4 → a ≡ get_or xs 0 a → b ≡ get_or xs 1 b → c ≡ get_or xs 2 c → d ≡ get_or xs 3 d → xs ≡ a ∷ b ∷ c ∷ d ∷ []
four-elements [] a b c d len ha hb hc hd = absurd (omega arith)
four-elements (v ∷ []) a b c d len ha hb hc hd = absurd (omega arith)
four-elements (v ∷ w ∷ []) a b c d len ha hb hc hd = absurd (omega arith)
four-elements (v ∷ w ∷ x ∷ []) a b c d len ha hb hc hd = absurd (omega arith)
four-elements (v ∷ w ∷ x ∷ y ∷ []) a b c d len ha hb hc hd = cc
four-elements (v ∷ w ∷ x ∷ y ∷ z ∷ zs) a b c d len ha hb hc hd = absurd (omega arith)

-- the parts of four words with a moment
parts-asked : (words : List (List ℕ)) (a b c d name : List ℕ) → words ≡ a ∷ b ∷ c ∷ d ∷ [] → (repo : List ℕ) (now : ℕ) → IsTimed name words repo now → (name ≡ a) × IsAsked b c d now
parts-asked words a b c d name is repo now timed =
    let same : name ∷ repo ∷ timed.flag ∷ timed.time ∷ [] ≡ a ∷ b ∷ c ∷ d ∷ [] = sym timed.four ∙ is in
    let first : name ≡ a = ap (λ (l : List (List ℕ)). get_or l 0 []) same in
    let second : repo ≡ b = ap (λ (l : List (List ℕ)). get_or l 1 []) same in
    let third : timed.flag ≡ c = ap (λ (l : List (List ℕ)). get_or l 2 []) same in
    let fourth : timed.time ≡ d = ap (λ (l : List (List ℕ)). get_or l 3 []) same in (
      first,
      record {
        name = subst IsRepositoryName second timed.asked.name;
        option = sym third ∙ timed.asked.option;
        moment = timed.asked.moment;
        timed = subst (λ (t : List ℕ). IsMomentText t now) fourth timed.asked.timed;
      },
    )

not-four : (words : List (List ℕ)) (name : List ℕ) → ¬ (length words ≡ 4) → (repo : List ℕ) (now : ℕ) → ¬ (IsTimed name words repo now)
not-four words name other repo now timed = other (ap length timed.four)

not-two : (words : List (List ℕ)) (name : List ℕ) → ¬ (length words ≡ 2) → (repo : List ℕ) → ¬ (IsCommand name words repo)
not-two words name other repo asked = other (ap length asked.two)

-- words of another number
pub usage-other : (words : List (List ℕ)) → ¬ (length words ≡ 2) → ¬ (length words ≡ 4) → IsUsage words
usage-other words two four = record { plan = not-four words (codes "plan") four; run = not-four words (codes "run") four; import = not-two words (codes "import") two; show = not-two words (codes "show") two }

four-not-two : (words : List (List ℕ)) (a b c d : List ℕ) → words ≡ a ∷ b ∷ c ∷ d ∷ [] → ¬ (length words ≡ 2)
four-not-two words a b c d is two = absurd (omega (arith, two, ap length is))

-- four words of which the last three ask for no moment
pub usage-four : (words : List (List ℕ)) (a b c d : List ℕ) → words ≡ a ∷ b ∷ c ∷ d ∷ [] → ((now : ℕ) → ¬ (IsAsked b c d now)) → IsUsage words
usage-four words a b c d is none =
    let four = four-not-two words a b c d is in
    record {
      plan = λ repo now plan. none now (parts-asked words a b c d (codes "plan") is repo now plan).1;
      run = λ repo now run. none now (parts-asked words a b c d (codes "run") is repo now run).1;
      import = not-two words (codes "import") four;
      show = not-two words (codes "show") four;
    }

-- four words of which the first is no command
pub usage-timed : (words : List (List ℕ)) (a b c d : List ℕ) → words ≡ a ∷ b ∷ c ∷ d ∷ [] → a ≢ codes "plan" → a ≢ codes "run" → IsUsage words
usage-timed words a b c d is plan run =
    let four = four-not-two words a b c d is in
    record {
      plan = λ repo now asked. plan (sym (parts-asked words a b c d (codes "plan") is repo now asked).0);
      run = λ repo now asked. run (sym (parts-asked words a b c d (codes "run") is repo now asked).0);
      import = not-two words (codes "import") four;
      show = not-two words (codes "show") four;
    }

parts-of : (words : List (List ℕ)) (a b name repo : List ℕ) → words ≡ a ∷ b ∷ [] → IsCommand name words repo → (name ≡ a) × (repo ≡ b)
parts-of words a b name repo is asked =
    let same : name ∷ repo ∷ [] ≡ a ∷ b ∷ [] = sym asked.two ∙ is in
    (ap (λ (l : List (List ℕ)). get_or l 0 []) same, ap (λ (l : List (List ℕ)). get_or l 1 []) same)

two-not-four : (words : List (List ℕ)) (a b : List ℕ) → words ≡ a ∷ b ∷ [] → ¬ (length words ≡ 4)
two-not-four words a b is four = absurd (omega (arith, four, ap length is))

-- two words of which the second is no name
pub usage-name : (words : List (List ℕ)) (a b : List ℕ) → words ≡ a ∷ b ∷ [] → ¬ (IsRepositoryName b) → IsUsage words
usage-name words a b is other = record {
  plan = not-four words (codes "plan") (two-not-four words a b is);
  run = not-four words (codes "run") (two-not-four words a b is);
  import = λ repo asked. other (subst IsRepositoryName (parts-of words a b (codes "import") repo is asked).1 asked.name);
  show = λ repo asked. other (subst IsRepositoryName (parts-of words a b (codes "show") repo is asked).1 asked.name);
}

-- two words of which the first is no command
pub usage-command : (words : List (List ℕ)) (a b : List ℕ) → words ≡ a ∷ b ∷ [] → a ≢ codes "import" → a ≢ codes "show" → IsUsage words
usage-command words a b is import show = record {
  plan = not-four words (codes "plan") (two-not-four words a b is);
  run = not-four words (codes "run") (two-not-four words a b is);
  import = λ repo asked. import (sym (parts-of words a b (codes "import") repo is asked).0);
  show = λ repo asked. show (sym (parts-of words a b (codes "show") repo is asked).0);
}

-- words that ask for something
pub asks : (words : List (List ℕ)) (w : Words) → AreWords words w → ¬ (IsUsage words)
asks words (Plan repo now) is usage = usage.plan repo now is
asks words (Run repo now) is usage = usage.run repo now is
asks words (Import repo) is usage = usage.import repo is
asks words (Show repo) is usage = usage.show repo is

-- words ask for one repository
pub one-repo : (words : List (List ℕ)) (repo other : List ℕ) (now then : ℕ) → IsPlan words repo now → IsPlan words other then → repo ≡ other
one-repo words repo other now then plan again =
    let same : codes "plan" ∷ repo ∷ plan.flag ∷ plan.time ∷ [] ≡ codes "plan" ∷ other ∷ again.flag ∷ again.time ∷ [] = sym plan.four ∙ again.four in
    ap (λ (l : List (List ℕ)). get_or l 1 []) same

one_moment : (text : List ℕ) (now then : ℕ) → IsMomentText text now → IsMomentText text then → now ≡ then
one_moment text now then a b =
    let s = spelt text now a in
    let t = spelt text then b in
    let e : pos now ≡ pos then = s.counts ∙ (same_seconds s.at t.at (sym s.text_is ∙ t.text_is) ∙ sym t.counts) in
    cc

-- words with a moment have one repository and one moment
pub one_time : (words : List (List ℕ)) (command repo other : List ℕ) (now then : ℕ) → IsTimed command words repo now → IsTimed command words other then → (repo ≡ other) × (now ≡ then)
one_time words command repo other now then a b =
    let same : command ∷ repo ∷ a.flag ∷ a.time ∷ [] ≡ command ∷ other ∷ b.flag ∷ b.time ∷ [] = sym a.four ∙ b.four in
    let time : a.time ≡ b.time = ap (λ (l : List (List ℕ)). get_or l 3 []) same in
    (ap (λ (l : List (List ℕ)). get_or l 1 []) same, one_moment a.time now then a.asked.timed (subst (λ (t : List ℕ). IsMomentText t then) (sym time) b.asked.timed))

pub none-from : (r : Option ℕ) (P Q : ℕ → Type 0) → ((m : ℕ) → (r ≡ Some m) ↔ P m) → ((m : ℕ) → Q m → P m) → IfNone r ((m : ℕ) → ¬ (Q m))
none-from None P Q exactly weaker = λ m q. cc ((exactly m).1 (weaker m q))
none-from (Some x) P Q exactly weaker = tt
