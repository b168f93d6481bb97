-- What members and items say, one after another.
use Rattle.std.proofs.Common.{◌≡◌, ℕ, ◌+◌, List, [], ◌∷◌, Ok, Err, Result, String, Global, string_bytes, refl, sym, ap, ◌∙◌}
use Rattle.serde_json.specs.Data.{Data}
use Rattle.serde_json.specs.View.{items_view, members_view, view}
use Rattle.serde_json.specs.declared.value.Value.{Value}
use Rattle.rnv_config.specs.Members.{and_then, items_say, members_say}

-- what holds of sayings that are joined
pub record Joins {A : Type 0} (join : A → A → A) (nothing : A) : Type 0 where
  pub assoc : (a b c : A) → join a (join b c) ≡ join (join a b) c
  pub before : (a : A) → join nothing a ≡ a
  pub behind : (a : A) → join a nothing ≡ a

-- what was said, and then what is left to say
abbrev pub after : {A E : Type 0} → (A → A → A) → A → Result A E → Result A E
after join first (Ok others) = Ok (join first others)
after join first (Err why) = Err why

after-more : {A E : Type 0} (join : A → A → A) (nothing : A) → Joins join nothing → (a b : A) (one rest : Result A E) → one ≡ Ok b → after join a (and_then join one rest) ≡ after join (join a b) rest
after-more {A} {E} join nothing laws a b one (Ok others) e = ap (λ (x : Result A E). after join a (and_then join x (Ok others))) e ∙ ap Ok (laws.assoc a b others)
after-more {A} {E} join nothing laws a b one (Err why) e = ap (λ (x : Result A E). after join a (and_then join x (Err why))) e

after-wrong : {A E : Type 0} (join : A → A → A) (a : A) (one rest : Result A E) (why : E) → one ≡ Err why → after join a (and_then join one rest) ≡ Err why
after-wrong {A} {E} join a one rest why e = ap (λ (x : Result A E). after join a (and_then join x rest)) e

-- nothing was said so far
pub after-nothing : {A E : Type 0} (join : A → A → A) (nothing : A) → Joins join nothing → (start : A) → start ≡ nothing → (r : Result A E) → r ≡ after join start r
after-nothing {A} {E} join nothing laws start e (Ok others) = ap Ok (sym (laws.before others) ∙ ap (λ (a : A). join a others) (sym e))
after-nothing join nothing laws start e (Err why) = refl

-- ---- members

pub members-step : {A E : Type 0} (join : A → A → A) (nothing : A) → Joins join nothing → (says : List ℕ → Data → Result A E)
    → (left later : List (String Global × Value)) (name : String Global) (value : Value) (old more new : A) (all : Result A E)
    → left ≡ (name, value) ∷ later → all ≡ after join old (members_say join nothing says (members_view left))
    → says (string_bytes name) (view value) ≡ Ok more → new ≡ join old more
    → all ≡ after join new (members_say join nothing says (members_view later))
members-step {A} {E} join nothing laws says left later name value old more new all e whole said grown =
    whole ∙ ap (λ (es : List (String Global × Value)). after join old (members_say join nothing says (members_view es))) e
    ∙ after-more join nothing laws old more (says (string_bytes name) (view value)) (members_say join nothing says (members_view later)) said
    ∙ ap (λ (a : A). after join a (members_say join nothing says (members_view later))) (sym grown)

pub members-stop : {A E : Type 0} (join : A → A → A) (nothing : A) (says : List ℕ → Data → Result A E)
    → (left later : List (String Global × Value)) (name : String Global) (value : Value) (old : A) (all : Result A E)
    → left ≡ (name, value) ∷ later → all ≡ after join old (members_say join nothing says (members_view left))
    → (why : E) → says (string_bytes name) (view value) ≡ Err why → all ≡ Err why
members-stop {A} {E} join nothing says left later name value old all e whole why said =
    whole ∙ ap (λ (es : List (String Global × Value)). after join old (members_say join nothing says (members_view es))) e
    ∙ after-wrong join old (says (string_bytes name) (view value)) (members_say join nothing says (members_view later)) why said

pub members-end : {A E : Type 0} (join : A → A → A) (nothing : A) → Joins join nothing → (says : List ℕ → Data → Result A E)
    → (left : List (String Global × Value)) (old : A) (all : Result A E)
    → left ≡ [] → all ≡ after join old (members_say join nothing says (members_view left)) → all ≡ Ok old
members-end {A} {E} join nothing laws says left old all e whole =
    whole ∙ ap (λ (es : List (String Global × Value)). after join old (members_say join nothing says (members_view es))) e ∙ ap Ok (laws.behind old)

-- ---- items

pub items-step : {A E : Type 0} (join : A → A → A) (nothing : A) → Joins join nothing → (says : ℕ → Data → Result A E)
    → (n : ℕ) (left later : List Value) (value : Value) (old more new : A) (all : Result A E)
    → left ≡ value ∷ later → all ≡ after join old (items_say join nothing says n (items_view left))
    → says n (view value) ≡ Ok more → new ≡ join old more
    → all ≡ after join new (items_say join nothing says (n + 1) (items_view later))
items-step {A} {E} join nothing laws says n left later value old more new all e whole said grown =
    whole ∙ ap (λ (vs : List Value). after join old (items_say join nothing says n (items_view vs))) e
    ∙ after-more join nothing laws old more (says n (view value)) (items_say join nothing says (n + 1) (items_view later)) said
    ∙ ap (λ (a : A). after join a (items_say join nothing says (n + 1) (items_view later))) (sym grown)

pub items-stop : {A E : Type 0} (join : A → A → A) (nothing : A) (says : ℕ → Data → Result A E)
    → (n : ℕ) (left later : List Value) (value : Value) (old : A) (all : Result A E)
    → left ≡ value ∷ later → all ≡ after join old (items_say join nothing says n (items_view left))
    → (why : E) → says n (view value) ≡ Err why → all ≡ Err why
items-stop {A} {E} join nothing says n left later value old all e whole why said =
    whole ∙ ap (λ (vs : List Value). after join old (items_say join nothing says n (items_view vs))) e
    ∙ after-wrong join old (says n (view value)) (items_say join nothing says (n + 1) (items_view later)) why said

pub items-end : {A E : Type 0} (join : A → A → A) (nothing : A) → Joins join nothing → (says : ℕ → Data → Result A E)
    → (n : ℕ) (left : List Value) (old : A) (all : Result A E)
    → left ≡ [] → all ≡ after join old (items_say join nothing says n (items_view left)) → all ≡ Ok old
items-end {A} {E} join nothing laws says n left old all e whole =
    whole ∙ ap (λ (vs : List Value). after join old (items_say join nothing says n (items_view vs))) e ∙ ap Ok (laws.behind old)
