-- What keeps the edit law, for any manager: the edited pieces are the old ones but for values, each of which
-- is the old one or a text that may stand there.
use Rattle.std.proofs.Common.{◌≡◌, ℕ, suc, List, [], ◌∷◌, Bool, IsTrue, refl, sym, ap, subst, ◌∙◌, inl, inr, ◌⊎◌}
use Rattle.std.specs.Prelude.{⊤, nat_eq}
use Rattle.std.proofs.lemmas.Bool.{cases_Bool}
use Rattle.rnv_manager.specs.declared.edits.Edit.{Edit}
use Rattle.rnv_manager.specs.Marks as m
use Rattle.rnv_manager.specs.Marks.{Mark}
use Rattle.rnv_manager.specs.Edits.{AllFit, value_after, edited, edited_file, IsReadBack}
use Rattle.rnv_manager.proofs.EditLaw.{skeleton-edited}
use Rattle.rnv_manager.proofs.Edited.{other, chosen}

-- a value stays, or a free text stands in its place
abbrev pub IsNew : (List ℕ → Type 0) → List ℕ → List ℕ → Type 0
IsNew IsFree old new = (old ≡ new) ⊎ IsFree new

-- the same bytes and finds, but for the values
abbrev pub AreEdited : (List ℕ → Type 0) → List Mark → List Mark → Type 0
AreEdited IsFree [] [] = ⊤
AreEdited IsFree [] (n ∷ ns) = ⊥
AreEdited IsFree (m.byte x ∷ ms) [] = ⊥
AreEdited IsFree (m.byte x ∷ ms) (m.byte y ∷ ns) = (x ≡ y) × AreEdited IsFree ms ns
AreEdited IsFree (m.byte x ∷ ms) (m.find q t ∷ ns) = ⊥
AreEdited IsFree (m.find p s ∷ ms) [] = ⊥
AreEdited IsFree (m.find p s ∷ ms) (m.byte y ∷ ns) = ⊥
AreEdited IsFree (m.find p s ∷ ms) (m.find q t ∷ ns) = (p ≡ q) × IsNew IsFree s t × AreEdited IsFree ms ns

-- what comes of marks that are put before others by front
pub record Splits (IsFree : List ℕ → Type 0) (front : List Mark → List Mark) (ms ns : List Mark) : Type 0 where
  pub rest : List Mark
  pub is : ns ≡ front rest
  pub edited : AreEdited IsFree ms rest

pub splits-byte : (IsFree : List ℕ → Type 0) (x : ℕ) (ms ns : List Mark) → AreEdited IsFree (m.byte x ∷ ms) ns → Splits IsFree (λ r. m.byte x ∷ r) ms ns
splits-byte IsFree x ms [] h = absurd h
splits-byte IsFree x ms (m.byte y ∷ ns) h = record { rest = ns; is = ap (λ (z : ℕ). m.byte z ∷ ns) (sym h.0); edited = h.1 }
splits-byte IsFree x ms (m.find q t ∷ ns) h = absurd h

pub splits-bytes : (IsFree : List ℕ → Type 0) (xs : List ℕ) (ms ns : List Mark) → AreEdited IsFree (m.bytes xs ms) ns → Splits IsFree (m.bytes xs) ms ns
splits-bytes IsFree [] ms ns h = record { rest = ns; is = refl; edited = h }
splits-bytes IsFree (x ∷ xs) ms ns h =
    let one = splits-byte IsFree x (m.bytes xs ms) ns h in
    let more = splits-bytes IsFree xs ms one.rest one.edited in
    record { rest = more.rest; is = one.is ∙ ap (λ (r : List Mark). m.byte x ∷ r) more.is; edited = more.edited }

pub nothing_more : (IsFree : List ℕ → Type 0) (ns : List Mark) → AreEdited IsFree [] ns → ns ≡ []
nothing_more IsFree [] h = refl
nothing_more IsFree (n ∷ ns) h = absurd h

new-value : (fits : List ℕ → Bool) (IsFree : List ℕ → Type 0) → ((s : List ℕ) → IsTrue (fits s) → IsFree s) → (es : List Edit) (k : ℕ) (s : List ℕ) → AllFit fits es → IsNew IsFree s (value_after es k s)
new-value fits IsFree free [] k s h = inl refl
new-value fits IsFree free (e ∷ es) k s h =
    elim (cases_Bool (nat_eq e.index k)) [
      | inl c ↦ subst (λ (x : List ℕ). IsNew IsFree s x) (sym (chosen e es k s c)) (inr (free e.new_value h.0))
      | inr c ↦ subst (λ (x : List ℕ). IsNew IsFree s x) (sym (other e es k s c)) (new-value fits IsFree free es k s h.1)
    ]

pub are-edited : (fits : List ℕ → Bool) (IsFree : List ℕ → Type 0) → ((s : List ℕ) → IsTrue (fits s) → IsFree s) → (es : List Edit) (k : ℕ) (ms : List Mark) → AllFit fits es → AreEdited IsFree ms (edited es k ms)
are-edited fits IsFree free es k [] h = tt
are-edited fits IsFree free es k (m.byte x ∷ ms) h = (refl, are-edited fits IsFree free es k ms h)
are-edited fits IsFree free es k (m.find slot s ∷ ms) h = (refl, new-value fits IsFree free es k s h, are-edited fits IsFree free es (suc k) ms h)

-- the edited pieces are a reading of the edited file
pub law-holds : (Reads : List ℕ → List Mark → Type 0) (es : List Edit) (ms : List Mark) → Reads (edited_file es ms) (edited es 0 ms) → IsReadBack Reads es ms
law-holds Reads es ms h = record { pieces = edited es 0 ms; read = h; same_skeleton = skeleton-edited es 0 ms; expected = refl }
