-- Steps that are above every distance within a field, and lists of sets.
use Rattle.std.proofs.Common.{arith, ◌≡◌, ◌-◌, ◌%◌, ◌<◌, ◌≤◌, ℕ, min, Bool, true, false, refl, sym, ap, ◌∙◌, inl, inr, Option, Some, None}
use Rattle.std.specs.Prelude.{◌==◌, ◌&&◌, nat_le, option_map}
use mathlib.Core.Path.{fun_ext}
use Rattle.std.proofs.Math.Nat.{mod-eq_of_lt}
use Rattle.std.proofs.lemmas.Bool.{cases_Bool, cases_lt, leb-true}
use Rattle.rnv_schedule.specs.Cron.{Numbers, stepped, stepped_by}

-- ---- steps

wide : (step first last n : ℕ) → n ≤ last → last < 1_000_000 → 1_000_000 ≤ step → (n - first) % step ≡ n - first
wide step first last n h small big = mod-eq_of_lt (omega arith)

outside : (a b c : Bool) → b ≡ false → (a && b && c) ≡ false
outside true true c h = absurd cc
outside true false c h = refl
outside false b c h = refl

same_at : (step next first last n : ℕ) → last < 1_000_000 → 1_000_000 < step → next ≡ 1_000_000 → stepped step (first, last) n ≡ stepped next (first, last) n
same_at step next first last n small big e = elim (cases_Bool (nat_le n last)) [
  | inl h ↦
      let within = leb-true n last h in
      ap (λ (m : ℕ). nat_le first n && nat_le n last && (m == 0)) (wide step first last n within small (omega arith) ∙ sym (wide next first last n within small (omega arith)))
  | inr h ↦ outside (nat_le first n) (nat_le n last) _ h ∙ sym (outside (nat_le first n) (nat_le n last) _ h)
]

pub same_steps : (step next first last : ℕ) → last < 1_000_000 → next ≡ min 1_000_000 step → stepped step (first, last) ≡ stepped next (first, last)
same_steps step next first last small e = elim (cases_lt 1_000_000 step) [
  | inl big ↦ fun_ext (λ n. same_at step next first last n small big (e ∙ omega arith))
  | inr few ↦ ap (λ (s : ℕ). stepped s (first, last)) (sym (e ∙ omega arith))
]

limited : (read : Option ℕ) (next : ℕ) → option_map (min 1_000_000) read ≡ Some next → (step : ℕ) × (read ≡ Some step) × (next ≡ min 1_000_000 step)
limited (Some step) next e = (step, refl, sym cc)
limited None next e = absurd cc

pub stepped_read : (read : Option ℕ) (ends : Option (ℕ × ℕ)) (next first last : ℕ) (set : Numbers) → option_map (min 1_000_000) read ≡ Some next → ends ≡ Some (first, last) → ((n : ℕ) → next ≡ min 1_000_000 n → stepped n (first, last) ≡ set) → stepped_by read ends ≡ Some set
stepped_read read ends next first last set e f same =
    let parts = limited read next e in
    ap (λ (r : Option ℕ). stepped_by r ends) parts.1
    ∙ (ap (λ (r : Option (ℕ × ℕ)). stepped_by (Some parts.0) r) f
    ∙ ap (λ (s : Numbers). Some s) (same parts.0 parts.2))
