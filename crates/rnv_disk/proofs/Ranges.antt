-- What a call does to a file is among what a stop within it may leave.
use Rattle.std.proofs.Common.{◌≡◌, ℕ, ◌+◌, ◌-◌, ◌≤◌, List, length, take, drop, refl, sym, ◌∙◌, ap, arith}
use Rattle.std.proofs.lemmas.Grind.{common_steps}
use Rattle.std.proofs.lemmas.List.{drop-drop}
use Rattle.rnv_disk.specs.declared.device.FileNo.{FileNo}
use Rattle.rnv_disk.specs.declared.device.FileNo.TheVariants.{Zero, One}
use Rattle.rnv_disk.specs.Images.{Image, part, with_part, put, On, Torn, CutTo}

further : (a m k : ℕ) (x : List ℕ) → m ≤ k → drop (a + k) x ≡ drop (k - m) (drop (a + m) x)
further a m k x le = let same : a + k ≡ (a + m) + (k - m) = omega arith in ap (λ (i : ℕ). drop i x) same ∙ sym (drop-drop (k - m) (a + m) x)

-- the range of a shorter write lies in that of a longer one
pub torn_wider : (at n m : ℕ) (old new : List ℕ) → n ≤ m → Torn at n old new → Torn at m old new
torn_wider at n m old new le torn = record {
  before = torn.before;
  after = further at n m new le ∙ ap (λ (l : List ℕ). drop (m - n) l) torn.after ∙ sym (further at n m old le);
  no_shorter = torn.no_shorter;
  no_longer = omega (arith, torn.no_longer);
}

-- a write of fewer bytes, or of others, is one that was cut short
pub torn_put : (at n : ℕ) (bytes old : List ℕ) → at ≤ length old → length bytes ≤ n → Torn at n old (put at bytes old)
torn_put at n bytes old le short = torn_wider at (length bytes) n old (put at bytes old) short (record {
  before = grind (arith, common_steps);
  after = grind (arith, common_steps);
  no_shorter = grind (arith, common_steps);
  no_longer = grind (arith, common_steps);
})

pub torn_self : (at n : ℕ) (old : List ℕ) → Torn at n old old
torn_self at n old = record { before = refl; after = refl; no_shorter = omega arith; no_longer = omega arith }

-- a cut that has happened
pub cut_take : (n : ℕ) (old : List ℕ) → CutTo n old (take n old)
cut_take n old = record { front = grind (arith, common_steps); no_longer = grind (arith, common_steps) }

-- a cut that has not happened
pub cut_self : (n : ℕ) (old : List ℕ) → CutTo n old old
cut_self n old = record { front = refl; no_longer = omega arith }

-- a file's new bytes
pub on_part : (file : FileNo) (step : List ℕ → List ℕ → Type 0) (x : List ℕ) (i : Image) → step (part file i) x → On file step i (with_part file x i)
on_part Zero step x i here = record { here = here; there = refl }
on_part One step x i here = record { here = here; there = refl }

pub on_self : (file : FileNo) (step : List ℕ → List ℕ → Type 0) → ((x : List ℕ) → step x x) → (i : Image) → On file step i i
on_self Zero step self i = record { here = self i.zero; there = refl }
on_self One step self i = record { here = self i.one; there = refl }

pub on_wider : (file : FileNo) (step wide : List ℕ → List ℕ → Type 0) → ((x y : List ℕ) → step x y → wide x y) → (d c : Image) → On file step d c → On file wide d c
on_wider file step wide widens d c on = record { here = widens (part file d) (part file c) on.here; there = on.there }

-- a file that keeps its bytes
pub part_kept : (file : FileNo) (i : Image) → with_part file (part file i) i ≡ i
part_kept Zero i = refl
part_kept One i = refl
