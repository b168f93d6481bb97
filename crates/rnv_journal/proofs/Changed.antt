-- What a write does to a journal's file, whole or torn.
use Rattle.std.proofs.Common.{◌≡◌, ◌<◌, ◌≤◌, ◌⊎◌, inl, inr, ℕ, suc, ◌+◌, List, [], ◌∷◌, ◌++◌, length, get_or, take, drop, refl, sym, ◌∙◌, ap, arith, append_assoc, append-nil, length-append, add-one}
use Rattle.std.proofs.lemmas.Bool.{cases_eq}
use Rattle.std.proofs.lemmas.Grind.{common_steps}
use Rattle.std.proofs.lemmas.List.{take-append-drop}
use Rattle.std.proofs.Math.Seq.{take-append_seam, drop-append-add, take-append-add, drop-cons}
use Rattle.rnv_disk.specs.Images.{put, Torn}
use Rattle.rnv_journal.specs.File.{head, made, entries, spelled, end_of, IsBegun, IsInMaking}
use Rattle.rnv_journal.proofs.Spelling.{length_entries, length_head}

module _ (ps : List (List ℕ)) where
  -- the head and the entries
  front : List ℕ
  front = head ++ entries ps

  length_front : length front ≡ end_of ps
  unfolding front
  length_front = omega (arith, length-append head (entries ps), length_head, length_entries ps)

  apart : (g : ℕ) (r : List ℕ) → spelled ps g r ≡ front ++ g ∷ r
  unfolding spelled front
  apart g r = sym (append_assoc head (entries ps) (g ∷ r))

  pub length_spelled : (g : ℕ) (r : List ℕ) → length (spelled ps g r) ≡ end_of ps + 1 + length r
  length_spelled g r = omega (arith, ap length (apart g r), length-append front (g ∷ r), length_front)

  take_front : (g : ℕ) (r : List ℕ) → take (end_of ps) (spelled ps g r) ≡ front
  take_front g r = rw (← length_front, apart g r) (take-append_seam front (g ∷ r))

  take_gate : (g : ℕ) (r : List ℕ) → take (end_of ps + 1) (spelled ps g r) ≡ front ++ g ∷ []
  take_gate g r = rw (← length_front, apart g r) (take-append-add front (g ∷ r) 1)

  drop_gate : (g : ℕ) (r : List ℕ) (n : ℕ) → drop (end_of ps + 1 + n) (spelled ps g r) ≡ drop n r
  drop_gate g r n =
      let place : end_of ps + 1 + n ≡ length front + suc n = omega (arith, length_front) in
      rw (place, apart g r) (drop-append-add front (g ∷ r) (suc n))

  pub drop_one : (g : ℕ) (r : List ℕ) → drop (end_of ps + 1) (spelled ps g r) ≡ r
  drop_one g r =
      let place : end_of ps + 1 ≡ length front + 1 = omega (arith, length_front) in
      rw (place, apart g r) (drop-append-add front (g ∷ r) 1)

  -- a write of the gate at the end
  pub torn_gate : (g : ℕ) (r c : List ℕ) → Torn (end_of ps) 1 (spelled ps g r) c → (h : ℕ) × (c ≡ spelled ps h r)
  torn_gate g r c torn =
      let long : end_of ps < length c = omega (arith, torn.no_shorter, length_spelled g r) in
      let first : take (end_of ps) c ≡ front = torn.before ∙ take_front g r in
      let last : drop (end_of ps + 1) c ≡ r = torn.after ∙ drop_one g r in
      let h = get_or c (end_of ps) 0 in
      let rest : drop (end_of ps) c ≡ h ∷ drop (end_of ps + 1) c = rw add-one (drop-cons c (end_of ps) 0 long) in
      let whole : take (end_of ps) c ++ drop (end_of ps) c ≡ c = take-append-drop (end_of ps) c in
      (h, sym whole ∙ ap (λ (l : List ℕ). l ++ drop (end_of ps) c) first ∙ ap (λ (l : List ℕ). front ++ l) (rest ∙ ap (λ (l : List ℕ). h ∷ l) last) ∙ sym (apart h r))

  pub put_gate : (g b : ℕ) (r : List ℕ) → put (end_of ps) (b ∷ []) (spelled ps g r) ≡ spelled ps b r
  put_gate g b r =
      let first : take (end_of ps) (spelled ps g r) ≡ front = take_front g r in
      let last : drop (end_of ps + 1) (spelled ps g r) ≡ r = drop_one g r in
      rw (first, last) (append_assoc front (b ∷ []) r ∙ sym (apart b r))

  -- a write behind the gate at the end
  pub torn_behind : (g n : ℕ) (r c : List ℕ) → Torn (end_of ps + 1) n (spelled ps g r) c → (s : List ℕ) × (c ≡ spelled ps g s)
  torn_behind g n r c torn =
      let first : take (end_of ps + 1) c ≡ front ++ g ∷ [] = torn.before ∙ take_gate g r in
      let s = drop (end_of ps + 1) c in
      let whole : take (end_of ps + 1) c ++ s ≡ c = take-append-drop (end_of ps + 1) c in
      (s, sym whole ∙ ap (λ (l : List ℕ). l ++ s) first ∙ append_assoc front (g ∷ []) s ∙ sym (apart g s))

  pub put_behind : (g : ℕ) (bytes r : List ℕ) → put (end_of ps + 1) bytes (spelled ps g r) ≡ spelled ps g (bytes ++ drop (length bytes) r)
  put_behind g bytes r =
      let first = take_gate g r in
      let last = drop_gate g r (length bytes) in
      rw (first, last) (append_assoc (front ++ g ∷ []) bytes (drop (length bytes) r) ∙ append_assoc front (g ∷ []) (bytes ++ drop (length bytes) r)
      ∙ sym (apart g (bytes ++ drop (length bytes) r)))

-- a file without entries
pub made_whole : 1 ∷ made ≡ spelled [] 0 []
unfolding made spelled head
made_whole = refl

pub length_made : length made ≡ 13
unfolding made
length_made = refl

-- a write of the first byte, where the rest is made
pub torn_first : (f c : List ℕ) → drop 1 f ≡ made → Torn 0 1 f c → IsInMaking c ⊎ (c ≡ spelled [] 0 [])
torn_first f [] rest torn = inl (inl (omega arith))
torn_first f (h ∷ c) rest torn =
    let same : c ≡ made = torn.after ∙ rest in
    elim (cases_eq h 1) [
      | inl one ↦ inr (ap (λ (n : ℕ). n ∷ c) one ∙ ap (λ (l : List ℕ). 1 ∷ l) same ∙ made_whole)
      | inr other ↦ inl (inr (inr (record { first = λ e. other (cc); rest = same })))
    ]

-- a write of the first byte, where nothing more is there
pub torn_short : (f c : List ℕ) → length f ≤ 1 → Torn 0 1 f c → IsInMaking c
torn_short f c short torn = inl (omega (arith, torn.no_longer))

-- a write of what stands behind the first byte
pub torn_rest : (f c : List ℕ) → IsBegun f → Torn 1 13 f c → IsBegun c
torn_rest f c begun torn = record { first = torn.before ∙ begun.first; short = omega (arith, torn.no_longer, begun.short) }

-- with 0 for its first byte a file in making is begun
pub put_zero : (f : List ℕ) → IsInMaking f → IsBegun (put 0 (0 ∷ []) f)
put_zero f (inl short) = record { first = refl; short = grind (arith, common_steps) }
put_zero f (inr (inl begun)) = let short = begun.short in record { first = refl; short = grind (arith, common_steps) }
put_zero f (inr (inr all)) = record { first = refl; short = omega (arith, ap length all.rest, length_made) }

pub put_rest : (f : List ℕ) → IsBegun f → put 1 made f ≡ 0 ∷ made
put_rest f begun =
    let first = begun.first in
    let short = begun.short in
    let place : 1 + length made ≡ 14 = omega (arith, length_made) in
    let none : drop 14 f ≡ [] = grind (arith, common_steps) in
    rw (place, first, none) (append-nil (0 ∷ made))

-- a file in making that begins with 0
pub begun_of : (f : List ℕ) → IsInMaking f → take 1 f ≡ 0 ∷ [] → IsBegun f
begun_of f (inl short) first = record { first = first; short = omega arith }
begun_of f (inr (inl begun)) first = begun
begun_of [] (inr (inr all)) first = absurd (cc)
begun_of (h ∷ f) (inr (inr all)) first = record { first = first; short = omega (arith, ap length all.rest, length_made) }
