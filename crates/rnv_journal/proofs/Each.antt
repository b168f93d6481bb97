-- The readings of a file.
use Rattle.std.proofs.Common.{◌≡◌, ◌≢◌, ◌≤◌, ◌⊎◌, inl, inr, ⊎_elim, ℕ, suc, List, [], ◌∷◌, ◌++◌, refl, sym, ◌∙◌, ap, subst, arith, append_assoc}
use Rattle.std.proofs.lemmas.Bool.{cases_eq}
use Rattle.std.proofs.lemmas.List.{append_cancel_left}
use Rattle.rnv_journal.specs.File.{head, body, entries, spelled, counted, IsImage, IsInMaking}
use Rattle.rnv_journal.specs.FileReading.{IsSpelled, FileReadsAs, IsTorn, IsFileReading, IsClosed, EachFileReading}
use Rattle.rnv_journal.proofs.Spelling.{one_list}
use Rattle.rnv_journal.proofs.Wrong.{image_made}
use Rattle.rnv_journal.proofs.Founds.{entries_push}

-- a file is spelled in one way
pub one_image : (limit : ℕ) (file : List ℕ) (ps qs : List (List ℕ)) (g h : ℕ) (r s : List ℕ) → IsImage limit file ps g r → IsImage limit file qs h s
    → (ps ≡ qs) × (g ≡ h) × (r ≡ s)
unfolding spelled
one_image limit file ps qs g h r s one two =
    let same : head ++ (entries ps ++ g ∷ r) ≡ head ++ (entries qs ++ h ∷ s) = sym one.spells ∙ two.spells in
    one_list ps qs g h r s one.ends two.ends (append_cancel_left head _ _ same)

-- its gate at the end may be read back
pub one_gate : (ps : List (List ℕ)) (g h : ℕ) (r s : List ℕ) → spelled ps g r ≡ spelled ps h s → g ≡ h
unfolding spelled
one_gate ps g h r s same =
    let behind : entries ps ++ g ∷ r ≡ entries ps ++ h ∷ s = append_cancel_left head _ _ same in
    let gate : g ∷ r ≡ h ∷ s = append_cancel_left (entries ps) _ _ behind in
    cc

-- a gate set to 1 in front of an entry and a gate makes the list longer
pub spelled_push : (ps : List (List ℕ)) (p : List ℕ) (g : ℕ) (r : List ℕ) → spelled ps 1 (body p ++ g ∷ r) ≡ spelled (ps ++ p ∷ []) g r
unfolding spelled
spelled_push ps p g r =
    let longer : entries (ps ++ p ∷ []) ++ g ∷ r ≡ (entries ps ++ 1 ∷ body p) ++ g ∷ r = ap (λ (l : List ℕ). l ++ g ∷ r) (entries_push ps p) in
    ap (λ (l : List ℕ). head ++ l) (sym (longer ∙ append_assoc (entries ps) (1 ∷ body p) (g ∷ r)))

module _ (limit : ℕ) (P : List (List ℕ) → Type 0) where
  -- a file in making reads as the empty list
  pub making_each : (file : List ℕ) → IsInMaking file → P [] → EachFileReading limit P file
  making_each file making here = record {
    some = record { image = ([], inl (making, refl)); opened = λ opened torn. absurd (image_made limit file _ _ _ torn.image making) };
    each = each;
  }
    where
      each : (list : List (List ℕ)) → IsFileReading limit file list → P list
      each list (inl (inl made)) = subst P (sym made.1) here
      each list (inl (inr is)) = absurd (image_made limit file _ _ _ is.image making)
      each list (inr found) = absurd (image_made limit file _ _ _ found.1.image making)

  -- a file whose last gate is 0
  pub closed_each : (file : List ℕ) (ps : List (List ℕ)) (rest : List ℕ) → IsImage limit file ps 0 rest → P ps → EachFileReading limit P file
  closed_each file ps rest image here = record {
    some = record { image = (ps, inr (record { gate = 0; rest = rest; image = image })); opened = λ opened torn. absurd (untorn opened torn) };
    each = each;
  }
    where
      untorn : (opened : List ℕ) → IsTorn limit file opened → ⊥
      untorn opened torn = torn.torn (sym (one_image limit file ps torn.payloads 0 torn.gate rest torn.rest image torn.image).1)

      each : (list : List (List ℕ)) → IsFileReading limit file list → P list
      each list (inl (inl made)) = absurd (image_made limit file _ _ _ image made.0)
      each list (inl (inr is)) = subst P (one_image limit file ps list 0 is.gate rest is.rest image is.image).0 here
      each list (inr found) = absurd (untorn found.0 found.1)

-- a file that with its last gate set to 1 is an image with a gate 0 at its end
module _ (limit : ℕ) (ps qs : List (List ℕ)) (r s : List ℕ) (opens : IsImage limit (spelled ps 1 r) qs 0 s) where
  is_opened : (g : ℕ) (opened : List ℕ) → IsImage limit (spelled ps g r) ps g r → IsTorn limit (spelled ps g r) opened → opened ≡ spelled ps 1 r
  is_opened g opened image torn =
      let same = one_image limit (spelled ps g r) ps torn.payloads g torn.gate r torn.rest image torn.image in
      let p = same.0 in
      let q = same.2 in
      let is = torn.is_opened in
      cc

  torn_reading : (g : ℕ) (list : List (List ℕ)) → IsImage limit (spelled ps g r) ps g r → IsFileReading limit (spelled ps g r) list → (list ≡ ps) ⊎ (list ≡ qs)
  torn_reading g list image (inl (inl made)) = absurd (image_made limit _ _ _ _ image made.0)
  torn_reading g list image (inl (inr is)) = inl (sym (one_image limit (spelled ps g r) ps list g is.gate r is.rest image is.image).0)
  torn_reading g list image (inr (opened, torn, inl made)) = absurd (image_made limit _ _ _ _ opens (subst IsInMaking (is_opened g opened image torn) made.0))
  torn_reading g list image (inr (opened, torn, inr is)) =
      let same = subst (λ (f : List ℕ). IsImage limit f list is.gate is.rest) (is_opened g opened image torn) is.image in
      inr (sym (one_image limit (spelled ps 1 r) qs list 0 is.gate s is.rest opens same).0)

  torn_each : (P : List (List ℕ) → Type 0) (g : ℕ) → IsImage limit (spelled ps g r) ps g r → P ps → P qs → EachFileReading limit P (spelled ps g r)
  torn_each P g image before after = record {
    some = record {
      image = (ps, inr (record { gate = g; rest = r; image = image }));
      opened = λ opened torn. subst (λ (f : List ℕ). IsClosed limit f) (sym (is_opened g opened image torn)) (record { payloads = qs; rest = s; image = opens });
    };
    each = λ list reading. ⊎_elim (λ e. subst P (sym e) before) (λ e. subst P (sym e) after) (torn_reading g list image reading);
  }

  pub gate_each : (P : List (List ℕ) → Type 0) (g : ℕ) → counted ps ≤ limit → P ps → P qs → EachFileReading limit P (spelled ps g r)
  gate_each P g within before after = elim (cases_eq g 1) [
    | inl one ↦ subst (λ (n : ℕ). EachFileReading limit P (spelled ps n r)) (sym one) (closed_each limit P (spelled ps 1 r) qs s opens after)
    | inr ends ↦ torn_each P g (record { spells = refl; ends = ends; within = within }) before after
  ]

-- A file that is read as one list alone, and is not in making, has a gate 0 at its end.
pub closed_of : (limit : ℕ) (file : List ℕ) (ps : List (List ℕ)) → EachFileReading limit (λ list. list ≡ ps) file → (IsInMaking file → ⊥)
    → (rest : List ℕ) × IsImage limit file ps 0 rest
closed_of limit file ps only unmade = from only.some.image.0 only.some.image.1
  where
    image_of : (qs : List (List ℕ)) (is : IsSpelled limit file qs) → IsImage limit file ps is.gate is.rest
    image_of qs is = subst (λ (l : List (List ℕ)). IsImage limit file l is.gate is.rest) (only.each qs (inl (inr is))) is.image

    untorn : (g : ℕ) (r : List ℕ) → IsImage limit file ps g r → g ≢ 0 → ⊥
    untorn g r image torn =
        let is_torn : IsTorn limit file (spelled ps 1 r) = record { payloads = ps; gate = g; rest = r; image = image; torn = torn; is_opened = refl } in
        let closed = only.some.opened (spelled ps 1 r) is_torn in
        let list = only.each closed.payloads (inr (spelled ps 1 r, is_torn, inr (record { gate = 0; rest = closed.rest; image = closed.image }))) in
        let same = closed.image.spells ∙ ap (λ (l : List (List ℕ)). spelled l 0 closed.rest) list in
        let gate : suc 0 ≡ 0 = one_gate ps 1 0 r closed.rest same in
        absurd (omega arith)

    from : (qs : List (List ℕ)) → FileReadsAs limit file qs → (rest : List ℕ) × IsImage limit file ps 0 rest
    from qs (inl made) = absurd (unmade made.0)
    from qs (inr is) = elim (cases_eq is.gate 0) [
      | inl zero ↦ (is.rest, subst (λ (n : ℕ). IsImage limit file ps n is.rest) zero (image_of qs is))
      | inr torn ↦ absurd (untorn is.gate is.rest (image_of qs is) torn)
    ]
