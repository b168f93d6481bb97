-- One append more.
use Rattle.std.proofs.Common.{◌≡◌, ◌≢◌, ◌≤◌, ◌<◌, ◌+◌, inl, inr, ℕ, zero, suc, List, [], ◌∷◌, ◌++◌, length, take, drop, refl, sym, ◌∙◌, ap, subst, arith, append_assoc, append-nil}
use Rattle.std.proofs.lemmas.Bool.{cases_lt}
use Rattle.rnv_disk.specs.Stops.{Past}
use Rattle.rnv_journal.specs.Held.{Held, appended}
use Rattle.rnv_journal.specs.Reading.{EachReading}
use Rattle.rnv_journal.specs.Readings.{ReadsOnly, IsAtRest, IsOldOrAppended}
use Rattle.rnv_journal.proofs.Uses.{reads_weaker, reads_first, reads_then, rest_reads, since_then, reads_later}
use Rattle.rnv_journal.specs.Front.{IsFront, StandsSince}

take_more : (i : ℕ) (xs : List (List ℕ)) → take i xs ++ take 1 (drop i xs) ≡ take (suc i) xs
take_more zero [] = refl
take_more zero (x ∷ xs) = refl
take_more (suc i) [] = refl
take_more (suc i) (x ∷ xs) = ap (λ (l : List (List ℕ)). x ∷ l) (take_more i xs)

drop_more : (i : ℕ) (xs : List (List ℕ)) → drop 1 (drop i xs) ≡ drop (suc i) xs
drop_more zero [] = refl
drop_more zero (x ∷ xs) = refl
drop_more (suc i) [] = refl
drop_more (suc i) (x ∷ xs) = drop_more i xs

pub drop_some : (i : ℕ) (xs : List (List ℕ)) → i < length xs → drop i xs ≢ []
drop_some i [] less none = omega (arith, less)
drop_some zero (x ∷ xs) less none = absurd (cc)
drop_some (suc i) (x ∷ xs) less none = drop_some i xs (omega (arith, less)) none

take_none : (xs : List (List ℕ)) → take 0 xs ≡ []
take_none [] = refl
take_none (x ∷ xs) = refl

drop_none : (xs : List (List ℕ)) → drop 0 xs ≡ xs
drop_none [] = refl
drop_none (x ∷ xs) = refl

pub prepared_left : (i : ℕ) (xs : List (List ℕ)) → i ≤ length xs → i + length (drop i xs) ≡ length xs
prepared_left zero [] le = omega arith
prepared_left zero (x ∷ xs) le = omega arith
prepared_left (suc i) [] le = absurd (omega (arith, le))
prepared_left (suc i) (x ∷ xs) le = omega (arith, prepared_left i xs (omega (arith, le)))

-- after so many appends
abbrev pub after : Held → ℕ → Held
after held i = record held { entries = held.entries ++ take i held.prepared; prepared = drop i held.prepared }

pub record Appending (held now : Held) (old new : Past) (i : ℕ) : Type 0 where
  pub so_far : now ≡ after held i
  pub at_rest : IsAtRest held.limit new (held.entries ++ take i held.prepared)
  pub reads : ReadsOnly held.limit old new (IsFront held 0)
  pub since : (k : ℕ) → k ≤ i → StandsSince held old new k

grown : (held : Held) (i : ℕ) → (held.entries ++ take i held.prepared) ++ take 1 (drop i held.prepared) ≡ held.entries ++ take (suc i) held.prepared
grown held i = append_assoc held.entries (take i held.prepared) (take 1 (drop i held.prepared)) ∙ ap (λ (l : List (List ℕ)). held.entries ++ l) (take_more i held.prepared)

-- at least fewer
fewer : (held : Held) (i k : ℕ) → k ≤ i → (list : List (List ℕ)) → IsFront held i list → IsFront held k list
fewer held i k le list is = record { count = is.count; at_least = omega (arith, le, is.at_least); at_most = is.at_most; is = is.is }

module _ (held : Held) where
  front : (i : ℕ) → i ≤ length held.prepared → (k : ℕ) → k ≤ i → IsFront held k (held.entries ++ take i held.prepared)
  front i le k at = record { count = i; at_least = at; at_most = le; is = refl }

  -- before the first
  pub begins : (past : Past) → IsAtRest held.limit past held.entries → Appending held held past past 0
  begins past rest =
      let at : held.entries ≡ held.entries ++ take 0 held.prepared = sym (ap (λ (l : List (List ℕ)). held.entries ++ l) (take_none held.prepared) ∙ append-nil held.entries) in
      let here = subst (λ (l : List (List ℕ)). IsAtRest held.limit past l) at rest in
      let each = rest_reads held.limit past (held.entries ++ take 0 held.prepared) (IsFront held 0) here (front 0 (omega arith) 0 (omega arith)) in
      record {
        so_far = begun;
        at_rest = here;
        reads = reads_first held.limit past (IsFront held 0) each;
        since = λ k le. record { moment = past.moment; since = omega arith; so_far = omega arith; reads = λ c left. subst (λ (n : ℕ). EachReading held.limit (IsFront held n) c) (omega (arith, le)) (each c left) };
      }
    where
      begun : held ≡ after held 0
      begun =
          let es = sym (ap (λ (l : List (List ℕ)). held.entries ++ l) (take_none held.prepared) ∙ append-nil held.entries) in
          ap (λ (l : List (List ℕ)). record held { entries = l }) es ∙ ap (λ (l : List (List ℕ)). record held { entries = held.entries ++ take 0 held.prepared; prepared = l }) (sym (drop_none held.prepared))

  module _ (now : Held) (old mid new : Past) (i : ℕ) (so_far : Appending held now old mid i) (less : i < length held.prepared)
      (turn : ReadsOnly now.limit mid new (IsOldOrAppended now)) where
    -- within the turn
    between : ReadsOnly held.limit mid new (IsFront held i)
    between = reads_weaker held.limit mid new (IsOldOrAppended (after held i)) (IsFront held i) each
        (subst (λ (h : Held). ReadsOnly h.limit mid new (IsOldOrAppended h)) so_far.so_far turn)
      where
        each : (list : List (List ℕ)) → IsOldOrAppended (after held i) list → IsFront held i list
        each list (inl is) = record { count = i; at_least = omega arith; at_most = omega (arith, less); is = is }
        each list (inr is) = record { count = suc i; at_least = omega arith; at_most = omega (arith, less); is = is ∙ grown held i }

    pub turn_reads : ReadsOnly held.limit old new (IsFront held 0)
    turn_reads = reads_then held.limit old mid new (IsFront held 0) so_far.reads
        (reads_weaker held.limit mid new (IsFront held i) (IsFront held 0) (λ list is. fewer held i 0 (omega arith) list is) between)

    pub turn_since : (k : ℕ) → k ≤ i → StandsSince held old new k
    turn_since k le =
        let was = so_far.since k le in
        record {
          moment = was.moment;
          since = was.since;
          so_far = omega (arith, was.so_far, reads_later held.limit mid new (IsFront held i) between);
          reads = since_then held.limit was.moment mid new (IsFront held k) was.so_far was.reads
              (reads_weaker held.limit mid new (IsFront held i) (IsFront held k) (λ list is. fewer held i k le list is) between);
        }

    pub turned : (then : Held) → then ≡ appended now → IsAtRest now.limit new then.entries → Appending held then old new (suc i)
    turned then is rest = record {
      so_far = is ∙ ap appended so_far.so_far ∙ next;
      at_rest = here;
      reads = turn_reads;
      since = λ k le. elim (cases_lt k (suc i)) [
        | inl short ↦ turn_since k (omega (arith, short))
        | inr long ↦ record {
          moment = new.moment;
          since = omega (arith, reads_later held.limit old new (IsFront held 0) turn_reads);
          so_far = omega arith;
          reads = rest_reads held.limit new (held.entries ++ take (suc i) held.prepared) (IsFront held k) here (front (suc i) (omega (arith, less)) k le);
        }
      ];
    }
      where
        next : appended (after held i) ≡ after held (suc i)
        next = ap (λ (l : List (List ℕ)). record held { entries = l; prepared = drop 1 (drop i held.prepared) }) (grown held i)
            ∙ ap (λ (l : List (List ℕ)). record held { entries = held.entries ++ take (suc i) held.prepared; prepared = l }) (drop_more i held.prepared)

        here : IsAtRest held.limit new (held.entries ++ take (suc i) held.prepared)
        here =
            let whole : then ≡ after held (suc i) = is ∙ ap appended so_far.so_far ∙ next in
            let limit : now.limit ≡ held.limit = ap (λ (h : Held). h.limit) so_far.so_far in
            subst (λ (h : Held). IsAtRest held.limit new h.entries) whole (subst (λ (n : ℕ). IsAtRest n new then.entries) limit rest)
