-- What is read is spelled.
use Rattle.std.proofs.Common.{◌≡◌, ℕ, zero, suc, ◌-◌, cond, List, [], ◌∷◌, ◌++◌, length, take, Option, Some, None, sym, ap, subst, ◌∙◌, inl, inr, ◌⊎◌, append_assoc}
use Rattle.std.specs.Prelude.{nat_eq}
use Rattle.std.proofs.lemmas.Bool.{eqb-true}
use Rattle.std.proofs.lemmas.Option.{same_Some}
use Rattle.std.proofs.lemmas.List.{append-nil}
use Rattle.rnv_package_json.specs.declared.text.Within.TheVariants.{Plain}
use Rattle.rnv_package_json.specs.declared.value.Kind.{Kind}
use Rattle.rnv_package_json.specs.declared.value.Kind.TheVariants.{Array, Object}
use Rattle.rnv_package_json.specs.Text.{skip, is_space, after_text}
use Rattle.rnv_manager.specs.Finds.{Find}
use Rattle.rnv_package_json.specs.Roles.{Standing, named}
use Rattle.rnv_package_json.specs.Read.{found_at}
use Rattle.rnv_package_json.specs.Word.{after_word}
use Rattle.rnv_package_json.specs.Grammar.{close}
use Rattle.rnv_package_json.specs.Read.{◌>>=◌, State, Reader, expect, quoted, label, part, go_on, parts, if_closed, group, string, word, value, value_with}
use Rattle.rnv_package_json.specs.Grammar as g
use Rattle.rnv_package_json.proofs.Strings.{chosen, expect-takes, after_text-takes}
use Rattle.rnv_package_json.proofs.Words.{skip-splits, after_word-takes, bind_some}
use Rattle.rnv_package_json.proofs.Spelled.{spelled_label, spelled, spelled_parts, finds_of, finds_of_parts, front-of}

abbrev answer : {A B : Type 0} → A → B → Option (A × B)
answer x u = Some (x, u)

-- the parts of a pair that was answered
pair_is : {A B : Type 0} (x y : A) (u v : B) → answer x u ≡ answer y v → (x ≡ y) × (u ≡ v)
pair_is {A} {B} x y u v e =
    let p : A × B = (x, u) in
    let q : A × B = (y, v) in
    let same = same_Some p q e in
    (ap (λ (p : A × B). p.0) same, ap (λ (p : A × B). p.1) same)

quoted-takes : (xs s rest : List ℕ) → quoted xs ≡ Some (s, rest) → (xs ≡ 34 ∷ (s ++ 34 ∷ rest)) × g.IsInside s
unfolding quoted
quoted-takes xs s rest e =
    let a = bind_some (expect 34 xs) (λ inside. after_text (Some Plain) inside >>= λ r. Some (take (length inside - length r - 1) inside, r)) (s, rest) e in
    let b = bind_some (after_text (Some Plain) a.0) (λ r. Some (take (length a.0 - length r - 1) a.0, r)) (s, rest) a.2 in
    let t = after_text-takes (Some Plain) a.0 b.0 b.1 in
    let same = pair_is _ _ _ _ b.2 in
    let same-rest : b.0 ≡ rest = same.1 in
    let cut : take (length a.0 - length b.0 - 1) a.0 ≡ t.0 = subst (λ (l : List ℕ). take (length l - length b.0 - 1) l ≡ t.0) (sym t.1) (front-of t.0 b.0) in
    let is_s : t.0 ≡ s = sym cut ∙ same.0 in
    (expect-takes 34 xs a.0 a.1 ∙ ap (λ (l : List ℕ). 34 ∷ l) (t.1 ∙ (ap (λ (l : List ℕ). l ++ 34 ∷ b.0) is_s ∙ ap (λ (l : List ℕ). s ++ 34 ∷ l) same-rest)), subst (λ (l : List ℕ). g.IsInside l) is_s t.2)

pub record TakesLabel (st : Standing) (k : Kind) (xs : List ℕ) (inner : Standing) (rest : List ℕ) : Type 0 where
  pub l : g.Label
  pub is_label : g.IsLabel k l
  pub bytes : xs ≡ spelled_label l rest
  pub gives : inner ≡ g.labelled st l

label-takes : (st : Standing) (k : Kind) (xs : List ℕ) (inner : Standing) (rest : List ℕ) → label st k xs ≡ Some (inner, rest) → TakesLabel st k xs inner rest
unfolding label
label-takes st Array xs inner rest e = let same = pair_is _ _ _ _ e in record { l = g.unnamed; is_label = tt; bytes = same.1; gives = sym same.0 }
label-takes st Object xs inner rest e =
    let front = skip-splits is_space xs in
    let a = bind_some (quoted (skip is_space xs)) (λ n. expect 58 (skip is_space n.1) >>= λ r. Some (named st n.0, r)) (inner, rest) e in
    let b = bind_some (expect 58 (skip is_space a.0.1)) (λ r. Some (named st a.0.0, r)) (inner, rest) a.2 in
    let middle = skip-splits is_space a.0.1 in
    let t = quoted-takes (skip is_space xs) a.0.0 a.0.1 a.1 in
    let colon = expect-takes 58 (skip is_space a.0.1) b.0 b.1 in
    let same = pair_is _ _ _ _ b.2 in
    let same-rest : b.0 ≡ rest = same.1 in
    let back : a.0.1 ≡ middle.0 ++ 58 ∷ rest = middle.1 ∙ ap (λ (l : List ℕ). middle.0 ++ l) (colon ∙ ap (λ (l : List ℕ). 58 ∷ l) same-rest) in
    record {
      l = g.name front.0 a.0.0 middle.0;
      is_label = (front.2, t.1, middle.2);
      bytes = front.1 ∙ ap (λ (l : List ℕ). front.0 ++ l) (t.0 ∙ ap (λ (l : List ℕ). 34 ∷ (a.0.0 ++ 34 ∷ l)) back);
      gives = sym same.0;
    }

pub record TakesPart (val : Standing → Reader) (st : Standing) (k : Kind) (fs : List Find) (xs : List ℕ) (more : List Find) (after : List ℕ) : Type 0 where
  pub l : g.Label
  pub a : List ℕ
  pub inner : List ℕ
  pub rest : List ℕ
  pub b : List ℕ
  pub is_label : g.IsLabel k l
  pub is_gap : g.IsGap a
  pub bytes : xs ≡ spelled_label l (a ++ inner)
  pub read : val (g.labelled st l) fs inner ≡ Some (more, rest)
  pub behind : rest ≡ b ++ after
  pub is_gap_after : g.IsGap b

part-takes : (val : Standing → Reader) (st : Standing) (k : Kind) (fs : List Find) (xs : List ℕ) (more : List Find) (after : List ℕ) → part val st k fs xs ≡ Some (more, after) → TakesPart val st k fs xs more after
unfolding part
part-takes val st k fs xs more after e =
    let a = bind_some (label st k xs) (λ i. val i.0 fs (skip is_space i.1) >>= λ s. Some (s.0, skip is_space s.1)) (more, after) e in
    let b = bind_some (val a.0.0 fs (skip is_space a.0.1)) (λ s. Some (s.0, skip is_space s.1)) (more, after) a.2 in
    let lab = label-takes st k xs a.0.0 a.0.1 a.1 in
    let front = skip-splits is_space a.0.1 in
    let back = skip-splits is_space b.0.1 in
    let same = pair_is _ _ _ _ b.2 in
    let same-more : b.0.0 ≡ more = same.0 in
    let same-after : skip is_space b.0.1 ≡ after = same.1 in
    record {
      l = lab.l;
      a = front.0;
      inner = skip is_space a.0.1;
      rest = b.0.1;
      b = back.0;
      is_label = lab.is_label;
      is_gap = front.2;
      bytes = lab.bytes ∙ ap (λ (x : List ℕ). spelled_label lab.l x) front.1;
      read = ap (λ (s : Standing). val s fs (skip is_space a.0.1)) (sym lab.gives) ∙ (b.1 ∙ ap (λ (x : List Find). Some (x, b.0.1)) same-more);
      behind = back.1 ∙ ap (λ (x : List ℕ). back.0 ++ x) same-after;
      is_gap_after = back.2;
    }

pub record TakesValue (len n : ℕ) (st : Standing) (fs : List Find) (xs : List ℕ) (more : List Find) (rest : List ℕ) : Type 0 where
  pub v : g.Value
  pub is_value : g.IsValue n v
  pub bytes : xs ≡ spelled v rest
  pub finds : more ≡ fs ++ finds_of len st v rest

pub record TakesParts (len n : ℕ) (st : Standing) (k : Kind) (fs : List Find) (xs : List ℕ) (more : List Find) (rest : List ℕ) : Type 0 where
  pub ps : g.Parts
  pub are_parts : g.AreParts n k ps
  pub bytes : xs ≡ spelled_parts ps (close k ∷ rest)
  pub finds : more ≡ fs ++ finds_of_parts len st ps (close k ∷ rest)

-- reading by val gives values
abbrev pub TakesValues : ℕ → ℕ → (Standing → Reader) → Type 0
TakesValues len n val = (st : Standing) (fs : List Find) (xs : List ℕ) (more : List Find) (rest : List ℕ) → val st fs xs ≡ Some (more, rest) → TakesValue len n st fs xs more rest

go_on-takes : (k : Kind) (reader : Reader) (fs : List Find) (xs : List ℕ) (more : List Find) (rest : List ℕ) → go_on k reader fs xs ≡ Some (more, rest)
    → ((after : List ℕ) × (xs ≡ 44 ∷ after) × (reader fs after ≡ Some (more, rest))) ⊎ ((xs ≡ close k ∷ rest) × (fs ≡ more))
go_on-takes k reader fs [] more rest e = absurd cc
go_on-takes k reader fs (x ∷ xs) more rest e =
    elim (chosen (nat_eq x 44) (reader fs xs) (cond (nat_eq x (close k)) (Some (fs, xs)) None) (Some (more, rest)) e) [
      | inl h ↦ inl (xs, ap (λ (c : ℕ). c ∷ xs) (eqb-true x 44 h.0), h.1)
      | inr h ↦ elim (chosen (nat_eq x (close k)) (Some (fs, xs)) None (Some (more, rest)) h.1) [
        | inl q ↦ let same = eqb-true x (close k) q.0 in let both = pair_is _ _ _ _ q.1 in inr (ap (λ (c : ℕ). c ∷ xs) same ∙ ap (λ (l : List ℕ). close k ∷ l) both.1, both.0)
        | inr q ↦ absurd cc
      ]
    ]

parts-takes : (len n : ℕ) (val : Standing → Reader) → TakesValues len n val → (st : Standing) (k : Kind) (turns : ℕ) (fs : List Find) (xs : List ℕ) (more : List Find) (rest : List ℕ)
    → parts val st k turns fs xs ≡ Some (more, rest) → TakesParts len n st k fs xs more rest
unfolding parts
parts-takes len n val takes st k zero fs xs more rest e = absurd cc
parts-takes len n val takes st k (suc turns) fs xs more rest e =
    let one = bind_some (part val st k fs xs) (λ s. go_on k (parts val st k turns) s.0 s.1) (more, rest) e in
    let p = part-takes val st k fs xs one.0.0 one.0.1 one.1 in
    let v = takes (g.labelled st p.l) fs p.inner one.0.0 p.rest p.read in
    let here : xs ≡ spelled_label p.l (p.a ++ spelled v.v (p.b ++ one.0.1)) = p.bytes ∙ ap (λ (x : List ℕ). spelled_label p.l (p.a ++ x)) (v.bytes ∙ ap (λ (x : List ℕ). spelled v.v x) p.behind) in
    let found : one.0.0 ≡ fs ++ finds_of len (g.labelled st p.l) v.v (p.b ++ one.0.1) = v.finds ∙ ap (λ (x : List ℕ). fs ++ finds_of len (g.labelled st p.l) v.v x) p.behind in
    elim (go_on-takes k (parts val st k turns) one.0.0 one.0.1 more rest one.2) [
      | inl q ↦
          let others = parts-takes len n val takes st k turns one.0.0 q.0 more rest q.2 in
          let after : one.0.1 ≡ 44 ∷ spelled_parts others.ps (close k ∷ rest) = q.1 ∙ ap (λ (x : List ℕ). 44 ∷ x) others.bytes in
          record {
            ps = g.more p.l p.a v.v p.b others.ps;
            are_parts = (p.is_label, p.is_gap, v.is_value, p.is_gap_after, others.are_parts);
            bytes = here ∙ ap (λ (x : List ℕ). spelled_label p.l (p.a ++ spelled v.v (p.b ++ x))) after;
            finds =
                others.finds
                ∙ (ap (λ (x : List Find). x ++ finds_of_parts len st others.ps (close k ∷ rest)) (found ∙ ap (λ (x : List ℕ). fs ++ finds_of len (g.labelled st p.l) v.v (p.b ++ x)) after)
                ∙ append_assoc fs (finds_of len (g.labelled st p.l) v.v (p.b ++ 44 ∷ spelled_parts others.ps (close k ∷ rest))) (finds_of_parts len st others.ps (close k ∷ rest)));
          }
      | inr q ↦ record {
        ps = g.last p.l p.a v.v p.b;
        are_parts = (p.is_label, p.is_gap, v.is_value, p.is_gap_after);
        bytes = here ∙ ap (λ (x : List ℕ). spelled_label p.l (p.a ++ spelled v.v (p.b ++ x))) q.0;
        finds = sym q.1 ∙ (found ∙ ap (λ (x : List ℕ). fs ++ finds_of len (g.labelled st p.l) v.v (p.b ++ x)) q.0);
      }
    ]

pub group-takes : (len n : ℕ) (val : Standing → Reader) → TakesValues len n val → (st : Standing) (k : Kind) (fs : List Find) (xs : List ℕ) (more : List Find) (rest : List ℕ)
    → group val st k fs xs ≡ Some (more, rest) → TakesValue len (suc n) st fs (g.opening k ∷ xs) more rest
unfolding group
group-takes len n val takes st k fs xs more rest e =
    let gap = skip-splits is_space xs in
    elim (closed-takes k fs (skip is_space xs) (parts val st k (suc (length xs)) fs xs) more rest e) [
      | inl q ↦ record {
        v = g.empty k gap.0;
        is_value = gap.2;
        bytes = ap (λ (x : List ℕ). g.opening k ∷ x) (gap.1 ∙ ap (λ (x : List ℕ). gap.0 ++ x) q.0);
        finds = sym q.1 ∙ sym (append-nil fs);
      }
      | inr q ↦
          let p = parts-takes len n val takes st k (suc (length xs)) fs xs more rest q in
          record { v = g.group k p.ps; is_value = p.are_parts; bytes = ap (λ (x : List ℕ). g.opening k ∷ x) p.bytes; finds = p.finds }
    ] where
      closed-takes : (k : Kind) (fs : List Find) (ys : List ℕ) (total : Option State) (more : List Find) (rest : List ℕ) → if_closed k fs ys total ≡ Some (more, rest) → ((ys ≡ close k ∷ rest) × (fs ≡ more)) ⊎ (total ≡ Some (more, rest))
      closed-takes k fs [] total more rest h = inr h
      closed-takes k fs (y ∷ ys) total more rest h =
          elim (chosen (nat_eq y (close k)) (Some (fs, ys)) total (Some (more, rest)) h) [
            | inl q ↦ let same = eqb-true y (close k) q.0 in let both = pair_is _ _ _ _ q.1 in inl (ap (λ (c : ℕ). c ∷ ys) same ∙ ap (λ (l : List ℕ). close k ∷ l) both.1, both.0)
            | inr q ↦ inr q.1
          ]

string-takes : (len n : ℕ) (st : Standing) (fs : List Find) (xs : List ℕ) (more : List Find) (rest : List ℕ) → string len st fs xs ≡ Some (more, rest) → TakesValue len n st fs xs more rest
unfolding string
string-takes len n st fs xs more rest e =
    let a = bind_some (quoted xs) (λ f. Some (fs ++ found_at st f.0 (len - length f.1 - 1 - length f.0), f.1)) (more, rest) e in
    let t = quoted-takes xs a.0.0 a.0.1 a.1 in
    let same = pair_is _ _ _ _ a.2 in
    let same-rest : a.0.1 ≡ rest = same.1 in
    let same-more : fs ++ found_at st a.0.0 (len - length a.0.1 - 1 - length a.0.0) ≡ more = same.0 in
    record {
      v = g.text a.0.0;
      is_value = t.1;
      bytes = t.0 ∙ ap (λ (x : List ℕ). 34 ∷ (a.0.0 ++ 34 ∷ x)) same-rest;
      finds = sym same-more ∙ ap (λ (x : List ℕ). fs ++ found_at st a.0.0 (len - length x - 1 - length a.0.0)) same-rest;
    }

word-takes : (len n : ℕ) (st : Standing) (fs : List Find) (xs : List ℕ) (more : List Find) (rest : List ℕ) → word fs xs ≡ Some (more, rest) → TakesValue len n st fs xs more rest
unfolding word
word-takes len n st fs xs more rest e =
    let a = bind_some (after_word xs) (λ r. Some (fs, r)) (more, rest) e in
    let w = after_word-takes xs a.0 a.1 in
    let same = pair_is _ _ _ _ a.2 in
    let same-rest : a.0 ≡ rest = same.1 in
    let same-more : fs ≡ more = same.0 in
    record { v = g.word w.0; is_value = w.2; bytes = w.1 ∙ ap (λ (x : List ℕ). w.0 ++ x) same-rest; finds = sym same-more ∙ sym (append-nil fs) }

-- value at one depth
with-takes : (len n : ℕ) (inner : Standing → Kind → Reader) (st : Standing) (fs : List Find) (xs : List ℕ) (more : List Find) (rest : List ℕ)
    → ((k : Kind) (ys : List ℕ) → inner st k fs ys ≡ Some (more, rest) → TakesValue len n st fs (g.opening k ∷ ys) more rest)
    → value_with len inner st fs xs ≡ Some (more, rest) → TakesValue len n st fs xs more rest
with-takes len n inner st fs [] more rest takes e = absurd cc
with-takes len n inner st fs (x ∷ xs) more rest takes e =
    elim (chosen (nat_eq x 34) (string len st fs (x ∷ xs)) (cond (nat_eq x 91) (inner st Array fs xs) (cond (nat_eq x 123) (inner st Object fs xs) (word fs (x ∷ xs)))) (Some (more, rest)) e) [
      | inl h ↦ string-takes len n st fs (x ∷ xs) more rest h.1
      | inr h ↦ elim (chosen (nat_eq x 91) (inner st Array fs xs) (cond (nat_eq x 123) (inner st Object fs xs) (word fs (x ∷ xs))) (Some (more, rest)) h.1) [
        | inl q ↦ subst (λ (c : ℕ). TakesValue len n st fs (c ∷ xs) more rest) (sym (eqb-true x 91 q.0)) (takes Array xs q.1)
        | inr q ↦ elim (chosen (nat_eq x 123) (inner st Object fs xs) (word fs (x ∷ xs)) (Some (more, rest)) q.1) [
          | inl o ↦ subst (λ (c : ℕ). TakesValue len n st fs (c ∷ xs) more rest) (sym (eqb-true x 123 o.0)) (takes Object xs o.1)
          | inr o ↦ word-takes len n st fs (x ∷ xs) more rest o.1
        ]
      ]
    ]

pub value-takes : (len n : ℕ) → TakesValues len n (value len n)
unfolding value
value-takes len zero st fs xs more rest e = with-takes len zero (λ s k f b. None) st fs xs more rest (λ k ys h. absurd cc) e
value-takes len (suc n) st fs xs more rest e =
    with-takes len (suc n) (group (value len n)) st fs xs more rest (λ k ys h. group-takes len n (value len n) (value-takes len n) st k fs ys more rest h) e
