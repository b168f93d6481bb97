-- What stands between the longest common front and the longest common end.
use Rattle.std.proofs.Common.{Bor, inl, inr, ◌≡◌, ◌≢◌, ◌∙◌, ℕ, zero, suc, ◌+◌, ◌-◌, ◌<◌, ◌≤◌, min, List, [], ◌∷◌, ◌++◌, length, take, drop, get_or, refl, sym, ap, subst, arith, length-append, length-take, length-drop}
use Rattle.std.proofs.lemmas.List.{append-nil, length-map, take_all, take-map, drop-map, take-append-drop}
use Rattle.std.proofs.lemmas.Bool.{cases_lt}
use Rattle.rnv_patch.specs.Lines.{lent}
use Rattle.rnv_patch.specs.Diff.{Hunk, Take}
use Rattle.rnv_patch.specs.Trimmed.{hunk_of, trimmed_hunk, BeginAlike, EndAlike, IsTrimmed}
use Rattle.rnv_patch.specs.Hunks.{AreHunks, AddHunks}
use Rattle.rnv_patch.specs.Written.{hunk_text}
use Rattle.rnv_patch.proofs.Trims.{trimmed_takes}

-- ---- first and last lines

first-of : (xs : List (List ℕ)) (a : ℕ) (line : List ℕ) (rest : List (List ℕ)) → take a xs ≡ line ∷ rest → (0 < length xs) × (get_or xs 0 [] ≡ line)
first-of xs zero line rest e = absurd cc
first-of [] (suc a) line rest e = absurd cc
first-of (x ∷ xs) (suc a) line rest e = (omega arith, cc)

at-drop : (xs : List (List ℕ)) (n : ℕ) → get_or (drop n xs) 0 [] ≡ get_or xs n []
at-drop xs zero = refl
at-drop [] (suc n) = refl
at-drop (x ∷ xs) (suc n) = at-drop xs n

at-end : (rest : List (List ℕ)) (line : List ℕ) → get_or (rest ++ line ∷ []) (length rest) [] ≡ line
at-end [] line = refl
at-end (x ∷ rest) line = at-end rest line

at-take : (xs : List (List ℕ)) (a k : ℕ) → k < a → get_or (take a xs) k [] ≡ get_or xs k []
at-take xs zero k h = absurd (omega arith)
at-take [] (suc a) k h = refl
at-take (x ∷ xs) (suc a) zero h = refl
at-take (x ∷ xs) (suc a) (suc k) h = at-take xs a k (omega (arith, h))

last-of : (xs : List (List ℕ)) (a : ℕ) (line : List ℕ) (rest : List (List ℕ)) → a ≤ length xs → take a xs ≡ rest ++ line ∷ [] → (0 < a) × (get_or xs (a - 1) [] ≡ line)
last-of xs a line rest h e =
    let long : length (take a xs) ≡ length (rest ++ line ∷ []) = ap (λ (ls : List (List ℕ)). length ls) e in
    let size : a ≡ length rest + 1 = omega (arith, long, length-take a xs, length-append rest (line ∷ [])) in
    let place : length rest ≡ a - 1 = omega arith in
    let found = ap (λ (ls : List (List ℕ)). get_or ls (length rest) []) e ∙ at-end rest line in
    (omega arith, ap (λ (k : ℕ). get_or xs k []) (sym place) ∙ sym (at-take xs a (length rest) (omega arith)) ∙ found)

-- ---- the cut

pub record IsFront (old new : List (List ℕ)) (n : ℕ) : Type 0 where
  pub in_old : n ≤ length old
  pub in_new : n ≤ length new
  pub same : take n old ≡ take n new
  pub differ : n < length old → n < length new → get_or old n [] ≢ get_or new n []

pub record IsEnd (old new : List (List ℕ)) (n : ℕ) : Type 0 where
  pub in_old : n ≤ length old
  pub in_new : n ≤ length new
  pub same : drop (length old - n) old ≡ drop (length new - n) new
  pub differ : n < length old → n < length new → get_or old (length old - 1 - n) [] ≢ get_or new (length new - 1 - n) []

middle : List (List ℕ) → ℕ → List (List ℕ)
middle rest end = take (length rest - end) rest

apart-first : (old new : List (List ℕ)) (f a b : ℕ) → IsFront old new f → ¬ BeginAlike (take a (drop f old)) (take b (drop f new))
apart-first old new f a b front alike =
    let u = first-of (drop f old) a alike.line alike.old_rest alike.old_is in
    let v = first-of (drop f new) b alike.line alike.new_rest alike.new_is in
    front.differ (omega (arith, u.0, length-drop f old)) (omega (arith, v.0, length-drop f new))
    (sym (at-drop old f) ∙ u.1 ∙ sym v.1 ∙ at-drop new f)

apart-last : (old new : List (List ℕ)) (e : ℕ) → IsEnd old new e → ¬ EndAlike (take (length old - e) old) (take (length new - e) new)
apart-last old new e end alike =
    let u = last-of old (length old - e) alike.line alike.old_rest (omega arith) alike.old_is in
    let v = last-of new (length new - e) alike.line alike.new_rest (omega arith) alike.new_is in
    let p : length old - e - 1 ≡ length old - 1 - e = omega arith in
    let q : length new - e - 1 ≡ length new - 1 - e = omega arith in
    end.differ (omega (arith, u.0)) (omega (arith, v.0))
    (ap (λ (k : ℕ). get_or old k []) (sym p) ∙ u.1 ∙ sym v.1 ∙ ap (λ (k : ℕ). get_or new k []) q)

in-parts : (ls : List (List ℕ)) (f a : ℕ) → ls ≡ take f ls ++ (take a (drop f ls) ++ drop a (drop f ls))
in-parts ls f a = sym (take-append-drop f ls) ∙ ap (λ t. take f ls ++ t) (sym (take-append-drop a (drop f ls)))

pub cut : (old new : List (List ℕ)) (f e : ℕ) → IsFront old new f → IsEnd (drop f old) (drop f new) e
    → IsTrimmed old new (trimmed_hunk (take f old) (take (length (drop f old) - e) (drop f old)) (take (length (drop f new) - e) (drop f new)) (drop (length (drop f old) - e) (drop f old)))
cut old new f e front end = record {
  front = take f old;
  old_middle = take (length (drop f old) - e) (drop f old);
  new_middle = take (length (drop f new) - e) (drop f new);
  end = drop (length (drop f old) - e) (drop f old);
  old_is = in-parts old f (length (drop f old) - e);
  new_is = in-parts new f (length (drop f new) - e) ∙ (λ i. sym front.same i ++ (take (length (drop f new) - e) (drop f new) ++ sym end.same i));
  begins = apart-first old new f (length (drop f old) - e) (length (drop f new) - e) front;
  ends = apart-last (drop f old) (drop f new) e end;
  hunk_is = refl;
}

pub hunk_takes : (old new : List (List ℕ)) (h : Hunk) → IsTrimmed old new h → AreHunks old new (h ∷ [])
hunk_takes old new h trimmed = record {
  take = subst (λ (g : Hunk). Take (g ∷ []) old new) (sym trimmed.hunk_is)
      (subst (λ (ls : List (List ℕ)). Take (trimmed_hunk trimmed.front trimmed.old_middle trimmed.new_middle trimmed.end ∷ []) ls new) (sym trimmed.old_is)
      (subst (λ (ls : List (List ℕ)). Take (trimmed_hunk trimmed.front trimmed.old_middle trimmed.new_middle trimmed.end ∷ []) (trimmed.front ++ (trimmed.old_middle ++ trimmed.end)) ls) (sym trimmed.new_is)
      (trimmed_takes trimmed.front trimmed.old_middle trimmed.new_middle trimmed.end)));
  short = trimmed;
}

-- ---- the same of lines that are lent

pub front_lent : (old new : List (Bor (List ℕ))) (n : ℕ) → n ≤ length old → n ≤ length new → take n (lent old) ≡ take n (lent new)
    → (n < length old → n < length new → get_or (lent old) n [] ≢ get_or (lent new) n []) → IsFront (lent old) (lent new) n
front_lent old new n a b same differ =
    let p = length-map old (λ (line : Bor (List ℕ)). line.now) in
    let q = length-map new (λ (line : Bor (List ℕ)). line.now) in
    record {
      in_old = omega (arith, p);
      in_new = omega (arith, q);
      same = same;
      differ = λ u v. differ (omega (arith, u, p)) (omega (arith, v, q));
    }

pub end_lent : (old new : List (Bor (List ℕ))) (n : ℕ) → n ≤ length old → n ≤ length new → drop (length old - n) (lent old) ≡ drop (length new - n) (lent new)
    → (n < length old → n < length new → get_or (lent old) (length old - 1 - n) [] ≢ get_or (lent new) (length new - 1 - n) []) → IsEnd (lent old) (lent new) n
end_lent old new n a b same differ =
    let p = length-map old (λ (line : Bor (List ℕ)). line.now) in
    let q = length-map new (λ (line : Bor (List ℕ)). line.now) in
    record {
      in_old = omega (arith, p);
      in_new = omega (arith, q);
      same = ap (λ (k : ℕ). drop (k - n) (lent old)) p ∙ same ∙ ap (λ (k : ℕ). drop (k - n) (lent new)) (sym q);
      differ = λ u v e. differ (omega (arith, u, p)) (omega (arith, v, q))
          (ap (λ (k : ℕ). get_or (lent old) (k - 1 - n) []) (sym p) ∙ e ∙ ap (λ (k : ℕ). get_or (lent new) (k - 1 - n) []) q);
    }

take_least : (n : ℕ) (xs : List (Bor (List ℕ))) → take (min (length xs) n) xs ≡ take n xs
take_least n xs = elim (cases_lt n (length xs)) [
  | inl h ↦ let e : min (length xs) n ≡ n = omega arith in ap (λ (k : ℕ). take k xs) e
  | inr h ↦ let e : min (length xs) n ≡ length xs = omega arith in ap (λ (k : ℕ). take k xs) e ∙ take_all (length xs) xs (omega arith) ∙ sym (take_all n xs h)
]

pub record AreParts (old new before olds news oldm newm behind context after : List (Bor (List ℕ))) (f e start most : ℕ) : Type 0 where
  pub before_is : before ≡ take f old
  pub olds_are : olds ≡ drop f old
  pub news_are : news ≡ drop f new
  pub oldm_is : oldm ≡ take (length olds - e) olds
  pub behind_is : behind ≡ drop (length olds - e) olds
  pub newm_is : newm ≡ take (length news - e) news
  pub start_is : start ≡ length before - 3
  pub context_is : context ≡ take (length before - start) (drop start before)
  pub most_is : most ≡ min (length behind) 3
  pub after_is : after ≡ take most behind

dropped : (f : ℕ) (xs ys : List (Bor (List ℕ))) → ys ≡ drop f xs → lent ys ≡ drop f (lent xs)
dropped f xs ys e = ap (λ (t : List (Bor (List ℕ))). lent t) e ∙ sym (drop-map (λ (line : Bor (List ℕ)). line.now) f xs)

taken : (f : ℕ) (xs ys : List (Bor (List ℕ))) → ys ≡ take f xs → lent ys ≡ take f (lent xs)
taken f xs ys e = ap (λ (t : List (Bor (List ℕ))). lent t) e ∙ sym (take-map (λ (line : Bor (List ℕ)). line.now) f xs)

size : (xs : List (Bor (List ℕ))) (ys : List (List ℕ)) → lent xs ≡ ys → length xs ≡ length ys
size xs ys e = sym (length-map xs (λ (line : Bor (List ℕ)). line.now)) ∙ ap (λ (t : List (List ℕ)). length t) e

pub parts_hunk : (old new before olds news oldm newm behind context after : List (Bor (List ℕ))) (f e start most : ℕ)
    → IsFront (lent old) (lent new) f → IsEnd (lent olds) (lent news) e → AreParts old new before olds news oldm newm behind context after f e start most
    → AreHunks (lent old) (lent new) (hunk_of start (lent context) (lent oldm) (lent newm) (lent after) ∷ [])
parts_hunk old new before olds news oldm newm behind context after f e start most front end parts =
    let a = taken f old before parts.before_is in
    let o = dropped f old olds parts.olds_are in
    let n = dropped f new news parts.news_are in
    let lo = size olds (drop f (lent old)) o in
    let ln = size news (drop f (lent new)) n in
    let om = taken (length olds - e) olds oldm parts.oldm_is ∙ (λ i. take (lo i - e) (o i)) in
    let nm = taken (length news - e) news newm parts.newm_is ∙ (λ i. take (ln i - e) (n i)) in
    let b = dropped (length olds - e) olds behind parts.behind_is ∙ (λ i. drop (lo i - e) (o i)) in
    let st = parts.start_is ∙ ap (λ (k : ℕ). k - 3) (size before (take f (lent old)) a) in
    let all : take (length before - start) (drop start before) ≡ drop start before = take_all (length before - start) (drop start before) (omega (arith, length-drop start before)) in
    let co = dropped start before context (parts.context_is ∙ all) ∙ (λ i. drop (st i) (a i)) in
    let af = taken 3 behind after (parts.after_is ∙ ap (λ (k : ℕ). take k behind) parts.most_is ∙ take_least 3 behind) ∙ ap (λ (t : List (List ℕ)). take 3 t) b in
    let end' : IsEnd (drop f (lent old)) (drop f (lent new)) e = subst (λ (t : List (List ℕ)). IsEnd t (drop f (lent new)) e) o (subst (λ (t : List (List ℕ)). IsEnd (lent olds) t e) n end) in
    let same : hunk_of start (lent context) (lent oldm) (lent newm) (lent after)
    ≡ trimmed_hunk (take f (lent old)) (take (length (drop f (lent old)) - e) (drop f (lent old))) (take (length (drop f (lent new)) - e) (drop f (lent new))) (drop (length (drop f (lent old)) - e) (drop f (lent old)))
    = λ i. hunk_of (st i) (co i) (om i) (nm i) (af i) in
    hunk_takes (lent old) (lent new) (hunk_of start (lent context) (lent oldm) (lent newm) (lent after))
    (subst (λ (h : Hunk). IsTrimmed (lent old) (lent new) h) (sym same) (cut (lent old) (lent new) f e front end'))

pub with_hunk : (old new : List (List ℕ)) (out later : List ℕ) (h : Hunk) → AreHunks old new (h ∷ []) → later ≡ out ++ hunk_text h → AddHunks old new out later
with_hunk old new out later h are e = record { hunks = h ∷ []; are = are; text = e ∙ ap (λ t. out ++ t) (sym (append-nil (hunk_text h))) }
