-- One turn over the spans of a file.
use Rattle.std.proofs.Common.{◌≡◌, ℕ, zero, suc, map, refl, ◌+◌, ◌-◌, ◌≤◌, ◌<◌, List, [], ◌∷◌, ◌++◌, length, take, drop, get_or, sym, ap, subst, ◌∙◌, arith, add-one, length-append, append_assoc}
use Rattle.std.proofs.Math.Seq.{drop-cons}
use Rattle.std.proofs.lemmas.List.{length-map}
use Rattle.rnv_manager.specs.declared.splicing.Span.{Span}
use Rattle.rnv_manager.specs.Splice.{AreSpans, spliced}

pub in_order : (from : ℕ) (spans : List Span) (end : ℕ) → AreSpans from spans end → from ≤ end
in_order from [] end h = h
in_order from (s ∷ spans) end h = let later = in_order s.end spans end h.2 in let a = h.0 in let b = h.1 in omega arith

-- the span s and its text t are next, and what is spliced from there on
pub record Turn (file : List ℕ) (at : ℕ) (spans : List Span) (texts : List (List ℕ)) (i : ℕ) (s : Span) (t : List ℕ) : Type 0 where
  pub from : at ≤ s.start
  pub to : s.start ≤ s.end
  pub within : s.end ≤ length file
  pub others : AreSpans s.end (drop (i + 1) spans) (length file)
  pub is : spliced file at (drop i spans) (drop i texts) ≡ take (s.start - at) (drop at file) ++ (t ++ spliced file s.end (drop (i + 1) spans) (drop (i + 1) texts))

next : {X : Type 0} (xs : List X) (i : ℕ) (d : X) → i < length xs → drop i xs ≡ get_or xs i d ∷ drop (i + 1) xs
next xs i d lt = drop-cons xs i d lt ∙ ap (λ (n : ℕ). get_or xs i d ∷ drop n xs) (sym (add-one i))

pub turn : (file : List ℕ) (at : ℕ) (spans : List Span) (texts : List (List ℕ)) (i : ℕ) (d : Span) (e : List ℕ) → i < length spans → length texts ≡ length spans → AreSpans at (drop i spans) (length file) → Turn file at spans texts i (get_or spans i d) (get_or texts i e)
turn file at spans texts i d e lt many h =
    let s = next spans i d lt in
    let t = next texts i e (omega arith) in
    let a = subst (λ (ss : List Span). AreSpans at ss (length file)) s h in
    record {
      from = a.0;
      to = a.1;
      within = in_order (get_or spans i d).end (drop (i + 1) spans) (length file) a.2;
      others = a.2;
      is = ap (λ (ss : List Span). spliced file at ss (drop i texts)) s ∙ ap (λ (ts : List (List ℕ)). spliced file at (get_or spans i d ∷ drop (i + 1) spans) ts) t;
    }

get-map : {X : Type 0} (text : X → List ℕ) (texts : List X) (i : ℕ) (x : X) → get_or (map text texts) i (text x) ≡ text (get_or texts i x)
get-map text [] i x = refl
get-map text (y ∷ ys) zero x = refl
get-map text (y ∷ ys) (suc i) x = get-map text ys i x

-- the same where the texts are lent
pub turn-lent : {X : Type 0} (text : X → List ℕ) (file : List ℕ) (at : ℕ) (spans : List Span) (texts : List X) (i : ℕ) (d : Span) (x : X) (t : List ℕ) → i < length spans → length texts ≡ length spans → AreSpans at (drop i spans) (length file)
    → x ≡ get_or texts i x → t ≡ text x → Turn file at spans (map text texts) i (get_or spans i d) t
turn-lent text file at spans texts i d x t lt many h here is =
    subst (λ (e : List ℕ). Turn file at spans (map text texts) i (get_or spans i d) e) (get-map text texts i x ∙ (sym (ap text here) ∙ sym is))
    (turn file at spans (map text texts) i d (text x) lt (length-map texts text ∙ many) h)

-- how long what is spliced is
pub sizes : (gap t more all : List ℕ) → all ≡ gap ++ (t ++ more) → length all ≡ length gap + length t + length more
sizes gap t more all e = ap length e ∙ omega (arith, length-append gap (t ++ more), length-append t more)

-- the same, of bytes that are the file's
pub gap-of : (file bytes : List ℕ) (at : ℕ) (spans : List Span) (texts : List (List ℕ)) (i : ℕ) (s : Span) (t : List ℕ) → Turn file at spans texts i s t → bytes ≡ file
    → spliced file at (drop i spans) (drop i texts) ≡ take (s.start - at) (drop at bytes) ++ (t ++ spliced file s.end (drop (i + 1) spans) (drop (i + 1) texts))
gap-of file bytes at spans texts i s t turn same =
    turn.is ∙ ap (λ (l : List ℕ). take (s.start - at) (drop at l) ++ (t ++ spliced file s.end (drop (i + 1) spans) (drop (i + 1) texts))) (sym same)

pub room-for-text : (gap t more all : List ℕ) (spare between : ℕ) → all ≡ gap ++ (t ++ more) → length all ≤ spare → between + length gap ≡ spare → length t ≤ between
room-for-text gap t more all spare between e fits gone = let size = sizes gap t more all e in omega arith

pub room-left : (gap t more all : List ℕ) (spare between left : ℕ) → all ≡ gap ++ (t ++ more) → length all ≤ spare → between + length gap ≡ spare → left + length t ≡ between → length more ≤ left
room-left gap t more all spare between left e fits gone also = let size = sizes gap t more all e in omega arith

pub put-together : (front gap t more all between new whole : List ℕ) → all ≡ gap ++ (t ++ more) → front ++ all ≡ whole → between ≡ front ++ gap → new ≡ between ++ t → new ++ more ≡ whole
put-together front gap t more all between new whole e done first second =
    ap (λ (l : List ℕ). l ++ more) second
    ∙ (append_assoc between t more ∙ (ap (λ (l : List ℕ). l ++ (t ++ more)) first ∙ (append_assoc front gap (t ++ more) ∙ (ap (λ (l : List ℕ). front ++ l) (sym e) ∙ done))))
