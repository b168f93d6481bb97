-- Free texts in place of values leave lines lines, so the edit law holds.
use Rattle.std.proofs.Common.{◌≡◌, ℕ, zero, suc, Bool, true, false, cond, List, [], ◌∷◌, refl, sym, ap, subst, ◌∙◌, arith, inl, inr, ◌⊎◌}
use Rattle.std.specs.Prelude.{⊤, nat_le, nat_eq, ◌&&◌}
use Rattle.std.proofs.lemmas.Bool.{cases_Bool}
use Rattle.std.proofs.lemmas.Bool.Decides.{nat_tests}
use Rattle.rnv_manager.specs.declared.edits.Edit.{Edit}
use Rattle.rnv_manager.specs.Marks as m
use Rattle.rnv_manager.specs.Marks.{Mark}
use Rattle.rnv_manager.specs.Edits.{AllFit, edited, IsReadBack}
use Rattle.rnv_manager.proofs.Kept.{IsNew, AreEdited, splits-byte, splits-bytes, nothing_more, are-edited, law-holds}
use Rattle.rnv_cargo.specs.declared.lex.Quote.{Quote}
use Rattle.rnv_cargo.specs.declared.lex.Quote.TheVariants.{Basic, Literal}
use Rattle.rnv_cargo.specs.declared.value.Kind.{Kind}
use Rattle.rnv_cargo.specs.Lex.{code}
use Rattle.rnv_cargo.specs.Text.{is_line_byte}
use Rattle.rnv_base.specs.Values.{is_quotable_byte, is_quotable}
use Rattle.rnv_cargo.specs.Roles.{Table, Standing, top, target, target_of, workspace, among, entry, version, «package», other, is_clean, slot}
use Rattle.rnv_cargo.specs.Grammar as g
use Rattle.rnv_cargo.specs.Grammar.{Piece, close, opening, keys_bytes, label_bytes, is_package_of, find_or_bytes, string_marks, IsRead}
use Rattle.rnv_cargo.proofs.Strings.{and_true, if-true, if-false}
use Rattle.rnv_cargo.proofs.Pieces.{marks-same}

-- a text that may stand between the quotes of a find
record IsFree (s : List ℕ) : Type 0 where
  clean : is_clean s ≡ true
  inside : (q : Quote) → g.IsInside q s

-- no package of any name
abbrev NoPackage : Standing → Type 0
NoPackage st = (t : Table) (n : List ℕ) → is_package_of t n st ≡ false

-- a string stays, or is a version and a free text stands in its place
abbrev IsRevised : Standing → List ℕ → List ℕ → Type 0
IsRevised st old new = (old ≡ new) ⊎ (IsFree new × NoPackage st)

-- the same pieces, but for the versions
abbrev AreRevised : List Piece → List Piece → Type 0
AreRevised [] [] = ⊤
AreRevised [] (q ∷ qs) = ⊥
AreRevised (g.byte x ∷ ps) [] = ⊥
AreRevised (g.byte x ∷ ps) (g.byte y ∷ qs) = (x ≡ y) × AreRevised ps qs
AreRevised (g.byte x ∷ ps) (g.string st t ∷ qs) = ⊥
AreRevised (g.string st s ∷ ps) [] = ⊥
AreRevised (g.string st s ∷ ps) (g.byte y ∷ qs) = ⊥
AreRevised (g.string st s ∷ ps) (g.string st' t ∷ qs) = (st ≡ st') × IsRevised st s t × AreRevised ps qs

and-both : (a b : Bool) → a ≡ true → b ≡ true → (a && b) ≡ true
and-both true b e h = h
and-both false b e h = absurd cc

-- ---- from marks to pieces

abbrev Packages : Type 0
Packages = Table → List ℕ → List ℕ

record RevisedString (pkg : Packages) (st : Standing) (s : List ℕ) (ms ns : List Mark) : Type 0 where
  t : List ℕ
  revised : IsRevised st s t
  rest : List Mark
  is : ns ≡ string_marks pkg st t rest
  edited : AreEdited IsFree ms rest

kept : (pkg : Packages) (st : Standing) (s : List ℕ) (ms ns : List Mark) → ((r : List Mark) → string_marks pkg st s r ≡ m.bytes s r) → AreEdited IsFree (m.bytes s ms) ns → RevisedString pkg st s ms ns
kept pkg st s ms ns same h =
    let one = splits-bytes IsFree s ms ns h in
    record { t = s; revised = inl refl; rest = one.rest; is = one.is ∙ sym (same one.rest); edited = one.edited }

-- a find with a value that stays or a free one
record Changed (t : Table) (n p s : List ℕ) (ms ns : List Mark) : Type 0 where
  new : List ℕ
  rest : List Mark
  choice : IsNew IsFree s new
  is : ns ≡ m.find (slot t n p) new ∷ rest
  edited : AreEdited IsFree ms rest

changed : (t : Table) (n p s : List ℕ) (ms ns : List Mark) → AreEdited IsFree (m.find (slot t n p) s ∷ ms) ns → Changed t n p s ms ns
changed t n p s ms [] h = absurd h
changed t n p s ms (m.byte y ∷ ns) h = absurd h
changed t n p s ms (m.find q u ∷ ns) h = record { new = u; rest = ns; choice = h.1; is = ap (λ (x : m.Slot). m.find x u ∷ ns) (sym h.0); edited = h.2 }

record RevisedFind (st : Standing) (t : Table) (n p s : List ℕ) (ms ns : List Mark) : Type 0 where
  new : List ℕ
  revised : IsRevised st s new
  rest : List Mark
  is : ns ≡ find_or_bytes t n p new rest
  edited : AreEdited IsFree ms rest

revised-find : (st : Standing) → NoPackage st → (t : Table) (n p s : List ℕ) (ms ns : List Mark) → AreEdited IsFree (find_or_bytes t n p s ms) ns → RevisedFind st t n p s ms ns
revised-find st none t n p s ms ns h =
    elim (cases_Bool (is_clean n && is_clean p && is_clean s)) [
      | inr c ↦
          let start : AreEdited IsFree (m.bytes s ms) ns = subst (λ (x : List Mark). AreEdited IsFree x ns) (if-false (is_clean n && is_clean p && is_clean s) (m.find (slot t n p) s ∷ ms) (m.bytes s ms) c) h in
          let one = splits-bytes IsFree s ms ns start in
          record { new = s; revised = inl refl; rest = one.rest; is = one.is ∙ sym (if-false (is_clean n && is_clean p && is_clean s) (m.find (slot t n p) s ∷ one.rest) (m.bytes s one.rest) c); edited = one.edited }
      | inl c ↦
          let start : AreEdited IsFree (m.find (slot t n p) s ∷ ms) ns = subst (λ (x : List Mark). AreEdited IsFree x ns) (if-true (is_clean n && is_clean p && is_clean s) (m.find (slot t n p) s ∷ ms) (m.bytes s ms) c) h in
          let one = changed t n p s ms ns start in
          let names = (and_true (is_clean n && is_clean p) (is_clean s) c).0 in
          elim one.choice [
            | inl same ↦ record {
              new = one.new;
              revised = inl same;
              rest = one.rest;
              is = one.is ∙ sym (if-true (is_clean n && is_clean p && is_clean one.new) (m.find (slot t n p) one.new ∷ one.rest) (m.bytes one.new one.rest) (subst (λ (x : List ℕ). (is_clean n && is_clean p && is_clean x) ≡ true) same c));
              edited = one.edited;
            }
            | inr free ↦ record {
              new = one.new;
              revised = inr (free, none);
              rest = one.rest;
              is = one.is ∙ sym (if-true (is_clean n && is_clean p && is_clean one.new) (m.find (slot t n p) one.new ∷ one.rest) (m.bytes one.new one.rest) (and-both (is_clean n && is_clean p) (is_clean one.new) names free.clean));
              edited = one.edited;
            }
          ]
    ]

revised-string : (pkg : Packages) (st : Standing) (s : List ℕ) (ms ns : List Mark) → AreEdited IsFree (string_marks pkg st s ms) ns → RevisedString pkg st s ms ns
revised-string pkg top s ms ns h = kept pkg top s ms ns (λ r. refl) h
revised-string pkg target s ms ns h = kept pkg target s ms ns (λ r. refl) h
revised-string pkg (target_of x) s ms ns h = kept pkg (target_of x) s ms ns (λ r. refl) h
revised-string pkg workspace s ms ns h = kept pkg workspace s ms ns (λ r. refl) h
revised-string pkg (among t) s ms ns h = kept pkg (among t) s ms ns (λ r. refl) h
revised-string pkg (entry t n) s ms ns h = let r = revised-find (entry t n) (λ u k. refl) t n (pkg t n) s ms ns h in record { t = r.new; revised = r.revised; rest = r.rest; is = r.is; edited = r.edited }
revised-string pkg (version t n) s ms ns h = let r = revised-find (version t n) (λ u k. refl) t n (pkg t n) s ms ns h in record { t = r.new; revised = r.revised; rest = r.rest; is = r.is; edited = r.edited }
revised-string pkg («package» t n) s ms ns h = kept pkg («package» t n) s ms ns (λ r. refl) h
revised-string pkg other s ms ns h = kept pkg other s ms ns (λ r. refl) h

record Revised (pkg : Packages) (ps : List Piece) (ns : List Mark) : Type 0 where
  qs : List Piece
  is : ns ≡ g.marks pkg qs
  revised : AreRevised ps qs

revised-pieces : (pkg : Packages) (ps : List Piece) (ns : List Mark) → AreEdited IsFree (g.marks pkg ps) ns → Revised pkg ps ns
revised-pieces pkg [] ns h = record { qs = []; is = nothing_more IsFree ns h; revised = tt }
revised-pieces pkg (g.byte x ∷ ps) ns h =
    let one = splits-byte IsFree x (g.marks pkg ps) ns h in
    let more = revised-pieces pkg ps one.rest one.edited in
    record { qs = g.byte x ∷ more.qs; is = one.is ∙ ap (λ (r : List Mark). m.byte x ∷ r) more.is; revised = (refl, more.revised) }
revised-pieces pkg (g.string st s ∷ ps) ns h =
    let one = revised-string pkg st s (g.marks pkg ps) ns h in
    let more = revised-pieces pkg ps one.rest one.edited in
    record { qs = g.string st one.t ∷ more.qs; is = one.is ∙ ap (λ (r : List Mark). string_marks pkg st one.t r) more.is; revised = (refl, one.revised, more.revised) }

-- the packages stay
same-packages : (ps qs : List Piece) → AreRevised ps qs → (t : Table) (n : List ℕ) → g.package_in ps t n ≡ g.package_in qs t n
same-packages [] [] h t n = refl
same-packages [] (q ∷ qs) h t n = absurd h
same-packages (g.byte x ∷ ps) [] h t n = absurd h
same-packages (g.byte x ∷ ps) (g.byte y ∷ qs) h t n = same-packages ps qs h.1 t n
same-packages (g.byte x ∷ ps) (g.string st u ∷ qs) h t n = absurd h
same-packages (g.string st s ∷ ps) [] h t n = absurd h
same-packages (g.string st s ∷ ps) (g.byte y ∷ qs) h t n = absurd h
same-packages (g.string st s ∷ ps) (g.string st' u ∷ qs) h t n =
    let more = same-packages ps qs h.2 t n in
    let standing : cond (is_package_of t n st) u (g.package_in qs t n) ≡ cond (is_package_of t n st') u (g.package_in qs t n) = ap (λ (x : Standing). cond (is_package_of t n x) u (g.package_in qs t n)) h.0 in
    elim h.1 [
      | inl same ↦ ap (λ (x : List ℕ). cond (is_package_of t n st) s x) more ∙ (ap (λ (x : List ℕ). cond (is_package_of t n st) x (g.package_in qs t n)) same ∙ standing)
      | inr free ↦
          let none = free.1 t n in
          if-false (is_package_of t n st) s (g.package_in ps t n) none ∙ (more ∙ (sym (if-false (is_package_of t n st) u (g.package_in qs t n) none) ∙ standing))
    ]

-- ---- from pieces to the tree

record Splits (front : List Piece → List Piece) (ps qs : List Piece) : Type 0 where
  rest : List Piece
  is : qs ≡ front rest
  revised : AreRevised ps rest

piece-byte : (x : ℕ) (ps qs : List Piece) → AreRevised (g.byte x ∷ ps) qs → Splits (λ r. g.byte x ∷ r) ps qs
piece-byte x ps [] h = absurd h
piece-byte x ps (g.byte y ∷ qs) h = record { rest = qs; is = ap (λ (z : ℕ). g.byte z ∷ qs) (sym h.0); revised = h.1 }
piece-byte x ps (g.string st t ∷ qs) h = absurd h

piece-bytes : (xs : List ℕ) (ps qs : List Piece) → AreRevised (g.bytes xs ps) qs → Splits (g.bytes xs) ps qs
piece-bytes [] ps qs h = record { rest = qs; is = refl; revised = h }
piece-bytes (x ∷ xs) ps qs h =
    let one = piece-byte x (g.bytes xs ps) qs h in
    let more = piece-bytes xs ps one.rest one.revised in
    record { rest = more.rest; is = one.is ∙ ap (λ (r : List Piece). g.byte x ∷ r) more.is; revised = more.revised }

record SplitsString (q : Quote) (st : Standing) (ps qs : List Piece) : Type 0 where
  s : List ℕ
  inside : g.IsInside q s
  rest : List Piece
  is : qs ≡ g.string st s ∷ rest
  revised : AreRevised ps rest

still-inside : (q : Quote) (st : Standing) (s t : List ℕ) → g.IsInside q s → IsRevised st s t → g.IsInside q t
still-inside q st s t h (inl e) = subst (g.IsInside q) e h
still-inside q st s t h (inr f) = f.0.inside q

piece-string : (q : Quote) (st : Standing) (s : List ℕ) (ps qs : List Piece) → g.IsInside q s → AreRevised (g.string st s ∷ ps) qs → SplitsString q st ps qs
piece-string q st s ps [] i h = absurd h
piece-string q st s ps (g.byte y ∷ qs) i h = absurd h
piece-string q st s ps (g.string st' t ∷ qs) i h = record { s = t; inside = still-inside q st s t i h.1; rest = qs; is = ap (λ (x : Standing). g.string x t ∷ qs) (sym h.0); revised = h.2 }

record SplitsValue (n : ℕ) (st : Standing) (ps qs : List Piece) : Type 0 where
  v : g.Value
  is_value : g.IsValue n v
  rest : List Piece
  is : qs ≡ g.pieces st v rest
  revised : AreRevised ps rest

record SplitsParts (n : ℕ) (k : Kind) (st : Standing) (ps qs : List Piece) : Type 0 where
  parts : g.Parts
  are_parts : g.AreParts n k parts
  rest : List Piece
  is : qs ≡ g.parts_pieces st parts rest
  revised : AreRevised ps rest

mutual
  splits-value : (n : ℕ) (v : g.Value) (st : Standing) (ps qs : List Piece) → g.IsValue n v → AreRevised (g.pieces st v ps) qs → SplitsValue n st ps qs
  splits-value n (g.scalar w) st ps qs h e = let one = piece-bytes w ps qs e in record { v = g.scalar w; is_value = h; rest = one.rest; is = one.is; revised = one.revised }
  splits-value n (g.moment w v) st ps qs h e =
      let one = piece-bytes w (g.byte 32 ∷ g.bytes v ps) qs e in
      let two = piece-bytes (32 ∷ v) ps one.rest one.revised in
      record { v = g.moment w v; is_value = h; rest = two.rest; is = one.is ∙ ap (g.bytes w) two.is; revised = two.revised }
  splits-value n (g.text q s) st ps qs h e =
      let one = piece-byte (code q) (g.string st s ∷ g.byte (code q) ∷ ps) qs e in
      let two = piece-string q st s (g.byte (code q) ∷ ps) one.rest h one.revised in
      let three = piece-byte (code q) ps two.rest two.revised in
      record {
        v = g.text q two.s;
        is_value = two.inside;
        rest = three.rest;
        is = one.is ∙ ap (λ (r : List Piece). g.byte (code q) ∷ r) (two.is ∙ ap (λ (r : List Piece). g.string st two.s ∷ r) three.is);
        revised = three.revised;
      }
  splits-value n (g.many q w) st ps qs h e =
      let one = piece-bytes (code q ∷ code q ∷ code q ∷ w) ps qs e in
      record { v = g.many q w; is_value = h; rest = one.rest; is = one.is; revised = one.revised }
  splits-value zero (g.group k parts) st ps qs h e = absurd h
  splits-value (suc n) (g.group k parts) st ps qs h e =
      let one = piece-byte (opening k) (g.parts_pieces st parts (g.byte (close k) ∷ ps)) qs e in
      let two = splits-parts n k parts st (g.byte (close k) ∷ ps) one.rest h one.revised in
      let three = piece-byte (close k) ps two.rest two.revised in
      record {
        v = g.group k two.parts;
        is_value = two.are_parts;
        rest = three.rest;
        is = one.is ∙ ap (λ (r : List Piece). g.byte (opening k) ∷ r) (two.is ∙ ap (λ (r : List Piece). g.parts_pieces st two.parts r) three.is);
        revised = three.revised;
      }

  splits-parts : (n : ℕ) (k : Kind) (parts : g.Parts) (st : Standing) (ps qs : List Piece) → g.AreParts n k parts → AreRevised (g.parts_pieces st parts ps) qs → SplitsParts n k st ps qs
  splits-parts n k (g.none a) st ps qs h e = let one = piece-bytes a ps qs e in record { parts = g.none a; are_parts = h; rest = one.rest; is = one.is; revised = one.revised }
  splits-parts n k (g.last a l v b) st ps qs h e =
      let zero = piece-bytes a (g.bytes (label_bytes l []) (g.pieces (g.labelled st l) v (g.bytes b ps))) qs e in
      let one = piece-bytes (label_bytes l []) (g.pieces (g.labelled st l) v (g.bytes b ps)) zero.rest zero.revised in
      let two = splits-value n v (g.labelled st l) (g.bytes b ps) one.rest h.2 one.revised in
      let three = piece-bytes b ps two.rest two.revised in
      record {
        parts = g.last a l two.v b;
        are_parts = (h.0, h.1, two.is_value, h.3);
        rest = three.rest;
        is = zero.is ∙ ap (g.bytes a) (one.is ∙ ap (g.bytes (label_bytes l [])) (two.is ∙ ap (λ (r : List Piece). g.pieces (g.labelled st l) two.v r) three.is));
        revised = three.revised;
      }
  splits-parts n k (g.more a l v b parts) st ps qs h e =
      let behind = g.bytes b (g.byte 44 ∷ g.parts_pieces st parts ps) in
      let zero = piece-bytes a (g.bytes (label_bytes l []) (g.pieces (g.labelled st l) v behind)) qs e in
      let one = piece-bytes (label_bytes l []) (g.pieces (g.labelled st l) v behind) zero.rest zero.revised in
      let two = splits-value n v (g.labelled st l) behind one.rest h.2 one.revised in
      let three = piece-bytes b (g.byte 44 ∷ g.parts_pieces st parts ps) two.rest two.revised in
      let four = piece-byte 44 (g.parts_pieces st parts ps) three.rest three.revised in
      let five = splits-parts n k parts st ps four.rest h.4 four.revised in
      record {
        parts = g.more a l two.v b five.parts;
        are_parts = (h.0, h.1, two.is_value, h.3, five.are_parts);
        rest = five.rest;
        is = zero.is ∙ ap (g.bytes a) (one.is ∙ ap (g.bytes (label_bytes l [])) (two.is ∙ ap (λ (r : List Piece). g.pieces (g.labelled st l) two.v r) (three.is ∙ ap (g.bytes b) (four.is ∙ ap (λ (r : List Piece). g.byte 44 ∷ r) five.is))));
        revised = five.revised;
      }

record SplitsStatement (st : Standing) (s : g.Statement) (ps qs : List Piece) : Type 0 where
  s' : g.Statement
  is_statement : g.IsStatement s'
  same : g.behind st s' ≡ g.behind st s
  same-after : (a : List ℕ) → g.IsAfter s a → g.IsAfter s' a
  rest : List Piece
  is : qs ≡ g.statement_pieces st s' rest
  revised : AreRevised ps rest

splits-statement : (st : Standing) (s : g.Statement) (ps qs : List Piece) → g.IsStatement s → AreRevised (g.statement_pieces st s ps) qs → SplitsStatement st s ps qs
splits-statement st g.nothing ps qs h e = record { s' = g.nothing; is_statement = tt; same = refl; same-after = λ a x. x; rest = qs; is = refl; revised = e }
splits-statement st (g.header a ks) ps qs h e =
    let one = piece-bytes (91 ∷ a) (g.bytes (keys_bytes ks (93 ∷ [])) ps) qs e in
    let two = piece-bytes (keys_bytes ks (93 ∷ [])) ps one.rest one.revised in
    record { s' = g.header a ks; is_statement = h; same = refl; same-after = λ a x. x; rest = two.rest; is = one.is ∙ ap (g.bytes (91 ∷ a)) two.is; revised = two.revised }
splits-statement st (g.headers a ks) ps qs h e =
    let one = piece-bytes (91 ∷ 91 ∷ a) (g.bytes (keys_bytes ks (93 ∷ 93 ∷ [])) ps) qs e in
    let two = piece-bytes (keys_bytes ks (93 ∷ 93 ∷ [])) ps one.rest one.revised in
    record { s' = g.headers a ks; is_statement = h; same = refl; same-after = λ a x. x; rest = two.rest; is = one.is ∙ ap (g.bytes (91 ∷ 91 ∷ a)) two.is; revised = two.revised }
splits-statement st (g.pair l v) ps qs h e =
    let one = piece-bytes (label_bytes l []) (g.pieces (g.labelled st l) v ps) qs e in
    let two = splits-value 127 v (g.labelled st l) ps one.rest h.1 one.revised in
    record { s' = g.pair l two.v; is_statement = (h.0, two.is_value); same = refl; same-after = λ a x. tt; rest = two.rest; is = one.is ∙ ap (g.bytes (label_bytes l [])) two.is; revised = two.revised }

record SplitsLine (st : Standing) (l : g.Line) (ps qs : List Piece) : Type 0 where
  l' : g.Line
  is_line : g.IsLine l'
  same : g.behind st l'.statement ≡ g.behind st l.statement
  rest : List Piece
  is : qs ≡ g.line_pieces st l' rest
  revised : AreRevised ps rest

splits-line : (st : Standing) (l : g.Line) (ps qs : List Piece) → g.IsLine l → AreRevised (g.line_pieces st l ps) qs → SplitsLine st l ps qs
splits-line st l ps qs h e =
    let one = piece-bytes l.before (g.statement_pieces st l.statement (g.bytes l.after ps)) qs e in
    let two = splits-statement st l.statement (g.bytes l.after ps) one.rest h.1 one.revised in
    let three = piece-bytes l.after ps two.rest two.revised in
    record {
      l' = record { before = l.before; statement = two.s'; after = l.after };
      is_line = (h.0, two.is_statement, h.2, two.same-after l.after h.3);
      same = two.same;
      rest = three.rest;
      is = one.is ∙ ap (g.bytes l.before) (two.is ∙ ap (λ (r : List Piece). g.statement_pieces st two.s' r) three.is);
      revised = three.revised;
    }

record SplitsLines (st : Standing) (qs : List Piece) : Type 0 where
  ls : g.Lines
  are_lines : g.AreLines ls
  is : qs ≡ g.lines_pieces st ls

nothing-more : (qs : List Piece) → AreRevised [] qs → qs ≡ []
nothing-more [] h = refl
nothing-more (q ∷ qs) h = absurd h

splits-lines : (st : Standing) (ls : g.Lines) (qs : List Piece) → g.AreLines ls → AreRevised (g.lines_pieces st ls) qs → SplitsLines st qs
splits-lines st (g.final l) qs h e =
    let one = splits-line st l [] qs h e in
    record { ls = g.final one.l'; are_lines = one.is_line; is = one.is ∙ ap (λ (r : List Piece). g.line_pieces st one.l' r) (nothing-more one.rest one.revised) }
splits-lines st (g.next l e ls) qs h r =
    let more = g.lines_pieces (g.behind st l.statement) ls in
    let one = splits-line st l (g.bytes (g.end_bytes e) more) qs h.0 r in
    let two = piece-bytes (g.end_bytes e) more one.rest one.revised in
    let three = splits-lines (g.behind st l.statement) ls two.rest h.1 two.revised in
    record {
      ls = g.next one.l' e three.ls;
      are_lines = (one.is_line, three.are_lines);
      is = one.is ∙ ap (λ (r : List Piece). g.line_pieces st one.l' r) (two.is ∙ ap (g.bytes (g.end_bytes e)) (three.is ∙ ap (λ (s : Standing). g.lines_pieces s three.ls) (sym one.same)));
    }

-- ---- texts that fit are free

quotable_byte : (x : ℕ) → is_quotable_byte x ≡ true → (nat_le 32 x ≡ true) × (nat_eq x 34 ≡ false) × (nat_eq x 39 ≡ false) × (nat_eq x 92 ≡ false) × (nat_eq x 127 ≡ false) × (is_line_byte x ≡ false)
quotable_byte x e = (grind (arith, nat_tests), grind (arith, nat_tests), grind (arith, nat_tests), grind (arith, nat_tests), grind (arith, nat_tests), grind (arith, nat_tests))

quotable-clean : (s : List ℕ) → is_quotable s ≡ true → is_clean s ≡ true
quotable-clean [] e = refl
quotable-clean (x ∷ xs) e =
    let both = and_true (is_quotable_byte x) (is_quotable xs) e in
    let b = quotable_byte x both.0 in
    rw (b.0, b.3, b.4) (quotable-clean xs both.1)

quotable-inside : (q : Quote) (s : List ℕ) → is_quotable s ≡ true → g.IsInside q s
quotable-inside Basic [] e = refl
quotable-inside Literal [] e = refl
quotable-inside Basic (x ∷ xs) e =
    let both = and_true (is_quotable_byte x) (is_quotable xs) e in
    let b = quotable_byte x both.0 in
    rw (b.1, b.5, b.3) (quotable-inside Basic xs both.1)
quotable-inside Literal (x ∷ xs) e =
    let both = and_true (is_quotable_byte x) (is_quotable xs) e in
    let b = quotable_byte x both.0 in
    rw (b.2, b.5, b.3) (quotable-inside Literal xs both.1)

quotable-free : (s : List ℕ) → is_quotable s ≡ true → IsFree s
quotable-free s e = record { clean = quotable-clean s e; inside = λ q. quotable-inside q s e }

edits-read : (file : List ℕ) (ms ns : List Mark) → IsRead file ms → AreEdited IsFree ms ns → IsRead (m.text_of ns) ns
edits-read file ms ns r e =
    let ps = g.lines_pieces top r.lines in
    let start : AreEdited IsFree (g.marks (g.package_in (g.lines_pieces top r.lines)) (g.lines_pieces top r.lines)) ns = subst (λ (x : List Mark). AreEdited IsFree x ns) r.marked e in
    let one = revised-pieces (g.package_in (g.lines_pieces top r.lines)) (g.lines_pieces top r.lines) ns start in
    let two = splits-lines top r.lines one.qs r.are_lines one.revised in
    let packages = same-packages (g.lines_pieces top r.lines) one.qs one.revised in
    let qs-marks : ns ≡ g.marks (g.package_in one.qs) one.qs = one.is ∙ marks-same (g.package_in (g.lines_pieces top r.lines)) (g.package_in one.qs) packages one.qs in
    record { lines = two.ls; are_lines = two.are_lines; marked = qs-marks ∙ ap (λ (x : List Piece). g.marks (g.package_in x) x) two.is; whole = refl }

-- the edit law, for every list of edits that fit
pub edits-kept : (file : List ℕ) (ms : List Mark) (edits : List Edit) → IsRead file ms → AllFit is_quotable edits → IsReadBack IsRead edits ms
edits-kept file ms edits r h = law-holds IsRead edits ms (edits-read file ms (edited edits 0 ms) r (are-edited is_quotable IsFree quotable-free edits 0 ms h))
