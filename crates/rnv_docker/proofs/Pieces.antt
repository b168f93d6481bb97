-- The bytes and the finds of a file's pieces.
use Rattle.std.proofs.Common.{◌≡◌, ℕ, suc, ◌+◌, ◌-◌, Bool, true, false, cond, List, [], ◌∷◌, ◌++◌, length, Option, Some, None, Result, Ok, Err, IfOk, IfErr, refl, sym, ap, subst, ◌∙◌, arith, length-append, append_assoc, lit<}
use Rattle.std.specs.Prelude.{⊤, not, ◌&&◌, ◌||◌, codes, is_some, option_map}
use Rattle.std.specs.List.{list_all, join_with_byte}
use Rattle.std.proofs.lemmas.List.{append-nil}
use Rattle.std.proofs.lemmas.List.Splits.{join_with_byte-slice_split}
use Rattle.rnv_manager.specs.declared.found.ExtractError.{ExtractError}
use Rattle.rnv_manager.specs.declared.found.ExtractError.TheVariants.{Memory}
use Rattle.rnv_manager.specs.Finds.{Find, GivesFinds}
use Rattle.rnv_manager.specs.Marks as m
use Rattle.rnv_manager.specs.Marks.{Mark, Slot}
use Rattle.rnv_manager.proofs.Marks.{text_of-bytes, AreFinds}
use Rattle.rnv_manager.proofs.Cuts.{AreFenced, AlwaysFenced, fenced-bytes}
use Rattle.rnv_docker.specs.Lines.{lines, is_space, has_here}
use Rattle.rnv_docker.specs.Stages.{Stage}
use Rattle.rnv_docker.specs.Images.{tagged}
use Rattle.rnv_docker.specs.Grammar.{stage_of, continues, begin, name_of, place_of, slot, image_marks, line_marks, fed, plain_marks, marks, pieces, IsRead}
use Rattle.rnv_docker.specs.Read.{Tag, tag_of, tag_in, found_in, State, stepped, step, started, finish, run}
use Rattle.rnv_docker.proofs.Bools.{all-append}
use Rattle.rnv_docker.proofs.Words.{Stops, space-ascii}
use Rattle.rnv_docker.proofs.Parts.{choose, Whole, stage_of-whole, Ends, stage_of-ends, is_plain_name, stage_of-plain, tagged-earlier, IsSplit, tagged-split}

-- ---- the bytes

image-text : (place image : List ℕ) (o : Option (List ℕ × List ℕ)) (ms : List Mark) → IsSplit o image → m.text_of (image_marks place image o ms) ≡ image ++ m.text_of ms
image-text place image None ms h = text_of-bytes image ms
image-text place image (Some p) ms h =
    text_of-bytes p.0 (m.byte 58 ∷ m.find (slot place p.0) p.1 ∷ ms) ∙ (sym (append_assoc p.0 (58 ∷ p.1) (m.text_of ms)) ∙ ap (λ (l : List ℕ). l ++ m.text_of ms) (sym h))

line-text : (place : List ℕ) (earlier : List (List ℕ)) (line : List ℕ) (o : Option Stage) (ms : List Mark) → Whole o line → m.text_of (line_marks place earlier line o ms) ≡ line ++ m.text_of ms
line-text place earlier line None ms h = text_of-bytes line ms
line-text place earlier line (Some s) ms h =
    let behind = m.bytes s.back ms in
    text_of-bytes s.front (image_marks place s.image (tagged earlier s.image) behind)
    ∙ (ap (λ (l : List ℕ). s.front ++ l) (image-text place s.image (tagged earlier s.image) behind (tagged-split earlier s.image) ∙ (ap (λ (l : List ℕ). s.image ++ l) (text_of-bytes s.back ms) ∙ sym (append_assoc s.image s.back (m.text_of ms))))
    ∙ (sym (append_assoc s.front (s.image ++ s.back) (m.text_of ms)) ∙ ap (λ (l : List ℕ). l ++ m.text_of ms) (sym h)))

fed-text : (line : List ℕ) (ls : List (List ℕ)) (ms : List Mark) → m.text_of ms ≡ join_with_byte 10 ls → line ++ m.text_of (fed ls ms) ≡ join_with_byte 10 (line ∷ ls)
fed-text line [] ms e = ap (λ (l : List ℕ). line ++ l) e ∙ append-nil line
fed-text line (l ∷ ls) ms e = ap (λ (t : List ℕ). line ++ 10 ∷ t) e

plain-text : (ls : List (List ℕ)) → m.text_of (plain_marks ls) ≡ join_with_byte 10 ls
plain-text [] = refl
plain-text (l ∷ ls) = text_of-bytes l (fed ls (plain_marks ls)) ∙ fed-text l ls (plain_marks ls) (plain-text ls)

pub marks-text : (continued : Bool) (earlier ls : List (List ℕ)) → m.text_of (marks continued earlier ls) ≡ join_with_byte 10 ls
marks-text continued earlier [] = refl
marks-text continued earlier (l ∷ ls) =
    let behind = marks (continues continued l) (earlier ++ name_of (stage_of continued l)) ls in
    let place = place_of (begin (continues continued l) ls) in
    choose (λ (ms : List Mark). m.text_of ms ≡ join_with_byte 10 (l ∷ ls)) (has_here l) (plain_marks (l ∷ ls)) (line_marks place earlier l (stage_of continued l) (fed ls behind)) (plain-text (l ∷ ls))
    (line-text place earlier l (stage_of continued l) (fed ls behind) (stage_of-whole continued l) ∙ fed-text l ls behind (marks-text (continues continued l) (earlier ++ name_of (stage_of continued l)) ls))

pub pieces-whole : (file : List ℕ) → file ≡ m.text_of (pieces file)
pieces-whole file = sym (marks-text false [] (lines file) ∙ join_with_byte-slice_split 10 file)

-- ---- the finds

from-bytes : (at : ℕ) (xs : List ℕ) (ms : List Mark) → m.finds_from at (m.bytes xs ms) ≡ m.finds_from (at + length xs) ms
from-bytes at [] ms = ap (λ (k : ℕ). m.finds_from k ms) (omega arith)
from-bytes at (x ∷ xs) ms = from-bytes (suc at) xs ms ∙ ap (λ (k : ℕ). m.finds_from k ms) (omega arith)

image-finds : (place : List ℕ) (at : ℕ) (image back : List ℕ) (o : Option (List ℕ × List ℕ)) (ms : List Mark) (end : ℕ) → IsSplit o image → end ≡ at + (length image + length back)
    → m.finds_from at (image_marks place image o (m.bytes back ms)) ≡ found_in place (option_map (tag_of back end) o) ++ m.finds_from end ms
image-finds place at image back None ms end h e =
    from-bytes at image (m.bytes back ms) ∙ (from-bytes (at + length image) back ms ∙ ap (λ (k : ℕ). m.finds_from k ms) (omega arith))
image-finds place at image back (Some p) ms end h e =
    let long = ap length h in
    let start : suc (at + length p.0) ≡ end - length back - length p.1 = omega (arith, length-append p.0 (58 ∷ p.1)) in
    let behind : suc (at + length p.0) + length p.1 + length back ≡ end = omega (arith, length-append p.0 (58 ∷ p.1)) in
    from-bytes at p.0 (m.byte 58 ∷ m.find (slot place p.0) p.1 ∷ m.bytes back ms)
    ∙ (ap (λ (k : ℕ). m.find_at (slot place p.0) p.1 k ∷ m.finds_from (suc (at + length p.0) + length p.1) (m.bytes back ms)) start
    ∙ ap (λ (fs : List Find). m.find_at (slot place p.0) p.1 (end - length back - length p.1) ∷ fs) (from-bytes (suc (at + length p.0) + length p.1) back ms ∙ ap (λ (k : ℕ). m.finds_from k ms) behind))

line-finds : (place : List ℕ) (at : ℕ) (earlier : List (List ℕ)) (line : List ℕ) (s : Stage) (ms : List Mark) → list_all is_plain_name earlier ≡ true → line ≡ s.front ++ (s.image ++ s.back)
    → m.finds_from at (line_marks place earlier line (Some s) ms) ≡ found_in place (tag_in s.image s.back (at + length line)) ++ m.finds_from (at + length line) ms
line-finds place at earlier line s ms plain whole =
    let long = ap length whole in
    let end : at + length line ≡ at + length s.front + (length s.image + length s.back) = omega (arith, length-append s.front (s.image ++ s.back), length-append s.image s.back) in
    from-bytes at s.front (image_marks place s.image (tagged earlier s.image) (m.bytes s.back ms))
    ∙ (ap (λ (o : Option (List ℕ × List ℕ)). m.finds_from (at + length s.front) (image_marks place s.image o (m.bytes s.back ms))) (tagged-earlier earlier s.image plain)
    ∙ image-finds place (at + length s.front) s.image s.back (tagged [] s.image) ms (at + length line) (tagged-split [] s.image) end)

fed-finds : (at : ℕ) (continued : Bool) (earlier ls : List (List ℕ)) → m.finds_from at (fed ls (marks continued earlier ls)) ≡ m.finds_from (suc at) (marks continued earlier ls)
fed-finds at continued earlier [] = refl
fed-finds at continued earlier (l ∷ ls) = refl

fed-plain : (at : ℕ) (ls : List (List ℕ)) → m.finds_from at (fed ls (plain_marks ls)) ≡ m.finds_from (suc at) (plain_marks ls)
fed-plain at [] = refl
fed-plain at (l ∷ ls) = refl

plain-finds : (at : ℕ) (ls : List (List ℕ)) → m.finds_from at (plain_marks ls) ≡ []
plain-finds at [] = refl
plain-finds at (l ∷ ls) = from-bytes at l (fed ls (plain_marks ls)) ∙ (fed-plain (at + length l) ls ∙ plain-finds (suc (at + length l)) ls)

-- what is found of the lines in that state, where a stage begins in them or not, and these are their marks
abbrev total : State → ℕ → Bool → List Mark → List Find
total s at later ms = s.found ++ (found_in (place_of later) s.last ++ m.finds_from at ms)

finish-total : (s : State) (at : ℕ) (ms : List Mark) → m.finds_from at ms ≡ [] → finish s ≡ total s at false ms
finish-total s at ms e = sym (ap (λ (fs : List Find). s.found ++ (found_in (codes "final") s.last ++ fs)) e ∙ ap (λ (fs : List Find). s.found ++ fs) (append-nil (found_in (codes "final") s.last)))

here-total : (here : Bool) (s : State) (at : ℕ) (others : List Find) (later : Bool) (plain ms : List Mark) → m.finds_from at plain ≡ [] → others ≡ total s at later ms
    → cond here (finish s) others ≡ total s at (not here && later) (cond here plain ms)
here-total true s at others later plain ms e h = finish-total s at plain e
here-total false s at others later plain ms e h = h

-- one line: what its stage adds, if it begins one
line-total : (s : State) (at : ℕ) (earlier : List (List ℕ)) (line : List ℕ) (on : Bool) (ls : List (List ℕ)) (o : Option Stage) → list_all is_plain_name earlier ≡ true → Whole o line
    → total (stepped s on (at + length line) o) (suc (at + length line)) (begin on ls) (marks on (earlier ++ name_of o) ls)
    ≡ total s at (is_some o || begin on ls) (line_marks (place_of (begin on ls)) earlier line o (fed ls (marks on (earlier ++ name_of o) ls)))
line-total s at earlier line on ls None plain h =
    let ms = marks on (earlier ++ []) ls in
    ap (λ (fs : List Find). s.found ++ (found_in (place_of (begin on ls)) s.last ++ fs)) (sym (from-bytes at line (fed ls ms) ∙ fed-finds (at + length line) on (earlier ++ []) ls))
line-total s at earlier line on ls (Some st) plain h =
    let end = at + length line in
    let place = place_of (begin on ls) in
    let names = earlier ++ name_of (Some st) in
    let ms = marks on names ls in
    let last = found_in place (tag_in st.image st.back end) in
    append_assoc s.found (found_in (codes "stage") s.last) (last ++ m.finds_from (suc end) ms)
    ∙ ap (λ (fs : List Find). s.found ++ (found_in (codes "stage") s.last ++ fs))
    (ap (λ (fs : List Find). last ++ fs) (sym (fed-finds end on names ls)) ∙ sym (line-finds place at earlier line st (fed ls ms) plain h))

going : (s : State) (on : Bool) (end : ℕ) (o : Option Stage) → (stepped s on end o).continued ≡ on
going s on end None = refl
going s on end (Some st) = refl

run-total : (s : State) (at : ℕ) (earlier ls : List (List ℕ)) → list_all is_plain_name earlier ≡ true → run s at ls ≡ total s at (begin s.continued ls) (marks s.continued earlier ls)
unfolding run step
run-total s at earlier [] plain = finish-total s at [] refl
run-total s at earlier (l ∷ ls) plain =
    let o = stage_of s.continued l in
    let on = continues s.continued l in
    let end = at + length l in
    let names = earlier ++ name_of o in
    let place = place_of (begin on ls) in
    let more = run-total (stepped s on end o) (suc end) names ls (all-append is_plain_name earlier (name_of o) plain (stage_of-plain s.continued l)) in
    here-total (has_here l) s at (run (stepped s on end o) (suc end) ls) (is_some o || begin on ls) (plain_marks (l ∷ ls)) (line_marks place earlier l o (fed ls (marks on names ls)))
    (plain-finds at (l ∷ ls))
    (more ∙ (ap (λ (b : Bool). total (stepped s on end o) (suc end) (begin b ls) (marks b names ls)) (going s on end o) ∙ line-total s at earlier l on ls o plain (stage_of-whole s.continued l)))

-- what is read are the finds of the pieces
pub pieces-finds : (file : List ℕ) → run started 0 (lines file) ≡ m.finds_from 0 (pieces file)
pieces-finds file = run-total started 0 [] (lines file) refl

-- ---- a colon stands before each find, and a space, a line feed or the end behind it

fenced-fed : (ls : List (List ℕ)) (ms : List Mark) → AlwaysFenced ms → AlwaysFenced (fed ls ms)
fenced-fed [] ms h = h
fenced-fed (l ∷ ls) ms h = λ _. h 10

fenced-find : (sl : Slot) (value back : List ℕ) (ls : List (List ℕ)) (ms : List Mark) → Stops back → AlwaysFenced ms → (ls ≡ [] → ms ≡ []) → AreFenced 58 (m.find sl value ∷ m.bytes back (fed ls ms))
fenced-find sl value [] [] ms h always none = subst (λ (l : List Mark). AreFenced 58 (m.find sl value ∷ l)) (sym (none refl)) (lit< tt)
fenced-find sl value [] (l ∷ ls) ms h always none = (lit< tt, lit< tt, always 10)
fenced-find sl value (x ∷ back) ls ms h always none = (lit< tt, space-ascii x h, fenced-bytes back (fed ls ms) (fenced-fed ls ms always) x)

fenced-image : (place image back : List ℕ) (o : Option (List ℕ × List ℕ)) (ls : List (List ℕ)) (ms : List Mark) → Stops back → AlwaysFenced ms → (ls ≡ [] → ms ≡ []) → AlwaysFenced (image_marks place image o (m.bytes back (fed ls ms)))
fenced-image place image back None ls ms h always none = fenced-bytes image (m.bytes back (fed ls ms)) (fenced-bytes back (fed ls ms) (fenced-fed ls ms always))
fenced-image place image back (Some p) ls ms h always none =
    fenced-bytes p.0 (m.byte 58 ∷ m.find (slot place p.0) p.1 ∷ m.bytes back (fed ls ms)) (λ _. fenced-find (slot place p.0) p.1 back ls ms h always none)

fenced-line : (place : List ℕ) (earlier : List (List ℕ)) (line : List ℕ) (o : Option Stage) (ls : List (List ℕ)) (ms : List Mark) → Ends o → AlwaysFenced ms → (ls ≡ [] → ms ≡ []) → AlwaysFenced (line_marks place earlier line o (fed ls ms))
fenced-line place earlier line None ls ms h always none = fenced-bytes line (fed ls ms) (fenced-fed ls ms always)
fenced-line place earlier line (Some s) ls ms h always none =
    fenced-bytes s.front (image_marks place s.image (tagged earlier s.image) (m.bytes s.back (fed ls ms))) (fenced-image place s.image s.back (tagged earlier s.image) ls ms h always none)

fenced-plain : (ls : List (List ℕ)) → AlwaysFenced (plain_marks ls)
fenced-plain [] = λ _. tt
fenced-plain (l ∷ ls) = fenced-bytes l (fed ls (plain_marks ls)) (fenced-fed ls (plain_marks ls) (fenced-plain ls))

no-marks : (continued : Bool) (earlier ls : List (List ℕ)) → ls ≡ [] → marks continued earlier ls ≡ []
no-marks continued earlier ls e = ap (marks continued earlier) e

fenced-marks : (continued : Bool) (earlier ls : List (List ℕ)) → AlwaysFenced (marks continued earlier ls)
fenced-marks continued earlier [] = λ _. tt
fenced-marks continued earlier (l ∷ ls) =
    let names = earlier ++ name_of (stage_of continued l) in
    let on = continues continued l in
    let place = place_of (begin on ls) in
    choose AlwaysFenced (has_here l) (plain_marks (l ∷ ls)) (line_marks place earlier l (stage_of continued l) (fed ls (marks on names ls))) (fenced-plain (l ∷ ls))
    (fenced-line place earlier l (stage_of continued l) ls (marks on names ls) (stage_of-ends continued l) (fenced-marks on names ls) (no-marks on names ls))

pub fenced-read : (file : List ℕ) (ms : List Mark) → IsRead file ms → AreFenced 0 ms
fenced-read file ms read = subst (AreFenced 0) (sym read.are) (fenced-marks false [] (lines file) 0)

-- ---- clauses of `extract`

pub is-read : (file : List ℕ) → IsRead file (pieces file)
is-read file = record { are = refl; whole = pieces-whole file }

pub found-clause : {X : Type 0} (view : X → List Find) (file : List ℕ) (r : Result X ExtractError) → IfOk r (λ x. view x ≡ m.finds_from 0 (pieces file)) → AreFinds view (IsRead file) r
found-clause view file (Ok x) h = (pieces file, is-read file, h)
found-clause view file (Err e) h = tt

pub only-clause : {X : Type 0} (view : X → List Find) (file : List ℕ) (r : Result X ExtractError) → IfOk r (λ x. view x ≡ m.finds_from 0 (pieces file)) → IfErr r (λ e. e ≡ Memory) → (ms : List Mark) → IsRead file ms → GivesFinds view r (Some (m.finds_from 0 ms))
only-clause view file (Ok x) h k ms read = ap (λ (fs : List Find). Some fs) (ap (m.finds_from 0) read.are ∙ sym h)
only-clause view file (Err e) h k ms read = subst (λ (d : ExtractError). GivesFinds view (Err d) (Some (m.finds_from 0 ms))) (sym k) tt
