-- A file that goes wrong at some offset is no image.
use Rattle.std.proofs.Common.{◌≡◌, ◌≢◌, ◌≤◌, inl, inr, ℕ, ◌+◌, List, [], ◌∷◌, ◌++◌, length, take, refl, sym, ◌∙◌, ap, subst, arith, append_assoc}
use Rattle.std.proofs.lemmas.List.{append_cancel_left}
use Rattle.rnv_journal.specs.File.{head, body, entries, spelled, end_of, IsImage, IsInMaking, IsNothing, IsBroken, IsFileWrongAt}
use Rattle.rnv_journal.specs.FileReading.{FileReadsAs}
use Rattle.rnv_journal.proofs.Spelling.{one_body}

-- a file with the head is made
pub headed : (x : List ℕ) → IsInMaking (head ++ x) → ⊥
unfolding head
headed x (inl short) = absurd (omega arith)
headed x (inr (inl begun)) = absurd (let one : 1 ∷ [] ≡ 0 ∷ [] = begun.first in cc)
headed x (inr (inr all)) = all.first refl

pub image_made : (limit : ℕ) (file : List ℕ) (ps : List (List ℕ)) (g : ℕ) (r : List ℕ) → IsImage limit file ps g r → IsInMaking file → ⊥
unfolding spelled
image_made limit file ps g r image making = headed _ (subst IsInMaking image.spells making)

pub least_end : (ps : List (List ℕ)) → 13 ≤ end_of ps
least_end [] = omega arith
least_end (p ∷ ps) = omega (arith, least_end ps)

-- behind some entries there is nothing, so no list is spelled
nothing_spelled : (limit k : ℕ) (ps qs : List (List ℕ)) (rest r : List ℕ) (g : ℕ) → IsNothing limit (k + end_of ps) rest → g ≢ 1
    → k + end_of qs + 1 ≤ limit → entries ps ++ rest ≡ entries qs ++ g ∷ r → ⊥
nothing_spelled limit k [] [] rest r g nothing ng within e = absurd (omega (arith, nothing.no_end g r e ng))
nothing_spelled limit k [] (q ∷ qs) rest r g nothing ng within e =
    let apart : rest ≡ 1 ∷ body q ++ (entries qs ++ g ∷ r) = e ∙ append_assoc (1 ∷ body q) (entries qs) (g ∷ r) in
    absurd (omega (arith, nothing.no_entry q _ apart, least_end qs))
nothing_spelled limit k (p ∷ ps) [] rest r g nothing ng within e =
    let first : g ≡ 1 = cc in
    absurd (ng first)
nothing_spelled limit k (p ∷ ps) (q ∷ qs) rest r g nothing ng within e =
    let behind : (body p ++ entries ps) ++ rest ≡ (body q ++ entries qs) ++ g ∷ r = cc in
    let apart : body p ++ (entries ps ++ rest) ≡ body q ++ (entries qs ++ g ∷ r) = sym (append_assoc (body p) (entries ps) rest) ∙ behind ∙ append_assoc (body q) (entries qs) (g ∷ r) in
    let here = one_body p q _ _ apart in
    let same : length p ≡ length q = ap length here.0 in
    let place : k + (5 + length p + end_of ps) ≡ (k + 5 + length p) + end_of ps = omega arith in
    nothing_spelled limit (k + 5 + length p) ps qs rest r g (subst (λ (o : ℕ). IsNothing limit o rest) place nothing) ng (omega arith) here.1

pub broken_unspelled : (limit : ℕ) (file : List ℕ) (offset : ℕ) (ps : List (List ℕ)) (g : ℕ) (r : List ℕ) → IsBroken limit file offset → IsImage limit file ps g r → ⊥
unfolding spelled
broken_unspelled limit file offset ps g r broken image =
    let same : head ++ (entries broken.payloads ++ broken.rest) ≡ head ++ (entries ps ++ g ∷ r) = sym broken.spells ∙ image.spells in
    let place : offset ≡ 0 + end_of broken.payloads = omega (arith, broken.place) in
    nothing_spelled limit 0 broken.payloads ps broken.rest r g (subst (λ (o : ℕ). IsNothing limit o broken.rest) place broken.broken) image.ends
    (omega (arith, image.within)) (append_cancel_left head _ _ same)

front_of : (file : List ℕ) (x : List ℕ) → file ≡ head ++ x → take 13 file ≡ head
unfolding head
front_of file x e = rw e refl

-- a file that goes wrong at some offset is no image
pub wrong_unread : (limit : ℕ) (file : List ℕ) (offset : ℕ) (ps : List (List ℕ)) → IsFileWrongAt limit file offset → FileReadsAs limit file ps → ⊥
unfolding spelled
wrong_unread limit file offset ps (inl headless) (inl making) = headless.0.unmade making.0
wrong_unread limit file offset ps (inl headless) (inr is) = headless.0.other (front_of file _ is.image.spells)
wrong_unread limit file offset ps (inr broken) (inl making) = headed _ (subst IsInMaking broken.spells making.0)
wrong_unread limit file offset ps (inr broken) (inr is) = broken_unspelled limit file offset ps is.gate is.rest broken is.image
