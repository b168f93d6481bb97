-- The front of what lines list.
use Rattle.std.proofs.Common.{◌≡◌, ◌∙◌, ◌≤◌, ◌<◌, ◌+◌, ℕ, [], ◌∷◌, ◌++◌, append-nil, List, length, take, Option, Some, None, Result, Ok, Err, IfOk, IfErr, true, false, refl, sym, ap, arith}
use Rattle.std.proofs.lemmas.Bool.{cond-true, cond-false}
use Rattle.std.proofs.lemmas.List.{append_assoc, take_all, take-append-le, length-take}
use Rattle.rnv_release.specs.declared.release.Release.{Release}
use Rattle.rnv_release.specs.Crates.{line_release, with_line, with_release}
use Rattle.rnv_release.specs.Cut.{before, cut}
use Rattle.rnv_release.specs.Lines.{is_blank}
use Rattle.rnv_release.specs.Reading.{Reading, listed, refused}
use Rattle.rnv_release.specs.Refusal.{IfTooManyReleases, ListsMore}
use Rattle.rnv_release.specs.declared.datasource.IndexError.{IndexError}
use Rattle.rnv_release.specs.declared.datasource.IndexError.TheVariants.{BadIndex, TooManyReleases, Memory}

-- ---- no releases before, and none behind

pub before-nil : (reading : Reading) → before [] reading ≡ reading
before-nil (listed releases) = refl
before-nil (refused line) = refl

pub whole : (most : ℕ) (releases : List Release) → length releases ≤ most → cut most (before releases (listed [])) ≡ listed releases
whole most releases few = ap (λ (rs : List Release). listed (take most rs)) (append-nil releases) ∙ ap listed (take_all most releases few)

-- ---- what a cut reading tells

pub refused-cut : (most line : ℕ) (reading : Reading) → cut most reading ≡ refused line → reading ≡ refused line
refused-cut most line (listed releases) is = absurd (cc)
refused-cut most line (refused at) is = is

listed-cut : (all few : List Release) → listed all ≡ listed few → all ≡ few
listed-cut all few is = cc

pub few-cut : (most : ℕ) (reading : Reading) (releases : List Release) → cut (most + 1) reading ≡ listed releases → length releases ≤ most → reading ≡ listed releases
few-cut most (listed all) releases is few =
    let front = listed-cut (take (most + 1) all) releases is in
    let count = sym (length-take (most + 1) all) ∙ ap length front in
    let short : length all ≤ most + 1 = omega arith in
    ap listed (sym (take_all (most + 1) all short) ∙ front)
few-cut most (refused line) releases is few = absurd (cc)

longer : (most : ℕ) (all releases : List Release) → take (most + 1) all ≡ releases → most < length releases → most < length all
longer most all releases front more =
    let count = sym (length-take (most + 1) all) ∙ ap length front in
    omega arith

pub more-cut : (reading : Reading) (releases : List Release) → cut (50000 + 1) reading ≡ listed releases → 50000 < length releases → ListsMore reading
more-cut (listed all) releases is more = longer 50000 all releases (listed-cut _ releases is) more
more-cut (refused line) releases is more = absurd (cc)

-- ---- within the limit

pub listed-within : (result : Result (List Release) IndexError) (reading : Reading) (releases : List Release) → cut (50000 + 1) reading ≡ listed releases → IfOk result (λ few. (few ≡ releases) × (length releases ≤ 50000)) → IfOk result (λ few. reading ≡ listed few)
listed-within (Ok few) reading releases is within = few-cut 50000 reading releases is within.1 ∙ ap listed (sym within.0)
listed-within (Err e) reading releases is within = tt

pub above : (result : Result (List Release) IndexError) (reading : Reading) (releases : List Release) → cut (50000 + 1) reading ≡ listed releases → IfErr result (IfTooManyReleases (λ number. (number ≡ 50000) × (50000 < length releases))) → IfErr result (IfTooManyReleases (λ number. (number ≡ 50000) × ListsMore reading))
above (Ok few) reading releases is more = tt
above (Err (BadIndex line)) reading releases is more = tt
above (Err (TooManyReleases number)) reading releases is more = (more.0, more-cut reading releases is more.1)
above (Err Memory) reading releases is more = tt

-- ---- a line more

pub blank-line : (number : ℕ) (line : List ℕ) (behind : Reading) → is_blank line ≡ true → with_line number line behind ≡ behind
blank-line number line behind blank = cond-true _ _ _ blank

pub line-release : (number : ℕ) (line : List ℕ) (release : Release) (behind : Reading) → is_blank line ≡ false → line_release line ≡ Some release → with_line number line behind ≡ with_release number (Some release) behind
line-release number line release behind filled is = cond-false _ _ _ filled ∙ ap (λ (r : Option Release). with_release number r behind) is

pub line-refused : (number : ℕ) (line : List ℕ) (behind : Reading) → is_blank line ≡ false → line_release line ≡ None → with_line number line behind ≡ refused number
line-refused number line behind filled is = cond-false _ _ _ filled ∙ ap (λ (r : Option Release). with_release number r behind) is

pub added : (number : ℕ) (old new : List Release) (release : Release) (behind : Reading) → new ≡ old ++ release ∷ [] → before new behind ≡ before old (with_release number (Some release) behind)
added number old new release (listed releases) is = ap (λ (rs : List Release). listed (rs ++ releases)) is ∙ ap listed (append_assoc old (release ∷ []) releases)
added number old new release (refused line) is = refl

pub enough : (most number : ℕ) (old : List Release) (release : Release) (behind : Reading) → most ≤ length old → cut most (before old behind) ≡ cut most (before old (with_release number (Some release) behind))
enough most number old release (listed releases) full = ap listed (take-append-le most old releases full ∙ sym (take-append-le most old (release ∷ releases) full))
enough most number old release (refused line) full = refl
