-- The test of a path decides what the words say.
use Rattle.std.proofs.Common.{◌≤◌, ℕ, List, length, codes, nat_le, refl, arith}
use Rattle.std.specs.Bool.{Decides}
use Rattle.std.specs.List.{list_all}
use Rattle.std.specs.Str.{IsUtf8, is_utf8}
use Rattle.std.proofs.lemmas.Bool.Decides.{Decides-eqb, Decides-ltb, Decides-and, Decides-not, Decides-like, Decides-by_and, nat_tests}
use Rattle.std.proofs.lemmas.Slice.Eq.{bytes_eq-Decides}
use Rattle.std.proofs.lemmas.Str.{IsUtf8-from_is_utf8, is_utf8-from_IsUtf8}
use Rattle.rnv_base.specs.Names.{IsPath, IsPrintable, IsSegment, segments}
use Rattle.rnv_hook.specs.Paths.{is_path, is_printable, is_segment}

le-Decides : (a b : ℕ) → Decides (nat_le a b) (a ≤ b)
le-Decides a b = grind (arith, nat_tests)

printable-Decides : (b : ℕ) → Decides (is_printable b) (IsPrintable b)
printable-Decides b =
    Decides-like (is_printable b)
    (λ p. record { above = p.0; below = p.1 })
    (λ s. (s.above, s.below))
    (Decides-and _ _ (le-Decides 32 b) (Decides-not _ (Decides-eqb b 127)))

segment-Decides : (part : List ℕ) → Decides (is_segment part) (IsSegment part)
segment-Decides part =
    let filled = Decides-ltb 0 (length part) in
    let here = Decides-not _ (bytes_eq-Decides part (codes ".")) in
    let above = Decides-not _ (bytes_eq-Decides part (codes "..")) in
    Decides-like (is_segment part)
    (λ p. record { filled = p.0.0; not_here = p.0.1; not_above = p.1 })
    (λ s. ((s.filled, s.not_here), s.not_above))
    (Decides-and _ _ (Decides-and _ _ filled here) above)

pub path-Decides : (path : List ℕ) → Decides (is_path path) (IsPath path)
path-Decides path =
    let text : Decides (is_utf8 path) (IsUtf8 path) = (IsUtf8-from_is_utf8 path, is_utf8-from_IsUtf8 path) in
    let bytes = Decides-by_and is_printable IsPrintable (list_all is_printable) printable-Decides refl (λ b bs. refl) path in
    let parts = Decides-by_and is_segment IsSegment (list_all is_segment) segment-Decides refl (λ p ps. refl) (segments path) in
    Decides-like (is_path path)
    (λ p. record { filled = p.0.0.0.0; short = p.0.0.0.1; text = p.0.0.1; bytes = p.0.1; segments = p.1 })
    (λ s. ((((s.filled, s.short), s.text), s.bytes), s.segments))
    (Decides-and _ _ (Decides-and _ _ (Decides-and _ _ (Decides-and _ _ (Decides-ltb 0 (length path)) (le-Decides (length path) 1000)) text) bytes) parts)
