-- The tests of a package name decide what the words say.
use Rattle.std.proofs.Common.{◌≤◌, ℕ, List, length, codes, nat_le, IsTrue, refl, arith}
use Rattle.std.specs.Bool.{Decides}
use Rattle.std.specs.List.{list_all}
use Rattle.std.proofs.lemmas.Bool.Decides.{Decides-ltb, Decides-and, Decides-not, Decides-like, Decides-by_and, nat_tests}
use Rattle.std.proofs.lemmas.Slice.Eq.{bytes_eq-Decides}
use Rattle.rnv_base.specs.Names.{IsPackageName, IsSegment, is_package_byte, segments}
use Rattle.rnv_release.specs.Package.{is_package_name, is_segment}

pub le-Decides : (a b : ℕ) → Decides (nat_le a b) (a ≤ b)
le-Decides a b = grind (arith, nat_tests)

pub segment-Decides : (part : List ℕ) → Decides (is_segment part) (IsSegment part)
segment-Decides part =
    let filled = Decides-ltb 0 (length part) in
    let here = Decides-not _ (bytes_eq-Decides part (codes ".")) in
    let above = Decides-not _ (bytes_eq-Decides part (codes "..")) in
    Decides-like (is_segment part)
    (λ p. record { filled = p.0.0; not_here = p.0.1; not_above = p.1 })
    (λ s. ((s.filled, s.not_here), s.not_above))
    (Decides-and _ _ (Decides-and _ _ filled here) above)

pub package-Decides : (name : List ℕ) → Decides (is_package_name name) (IsPackageName name)
package-Decides name =
    let bytes = Decides-by_and is_package_byte (λ b. IsTrue (is_package_byte b)) (list_all is_package_byte) (λ b. (λ t. t, λ t. t)) refl (λ b bs. refl) name in
    let parts = Decides-by_and is_segment IsSegment (list_all is_segment) segment-Decides refl (λ p ps. refl) (segments name) in
    Decides-like (is_package_name name)
    (λ p. record { filled = p.0.0.0; short = p.0.0.1; bytes = p.0.1; segments = p.1 })
    (λ s. (((s.filled, s.short), s.bytes), s.segments))
    (Decides-and _ _ (Decides-and _ _ (Decides-and _ _ (Decides-ltb 0 (length name)) (le-Decides (length name) 214)) bytes) parts)
