-- What a walk through folders finds.
use Rattle.std.specs.Prelude.{ℕ, List, All, IsTrue, ◌==◌}
use Rattle.std.specs.List.{starts_with}

-- each path begins with the prefix
abbrev pub AreBelow : List ℕ → List (List ℕ) → Type 0
AreBelow prefix paths = All (λ path. IsTrue (starts_with ◌==◌ path prefix)) paths
