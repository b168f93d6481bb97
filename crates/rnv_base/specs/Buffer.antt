use Rattle.std.specs.Prelude.{ℕ, List}

-- the bytes, and how many more can be added without memory
pub record Buffer : Type 0 where
  pub bytes : List ℕ
  pub spare : ℕ
