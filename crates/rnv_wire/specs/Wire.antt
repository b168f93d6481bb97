-- What is read from a source, and what is read and written on a listener.
use Rattle.std.specs.Prelude.{◌≡◌, ℕ, ◌<◌, ◌≤◌, Bool, true, List, [], ◌∷◌, ◌++◌, length, take, drop, if◌then◌else◌}

-- n of the bytes that were left stand at the front of the buffer, none only at the end
pub record Reads (before now buffer filled : List ℕ) (n : ℕ) : Type 0 where
  pub within : n ≤ length before
  pub end : 0 < length buffer → n ≡ 0 → before ≡ []
  pub bytes : take n filled ≡ take n before
  pub left : now ≡ drop n before

-- what each connection to come gives, what the one that stands has left to give, what was written to
-- it, and what was written to each one before it
pub record Wire : Type 0 where
  pub coming : List (List ℕ)
  pub left : List ℕ
  pub stands : Bool
  pub given : List ℕ
  pub earlier : List (List ℕ)

-- what was written to each connection, in order
abbrev pub answers : Wire → List (List ℕ)
answers w = if w.stands then w.earlier ++ w.given ∷ [] else w.earlier

-- what the next connection gives: nothing where none is left
abbrev pub first_of : List (List ℕ) → List ℕ
first_of [] = []
first_of (bytes ∷ more) = bytes

-- the next connection stands
abbrev pub accepted : Wire → Wire
accepted w = record {
  coming = drop 1 w.coming;
  left = first_of w.coming;
  stands = true;
  given = [];
  earlier = answers w;
}

-- these bytes were written to the connection that stands
abbrev pub gives : List ℕ → Wire → Wire
gives bytes w = record w { given = w.given ++ bytes }

-- the connection that stands gives no more
abbrev pub finished : Wire → Wire
finished w = record w { left = [] }

-- n bytes of the connection that stands were read
pub record ReadsOn (old new : Wire) (buffer filled : List ℕ) (n : ℕ) : Type 0 where
  pub reads : Reads old.left new.left buffer filled n
  pub same : new ≡ record old { left = new.left }
