-- What a spawner tells: the programs that it was asked to run, and what they give.
use Rattle.std.specs.Prelude.{◌≡◌, ℕ, ◌==◌, Bool, ◌&&◌, if◌then◌else◌, List, [], ◌∷◌, ◌++◌, take}
use Rattle.std.specs.Cmp.Lexicographic.{pointwise}

-- a program with its arguments, and what stands on its standard input
pub record Call : Type 0 where
  pub words : List (List ℕ)
  pub input : List ℕ

-- how it ended, and what it wrote to its standard output
pub record End : Type 0 where
  pub status : ℕ
  pub output : List ℕ

pub record Answer : Type 0 where
  pub call : Call
  pub gives : End

abbrev pub is_same : Call → Call → Bool
is_same a b = pointwise (pointwise ◌==◌) a.words b.words && pointwise ◌==◌ a.input b.input

-- what a call gives: by the first answer for it, and without one the status 255 and no output
abbrev pub given_by : Call → List Answer → End
given_by call [] = record { status = 255; output = [] }
given_by call (a ∷ answers) = if is_same a.call call then a.gives else given_by call answers

-- as much of the output is handed over
abbrev pub handed : End → End
handed e = record { status = e.status; output = take 1048577 e.output }

-- the calls are those of before and then those of a list but for these others
pub record Makes (list others before now : List Call) : Type 0 where
  pub made : List Call
  pub parts : list ≡ made ++ others
  pub calls : now ≡ before ++ made

-- the calls are those of before and then the first of a list, however many
pub record MakesFirst (list before now : List Call) : Type 0 where
  pub others : List Call
  pub makes : Makes list others before now
