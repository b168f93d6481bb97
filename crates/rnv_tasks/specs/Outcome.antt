-- What becomes of bytes: others, or a problem.
use Rattle.std.specs.Prelude.{ℕ, List, Result, Ok, Err}
use Rattle.rnv_tasks.specs.declared.treating.Treated.{Treated}
use Rattle.rnv_tasks.specs.declared.treating.Treated.TheVariants.{Changed, Stopped}

abbrev pub outcome : Treated → Result (List ℕ) (List ℕ)
outcome (Changed b) = Ok b.bytes
outcome (Stopped problem) = Err problem
