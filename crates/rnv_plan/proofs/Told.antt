-- What an error tells, carried along.
use Rattle.std.proofs.Common.{◌≡◌, Result, Ok, Err, IfOk, IfErr, sym, subst}
use Rattle.rnv_plan.specs.declared.error.RunError.{RunError}
use Rattle.rnv_plan.specs.declared.error.RunError.TheVariants.{Memory, FolderFault, DiskFault, UnknownRepo, NotBuilt, Limit, IndexRefused}
use Rattle.rnv_plan.specs.Refusal.{IfTold}

pub IfTold-weaker : (P Q : RunError → Type 0) (e : RunError) → ((f : RunError) → P f → Q f) → IfTold P e → IfTold Q e
IfTold-weaker P Q Memory weaker p = tt
IfTold-weaker P Q FolderFault weaker p = tt
IfTold-weaker P Q DiskFault weaker p = weaker DiskFault p
IfTold-weaker P Q UnknownRepo weaker p = weaker UnknownRepo p
IfTold-weaker P Q (NotBuilt path) weaker p = weaker (NotBuilt path) p
IfTold-weaker P Q (Limit which number) weaker p = weaker (Limit which number) p
IfTold-weaker P Q (IndexRefused file line) weaker p = weaker (IndexRefused file line) p

pub told-weaker : {T : Type 0} (r : Result T RunError) (P Q : RunError → Type 0) → ((f : RunError) → P f → Q f) → IfErr r (IfTold P) → IfErr r (IfTold Q)
told-weaker (Ok x) P Q weaker p = tt
told-weaker (Err e) P Q weaker p = IfTold-weaker P Q e weaker p

-- what is told of an error, at the result that it is
pub told-at : {T : Type 0} (r : Result T RunError) (e : RunError) (P Q : RunError → Type 0) → r ≡ Err e → ((f : RunError) → P f → Q f) → IfTold P e → IfErr r (IfTold Q)
told-at (Ok x) e P Q is weaker p = absurd (cc is)
told-at (Err e') e P Q is weaker p = let same : e' ≡ e = cc is in subst (IfTold Q) (sym same) (IfTold-weaker P Q e weaker p)

pub ok-weaker : {T E : Type 0} (r : Result T E) (P Q : T → Type 0) → ((x : T) → P x → Q x) → IfOk r P → IfOk r Q
ok-weaker (Ok x) P Q weaker p = weaker x p
ok-weaker (Err e) P Q weaker p = tt
