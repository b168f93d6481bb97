-- A refusal that is passed on.
use Rattle.std.proofs.Common.{◌≡◌, Option, None}
use Rattle.std.specs.Prelude.{Err}
use Rattle.rnv_schedule.specs.Schedules.{Reads}
use Rattle.rnv_schedule.specs.declared.error.ScheduleError.{ScheduleError}
use Rattle.rnv_schedule.specs.declared.error.ScheduleError.TheVariants.{BadSchedule, Memory}

-- where the whole denotes nothing if the part does
pub passed_on : {S T U V : Type 0} (part : Option S) (whole : Option U) (shown : T → S) (seen : V → U) (error : ScheduleError) → Reads part shown (Err error) → (part ≡ None → whole ≡ None) → Reads whole seen (Err error)
passed_on part whole shown seen BadSchedule h f = f h
passed_on part whole shown seen Memory h f = h
