-- What a start answers.
use Rattle.std.specs.Prelude.{ℕ, List}
use Rattle.rnv_disk.specs.Images.{Image}
use Rattle.rnv_journal.specs.File.{IsFileWrongAt}
use Rattle.rnv_journal.specs.Reading.{IsWrongAt}
use Rattle.rnv_journal.specs.declared.start.StartError.{StartError}
use Rattle.rnv_journal.specs.declared.start.StartError.TheVariants.{DiskFault, NotAJournal, Memory}

-- `NotAJournal` comes with the offset at which the bytes go wrong
abbrev pub IsRefusal : ℕ → Image → StartError → Type 0
IsRefusal limit image DiskFault = Unit {0}
IsRefusal limit image (NotAJournal offset) = IsWrongAt limit image offset
IsRefusal limit image Memory = Unit {0}

-- the same of the bytes of the journal's file
abbrev pub IsFileRefusal : ℕ → List ℕ → StartError → Type 0
IsFileRefusal limit file DiskFault = Unit {0}
IsFileRefusal limit file (NotAJournal offset) = IsFileWrongAt limit file offset
IsFileRefusal limit file Memory = Unit {0}

-- so it is where the error is no fault of the disk
abbrev pub UnlessFault : StartError → Type 0 → Type 0
UnlessFault DiskFault P = Unit {0}
UnlessFault (NotAJournal offset) P = P
UnlessFault Memory P = P

-- so it is where the bytes are no journal
abbrev pub WhereNoJournal : StartError → Type 0 → Type 0
WhereNoJournal DiskFault P = Unit {0}
WhereNoJournal (NotAJournal offset) P = P
WhereNoJournal Memory P = Unit {0}
