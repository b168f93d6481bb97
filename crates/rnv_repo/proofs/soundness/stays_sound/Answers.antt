use Rattle.rnv_repo.proofs.Sound.{sound_store, sound_from_nothing}
use Rattle.rnv_repo.proofs.soundness.stays_sound.Goals as goal

pub returns-clause-one : goal.returns-clause-one
returns-clause-one c = sound_store

pub returns-clause-all : goal.returns-clause-all
returns-clause-all c = sound_from_nothing
