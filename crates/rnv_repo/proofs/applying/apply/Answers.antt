use Rattle.std.proofs.Common.{None, Some}
use Rattle.rnv_repo.proofs.Sound.{sound_result}
use Rattle.rnv_repo.proofs.applying.apply.Goals as goal

pub returns-in-None-clause-sound : goal.returns-in-None-clause-sound
returns-in-None-clause-sound c = sound_result c.args.write.now None c.apply_new.result c.requires.orderly tt c.apply_new.ensures

pub returns-in-Some-clause-sound : goal.returns-in-Some-clause-sound
returns-in-Some-clause-sound c =
    sound_result c.args.write.now (Some c.in-Some.repo) c.apply_known.result c.requires.orderly (rw c.in-Some.is at c.requires.sound) c.apply_known.ensures
