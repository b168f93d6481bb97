use Rattle.std.proofs.Common.{None}
use Rattle.rnv_repo.proofs.Live.{sound_seen}
use Rattle.rnv_repo.proofs.Sound.{sound_result}
use Rattle.rnv_repo.proofs.indexed.Indexed.apply.Goals as goal

pub returns-in-None-clause-sound : goal.returns-in-None-clause-sound
returns-in-None-clause-sound c = sound_result c.args.write.now None c.begun.result c.requires.orderly tt c.begun.ensures

pub returns-in-Some-clause-sound : goal.returns-in-Some-clause-sound
returns-in-Some-clause-sound c =
    sound_seen c.args.write.now c.in-Some.indexed c.indexed.inside.repo c.applied.result c.requires.orderly (rw c.in-Some.is at c.requires.sound) c.indexed.view_is c.applied.ensures
