use Rattle.rnv_composition.proofs.Histories.{all_compose, all_from}
use Rattle.rnv_composition.proofs.composing.composition.Goals as goal

pub returns-clause-from_one : goal.returns-clause-from_one
returns-clause-from_one g c files name moment start first given entry exit before after faults now codes n begun are reads = all_compose files name moment start first given begun _ n are reads

pub returns-clause-from_any : goal.returns-clause-from_any
returns-clause-from_any g c files name moment entry exit before after faults now codes n are some = all_from files name moment _ n are some
