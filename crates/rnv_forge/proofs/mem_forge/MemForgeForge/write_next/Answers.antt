use Rattle.std.proofs.Common.{sym}
use Rattle.std.proofs.Math.Seq.{take-add}
use Rattle.std.proofs.lemmas.List.{drop-drop}
use Rattle.rnv_forge.proofs.InMemory.{stands_longer}
use Rattle.rnv_forge.proofs.mem_forge.MemForgeForge.write_next.Goals as goal

pub returns-clause-ok : goal.returns-clause-ok
returns-clause-ok c = take-add c.args.self.now.done 1 c.args.self.now.all.items

pub returns-clause-longer : goal.returns-clause-longer
returns-clause-longer c w ws is = stands_longer c.args.self.now.all.items c.args.self.now.done w ws is

pub returns-clause-next : goal.returns-clause-next
returns-clause-next c = sym (drop-drop 1 c.args.self.now.done c.args.self.now.all.items)
