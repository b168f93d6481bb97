use Rattle.std.proofs.Common.{◌<◌, Option, subst, sym}
use Rattle.rnv_repo.specs.Base.{path_of}
use Rattle.rnv_repo.specs.WellFormed.{AreInOrder}
use Rattle.rnv_repo.specs.declared.repo.Repo.{Repo}
use Rattle.rnv_commands.specs.Import.{files_of, revision_of}
use Rattle.rnv_commands.proofs.Imports.{files_in_order, revision_small}
use Rattle.rnv_commands.proofs.import.import_of.Goals as goal

pub import_into-requires-clause-files : goal.import_into-requires-clause-files
import_into-requires-clause-files g c =
    let forge = c.args.forge.now in
    subst (λ (r : Option Repo). AreInOrder path_of (files_of r)) (sym c.in_ok-repo.ensures)
    (files_in_order c.args.name.now (g.F.Forge.writes forge) (g.met.F.Forge.sound forge c.requires.holds))

pub import_into-requires-clause-small : goal.import_into-requires-clause-small
import_into-requires-clause-small g c =
    let forge = c.args.forge.now in
    subst (λ (r : Option Repo). revision_of r < 4294967295) (sym c.in_ok-repo.ensures)
    (revision_small c.args.name.now (g.F.Forge.writes forge) (g.met.F.Forge.bounded forge c.requires.holds))
