use Rattle.std.proofs.lemmas.Bool.Decides.{same_from_decides}
use Rattle.rnv_hook.specs.Paths.{is_path}
use Rattle.rnv_hook.proofs.PathTest.{path-Decides}
use Rattle.rnv_hook.proofs.changes.is_path.Goals as goal

pub returns : goal.returns
returns c = same_from_decides _ (is_path c.args.path.now) c.path_ok.ensures (path-Decides c.args.path.now)
