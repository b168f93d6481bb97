use Rattle.std.proofs.lemmas.Bool.Decides.{same_from_decides}
use Rattle.rnv_release.specs.Package.{is_package_name}
use Rattle.rnv_release.proofs.PackageTest.{package-Decides}
use Rattle.rnv_release.proofs.package.is_package.Goals as goal

pub returns-clause-value : goal.returns-clause-value
returns-clause-value c = same_from_decides _ (is_package_name c.args.name.now) c.package_ok.ensures (package-Decides c.args.name.now)
