use Rattle.std.proofs.Common.{sym, ◌∙◌}
use Rattle.rnv_cargo.specs.Roles.{seen}
use Rattle.rnv_cargo.proofs.Index.{none-there, first-there}
use Rattle.rnv_cargo.proofs.finding.package_of.Goals as goal

pub returns-in-None : goal.returns-in-None
returns-in-None c =
    sym (none-there c.args.spots.now (seen c.args.table) c.args.name.now c.as_str.result.now (c.as_str.ensures.value ∙ c.in_ok-key.ensures) (sym (c.requires c.as_str.result.now) ∙ sym c.in-None.ensures.value))

pub returns-then-is_package_of : goal.returns-then-is_package_of
returns-then-is_package_of c =
    sym (first-there c.args.spots.now (seen c.args.table) c.args.name.now c.as_str.result.now c.in-Some.spot.now (c.as_str.ensures.value ∙ c.in_ok-key.ensures) (sym (c.requires c.as_str.result.now) ∙ sym c.in-Some.ensures.value) (sym c.is_package_of.ensures ∙ c.if-is_package_of.true))
