use Rattle.std.proofs.Common.{Option, sym, subst}
use Rattle.std.specs.Prelude.{IfSome}
use Rattle.std.proofs.lemmas.Result.{IfOk-weaker}
use Rattle.rnv_options.specs.declared.setting.OptValue.{OptValue}
use Rattle.rnv_config.specs.Settings.{IsValueBuilt}
use Rattle.rnv_config.proofs.ByOption.{built_in}
use Rattle.rnv_config.proofs.merging.merged_at.Goals as goal

pub returns-clause-built : goal.returns-clause-built
returns-clause-built c =
    IfOk-weaker c.merged_value.result _ _
    (λ value both parents children.
    both (subst (λ (o : Option OptValue). IfSome o IsValueBuilt) (sym c.get.ensures) (built_in c.args.opt c.args.parent.now.settings parents))
    (subst (λ (o : Option OptValue). IfSome o IsValueBuilt) (sym c.get-2.ensures) (built_in c.args.opt c.args.child.now.settings children)))
    c.merged_value.ensures.built
