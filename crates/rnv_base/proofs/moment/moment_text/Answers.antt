use Rattle.std.proofs.Common.{sym, ◌∙◌}
use Rattle.std.proofs.lemmas.Result.{IfOk-weaker}
use Rattle.rnv_base.proofs.Moments.{civil_text-utf8, one_text}
use Rattle.rnv_base.proofs.moment.moment_text.Goals as goal

pub unreachable-requires : goal.unreachable-requires
unreachable-requires c = c.in_default.ensures.cases.0 (rw c.text-bytes.ensures (civil_text-utf8 c.of.result))

pub returns-clause-only : goal.returns-clause-only
returns-clause-only c =
    IfOk-weaker c.copied.result _ _ (λ text same other read. one_text c.of.result c.args.moment c.of.ensures other read ∙ sym c.text-bytes.ensures ∙ sym c.in-Ok.ensures.cases.0 ∙ sym same) c.copied.ensures
