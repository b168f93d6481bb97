use Rattle.rnv_commands.proofs.Printed.{import_printed, on_ok}
use Rattle.rnv_commands.proofs.import.add_import.Goals as goal

pub returns : goal.returns
returns c =
    on_ok c.add.result _ _
    (λ last. import_printed c.args.out.now.items _ _ _ _ c.args.count c.args.revision c.args.passed c.in_ok-add_number_after.ensures c.in_ok-add_number_after-2.ensures c.in_ok-add_number_after-3.ensures last)
    c.add.ensures
