use Rattle.std.proofs.Common.{List, ℕ, [], None, OnOk, sym, subst}
use Rattle.rnv_patch.specs.File.{AddPart}
use Rattle.rnv_patch.proofs.Parts.{one_part}
use Rattle.rnv_patch.proofs.SameLines.{no_bytes}
use Rattle.rnv_patch.proofs.Trims.{on_ok}
use Rattle.rnv_patch.proofs.diffs.add_new.Goals as goal

pub returns-then-is_empty : goal.returns-then-is_empty
returns-then-is_empty c =
    subst (λ (new : List ℕ). OnOk c.add_empty.result (AddPart c.args.path.now None new c.args.out.now.items c.add_empty.new.out.items))
    (sym (no_bytes c.args.new.now c.if-is_empty.ensures))
    (on_ok c.add_empty.result (one_part c.args.path.now None [] _ _ (λ e. cc)) c.add_empty.ensures)

pub returns : goal.returns
returns c = on_ok c.add_filled.result (one_part c.args.path.now None c.args.new.now _ _ (λ e. cc)) c.add_filled.ensures
