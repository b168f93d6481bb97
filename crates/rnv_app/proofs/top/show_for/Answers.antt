use Rattle.std.proofs.Common.{arith}
use Rattle.rnv_app.proofs.Answers.{folder_of}
use Rattle.rnv_app.proofs.Stores.{refusing_left}
use Rattle.rnv_app.proofs.top.show_for.Goals as goal

pub returns-clause-folder_cause : goal.returns-clause-folder_cause
returns-clause-folder_cause g c = record {
  later = omega arith;
  failed = λ is. absurd (c.show_on-text.ensures.never (folder_of c.show_on-text.result.text (cc (is, c.refusing.ensures))));
}

pub returns-clause-left : goal.returns-clause-left
returns-clause-left g c = λ t. refusing_left _ _ _ _ _ _ c.refusing.ensures (c.show_on-text.ensures.left t)
