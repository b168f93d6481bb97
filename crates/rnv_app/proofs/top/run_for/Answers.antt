use Rattle.rnv_app.proofs.Answers.{run_disk_of, run_folder_of}
use Rattle.rnv_app.proofs.Stores.{running_left}
use Rattle.rnv_app.proofs.top.run_for.Goals as goal

pub returns-clause-folder_cause : goal.returns-clause-folder_cause
returns-clause-folder_cause g c = record {
  later = c.run_on-text.ensures.folder_cause.later;
  failed = λ is. c.run_on-text.ensures.folder_cause.failed (run_folder_of c.run_on-text.result.text (cc (is, c.running.ensures)));
}

pub returns-clause-disk_cause : goal.returns-clause-disk_cause
returns-clause-disk_cause g c = record {
  later = c.run_on-text.ensures.disk_cause.later;
  failed = λ is. c.run_on-text.ensures.disk_cause.failed (run_disk_of c.run_on-text.result.text (cc (is, c.running.ensures)));
}

pub returns-clause-answered : goal.returns-clause-answered
returns-clause-answered g c = record {
  repo = _;
  now = _;
  asked = c.requires;
  answer = c.run_on-text.result.text;
  is = c.running.ensures;
  runs = c.run_on-text.ensures.runs;
}

pub returns-clause-left : goal.returns-clause-left
returns-clause-left g c = λ t. running_left _ _ _ _ _ _ c.running.ensures (c.run_on-text.ensures.left t)
