use Rattle.rnv_docker.proofs.Feeds.{first-line}
use Rattle.rnv_docker.proofs.reading.next_line.Goals as goal

pub returns-clause-lines : goal.returns-clause-lines
returns-clause-lines c = rw (c.cut.ensures.front, c.cut.ensures.back) (first-line c.args.text.now)
