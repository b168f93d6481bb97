use Rattle.rnv_manager.specs.Finds.{views}
use Rattle.rnv_manager.proofs.Marks.{apart-clause, there-clause, bad-clause}
use Rattle.rnv_manager.proofs.Cuts.{cuts-clause}
use Rattle.rnv_docker.specs.Grammar.{IsRead}
use Rattle.rnv_docker.proofs.Pieces.{found-clause, only-clause, fenced-read}
use Rattle.rnv_docker.proofs.manager.DockerManagerManager.extract.Goals as goal

pub returns-clause-found : goal.returns-clause-found
returns-clause-found c = found-clause views c.args.file.now c.read.result c.read.ensures.ok

pub returns-clause-only : goal.returns-clause-only
returns-clause-only c = λ ms h. only-clause views c.args.file.now c.read.result c.read.ensures.ok c.read.ensures.err ms h

pub returns-clause-bad : goal.returns-clause-bad
returns-clause-bad c = bad-clause views (IsRead c.args.file.now) c.read.result (λ ms h. only-clause views c.args.file.now c.read.result c.read.ensures.ok c.read.ensures.err ms h)

pub returns-clause-apart : goal.returns-clause-apart
returns-clause-apart c = apart-clause views (IsRead c.args.file.now) c.args.file.now c.read.result (λ ms h. h.whole) (found-clause views c.args.file.now c.read.result c.read.ensures.ok)

pub returns-clause-there : goal.returns-clause-there
returns-clause-there c = there-clause views (IsRead c.args.file.now) c.args.file.now c.read.result (λ ms h. h.whole) (found-clause views c.args.file.now c.read.result c.read.ensures.ok)

pub returns-clause-cuts : goal.returns-clause-cuts
returns-clause-cuts c = cuts-clause views (IsRead c.args.file.now) c.args.file.now c.read.result c.utf8.file (λ ms h. h.whole) (fenced-read c.args.file.now) (found-clause views c.args.file.now c.read.result c.read.ensures.ok)
