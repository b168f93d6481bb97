use Rattle.rnv_manager.specs.Finds.{views}
use Rattle.rnv_manager.specs.Tool.{IsTool}
use Rattle.rnv_manager.proofs.Marks.{apart-clause, there-clause, bad-clause}
use Rattle.rnv_manager.proofs.Tools.{tool-found, tool-only}
use Rattle.rnv_manager.proofs.tests.ToolManagerManager.extract.Goals as goal

pub returns-clause-found : goal.returns-clause-found
returns-clause-found c = tool-found views c.args.file.now c.tools.result c.tools.ensures.finds

pub returns-clause-only : goal.returns-clause-only
returns-clause-only c = λ ms h. tool-only views c.args.file.now c.tools.result c.tools.ensures.finds c.tools.ensures.err ms h

pub returns-clause-bad : goal.returns-clause-bad
returns-clause-bad c = bad-clause views (IsTool c.args.file.now) c.tools.result (λ ms h. tool-only views c.args.file.now c.tools.result c.tools.ensures.finds c.tools.ensures.err ms h)

pub returns-clause-apart : goal.returns-clause-apart
returns-clause-apart c = apart-clause views (IsTool c.args.file.now) c.args.file.now c.tools.result (λ ms h. h.whole) (tool-found views c.args.file.now c.tools.result c.tools.ensures.finds)

pub returns-clause-there : goal.returns-clause-there
returns-clause-there c = there-clause views (IsTool c.args.file.now) c.args.file.now c.tools.result (λ ms h. h.whole) (tool-found views c.args.file.now c.tools.result c.tools.ensures.finds)
