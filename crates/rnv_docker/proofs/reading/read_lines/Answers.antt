use Rattle.std.proofs.Common.{ap, sym, ◌∙◌, refl}
use Rattle.rnv_docker.specs.Lines.{has_here, lines}
use Rattle.rnv_docker.specs.Read.{state, run, lines_of}
use Rattle.std.specs.Option.{option_copied}
use Rattle.rnv_docker.proofs.Steps.{Goes, goes-stop, goes-on, goes-at}
use Rattle.rnv_docker.proofs.reading.read_lines.Goals as goal

pub returns-then-has_here-clause-ok : goal.returns-then-has_here-clause-ok
returns-then-has_here-clause-ok c =
    goes-stop c.args.file.now (state c.loop-rest.reading) c.in-Some.text c.next_line.result.0.now (lines_of (option_copied c.next_line.result.1)) (run (state c.args.reading.now) 0 (lines c.args.file.now))
    (goes-at c.args.file.now (state c.loop-rest.reading) c.loop-rest.rest c.in-Some.text (run (state c.args.reading.now) 0 (lines c.args.file.now)) c.loop-rest.invariant c.in-Some.is)
    c.next_line.ensures.lines
    (ap has_here (sym c.as_bytes.ensures.value) ∙ (sym c.has_here.ensures ∙ c.if-has_here.true))

pub loop-rest-preserved : goal.loop-rest-preserved
loop-rest-preserved c =
    goes-on c.args.file.now (state c.loop-rest.reading) (state c.read_line.new.reading) c.in-Some.text c.next_line.result.0.now c.next_line.result.1 _ (run (state c.args.reading.now) 0 (lines c.args.file.now))
    (goes-at c.args.file.now (state c.loop-rest.reading) c.loop-rest.rest c.in-Some.text (run (state c.args.reading.now) 0 (lines c.args.file.now)) c.loop-rest.invariant c.in-Some.is)
    c.next_line.ensures.lines
    c.next_line.ensures.lengths
    (ap has_here (sym c.as_bytes.ensures.value) ∙ (sym c.has_here.ensures ∙ c.if-has_here.false))
    refl
    c.in_ok-read_line.ensures.ok
