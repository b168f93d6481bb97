use Rattle.std.proofs.Common.{◌≡◌, true, arith}
use Rattle.std.specs.Prelude.{nat_eq}
use Rattle.std.proofs.lemmas.Bool.Decides.{nat_tests}
use Rattle.rnv_docker.proofs.Images.{left-colon}
use Rattle.rnv_docker.proofs.image.last_colon.Goals as goal

pub returns-then-x-eq58 : goal.returns-then-x-eq58
returns-then-x-eq58 c =
    let same = c.if-x-eq58.true in
    let is : nat_eq c.in-Some.x 58 ≡ true = grind (arith, nat_tests) in
    record { colon = left-colon c.args.bytes.now c.loop-x.rest.now c.in-Some.front.now c.in-Some.x c.loop-x.invariant c.in-Some.ensures.parts is }
