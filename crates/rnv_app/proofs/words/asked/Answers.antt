use Rattle.rnv_app.specs.Words.{IsAsked}
use Rattle.rnv_app.proofs.Four.{none-from}
use Rattle.rnv_app.proofs.words.asked.Goals as goal

pub returns-clause-none : goal.returns-clause-none
returns-clause-none c =
    none-from c.moment_read.result _ (λ now. IsAsked c.args.repo.now c.args.flag.now c.args.time.now now) c.moment_read.ensures.exactly (λ m asked. (asked.moment, asked.timed))
