use Rattle.rnv_app.proofs.words.run.Goals as goal

pub returns-in-Ok-clause-usage : goal.returns-in-Ok-clause-usage
returns-in-Ok-clause-usage c = (λ is. absurd (cc is), λ none. absurd (none.run c.args.repo.now c.args.now c.requires))

pub returns-in-Err-clause-usage : goal.returns-in-Err-clause-usage
returns-in-Err-clause-usage c = (λ is. absurd (cc is), λ none. absurd (none.run c.args.repo.now c.args.now c.requires))
