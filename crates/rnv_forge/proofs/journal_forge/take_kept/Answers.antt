use Rattle.std.proofs.Common.{◌≡◌, [], List, Option, length, sym, subst, arith}
use Rattle.std.specs.Prelude.{IfSome}
use Rattle.rnv_repo.specs.declared.repo.Repo.{Repo}
use Rattle.rnv_repo.specs.Store.{after}
use Rattle.rnv_forge.specs.Writes.{writes_in}
use Rattle.rnv_forge.proofs.Kept.{kept_now}
use Rattle.rnv_forge.proofs.journal_forge.take_kept.Goals as goal

pub returns-then-prepared-eq0-clause-kept : goal.returns-then-prepared-eq0-clause-kept
returns-then-prepared-eq0-clause-kept c =
    let none : length c.args.journal.now.prepared ≡ 0 = omega (arith, c.if-prepared-eq0.true, c.prepared.ensures) in
    subst (λ (o : Option (List Repo)). IfSome o (λ s. s ≡ after (writes_in c.args.journal.now.entries) [])) (sym c.take-kept.ensures.value)
    (kept_now c.args.journal.now c.args.store.now none c.requires)
