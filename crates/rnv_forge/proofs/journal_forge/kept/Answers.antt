use Rattle.std.proofs.Common.{◌≡◌, [], List, Option, Some, None, length, sym, subst, arith}
use Rattle.std.specs.Prelude.{IfSome, option_copied}
use Rattle.rnv_repo.specs.declared.repo.Repo.{Repo}
use Rattle.rnv_repo.specs.Store.{after}
use Rattle.rnv_forge.specs.Writes.{writes_in}
use Rattle.rnv_forge.proofs.Kept.{kept_now}
use Rattle.rnv_forge.proofs.journal_forge.kept.Goals as goal

pub returns : goal.returns
returns c =
    let none : length c.args.journal.now.prepared ≡ 0 = omega (arith, c.if-prepared-gt0.false, c.prepared.ensures) in
    let store = after (writes_in c.args.journal.now.entries) [] in
    elim c.as_ref.result as (λ o. option_copied o ≡ c.args.store.now → IfSome o (λ b. b.now ≡ store)) [
      | None ↦ λ is. tt
      | Some b ↦ λ is. subst (λ (o : Option (List Repo)). IfSome o (λ s. s ≡ store)) (sym is) (kept_now c.args.journal.now c.args.store.now none c.requires)
    ] c.as_ref.ensures.value
