use Rattle.std.proofs.Common.{◌≡◌, ℕ, List, [], Some, subst, arith}
use Rattle.rnv_repo.specs.Store.{after, known}
use Rattle.rnv_plan.proofs.Told.{told-weaker}
use Rattle.rnv_run.specs.Repository.{IsBaseRefusal, IsUnwanted, no_items}
use Rattle.rnv_run.proofs.Wanted.{not_of_repo, unknown_disk, unknown_folder, unknown_of, unknown_told}
use Rattle.rnv_run.proofs.planning.find_wanted.Goals as goal

pub returns-in-Ok-clause-refused : goal.returns-in-Ok-clause-refused
returns-in-Ok-clause-refused g c = λ t.
    let ws = g.F.Forge.writes c.args.forge.now in
    told-weaker c.given_of.result (IsBaseRefusal (g.O.Folder.files c.args.folder.now) c.args.moment c.in-Ok.repo.files) (IsUnwanted (g.O.Folder.files c.args.folder.now) c.args.name.now c.args.moment ws)
    (λ f h. no_items c.in-Ok.repo (subst (λ (n : List ℕ). known n (after ws []) ≡ Some c.in-Ok.repo) c.in-Ok.ensures.named c.in-Ok.ensures.there) h)
    (c.given_of.ensures.refused t)

pub returns-in-Err-clause-refused : goal.returns-in-Err-clause-refused
returns-in-Err-clause-refused g c = λ t. unknown_told c.args.name.now (g.F.Forge.writes c.args.forge.now) (g.O.Folder.files c.args.folder.now) c.args.moment c.in-Err.error c.in-Err.ensures.refused

pub returns-in-Err-clause-disk : goal.returns-in-Err-clause-disk
returns-in-Err-clause-disk g c = λ e. unknown_disk c.args.name.now (g.F.Forge.writes c.args.forge.now) c.in-Err.error c.in-Err.ensures.refused (cc e)

pub returns-in-Err-clause-cause : goal.returns-in-Err-clause-cause
returns-in-Err-clause-cause g c = record {
  later = omega arith;
  failed = λ is. absurd (unknown_folder c.args.name.now (g.F.Forge.writes c.args.forge.now) c.in-Err.error c.in-Err.ensures.refused (cc is));
}

pub returns-in-Ok-clause-known : goal.returns-in-Ok-clause-known
returns-in-Ok-clause-known g c =
    let ws = g.F.Forge.writes c.args.forge.now in
    not_of_repo c.args.name.now ws c.in-Ok.repo (subst (λ (n : List ℕ). known n (after ws []) ≡ Some c.in-Ok.repo) c.in-Ok.ensures.named c.in-Ok.ensures.there) c.given_of.result c.given_of.ensures.unknown

pub returns-in-Err-clause-known : goal.returns-in-Err-clause-known
returns-in-Err-clause-known g c = unknown_of c.args.name.now (g.F.Forge.writes c.args.forge.now) c.in-Err.error c.in-Err.ensures.refused
