use Rattle.std.proofs.Common.{List, ap, ◌∙◌}
use Rattle.rnv_repo.specs.declared.repo.Repo.{Repo}
use Rattle.rnv_repo.specs.Store.{known}
use Rattle.rnv_forge.proofs.ByName.{known_is}
use Rattle.rnv_forge.proofs.store.Store.repo.Goals as goal

pub returns : goal.returns
returns c =
    let name = c.args.name.now in
    c.in_ok-repo.ensures ∙ c.get.ensures.value ∙ known_is name c.self.inside.repos.entries c.self.invariant.named ∙ ap (λ (l : List Repo). known name l) c.self.view_is
