use Rattle.std.proofs.Common.{◌≡◌, ◌++◌, map}
use Rattle.std.specs.Map.{values_of}
use Rattle.rnv_forge.proofs.store.names_of.Given as goal

abbrev pub invariant-loop-repo : goal.invariant-loop-repo
invariant-loop-repo l = l.names ++ map (λ repo. repo.name) l.repo-iterator ≡ map (λ repo. repo.name) (values_of l.repos.entries)
