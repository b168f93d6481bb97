-- Writes of which one is refused in its turn.
use Rattle.std.specs.Prelude.{◌≡◌, ℕ, List, ◌∷◌, ◌++◌, length, Some}
use Rattle.rnv_repo.specs.declared.refusal.Refusal.{Refusal}
use Rattle.rnv_repo.specs.declared.repo.Repo.{Repo}
use Rattle.rnv_repo.specs.declared.write.Write.{Write}
use Rattle.rnv_repo.specs.Store.{ArePermitted, after, refusal}

-- the writes before this index are permitted in their turn, and the one there is refused, by this cause
pub record IsFirstRefused (ws : List Write) (store : List Repo) (index : ℕ) (cause : Refusal) : Type 0 where
  pub front : List Write
  pub write : Write
  pub rest : List Write
  pub is : ws ≡ front ++ write ∷ rest
  pub place : index ≡ length front
  pub permitted : ArePermitted front store
  pub refused : refusal write (after front store) ≡ Some cause
