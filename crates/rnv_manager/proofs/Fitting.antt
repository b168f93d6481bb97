-- Edits to quotable texts fit, and are read back.
use Rattle.std.proofs.Common.{ℕ, List, [], ◌∷◌, length, Bool, IsTrue}
use Rattle.rnv_manager.specs.declared.edits.Edit.{Edit}
use Rattle.rnv_manager.specs.Marks.{Mark, finds_from}
use Rattle.rnv_manager.specs.Edits.{AreIndexes, AllFit, KeepsLaw, IsReadBack, IsNotReadBack}

pub all-fit : (one other : List ℕ → Bool) → ((s : List ℕ) → IsTrue (one s) → IsTrue (other s)) → (edits : List Edit) → AllFit one edits → AllFit other edits
all-fit one other so [] h = tt
all-fit one other so (e ∷ edits) h = (so e.new_value h.0, all-fit one other so edits h.1)

pub law-of : (Reads : List ℕ → List Mark → Type 0) (one other : List ℕ → Bool) → ((s : List ℕ) → IsTrue (one s) → IsTrue (other s)) → KeepsLaw Reads other → KeepsLaw Reads one
law-of Reads one other so law file ms edits read indexes fit = law file ms edits read indexes (all-fit one other so edits fit)
