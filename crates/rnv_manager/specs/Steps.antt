-- One step over the finds of a file that is edited, and what is put together of it.
use Rattle.std.specs.Prelude.{◌≡◌, ℕ, suc, ◌+◌, List, length, map}
use Rattle.rnv_manager.specs.declared.edits.Edit.{Edit}
use Rattle.rnv_manager.specs.declared.splicing.Span.{Span}
use Rattle.rnv_manager.specs.Finds.{Find}
use Rattle.rnv_manager.specs.Marks.{Mark}
use Rattle.rnv_manager.specs.Edits.{AreIndexes, value_after, edited}

-- The value of the find with that index, and edits that say the same of all finds behind it.
pub record IsNewValue (edits : List Edit) (index : ℕ) (old : List ℕ) (number : ℕ) (value : List ℕ) (rest : List Edit) : Type 0 where
  pub is : value ≡ value_after edits index old
  pub same : (ms : List Mark) → edited edits (suc index) ms ≡ edited rest (suc index) ms
  pub rising : AreIndexes (suc index) rest number

abbrev pub span_of : Find → Span
span_of f = record { start = f.start; end = f.start + length f.value }

abbrev pub spans_of : List Find → List Span
spans_of finds = map span_of finds

abbrev pub values_of : List Find → List (List ℕ)
values_of finds = map (λ f. f.value) finds
