-- Lines in pieces, one after another.
use Rattle.std.proofs.Common.{◌≡◌, ℕ, ◌+◌, ◌≤◌, List, [], ◌++◌, length, take, sym, ◌∙◌, ap, append_assoc, append-nil, arith}
use Rattle.std.proofs.Math.Seq.{take-append-add}
use Rattle.std.proofs.lemmas.List.{take-append-le}
use Rattle.rnv_base.specs.Causes.{Rose}
use Rattle.rnv_app.specs.Refusals.{IsLine}

-- a fault that was counted later was counted since
pub later-rose : (before mid now : ℕ) → before ≤ mid → Rose mid now → Rose before now
later-rose before mid now later rose = omega (arith, later, rose)

-- nothing is a line without bytes
pub line_none : (held : List ℕ) (faults : ℕ) → IsLine held held faults faults []
line_none held faults = record { count = 0; written = sym (append-nil held); whole = λ still. sym (append-nil held) }

-- a front part of the first piece, and a fault
pub line-first : (old new a b : List ℕ) (faults now n : ℕ) → n ≤ length a → new ≡ old ++ take n a → Rose faults now → IsLine old new faults now (a ++ b)
line-first old new a b faults now n within is rose = record {
  count = n;
  written = is ∙ ap (λ t. old ++ t) (sym (take-append-le n a b within));
  whole = λ still. absurd (still rose);
}

-- the first piece, and then a line of the others
pub line-next : (old mid new a b : List ℕ) (faults then now : ℕ) → mid ≡ old ++ a → faults ≤ then → IsLine mid new then now b → IsLine old new faults now (a ++ b)
line-next old mid new a b faults then now before later line = record {
  count = length a + line.count;
  written =
      let same : take (length a + line.count) (a ++ b) ≡ a ++ take line.count b = take-append-add a b line.count in
      let grouped : (old ++ a) ++ take line.count b ≡ old ++ (a ++ take line.count b) = append_assoc old a (take line.count b) in
      line.written ∙ (ap (λ t. t ++ take line.count b) before ∙ (grouped ∙ ap (λ t. old ++ t) (sym same)));
  whole = λ still. line.whole (λ rose. still (later-rose faults then now later rose)) ∙ (ap (λ t. t ++ b) before ∙ append_assoc old a b);
}
