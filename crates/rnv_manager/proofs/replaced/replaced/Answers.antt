use Rattle.std.proofs.Common.{List, ℕ, Bor, map, length, All, IsUtf8, sym, ap, subst, ◌∙◌}
use Rattle.std.proofs.lemmas.Str.{IsCharBoundary-start}
use Rattle.rnv_manager.specs.declared.splicing.Span.{Span}
use Rattle.rnv_manager.specs.Finds.{views}
use Rattle.rnv_manager.specs.Splice.{AreSpans, spliced}
use Rattle.rnv_manager.specs.Steps.{spans_of, values_of}
use Rattle.rnv_manager.proofs.Replacing.{spans-apart, spliced-utf8}
use Rattle.rnv_manager.proofs.replaced.replaced.Goals as goal

pub splice_any-requires-clause-apart : goal.splice_any-requires-clause-apart
splice_any-requires-clause-apart c =
    subst (λ (spans : List Span). AreSpans 0 spans (length c.args.file.now)) (sym (c.as_slice.ensures.value ∙ c.in_ok-spans.ensures)) (spans-apart 0 (views c.args.found.now) (length c.args.file.now) c.requires.apart)

pub returns-clause-utf8 : goal.returns-clause-utf8
returns-clause-utf8 c =
    let now = λ (v : Bor (List ℕ)). v.now in
    let utf8 : All IsUtf8 (values_of (views c.args.wanted.now)) = subst (All IsUtf8) c.in_ok-texts.ensures.values c.in_ok-texts.ensures.utf8 in
    let spans = ap (λ (ss : List Span). spliced c.args.file.now 0 ss (map now c.as_slice-2.result.now)) (c.as_slice.ensures.value ∙ c.in_ok-spans.ensures) in
    let texts = ap (λ (ts : List (List ℕ)). spliced c.args.file.now 0 (spans_of (views c.args.found.now)) ts) (ap (λ (vs : List (Bor (List ℕ))). map now vs) c.as_slice-2.ensures.value ∙ c.in_ok-texts.ensures.values) in
    subst IsUtf8 (sym (c.splice_any.ensures ∙ (spans ∙ texts)))
    (spliced-utf8 c.args.file.now 0 (length c.args.file.now) (views c.args.found.now) (values_of (views c.args.wanted.now)) c.utf8.file (IsCharBoundary-start c.args.file.now c.utf8.file) c.requires.apart c.requires.cuts utf8)
