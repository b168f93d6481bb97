use Rattle.std.proofs.Common.{◌++◌, ◌∷◌, ◌∙◌, ℕ, List, [], sym, ap, subst, append_assoc}
use Rattle.std.proofs.lemmas.List.Elements.{All-push}
use Rattle.std.specs.List.{All}
use Rattle.rnv_base.specs.Buffer.{Buffer}
use Rattle.rnv_journal.specs.declared.line.Line.{Line}
use Rattle.rnv_journal.specs.Found.{strings}
use Rattle.rnv_journal.specs.Held.{payloads, IsLine}
use Rattle.rnv_journal.proofs.Held.{payloads_append, strings_append}
use Rattle.rnv_journal.proofs.line.lines.Goals as goal

pub loop-payload-preserved : goal.loop-payload-preserved
loop-payload-preserved c =
    let so_far = c.loop-payload.yielded in
    let payload = c.in-Some.payload in
    let line = c.in_ok-written_line.field-0 in
    let made = c.loop-payload.made.items in
    let pushed = c.in_ok-push_back.ensures.items in
    record {
      parts = append_assoc so_far (payload ∷ []) c.next.new.self.rest.items ∙ (ap (λ (r : List Buffer). so_far ++ r) (sym c.in-Some.ensures.steps.0) ∙ c.loop-payload.invariant.parts);
      made = ap payloads pushed ∙ payloads_append made (line ∷ []) ∙ ap (λ (l : List (List ℕ)). l ++ line.payload.bytes ∷ []) c.loop-payload.invariant.made
          ∙ ap (λ (b : List ℕ). strings so_far ++ b ∷ []) c.in_ok-written_line.ensures.0 ∙ sym (strings_append so_far (payload ∷ []));
      lines = subst (λ (l : List Line). All IsLine l) (sym pushed) (All-push IsLine made line c.loop-payload.invariant.lines c.in_ok-written_line.ensures.1);
    }
