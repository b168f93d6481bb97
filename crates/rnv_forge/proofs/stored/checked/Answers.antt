use Rattle.std.proofs.Common.{◌≡◌, ℕ, List, [], ◌∷◌, ◌++◌, suc, Err, sym, ap, subst, ◌∙◌, add-one}
use Rattle.rnv_repo.specs.declared.refusal.Refusal.{Refusal}
use Rattle.rnv_journal.specs.Found.{strings}
use Rattle.rnv_journal.proofs.Held.{strings_append}
use Rattle.rnv_forge.specs.Refused.{IsFirstRefused}
use Rattle.rnv_forge.proofs.Checking.{IsChecked, checked_more, checked_refused}
use Rattle.rnv_forge.proofs.stored.checked.Goals as goal

pub returns-in-Err-Refused-clause-refused : goal.returns-in-Err-Refused-clause-refused
returns-in-Err-Refused-clause-refused c n cause e =
    let i : c.loop-index.index ≡ n = cc in
    let same : c.in-Err-Refused.cause ≡ cause = cc in
    let first = c.args.store in
    let list = c.args.list.now in
    let refused = checked_refused first list c.loop-index.index c.loop-index.store _ c.loop-index.invariant c.index-list-index.result c.loop-index-test.true (sym c.index-list-index.is) c.in-Err-Refused.cause
    (c.in-Err-Refused.ensures.refused c.in-Err-Refused.cause (ap Err c.in-Err-Refused.field-0-is)) in
    subst (λ (k : ℕ). IsFirstRefused list first k cause) i (subst (λ (r : Refusal). IsFirstRefused list first c.loop-index.index r) same refused)

pub loop-index-preserved : goal.loop-index-preserved
loop-index-preserved c =
    let first = c.args.store in
    let list = c.args.list.now in
    let payload = c.in-Ok-payload_of.payload in
    let longer : strings c.push.new.self ≡ strings c.loop-index.payloads ++ payload.bytes ∷ [] =
    ap strings c.in-Ok-push.ensures.ok ∙ strings_append c.loop-index.payloads (payload ∷ []) in
    rw add-one
    (subst (λ (l : List (List ℕ)). IsChecked first list (suc c.loop-index.index) c.apply.new.self l) (sym longer)
    (checked_more first list c.loop-index.index c.loop-index.store (strings c.loop-index.payloads) c.loop-index.invariant c.index-list-index.result c.loop-index-test.true (sym c.index-list-index.is)
    c.apply.new.self payload.bytes c.requires.few c.in-Ok.ensures.permitted c.in-Ok.ensures.ok c.in-Ok-payload_of.ensures.spells c.in-Ok-payload_of.ensures.read c.in-Ok-payload_of.ensures.well_formed))
