use Rattle.rnv_base.proofs.Civils.{parts_read, same_text}
use Rattle.rnv_base.proofs.civil.Civil.written.Goals as goal

pub returns : goal.returns
returns c =
    λ at e.
    let parts = parts_read at c.args.text.now _ _ _ _ _ _ _ e c.two_at.ensures.value c.two_at-2.ensures.value c.two_at-3.ensures.value c.two_at-4.ensures.value c.two_at-hour.ensures.value c.two_at-minute.ensures.value c.two_at-second.ensures.value in
    let found = c.in_ok-date.ensures.parts in
    same_text c.in_ok-date.date at _ _ _ _ _ _ found.0 found.1 found.2 parts
