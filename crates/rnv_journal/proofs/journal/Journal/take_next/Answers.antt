use Rattle.std.proofs.Common.{◌+◌, ℕ, List, ◌∷◌, length, sym, ap, subst, arith}
use Rattle.std.specs.Vec.{vec_capacity}
use Rattle.rnv_base.specs.Buffer.{Buffer}
use Rattle.rnv_journal.specs.declared.line.Line.{Line}
use Rattle.rnv_journal.specs.Held.{IsHeld}
use Rattle.rnv_journal.proofs.Held.{held_next, end_small}
use Rattle.rnv_journal.proofs.journal.Journal.take_next.Goals as goal

pub overflow_add-self-in-Some : goal.overflow_add-self-in-Some
overflow_add-self-in-Some c =
    let j = c.self.inside in
    let line = c.in-Some.line in
    let held : IsHeld j.entries.items (vec_capacity j.entries) (line ∷ c.pop_front.new.self.items) j.limit j.end =
    subst (λ (l : List Line). IsHeld j.entries.items (vec_capacity j.entries) l j.limit j.end) c.in-Some.ensures.items c.self.invariant in
    omega (arith, end_small _ _ _ _ _ (held_next _ _ line _ _ _ held), ap length c.as_slice.ensures)

pub invariant_of-self : goal.invariant_of-self
invariant_of-self c =
    let j = c.self.inside in
    let line = c.in-Some.line in
    let more = c.pop_front.new.self.items in
    let entries = c.push_reserved.new.self in
    let held : IsHeld j.entries.items (vec_capacity j.entries) (line ∷ more) j.limit j.end =
    subst (λ (l : List Line). IsHeld j.entries.items (vec_capacity j.entries) l j.limit j.end) c.in-Some.ensures.items c.self.invariant in
    let next = held_next j.entries.items (vec_capacity j.entries) line more j.limit j.end held in
    subst (λ (n : ℕ). IsHeld entries.items (vec_capacity entries) more j.limit (j.end + (5 + n))) (sym (ap length c.as_slice.ensures))
    (subst (λ (n : ℕ). IsHeld entries.items n more j.limit (j.end + (5 + length line.payload.bytes))) (sym c.push_reserved.ensures.capacity)
    (subst (λ (l : List Buffer). IsHeld l (vec_capacity j.entries) more j.limit (j.end + (5 + length line.payload.bytes))) (sym c.push_reserved.ensures.items) next))
