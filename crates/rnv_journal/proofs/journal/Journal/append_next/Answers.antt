use Rattle.std.proofs.Common.{◌≡◌, ◌∙◌, get_or, sym, ap, subst, rules, arith}
use Rattle.rnv_journal.specs.File.{end_of}
use Rattle.rnv_journal.specs.Held.{Held}
use Rattle.rnv_journal.specs.Readings.{IsAtRest}
use Rattle.rnv_journal.proofs.Held.{end_small, append_reads, append_rests}
use Rattle.rnv_journal.proofs.Appends.{rest_within}
use Rattle.rnv_journal.proofs.journal.Journal.append_next.Goals as goal

pub append_line-requires-clause-small : goal.append_line-requires-clause-small
append_line-requires-clause-small g c = end_small _ _ _ _ _ c.self.invariant

pub append_line-requires-clause-place : goal.append_line-requires-clause-place
append_line-requires-clause-place g c t =
    let rest = c.requires.at_rest (sym (ap (λ (h : Held). h.closed) c.self.view_is) ∙ c.if-self.false) in
    omega (arith, c.self.invariant.place, ap (λ (h : Held). end_of h.entries) c.self.view_is, rest_within _ _ _ _ rest (g.met.D.Disk.reads_now c.args.disk.now t))

pub returns-in-Ok-clause-any_moment : goal.returns-in-Ok-clause-any_moment
returns-in-Ok-clause-any_moment g c opened =
    let is : c.index.result.now ≡ get_or c.self.inside.prepared.items 0 c.index.result.now = search rules in
    append_reads _ _ _ _ _ _ _ _ _ _ _ c.self.view_is c.self.invariant c.requires.prepared is c.as_slice.ensures c.requires.at_rest c.if-self.false c.append_line.ensures.any_moment

pub returns-in-Ok-clause-at_rest : goal.returns-in-Ok-clause-at_rest
returns-in-Ok-clause-at_rest g c =
    let is : c.index.result.now ≡ get_or c.self.inside.prepared.items 0 c.index.result.now = search rules in
    let rest = append_rests _ _ _ _ _ _ _ _ _ _ _ c.self.view_is c.self.invariant c.requires.prepared is c.as_slice.ensures c.requires.at_rest c.if-self.false c.in-Ok.ensures.at_rest in
    let new = g.D.Disk.past c.append_line.new.disk in
    subst (λ (h : Held). IsAtRest c.args.self.now.limit new h.entries) (sym c.take_next.ensures) rest

pub returns-in-Err-clause-any_moment : goal.returns-in-Err-clause-any_moment
returns-in-Err-clause-any_moment g c opened =
    let is : c.index.result.now ≡ get_or c.self.inside.prepared.items 0 c.index.result.now = search rules in
    append_reads _ _ _ _ _ _ _ _ _ _ _ c.self.view_is c.self.invariant c.requires.prepared is c.as_slice.ensures c.requires.at_rest c.if-self.false c.append_line.ensures.any_moment
