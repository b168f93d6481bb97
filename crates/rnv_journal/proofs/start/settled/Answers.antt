use Rattle.std.proofs.Common.{List, length, arith, subst, sym, ap}
use Rattle.rnv_base.specs.Buffer.{Buffer}
use Rattle.rnv_journal.specs.declared.reading.Reading.{Reading}
use Rattle.rnv_journal.specs.Found.{strings, IsEnded, IsReadFrom}
use Rattle.rnv_journal.specs.Readings.{IsAtRest}
use Rattle.rnv_journal.proofs.Steps.{one_of, end_within}
use Rattle.rnv_journal.proofs.start.settled.Goals as goal

pub close-requires : goal.close-requires
close-requires g c =
    let found : IsEnded c.args.limit c.args.bytes.now c.in-Ok-Entries.entries c.in-Ok-Entries.end c.in-Ok-Entries.gate =
    subst (λ (reading : Reading). IsReadFrom c.args.limit c.args.bytes.now reading) c.in-Ok-Entries.field-0-is c.in-Ok-Entries.ensures.read in
    let within = end_within c.args.limit c.args.bytes.now _ c.in-Ok-Entries.gate found.rest found.image in
    record { place = λ t. omega (arith, within, found.place, ap length (c.requires.bytes t)) }

pub returns-in-Ok-clause-at_rest : goal.returns-in-Ok-clause-at_rest
returns-in-Ok-clause-at_rest g c =
    subst (λ (found : List Buffer). IsAtRest c.args.limit (g.D.Disk.past c.make.new.disk) (strings found)) (sym c.empty.ensures) (c.in-Ok.ensures.at_rest c.args.limit c.requires.limit)

pub returns-in-Ok-close-clause-any_moment : goal.returns-in-Ok-close-clause-any_moment
returns-in-Ok-close-clause-any_moment g c =
    let found : IsEnded c.args.limit c.args.bytes.now c.in-Ok-Entries.entries c.in-Ok-Entries.end c.in-Ok-Entries.gate =
    subst (λ (reading : Reading). IsReadFrom c.args.limit c.args.bytes.now reading) c.in-Ok-Entries.field-0-is c.in-Ok-Entries.ensures.read in
    let one = one_of c.args.limit (g.D.Disk.past c.args.disk.now) c.args.bytes.now _ c.in-Ok-Entries.gate found.rest c.requires.durable found.image in
    c.close.ensures.any_moment c.args.limit (strings c.in-Ok-Entries.entries) found.place one

pub returns-in-Ok-close-clause-at_rest : goal.returns-in-Ok-close-clause-at_rest
returns-in-Ok-close-clause-at_rest g c =
    let found : IsEnded c.args.limit c.args.bytes.now c.in-Ok-Entries.entries c.in-Ok-Entries.end c.in-Ok-Entries.gate =
    subst (λ (reading : Reading). IsReadFrom c.args.limit c.args.bytes.now reading) c.in-Ok-Entries.field-0-is c.in-Ok-Entries.ensures.read in
    let one = one_of c.args.limit (g.D.Disk.past c.args.disk.now) c.args.bytes.now _ c.in-Ok-Entries.gate found.rest c.requires.durable found.image in
    c.in-Ok-close.ensures.at_rest c.args.limit (strings c.in-Ok-Entries.entries) found.place one

pub returns-in-Err-close-clause-any_moment : goal.returns-in-Err-close-clause-any_moment
returns-in-Err-close-clause-any_moment g c =
    let found : IsEnded c.args.limit c.args.bytes.now c.in-Ok-Entries.entries c.in-Ok-Entries.end c.in-Ok-Entries.gate =
    subst (λ (reading : Reading). IsReadFrom c.args.limit c.args.bytes.now reading) c.in-Ok-Entries.field-0-is c.in-Ok-Entries.ensures.read in
    let one = one_of c.args.limit (g.D.Disk.past c.args.disk.now) c.args.bytes.now _ c.in-Ok-Entries.gate found.rest c.requires.durable found.image in
    c.close.ensures.any_moment c.args.limit (strings c.in-Ok-Entries.entries) found.place one

pub returns-in-Ok-clause-any_moment : goal.returns-in-Ok-clause-any_moment
returns-in-Ok-clause-any_moment g c = c.make.ensures.any_moment c.args.limit c.requires.limit

pub returns-in-Err-clause-any_moment : goal.returns-in-Err-clause-any_moment
returns-in-Err-clause-any_moment g c = c.make.ensures.any_moment c.args.limit c.requires.limit
