use Rattle.std.proofs.Common.{◌≡◌, ◌≤◌, ◌++◌, ◌-◌, ◌^◌, min, List, refl, ap, subst, arith}
use Rattle.rnv_base.specs.Buffer.{Buffer}
use Rattle.rnv_journal.specs.File.{end_of, counted}
use Rattle.rnv_journal.specs.Found.{strings}
use Rattle.rnv_journal.specs.Held.{Held, IsTooLong}
use Rattle.rnv_journal.proofs.Held.{held_none, counted_append, too_long, not_long}
use Rattle.rnv_journal.proofs.journal.Journal.prepare.Goals as goal

pub invariant_of-self : goal.invariant_of-self
invariant_of-self c = held_none _ _ _ _ _ _ c.self.invariant c.new.ensures.items

pub invariant_of-self-then-length-self : goal.invariant_of-self-then-length-self
invariant_of-self-then-length-self c = held_none _ _ _ _ _ _ c.self.invariant c.new.ensures.items

pub returns-then-length-self-clause-full : goal.returns-then-length-self-clause-full
returns-then-length-self-clause-full c n m =
    let entries = strings c.self.inside.entries.items in
    let list = strings c.args.list in
    let same : end_of (strings c.as_slice.result.now) ≡ end_of list = ap (λ (l : List Buffer). end_of (strings l)) c.as_slice.ensures in
    let length_is : c.length_after-length.result ≡ min (counted (entries ++ list)) (2 ^ 64 - 1) = omega (arith, c.length_after-length.ensures, same, counted_append entries list, c.self.invariant.place) in
    let long : IsTooLong c.args.self.now list c.length_after-length.result c.self.inside.limit = subst (λ (h : Held). IsTooLong h list c.length_after-length.result c.self.inside.limit) c.self.view_is (record {
      not_closed = c.if-self.false;
      above = omega (arith, c.if-length-self.true, length_is);
      length_is = length_is;
      limit_is = refl;
    }) in
    too_long c.args.self.now list c.length_after-length.result c.self.inside.limit n m long

pub make_room-requires-clause-within : goal.make_room-requires-clause-within
make_room-requires-clause-within c =
    let entries = strings c.self.inside.entries.items in
    let list = strings c.args.list in
    let same : end_of (strings c.as_slice.result.now) ≡ end_of list = ap (λ (l : List Buffer). end_of (strings l)) c.as_slice.ensures in
    omega (arith, c.if-length-self.false, c.length_after-length.ensures, same, counted_append entries list, c.self.invariant.place, c.self.invariant.small)

pub returns-in-Ok-clause-within : goal.returns-in-Ok-clause-within
returns-in-Ok-clause-within c =
    let entries = strings c.self.inside.entries.items in
    let list = strings c.args.list in
    let same : end_of (strings c.as_slice.result.now) ≡ end_of list = ap (λ (l : List Buffer). end_of (strings l)) c.as_slice.ensures in
    let within : counted (entries ++ list) ≤ c.self.inside.limit = omega (arith, c.if-length-self.false, c.length_after-length.ensures, same, counted_append entries list, c.self.invariant.place, c.self.invariant.small) in
    subst (λ (h : Held). counted (h.entries ++ list) ≤ h.limit) c.self.view_is within

pub returns-in-Ok-clause-full : goal.returns-in-Ok-clause-full
returns-in-Ok-clause-full c n m =
    let entries = strings c.self.inside.entries.items in
    let list = strings c.args.list in
    let same : end_of (strings c.as_slice.result.now) ≡ end_of list = ap (λ (l : List Buffer). end_of (strings l)) c.as_slice.ensures in
    let within : counted (entries ++ list) ≤ c.self.inside.limit = omega (arith, c.if-length-self.false, c.length_after-length.ensures, same, counted_append entries list, c.self.invariant.place, c.self.invariant.small) in
    not_long c.args.self.now list _ n m (subst (λ (h : Held). counted (h.entries ++ list) ≤ h.limit) c.self.view_is within) (λ e. cc)

pub returns-in-Err-clause-full : goal.returns-in-Err-clause-full
returns-in-Err-clause-full c n m =
    let entries = strings c.self.inside.entries.items in
    let list = strings c.args.list in
    let same : end_of (strings c.as_slice.result.now) ≡ end_of list = ap (λ (l : List Buffer). end_of (strings l)) c.as_slice.ensures in
    let within : counted (entries ++ list) ≤ c.self.inside.limit = omega (arith, c.if-length-self.false, c.length_after-length.ensures, same, counted_append entries list, c.self.invariant.place, c.self.invariant.small) in
    not_long c.args.self.now list _ n m (subst (λ (h : Held). counted (h.entries ++ list) ≤ h.limit) c.self.view_is within) (λ e. cc)
