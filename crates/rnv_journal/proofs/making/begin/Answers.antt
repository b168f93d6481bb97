use Rattle.std.proofs.Common.{◌≡◌, ◌≢◌, ℕ, List, [], ◌∷◌, take, rules, subst, sym, ap, ◌∙◌}
use Rattle.std.proofs.lemmas.Result.{on_ok_weaker}
use Rattle.rnv_disk.specs.Images.{put}
use Rattle.rnv_journal.specs.File.{IsBegun}
use Rattle.rnv_journal.proofs.Changed.{begun_of, put_zero}
use Rattle.rnv_journal.proofs.Keeps.{beginning_keeps}
use Rattle.rnv_journal.proofs.Ones.{one_self}
use Rattle.rnv_journal.proofs.making.begin.Goals as goal

pub returns-then-starts_with_zero-clause-seen : goal.returns-then-starts_with_zero-clause-seen
returns-then-starts_with_zero-clause-seen g c t =
    let first : take 1 c.args.bytes.now ≡ 0 ∷ [] = search rules in
    subst IsBegun (sym (c.requires.bytes t)) (begun_of c.args.bytes.now c.requires.making first)

pub returns-then-starts_with_zero-clause-begun : goal.returns-then-starts_with_zero-clause-begun
returns-then-starts_with_zero-clause-begun g c =
    let first : take 1 c.args.bytes.now ≡ 0 ∷ [] = search rules in
    (c.args.bytes.now, begun_of c.args.bytes.now c.requires.making first, c.requires.durable)

pub returns-clause-any_moment : goal.returns-clause-any_moment
returns-clause-any_moment g c limit enough =
    let first : take 1 c.args.bytes.now ≢ 0 ∷ [] = search rules in
    beginning_keeps limit _ _ c.args.bytes.now enough c.requires.durable c.requires.making (λ begun. first begun.first) c.write_synced.ensures.stops

pub returns-clause-seen : goal.returns-clause-seen
returns-clause-seen g c t =
    let bytes = c.args.bytes.now in
    let old = ap (λ (l : List ℕ). put 0 (0 ∷ []) l) (c.requires.bytes t) in
    on_ok_weaker c.write_synced.result (λ on. subst IsBegun (sym (on.here ∙ old)) (put_zero bytes c.requires.making)) (c.write_synced.ensures.written t)

pub returns-clause-begun : goal.returns-clause-begun
returns-clause-begun g c =
    let bytes = c.args.bytes.now in
    on_ok_weaker c.write_synced.result (λ writes. (put 0 (0 ∷ []) bytes, put_zero bytes c.requires.making, writes bytes c.requires.durable)) c.write_synced.ensures.kept

pub returns-then-starts_with_zero-clause-other : goal.returns-then-starts_with_zero-clause-other
returns-then-starts_with_zero-clause-other g c = one_self _
