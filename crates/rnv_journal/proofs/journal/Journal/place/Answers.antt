use Rattle.std.proofs.Common.{◌≡◌, List, take, ap, ◌∙◌, rules, arith}
use Rattle.rnv_base.specs.Buffer.{Buffer}
use Rattle.rnv_journal.specs.Found.{strings}
use Rattle.rnv_journal.specs.Held.{Held}
use Rattle.rnv_journal.specs.File.{end_of}
use Rattle.rnv_journal.proofs.Places.{end_front, strings_take}
use Rattle.rnv_journal.proofs.journal.Journal.place.Goals as goal

pub end_behind-requires : goal.end_behind-requires
end_behind-requires c =
    let same : c.deref.result.now ≡ c.self.inside.entries.items = search rules in
    let all = ap (λ (l : List Buffer). end_of (strings (take c.args.index l))) same in
    omega (arith, all, end_front c.self.inside.entries.items c.args.index, c.self.invariant.place)

pub returns : goal.returns
returns c =
    let same : c.deref.result.now ≡ c.self.inside.entries.items = search rules in
    let taken : strings (take c.args.index c.deref.result.now) ≡ take c.args.index (strings c.self.inside.entries.items) =
    ap (λ (l : List Buffer). strings (take c.args.index l)) same ∙ strings_take c.self.inside.entries.items c.args.index in
    c.end_behind.ensures ∙ ap end_of taken ∙ ap (λ (h : Held). end_of (take c.args.index h.entries)) c.self.view_is
