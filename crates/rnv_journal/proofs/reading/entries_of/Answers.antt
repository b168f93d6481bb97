use Rattle.std.proofs.Common.{rules, ◌≡◌, ◌++◌, ◌∷◌, [], ◌-◌, ◌+◌, List, ℕ, length, sym, ap, subst}
use Rattle.rnv_base.specs.Buffer.{Buffer}
use Rattle.rnv_journal.specs.Found.{IsEntry, IsFound}
use Rattle.rnv_journal.proofs.Founds.{found_more}
use Rattle.rnv_journal.proofs.reading.entries_of.Goals as goal

pub loop-payload-preserved : goal.loop-payload-preserved
loop-payload-preserved c =
    let rest = c.loop-payload.rest.now in
    let room = c.loop-payload.room in
    let behind = c.in-Some.behind.now in
    let string = c.new.result in
    let same : string.bytes ≡ c.in-Some.payload.now = search rules in
    let pushed : c.push.new.self ≡ c.loop-payload.entries ++ string ∷ [] = search rules in
    let entry = subst (λ (p : List ℕ). IsEntry rest room p behind) (sym same) c.in-Some.ensures.whole in
    let more = found_more c.args.limit c.args.bytes.now c.loop-payload.entries rest behind room string c.loop-payload.invariant entry in
    let room_is = ap (λ (p : List ℕ). room - (length p + 5)) same in
    let counted = subst (λ (n : ℕ). IsFound c.args.limit c.args.bytes.now (c.loop-payload.entries ++ string ∷ []) behind n) room_is more in
    subst (λ (found : List Buffer). IsFound c.args.limit c.args.bytes.now found behind (room - (length c.in-Some.payload.now + 5))) (sym pushed) counted
