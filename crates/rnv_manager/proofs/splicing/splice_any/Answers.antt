use Rattle.std.proofs.Common.{◌∙◌, [], map, arith}
use Rattle.std.proofs.lemmas.List.{length-map}
use Rattle.rnv_manager.proofs.Spans.{turn, turn-lent, gap-of, room-for-text, room-left, put-together}
use Rattle.rnv_manager.proofs.splicing.splice_any.Goals as goal

pub slice_bounds-add-end : goal.slice_bounds-add-end
slice_bounds-add-end g c =
    let t = turn c.args.file.now c.loop-i.at c.args.spans.now (map g.T.AsStr.text c.args.texts.now) c.loop-i.i (record { start = 0; end = 0 }) [] c.loop-i-test.true (length-map c.args.texts.now g.T.AsStr.text ∙ c.requires.many) c.loop-i.invariant.apart in
    let from = t.from in
    let to = t.to in
    let within = t.within in
    omega arith

pub add-requires-in-loop-i : goal.add-requires-in-loop-i
add-requires-in-loop-i g c =
    let t = turn-lent g.T.AsStr.text c.args.file.now c.loop-i.at c.args.spans.now c.args.texts.now c.loop-i.i (record { start = 0; end = 0 }) _ _ c.loop-i-test.true c.requires.many c.loop-i.invariant.apart c.index-texts-i.is (c.as_bytes.ensures.value ∙ c.as_str.ensures) in
    let is = gap-of c.args.file.now c.as_bytes-bytes.result.now _ _ _ _ _ _ t c.as_bytes-bytes.ensures.value in
    room-for-text _ _ _ _ _ _ is c.loop-i.invariant.room c.add.ensures.spare

pub loop-i-preserved : goal.loop-i-preserved
loop-i-preserved g c =
    let t = turn-lent g.T.AsStr.text c.args.file.now c.loop-i.at c.args.spans.now c.args.texts.now c.loop-i.i (record { start = 0; end = 0 }) _ _ c.loop-i-test.true c.requires.many c.loop-i.invariant.apart c.index-texts-i.is (c.as_bytes.ensures.value ∙ c.as_str.ensures) in
    let is = gap-of c.args.file.now c.as_bytes-bytes.result.now _ _ _ _ _ _ t c.as_bytes-bytes.ensures.value in
    record {
      apart = t.others;
      room = room-left _ _ _ _ _ _ _ is c.loop-i.invariant.room c.add.ensures.spare c.add-in-loop-i.ensures.spare;
      done = put-together _ _ _ _ _ _ _ _ is c.loop-i.invariant.done c.add.ensures.bytes c.add-in-loop-i.ensures.bytes;
    }
