use Rattle.std.proofs.Common.{arith, sym}
use Rattle.std.proofs.lemmas.Grind.{common_steps}
use Rattle.rnv_package_json.specs.Read.{quoted}
use Rattle.rnv_package_json.proofs.Strings.{is_quoted, starts, ends, in_order, between, has_room}
use Rattle.rnv_package_json.proofs.text.quoted.Goals as goal

pub range-requires-clause-start_le_end : goal.range-requires-clause-start_le_end
range-requires-clause-start_le_end c =
    in_order c.args.file.now c.args.bytes.now c.in_ok-inside.inside.now c.in_ok-rest.rest.now c.requires (is_quoted _ _ _ _ (sym c.in_ok-inside.ensures.value) (sym c.in_ok-rest.ensures.value))

pub range-requires-clause-start_boundary : goal.range-requires-clause-start_boundary
range-requires-clause-start_boundary c = λ _.
    starts c.args.file.now c.args.bytes.now c.in_ok-inside.inside.now c.in_ok-rest.rest.now c.utf8.file c.requires (is_quoted _ _ _ _ (sym c.in_ok-inside.ensures.value) (sym c.in_ok-rest.ensures.value))

pub range-requires-clause-end_boundary : goal.range-requires-clause-end_boundary
range-requires-clause-end_boundary c =
    ends c.args.file.now c.args.bytes.now c.in_ok-inside.inside.now c.in_ok-rest.rest.now c.requires (is_quoted _ _ _ _ (sym c.in_ok-inside.ensures.value) (sym c.in_ok-rest.ensures.value))

pub returns-clause-value : goal.returns-clause-value
unfolding quoted
returns-clause-value c =
    let e = between c.args.file.now c.args.bytes.now c.in_ok-inside.inside.now c.in_ok-rest.rest.now c.requires (is_quoted _ _ _ _ (sym c.in_ok-inside.ensures.value) (sym c.in_ok-rest.ensures.value)) in
    grind (arith, common_steps)

pub returns-clause-room : goal.returns-clause-room
returns-clause-room c =
    let e = has_room c.args.file.now c.args.bytes.now c.in_ok-inside.inside.now c.in_ok-rest.rest.now c.requires (is_quoted _ _ _ _ (sym c.in_ok-inside.ensures.value) (sym c.in_ok-rest.ensures.value)) in
    grind (arith, common_steps)
