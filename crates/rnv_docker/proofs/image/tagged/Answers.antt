use Rattle.std.proofs.Common.{◌≡◌, ℕ, suc, ◌+◌, List, take, drop, sym, ap, subst, ◌∙◌, arith}
use Rattle.std.specs.List.{list_all}
use Rattle.std.proofs.lemmas.Grind.{common_steps}
use Rattle.rnv_docker.specs.Images.{is_plain_byte}
use Rattle.rnv_docker.specs.Read.{IsColon}
use Rattle.rnv_docker.proofs.Images.{tagged-some, tagged-unplain, tagged-untagged, behind-colon, drop-suc}
use Rattle.rnv_docker.proofs.image.tagged.Goals as goal
use Rattle.rnv_docker.proofs.image.tagged.Goals.{else-are_plain-via-then-are_plain+else-is_tag, else-are_plain-via-else-are_plain}

pub range_from-tag-requires : goal.range_from-tag-requires
range_from-tag-requires c = λ _.
    behind-colon c.args.image.now c.in_ok-at.at c.utf8.image (subst (λ (l : List ℕ). IsColon l c.in_ok-at.at) c.as_bytes.ensures.value c.in_ok-at.ensures.colon)

pub returns-then-is_tag-clause-gives : goal.returns-then-is_tag-clause-gives
returns-then-is_tag-clause-gives c =
    let colon = subst (λ (l : List ℕ). IsColon l c.in_ok-at.at) c.as_bytes.ensures.value c.in_ok-at.ensures.colon in
    let within = colon.within in
    let name : c.range-name.result.now ≡ take c.in_ok-at.at c.args.image.now = grind (arith, common_steps) in
    let tag : c.range_from-tag.result.now ≡ drop (suc c.in_ok-at.at) c.args.image.now = drop-suc c.args.image.now c.range_from-tag.result.now c.in_ok-at.at c.range_from-tag.ensures.value in
    tagged-some c.args.image.now c.range-name.result.now c.range_from-tag.result.now c.in_ok-at.at colon name tag
    (ap (list_all is_plain_byte) (sym c.as_bytes-2.ensures.value) ∙ (sym c.are_plain.ensures ∙ c.if-are_plain.true))
    (sym c.is_tag.ensures ∙ c.if-is_tag.true)

pub returns-else-are_plain-clause-gives : goal.returns-else-are_plain-clause-gives
returns-else-are_plain-clause-gives c =
    let colon = subst (λ (l : List ℕ). IsColon l c.in_ok-at.at) c.as_bytes.ensures.value c.in_ok-at.ensures.colon in
    let within = colon.within in
    let tag : c.range_from-tag.result.now ≡ drop (suc c.in_ok-at.at) c.args.image.now = drop-suc c.args.image.now c.range_from-tag.result.now c.in_ok-at.at c.range_from-tag.ensures.value in
    elim c.else-are_plain.branch [
      | else-are_plain-via-then-are_plain+else-is_tag w ↦ tagged-untagged c.args.image.now c.range_from-tag.result.now c.in_ok-at.at colon tag (sym w.is_tag.ensures ∙ w.if-is_tag.false)
      | else-are_plain-via-else-are_plain w ↦ tagged-unplain c.args.image.now (ap (list_all is_plain_byte) (sym c.as_bytes-2.ensures.value) ∙ (sym c.are_plain.ensures ∙ w.if-are_plain.false))
    ]
