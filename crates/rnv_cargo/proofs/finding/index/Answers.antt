use Rattle.std.proofs.Common.{◌-◌, ◌∙◌, ap, arith, sym, option_map, string_bytes}
use Rattle.std.specs.BTreeMap.{get_by_text}
use Rattle.std.proofs.lemmas.Map.Text.{btree_map_updates_text}
use Rattle.rnv_cargo.proofs.Index.{set_first, skip_first, place-is}
use Rattle.rnv_cargo.proofs.finding.index.Goals as goal

pub loop-at-preserved-in_ok-insert : goal.loop-at-preserved-in_ok-insert
loop-at-preserved-in_ok-insert c = record {
  within = omega (arith, c.loop-at.invariant.within);
  told = λ key.
      set_first c.args.spots.now key (string_bytes c.in-Some.key) c.loop-at.at (c.loop-at.at - 1) c.spot_at-spot.result.now
      (get_by_text c.loop-at.index key) (get_by_text c.insert.new.self key)
      (omega (arith, c.loop-at-test.true)) c.loop-at.invariant.within (place-is c.args.spots.now (c.loop-at.at - 1) c.spot_at-spot.result.now c.spot_at-spot.ensures) (sym c.in_ok-key.ensures ∙ ap (option_map string_bytes) c.in-Some.is)
      (btree_map_updates_text (string_bytes c.in-Some.key) c.loop-at.index c.insert.new.self _ c.in_ok-insert.ensures.updates key)
      (c.loop-at.invariant.told key);
}

pub loop-at-preserved : goal.loop-at-preserved
loop-at-preserved c = record {
  within = omega (arith, c.loop-at.invariant.within);
  told = λ key. skip_first c.args.spots.now key c.loop-at.at (c.loop-at.at - 1) c.spot_at-spot.result.now (get_by_text c.loop-at.index key) (omega (arith, c.loop-at-test.true)) c.loop-at.invariant.within (place-is c.args.spots.now (c.loop-at.at - 1) c.spot_at-spot.result.now c.spot_at-spot.ensures) (sym c.in_ok-key.ensures ∙ ap (option_map string_bytes) c.in_default.is) (c.loop-at.invariant.told key);
}
