use Rattle.std.proofs.Common.{rules, ◌≡◌, ◌∷◌, get_or, drop, arith}
use Rattle.rnv_journal.proofs.Founds.{found_image}
use Rattle.rnv_journal.proofs.reading.read_entries.Goals as goal

pub returns-in-len1-up-clause-read : goal.returns-in-len1-up-clause-read
returns-in-len1-up-clause-read c =
    let rest = c.in-Ok.found.rest.now in
    let is : rest ≡ get_or rest 0 0 ∷ drop 1 rest = search rules in
    record {
      rest = drop 1 rest;
      image = found_image c.args.limit c.args.bytes.now c.in-Ok.found.entries rest (drop 1 rest) c.in-Ok.found.room (get_or rest 0 0) c.in-Ok.ensures.found is
          c.if-gate-ne1.true c.if-room-gt0.true;
      place = omega (arith, c.in-Ok.ensures.found.room_left);
    }
