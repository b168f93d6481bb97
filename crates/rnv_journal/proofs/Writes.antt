-- A write of file `Zero`, over time.
use Rattle.std.proofs.Common.{ℕ, List, refl, arith}
use Rattle.rnv_disk.specs.declared.device.FileNo.TheVariants.{Zero}
use Rattle.rnv_disk.specs.Images.{On, Torn}
use Rattle.rnv_disk.specs.Stops.{Past, Elapses, LeavesOnly}
use Rattle.rnv_disk.proofs.Moments.{started, goes_on}
use Rattle.rnv_journal.specs.Readings.{IsTornFrom}

torn_self : (at n : ℕ) (old : List ℕ) → Torn at n old old
torn_self at n old = record { before = refl; after = refl; no_shorter = omega arith; no_longer = omega arith }

-- at any moment of a write the range is torn, and no more
pub write_torn : (old new : Past) (at n : ℕ) → Elapses (On Zero (Torn at n)) old new → LeavesOnly old new (IsTornFrom old at n)
write_torn old new at n time = goes_on old old new (IsTornFrom old at n) (On Zero (Torn at n))
    (started old (IsTornFrom old at n) (λ c left. record { image = c; left = left; torn = record { here = torn_self at n c.zero; there = refl } }))
    time (λ d c left was step. record { image = d; left = left; torn = step })
