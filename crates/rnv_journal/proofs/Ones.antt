-- Calls that leave file `One` alone.
use Rattle.std.proofs.Common.{ℕ, refl, ◌∙◌}
use Rattle.rnv_disk.specs.Images.{Image}
use Rattle.rnv_disk.specs.Stops.{Past, LeftNow, LeavesOnly}
use Rattle.rnv_disk.proofs.Moments.{started, joined, widened, ended}
use Rattle.rnv_journal.specs.Readings.{HasOneOf, IsTornFrom, KeepsOne}

itself : (past : Past) (c : Image) → LeftNow past c → HasOneOf past c
itself past c left = record { image = c; left = left; same = refl }

-- a call that does nothing
pub one_self : (past : Past) → KeepsOne past past
one_self past = started past (HasOneOf past) (itself past)

module _ (old new : Past) where
  -- a run at whose every moment a stop leaves what it could have left before
  pub one_left : LeavesOnly old new (LeftNow old) → KeepsOne old new
  one_left run = widened old new (LeftNow old) (HasOneOf old) (itself old) run

  -- a write into file `Zero`
  pub one_torn : (at n : ℕ) → LeavesOnly old new (IsTornFrom old at n) → KeepsOne old new
  one_torn at n run = widened old new (IsTornFrom old at n) (HasOneOf old) (λ c torn. record { image = torn.image; left = torn.left; same = torn.torn.there }) run

-- one run after another
pub one_then : (old mid new : Past) → KeepsOne old mid → KeepsOne mid new → KeepsOne old new
one_then old mid new one two = joined old mid new (HasOneOf old) one (widened mid new (HasOneOf mid) (HasOneOf old) back two)
  where
    back : (c : Image) → HasOneOf mid c → HasOneOf old c
    back c has =
        let first = ended old mid (HasOneOf old) one has.image has.left in
        record { image = first.image; left = first.left; same = has.same ∙ first.same }
