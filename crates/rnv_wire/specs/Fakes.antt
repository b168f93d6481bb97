-- What the fakes in memory are made of.
use Rattle.std.specs.Prelude.{ℕ, List}
use Rattle.rnv_base.specs.Turns.{Turns}
use Rattle.rnv_wire.specs.Wire.{Wire}

-- the bytes that are left, the calls that fail, and how often one has failed
pub record FakeSource : Type 0 where
  pub left : List ℕ
  pub turns : Turns
  pub faults : ℕ

-- the connections, how many bytes the one that stands takes before it has to grow, and how often an
-- accept, and a read or a write, has failed
pub record FakeListener : Type 0 where
  pub wire : Wire
  pub room : ℕ
  pub accept_faults : ℕ
  pub faults : ℕ

-- the same, and the calls that fail
pub record FailingListener : Type 0 where
  pub listener : FakeListener
  pub turns : Turns
