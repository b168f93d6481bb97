-- For the layers above, which name lists of writes alone: how what is said of stops goes on.
use Rattle.std.proofs.Common.{ℕ, List, map, refl, inl, arith}
use Rattle.std.specs.List.{AllByRecursion}
use Rattle.rnv_disk.specs.Stops.{Past}
use Rattle.rnv_repo.specs.declared.write.Write.{Write}
use Rattle.rnv_repo.specs.WellFormed.{IsWellFormed}
use Rattle.rnv_journal.specs.Readings.{IsAtRest, KeepsOne}
use Rattle.rnv_journal.proofs.Uses.{reads_first, reads_then, reads_weaker, rest_reads}
use Rattle.rnv_spelling.specs.Spelling.{spelling}
use Rattle.rnv_forge.specs.Forge.{IsSamePast, LeavesWrites, SpellSome}

module _ (limit : ℕ) where
  -- what holds of the writes that a stop leaves may be said more weakly
  pub leaves_weaker : (old new : Past) (P Q : List Write → Type 0) → ((ws : List Write) → P ws → Q ws) → LeavesWrites limit old new P → LeavesWrites limit old new Q
  leaves_weaker old new P Q weaker run =
      reads_weaker limit old new (SpellSome P) (SpellSome Q) (λ list some. record { writes = some.writes; spelled = some.spelled; each = weaker some.writes some.each }) run

  -- one run after another
  pub leaves_then : (old mid new : Past) (P : List Write → Type 0) → LeavesWrites limit old mid P → LeavesWrites limit mid new P → LeavesWrites limit old new P
  leaves_then old mid new P one two = reads_then limit old mid new (SpellSome P) one two

  -- before the first call, at rest at writes
  pub rest_leaves : (past : Past) (ws : List Write) (P : List Write → Type 0) → AllByRecursion IsWellFormed ws → IsAtRest limit past (map spelling ws) → P ws → LeavesWrites limit past past P
  rest_leaves past ws P fits rest here =
      reads_first limit past (SpellSome P)
      (rest_reads limit past (map spelling ws) (SpellSome P) rest (record { writes = ws; spelled = record { spells = refl; well_formed = fits }; each = here }))

-- a call that does nothing to its disk
pub same_past : (past : Past) → IsSamePast past past
same_past past = record { moment = refl; left = λ t c. (λ left. left, λ left. left) }

-- the past is the same, so file `One` is left alone
pub same_keeps : (old new : Past) → IsSamePast old new → KeepsOne old new
same_keeps old new same = record {
  later = omega (arith, same.moment);
  each = λ c left. record { image = c; left = (same.left old.moment c).0 left; same = refl };
  before = λ t c le left. inl ((same.left t c).0 left);
}
