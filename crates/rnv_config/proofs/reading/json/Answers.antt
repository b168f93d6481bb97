use Rattle.std.proofs.Common.{sym}
use Rattle.rnv_config.proofs.Bytes.{json-read, json-refused}
use Rattle.rnv_config.proofs.reading.json.Goals as goal

pub returns-in-Ok : goal.returns-in-Ok
returns-in-Ok c = sym (json-read _ _ c.in-Ok.ensures.ok.0 c.in-Ok.ensures.ok.1)

pub returns-else-is_memory : goal.returns-else-is_memory
returns-else-is_memory c = sym (json-refused _ (c.in-Err.ensures.err (λ memory. let yes = c.is_memory.ensures.1 memory in absurd (cc))))
