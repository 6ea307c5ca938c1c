-- A refused growth leaves the bytes as they were: none of the piece stands there.
use Rattle.std.proofs.Common.{arith}
use Rattle.std.proofs.lemmas.Grind.{common_steps}
use Rattle.host_memory.proofs.memory_store.MemoryStoreStore.write_at.Goals as goal

pub returns-then-is_err-clause-bytes : goal.returns-then-is_err-clause-bytes
returns-then-is_err-clause-bytes c = (0, omega arith, grind (arith, common_steps))

pub returns-then-is_refused-clause-bytes : goal.returns-then-is_refused-clause-bytes
returns-then-is_refused-clause-bytes c = (0, omega arith, grind (arith, common_steps))
