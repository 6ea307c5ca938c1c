use Rattle.std.proofs.Common.{string_bytes, Some}
use Rattle.host_memory.proofs.ListedLemmas.{bytes_under_updates}
use Rattle.host_memory.proofs.memory_host.put_file.Goals as goal

pub returns-clause-ok : goal.returns-clause-ok
returns-clause-ok c = λ other.
    rw (← c.in_ok-key.ensures.ok, ← c.in_ok-value.ensures.items)
    (bytes_under_updates (string_bytes c.in_ok-key.key) c.args.files.now c.insert.new.self (Some c.in_ok-value.value) c.in_ok-insert.ensures.updates other)
