use Rattle.std.proofs.Common.{rules, Some}
use Rattle.host_memory.proofs.ListedLemmas.{bytes_under_updates, bytes_under_listed}
use Rattle.host_memory.proofs.memory_host.keep.Goals as goal

pub returns-in-Some : goal.returns-in-Some
returns-in-Some c =
    bytes_under_updates c.args.name.now c.args.files.now (c.get_mut.follows.lender c.args.bytes) (Some c.args.bytes)
    ((c.get_mut.follows.holds c.args.bytes).3 (search rules))

pub returns-in_default : goal.returns-in_default
returns-in_default c =
    let named = rw (bytes_under_listed c.args.files.now.entries c.args.name.now) at c.requires in
    let none = c.in_default.ensures.value in
    absurd (let impossible = rw (← none) at named in cc)
