-- Where no memory was found, none of the piece stands there.
use Rattle.std.proofs.Common.{◌≤◌, length, arith, refl, rules}
use Rattle.std.proofs.lemmas.Grind.{common_steps}
use Rattle.file_stores.proofs.memory_stream.MemoryStreamStream.run.Goals as goal

pub spread-requires : goal.spread-requires
spread-requires c =
    let within : c.args.self.now.at ≤ length c.args.self.now.bytes.items = c.requires (c.args.self.now.at, c.args.self.now.bytes.items) refl in
    search (rules, within)

pub returns-then-is_err-clause-bytes : goal.returns-then-is_err-clause-bytes
returns-then-is_err-clause-bytes c = (0, omega arith, grind (arith, common_steps))
