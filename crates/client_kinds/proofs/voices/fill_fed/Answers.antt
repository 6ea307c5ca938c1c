use Rattle.std.proofs.Common.{◌+◌, ◌*◌, ◌≤◌, ◌∙◌, ap, length, map, mul_comm, subst, sym, arith}
use Rattle.std.proofs.Math.Nat.{mul-le-mul_right}
use Rattle.port_mixer.specs.session_model.specs.Samples.{below, sample}
use Rattle.client_kinds.proofs.BufferLemmas.{channel_front}
use Rattle.client_kinds.proofs.voices.fill_fed.Goals as goal

pub fill_channel-requires-clause-block : goal.fill_channel-requires-clause-block
fill_channel-requires-clause-block c =
    let more : length c.args.part.now * c.args.channels ≤ c.args.period * c.args.channels = mul-le-mul_right c.args.channels c.requires.part in
    subst (λ n. length c.args.part.now * n ≤ length c.args.block.now) (sym c.from-then-place-from.ensures) (omega (arith, more, c.requires.block, mul_comm c.args.channels c.args.period))

pub returns-then-place-from : goal.returns-then-place-from
returns-then-place-from c =
    c.fill_channel.ensures
    ∙ ap (λ n. map (λ i. sample c.args.block.now (i * n + c.args.place)) (below (length c.args.part.now))) c.from-then-place-from.ensures
    ∙ channel_front c.args.place c.args.channels c.args.period (length c.args.part.now) c.args.block.now c.requires.part (omega (arith, c.if-place-from.true, c.from.ensures))
