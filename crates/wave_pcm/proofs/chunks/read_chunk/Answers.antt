use Rattle.std.proofs.Common.{rules, ◌≡◌, ◌+◌, length, refl, subst, sym}
use Rattle.std.specs.Prelude.{IfSome, Option}
use Rattle.samples.specs.jack_types.specs.declared.files.Format.{Format}
use Rattle.samples.specs.session_model.specs.WaveOpening.{step}
use Rattle.wave_pcm.specs.Steps.{met}
use Rattle.wave_pcm.proofs.ChunkLemmas.{step_data, step_format, step_pass, takes, takes_pass}
use Rattle.wave_pcm.proofs.chunks.read_chunk.Goals as goal

pub returns-then-is_data-clause-step : goal.returns-then-is_data-clause-step
returns-then-is_data-clause-step g c =
    let whole = rw c.in-Some.is at c.in_ok-head.ensures.whole in
    λ _. step_data c.args.read c.u32_at-size.result c.args.found _ _ c.in-Some.head c.at_data.result whole.0 whole.1 c.u32_at-size.ensures (sym c.if-is_data.ensures) c.at_data.ensures.data c.at_data.ensures.none

pub returns-then-is_first_format-clause-step : goal.returns-then-is_first_format-clause-step
returns-then-is_first_format-clause-step g c =
    let whole = rw c.in-Some.is at c.in_ok-head.ensures.whole in
    let first = c.if-is_first_format.ensures.first (search rules) in
    λ good. subst (λ (f : Option Format). IfSome (g.S.Source.left c.args.source.now) (λ bytes. step (c.args.read + length bytes) f bytes ≡ met c.read_first_format.result bytes)) (sym first.0)
    (step_format c.args.read c.u32_at-size.result (g.S.Source.left c.args.source.now) (g.S.Source.left c.read_head.new.source) c.in-Some.head c.read_first_format.result whole.0 whole.1 c.u32_at-size.ensures (sym c.if-is_data.ensures) first.1
    c.read_first_format.ensures.chunk c.read_first_format.ensures.ends good)

pub returns-then-is_first_format-clause-taken : goal.returns-then-is_first_format-clause-taken
returns-then-is_first_format-clause-taken g c =
    let whole = rw c.in-Some.is at c.in_ok-head.ensures.whole in
    takes _ _ _ c.in-Some.head c.u32_at-size.result c.read_first_format.result whole.0 whole.1 c.read_first_format.ensures.taken

pub returns-clause-step : goal.returns-clause-step
returns-clause-step g c =
    let whole = rw c.in-Some.is at c.in_ok-head.ensures.whole in
    λ good. step_pass c.args.read c.u32_at-size.result c.args.found (g.S.Source.left c.args.source.now) (g.S.Source.left c.read_head.new.source) (g.S.Source.left c.pass.new.source) c.in-Some.head c.pass.result whole.0 whole.1 c.u32_at-size.ensures (sym c.if-is_data.ensures)
    (c.if-is_first_format.ensures.other refl) c.pass.ensures.chunk c.pass.ensures.taken c.pass.ensures.ends good

pub returns-clause-taken : goal.returns-clause-taken
returns-clause-taken g c =
    let whole = rw c.in-Some.is at c.in_ok-head.ensures.whole in
    takes_pass _ _ _ c.in-Some.head c.u32_at-size.result c.args.found c.pass.result whole.0 whole.1 c.pass.ensures.chunk c.pass.ensures.taken
