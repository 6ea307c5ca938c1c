use Rattle.std.proofs.Common.{◌≡◌, ℕ, Option, Some, None, length, is_some, true, true≢false, sym, ◌∙◌, ap, arith, refl}
use Rattle.std.proofs.lemmas.List.{get_or_default}
use Rattle.jack_types.specs.declared.ports.Client.{Client}
use Rattle.port_registry.specs.Registered.{open_clients, system_entry}
use Rattle.midi_seats.specs.Seating.{midi_code}
use Rattle.midi_seats.proofs.KnownLemmas.{kind-is, length-nodes}
use Rattle.midi_stage.proofs.stage.has_midi.Goals as goal

some-code : (o : Option ℕ) → is_some o ≡ true → (code : ℕ) × (o ≡ Some code)
some-code None e = absurd (true≢false (sym e))
some-code (Some code) e = (code, refl)

pub returns-then-is_some-clause-short : goal.returns-then-is_some-clause-short
returns-then-is_some-clause-short c e =
    let w = some-code c.code_of.result (sym c.is_some.ensures ∙ c.if-is_some.true) in
    record {
      n = c.loop-client.client-index;
      within = (let many : length (open_clients c.args.nodes.now) ≡ length c.args.nodes.now = length-nodes c.args.nodes.now in omega (arith, c.loop-client-test.true, many));
      code = w.0;
      kind = ap midi_code (kind-is c.args.nodes.now c.loop-client.client-index c.loop-client-test.true)
          ∙ ap (λ (client : Client). midi_code client.kind) (sym (c.client-item.is ∙ get_or_default c.args.nodes.now c.loop-client.client-index c.client-item.result system_entry c.loop-client-test.true))
          ∙ sym c.code_of.ensures ∙ w.1;
      none = refl;
    }
