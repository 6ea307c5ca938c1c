use Rattle.std.proofs.Common.{None, sym, ◌∙◌, ap, subst}
use Rattle.jack_types.specs.declared.scripts.Header.{Header}
use Rattle.session_model.specs.Grammar.{IsScript}
use Rattle.session_model.specs.Scripts.{Script}
use Rattle.driver_laws.specs.Drivers.{greatest_period}
use Rattle.cycle_works.specs.Gears.{with_playback}
use Rattle.cycle_driver.proofs.opening.around.Goals as goal

pub invariant_of-result : goal.invariant_of-result
invariant_of-result g c = record {
  lawful = subst IsScript (sym c.requires.script) c.requires.lawful;
  channels = c.requires.mix.0 ∙ ap (λ (s : Script). s.header.playback) (sym c.requires.script);
  room = c.requires.mix.1 ∙ ap greatest_period (sym c.requires.script);
  format = ap (λ (h : Header). record { rate = h.rate; channels = h.playback; bits = h.bits }) (c.header-header.ensures.value ∙ ap (λ (s : Script). s.header) (sym c.requires.script));
  file = λ sound. tt;
}

pub returns : goal.returns
returns g c = ap (with_playback c.args.works) (sym c.requires.playback)
