use Rattle.std.proofs.Common.{◌≡◌, ◌∙◌, sym, ap}
use Rattle.std.specs.Prelude.{is_none}
use Rattle.jack_types.specs.declared.scripts.Header.{Header}
use Rattle.session_model.specs.Scripts.{Script}
use Rattle.script_segments.specs.Segments.{segments}
use Rattle.session_ends.proofs.OpeningLemmas.{passed-on}
use Rattle.session_run.proofs.ModeLemmas.{none-is}
use Rattle.session_run.proofs.session.Session.new.Goals as goal

pub returns-in_err-parts-clause-back : goal.returns-in_err-parts-clause-back
returns-in_err-parts-clause-back g c = passed-on c.from_residual.result c.in_err-parts.field-0.0 (λ refused. (refused.0 ≡ c.args.capture) × (refused.1.items ≡ c.args.disks.items)) c.from_residual.ensures.1 c.in_err-parts.ensures.back

pub invariant_of-result : goal.invariant_of-result
invariant_of-result g c = (
  c.in-Ok.ensures ∙ ap segments (sym script_is),
  ap (λ (h : Header). h.ring) header_is,
  ap (λ (h : Header). h.drain) header_is,
  ap (λ (h : Header). h.fill) header_is,
  none-is c.header-header.result.threads c.is_none.result c.is_none.ensures ∙ ap (λ (h : Header). is_none h.threads) header_is,
)
  where
    script_is : c.in_ok-parts.parts.gear.script ≡ c.args.script.now
    script_is = c.in_ok-parts.ensures.script

    header_is : c.header-header.result ≡ c.in_ok-parts.parts.gear.script.header
    header_is = c.header-header.ensures.value ∙ ap (λ (s : Script). s.header) (sym script_is)
