use Rattle.std.proofs.Common.{◌<◌, ◌∙◌, ap, length, rules, sym}
use Rattle.session_works.specs.Parts.{Parts, session_of}
use Rattle.session_works.specs.RunWords.{text_in}
use Rattle.session_ends.proofs.TakeLemmas.{removed-first}
use Rattle.session_ends.proofs.taking.take_disk.Goals as goal

pub returns-clause-taken : goal.returns-clause-taken
returns-clause-taken g c =
    let some : 0 < length c.parts.inside.works.readers.items = search rules in (
      c.remove-reader.result,
      sym (ap (λ (p : Parts). p.players) c.parts.view_is) ∙ removed-first c.parts.inside.works.readers.items c.remove-reader.new.self.items c.remove-reader.result some c.remove-reader.ensures.value c.remove-reader.ensures.items,
      c.into_source.ensures,
    )

pub returns-clause-report : goal.returns-clause-report
returns-clause-report g c = ap (λ (p : Parts). text_in (session_of g.G.Guest.sound p)) c.parts.view_is

pub returns-clause-same : goal.returns-clause-same
returns-clause-same g c = ap (λ (p : Parts). record p { players = c.remove-reader.new.self.items }) c.parts.view_is
