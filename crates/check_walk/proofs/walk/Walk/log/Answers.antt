use Rattle.std.proofs.Common.{◌≡◌, [], length, sym, ◌∙◌, ap, subst}
use Rattle.std.specs.Option.{option_map_or}
use Rattle.session_model.specs.Cycles.{memory}
use Rattle.session_model.specs.Kinds.{Memory}
use Rattle.driver_laws.specs.Drivers.{run}
use Rattle.check_walk.specs.Insides.{seen_of}
use Rattle.check_walk.specs.Walkings.{GoesAlong, Walking, driver_in}
use Rattle.check_walk.proofs.StepLemmas.{log-at}
use Rattle.check_walk.proofs.walk.Walk.log.Goals as goal

pub returns-clause-so_far : goal.returns-clause-so_far
returns-clause-so_far g c course along =
    log-at g.G.Guest.sound (seen_of {S = g.row.S.Denot} {G = g.row.G.Denot} c.self.inside) course c.args.birth c.log.result.now c.log.ensures.value (subst (λ walking. GoesAlong g.G.Guest.sound course walking) (sym c.self.view_is) along)
    ∙ ap (λ (walking : Walking). option_map_or (λ (kept : Memory). kept.log) (memory course (run (driver_in g.G.Guest.sound walking)) c.args.birth) []) c.self.view_is

pub returns-clause-last : goal.returns-clause-last
returns-clause-last g c course along all =
    log-at g.G.Guest.sound (seen_of {S = g.row.S.Denot} {G = g.row.G.Denot} c.self.inside) course c.args.birth c.log.result.now c.log.ensures.value (subst (λ walking. GoesAlong g.G.Guest.sound course walking) (sym c.self.view_is) along)
    ∙ ap (λ (walking : Walking). option_map_or (λ (kept : Memory). kept.log) (memory course (run (driver_in g.G.Guest.sound walking)) c.args.birth) []) c.self.view_is
    ∙ ap (λ n. option_map_or (λ (kept : Memory). kept.log) (memory course n c.args.birth) []) all
