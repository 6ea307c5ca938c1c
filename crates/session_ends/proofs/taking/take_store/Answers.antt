use Rattle.std.proofs.Common.{◌≡◌, ◌∙◌, List, [], ◌∷◌, map, None, sym, ap}
use Rattle.std.specs.Option.{option_map}
use Rattle.std.proofs.lemmas.Option.{IfSome_then}
use Rattle.session_works.specs.Drivers.{Gear}
use Rattle.recorder_files.specs.Recorders.{Recording, Stored}
use Rattle.session_works.specs.Insides.{parts_of}
use Rattle.session_works.specs.Parts.{Parts, stores_in}
use Rattle.session_ends.specs.Takings.{stores_of}
use Rattle.session_ends.proofs.TakeLemmas.{ended-stays, if-none, report-stays, stores-rest}
use Rattle.session_ends.proofs.taking.take_store.Goals as goal

pub returns-in-Some-clause-report : goal.returns-in-Some-clause-report
returns-in-Some-clause-report g c = report-stays g.G.Guest.sound c.args.parts.now after gear (ap (λ (p : Parts). p.desk) c.parts.view_is) (ap (λ (p : Parts). map (λ (r : Recording). r.getting) p.recorders) c.parts.view_is) (ap (λ (p : Parts). map (λ (r : Recording). r.blocks) p.recorders) c.parts.view_is) (ap (λ (p : Parts). p.players) c.parts.view_is)
  where
    after : Parts
    after = record (parts_of {S = g.row.S.Denot} {W = g.row.W.Denot} {G = g.row.G.Denot} c.parts.inside.works) { gear = c.close-file.new.self; recorders = c.parts.inside.works.recorders.items; playback = option_map {T = g.row.W.Denot} {U = Stored} (λ w. record { name = g.W.Store.name w; bytes = g.W.Store.content w; faults = g.W.Store.faults w }) c.take-store.new.self; attached = c.parts.inside.attached }

    gear : after.gear ≡ record c.args.parts.now.gear { playback = None }
    gear = c.close-file.ensures.after ∙ ap (λ (p : Parts). record p.gear { playback = None }) c.parts.view_is

pub returns-in-Some-clause-ended : goal.returns-in-Some-clause-ended
returns-in-Some-clause-ended g c = ended-stays g.G.Guest.sound c.args.parts.now after gear (ap (λ (p : Parts). p.desk) c.parts.view_is) (ap (λ (p : Parts). map (λ (r : Recording). r.getting) p.recorders) c.parts.view_is) (ap (λ (p : Parts). map (λ (r : Recording). r.blocks) p.recorders) c.parts.view_is) (ap (λ (p : Parts). p.players) c.parts.view_is)
  where
    after : Parts
    after = record (parts_of {S = g.row.S.Denot} {W = g.row.W.Denot} {G = g.row.G.Denot} c.parts.inside.works) { gear = c.close-file.new.self; recorders = c.parts.inside.works.recorders.items; playback = option_map {T = g.row.W.Denot} {U = Stored} (λ w. record { name = g.W.Store.name w; bytes = g.W.Store.content w; faults = g.W.Store.faults w }) c.take-store.new.self; attached = c.parts.inside.attached }

    gear : after.gear ≡ record c.args.parts.now.gear { playback = None }
    gear = c.close-file.ensures.after ∙ ap (λ (p : Parts). record p.gear { playback = None }) c.parts.view_is

pub returns-in-Some-store-clause-report : goal.returns-in-Some-store-clause-report
returns-in-Some-store-clause-report g c = report-stays g.G.Guest.sound c.args.parts.now after gear (ap (λ (p : Parts). p.desk) c.parts.view_is) (ap (λ (p : Parts). map (λ (r : Recording). r.getting) p.recorders) c.parts.view_is) (ap (λ (p : Parts). map (λ (r : Recording). r.blocks) p.recorders) c.parts.view_is) (ap (λ (p : Parts). p.players) c.parts.view_is)
  where
    after : Parts
    after = record (parts_of {S = g.row.S.Denot} {W = g.row.W.Denot} {G = g.row.G.Denot} c.parts.inside.works) { gear = c.close-file.new.self; recorders = c.parts.inside.works.recorders.items; playback = option_map {T = g.row.W.Denot} {U = Stored} (λ w. record { name = g.W.Store.name w; bytes = g.W.Store.content w; faults = g.W.Store.faults w }) c.take-store.new.self; attached = c.parts.inside.attached }

    gear : after.gear ≡ record c.args.parts.now.gear { playback = None }
    gear = c.close-file.ensures.after ∙ ap (λ (p : Parts). record p.gear { playback = None }) c.parts.view_is

pub returns-in-Some-store-clause-ended : goal.returns-in-Some-store-clause-ended
returns-in-Some-store-clause-ended g c = ended-stays g.G.Guest.sound c.args.parts.now after gear (ap (λ (p : Parts). p.desk) c.parts.view_is) (ap (λ (p : Parts). map (λ (r : Recording). r.getting) p.recorders) c.parts.view_is) (ap (λ (p : Parts). map (λ (r : Recording). r.blocks) p.recorders) c.parts.view_is) (ap (λ (p : Parts). p.players) c.parts.view_is)
  where
    after : Parts
    after = record (parts_of {S = g.row.S.Denot} {W = g.row.W.Denot} {G = g.row.G.Denot} c.parts.inside.works) { gear = c.close-file.new.self; recorders = c.parts.inside.works.recorders.items; playback = option_map {T = g.row.W.Denot} {U = Stored} (λ w. record { name = g.W.Store.name w; bytes = g.W.Store.content w; faults = g.W.Store.faults w }) c.take-store.new.self; attached = c.parts.inside.attached }

    gear : after.gear ≡ record c.args.parts.now.gear { playback = None }
    gear = c.close-file.ensures.after ∙ ap (λ (p : Parts). record p.gear { playback = None }) c.parts.view_is

pub returns-clause-report : goal.returns-clause-report
returns-clause-report g c = report-stays g.G.Guest.sound c.args.parts.now after gear (ap (λ (p : Parts). p.desk) c.parts.view_is) (c.take_recorded.ensures.getting ∙ ap (λ (p : Parts). map (λ (r : Recording). r.getting) p.recorders) c.parts.view_is) (c.take_recorded.ensures.blocks ∙ ap (λ (p : Parts). map (λ (r : Recording). r.blocks) p.recorders) c.parts.view_is) (ap (λ (p : Parts). p.players) c.parts.view_is)
  where
    after : Parts
    after = record (parts_of {S = g.row.S.Denot} {W = g.row.W.Denot} {G = g.row.G.Denot} c.parts.inside.works) { gear = c.close-file.new.self; recorders = c.take_recorded.new.recorders.items; playback = option_map {T = g.row.W.Denot} {U = Stored} (λ w. record { name = g.W.Store.name w; bytes = g.W.Store.content w; faults = g.W.Store.faults w }) c.take-store.new.self; attached = c.parts.inside.attached }

    gear : after.gear ≡ record c.args.parts.now.gear { playback = None }
    gear = c.close-file.ensures.after ∙ ap (λ (p : Parts). record p.gear { playback = None }) c.parts.view_is

pub returns-clause-ended : goal.returns-clause-ended
returns-clause-ended g c = ended-stays g.G.Guest.sound c.args.parts.now after gear (ap (λ (p : Parts). p.desk) c.parts.view_is) (c.take_recorded.ensures.getting ∙ ap (λ (p : Parts). map (λ (r : Recording). r.getting) p.recorders) c.parts.view_is) (c.take_recorded.ensures.blocks ∙ ap (λ (p : Parts). map (λ (r : Recording). r.blocks) p.recorders) c.parts.view_is) (ap (λ (p : Parts). p.players) c.parts.view_is)
  where
    after : Parts
    after = record (parts_of {S = g.row.S.Denot} {W = g.row.W.Denot} {G = g.row.G.Denot} c.parts.inside.works) { gear = c.close-file.new.self; recorders = c.take_recorded.new.recorders.items; playback = option_map {T = g.row.W.Denot} {U = Stored} (λ w. record { name = g.W.Store.name w; bytes = g.W.Store.content w; faults = g.W.Store.faults w }) c.take-store.new.self; attached = c.parts.inside.attached }

    gear : after.gear ≡ record c.args.parts.now.gear { playback = None }
    gear = c.close-file.ensures.after ∙ ap (λ (p : Parts). record p.gear { playback = None }) c.parts.view_is

pub returns-clause-taken : goal.returns-clause-taken
returns-clause-taken g c = IfSome_then c.take_recorded.result c.take_recorded.ensures.taken
    (λ w first. before_rest ∙ first ∙ ap (λ (rest : List Stored). record { name = g.W.Store.name w; bytes = g.W.Store.content w; faults = g.W.Store.faults w } ∷ rest) (sym after_rest))
  where
    after : Parts
    after = record (parts_of {S = g.row.S.Denot} {W = g.row.W.Denot} {G = g.row.G.Denot} c.parts.inside.works) { gear = c.close-file.new.self; recorders = c.take_recorded.new.recorders.items; playback = option_map {T = g.row.W.Denot} {U = Stored} (λ w. record { name = g.W.Store.name w; bytes = g.W.Store.content w; faults = g.W.Store.faults w }) c.take-store.new.self; attached = c.parts.inside.attached }

    gear : after.gear ≡ record c.args.parts.now.gear { playback = None }
    gear = c.close-file.ensures.after ∙ ap (λ (p : Parts). record p.gear { playback = None }) c.parts.view_is

    before_rest : stores_in c.args.parts.now ≡ stores_of c.parts.inside.works.recorders.items
    before_rest =
        stores-rest c.args.parts.now (ap (λ (p : Parts). p.playback) (sym c.parts.view_is) ∙ ap (option_map {T = g.row.W.Denot} {U = Stored} (λ w. record { name = g.W.Store.name w; bytes = g.W.Store.content w; faults = g.W.Store.faults w })) (sym c.take-store.ensures.value ∙ c.in_default-store.is))
        (ap (λ (p : Parts). p.gear.playback) (sym c.parts.view_is) ∙ sym c.close-file.ensures.file ∙ c.in_default.is)
        ∙ ap (λ (p : Parts). stores_of p.recorders) (sym c.parts.view_is)

    after_rest : stores_in after ≡ stores_of c.take_recorded.new.recorders.items
    after_rest = stores-rest after (ap (option_map {T = g.row.W.Denot} {U = Stored} (λ w. record { name = g.W.Store.name w; bytes = g.W.Store.content w; faults = g.W.Store.faults w })) c.take-store.ensures.after) (ap (λ (d : Gear). d.playback) gear)

pub returns-clause-none : goal.returns-clause-none
returns-clause-none g c =
    if-none c.take_recorded.result ((stores_of c.parts.inside.works.recorders.items ≡ []) × (stores_of c.take_recorded.new.recorders.items ≡ [])) ((stores_in c.args.parts.now ≡ []) × (stores_in after ≡ []))
    (λ none. (before_rest ∙ none.0, after_rest ∙ none.1)) c.take_recorded.ensures.none
  where
    after : Parts
    after = record (parts_of {S = g.row.S.Denot} {W = g.row.W.Denot} {G = g.row.G.Denot} c.parts.inside.works) { gear = c.close-file.new.self; recorders = c.take_recorded.new.recorders.items; playback = option_map {T = g.row.W.Denot} {U = Stored} (λ w. record { name = g.W.Store.name w; bytes = g.W.Store.content w; faults = g.W.Store.faults w }) c.take-store.new.self; attached = c.parts.inside.attached }

    gear : after.gear ≡ record c.args.parts.now.gear { playback = None }
    gear = c.close-file.ensures.after ∙ ap (λ (p : Parts). record p.gear { playback = None }) c.parts.view_is

    before_rest : stores_in c.args.parts.now ≡ stores_of c.parts.inside.works.recorders.items
    before_rest =
        stores-rest c.args.parts.now (ap (λ (p : Parts). p.playback) (sym c.parts.view_is) ∙ ap (option_map {T = g.row.W.Denot} {U = Stored} (λ w. record { name = g.W.Store.name w; bytes = g.W.Store.content w; faults = g.W.Store.faults w })) (sym c.take-store.ensures.value ∙ c.in_default-store.is))
        (ap (λ (p : Parts). p.gear.playback) (sym c.parts.view_is) ∙ sym c.close-file.ensures.file ∙ c.in_default.is)
        ∙ ap (λ (p : Parts). stores_of p.recorders) (sym c.parts.view_is)

    after_rest : stores_in after ≡ stores_of c.take_recorded.new.recorders.items
    after_rest = stores-rest after (ap (option_map {T = g.row.W.Denot} {U = Stored} (λ w. record { name = g.W.Store.name w; bytes = g.W.Store.content w; faults = g.W.Store.faults w })) c.take-store.ensures.after) (ap (λ (d : Gear). d.playback) gear)
