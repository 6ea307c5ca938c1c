use Rattle.std.proofs.Common.{◌≡◌, [], map, None, refl, sym, ◌∙◌, ap, subst}
use Rattle.driver_laws.specs.Drivers.{greatest_period}
use Rattle.driver_words.specs.Feeding.{Fed}
use Rattle.graph_word.specs.Publications.{IsOpening as IsPublication, Reading}
use Rattle.session_model.specs.Scripts.{Script}
use Rattle.session_works.specs.DeskWords.{base_of}
use Rattle.session_works.specs.Drivers.{Gear}
use Rattle.session_works.specs.Parts.{stores_in}
use Rattle.session_works.specs.RunWords.{Playing}
use Rattle.session_works.specs.Standings.{IsAttaching}
use Rattle.session_ends.specs.Readers.{AreReaders}
use Rattle.wave_pcm.specs.Readings.{Reading as Wave}
use Rattle.session_ends.proofs.OpeningLemmas.{IsAttaching-opened, IsOpened, no-stores, players-told}
use Rattle.session_ends.proofs.opening.open.Goals as goal

pub returns-in-Ok-make_recorders-clause-new : goal.returns-in-Ok-make_recorders-clause-new
returns-in-Ok-make_recorders-clause-new g c =
    let desk = c.in-Ok.opened.0 in
    let gear = c.in-Ok-new.driver in
    let made = c.in-Ok-make_recorders.recorders.items in
    let players = c.make_readers-readers.result.items in
    let out = c.make_recorders.new.driver.rings.out in
    let puts = c.make_readers-readers.new.driver.disks.out in
    let opened : IsOpened g.G.Guest.sound c.args.script.now _ desk gear made c.args.disks.items players = record {
      lawful = c.requires.lawful;
      desk_is = c.in-Ok.ensures.desk;
      desk_kept = c.in-Ok.ensures.kept;
      opening = subst (λ (r : Reading). IsPublication (base_of c.args.script.now) desk.publishing r) (sym c.in-Ok-new.ensures.reader) c.in-Ok.ensures.opening;
      new = c.in-Ok-new.ensures.new;
      period = _;
      losses = _;
      rings = c.in-Ok-new.ensures.rings;
      formats = c.in-Ok-make_recorders.ensures.formats;
      bare_made = c.in-Ok-make_recorders.ensures.bare;
      over = c.in-Ok-make_recorders.ensures.pairs;
      misses = _;
      feeds = c.in-Ok-new.ensures.disks;
      files = c.requires.disks;
      long = c.in-Ok-make_room.ensures.period;
      readers = subst (λ (f : Fed). AreReaders c.args.script.now.header.ring (greatest_period c.args.script.now) f c.args.disks.items players) (ap (λ (g : Gear). g.disks) c.make_recorders.ensures.driver) c.make_readers-readers.ensures.made;
    } in
    let own = subst (λ (s : Script). IsOpened g.G.Guest.sound s (map g.G.Guest.sound (map g.G.Guest.score c.args.guests.items)) desk gear made c.args.disks.items players) (sym c.in-Ok-new.ensures.new.script_is) opened in
    let gear_is : c.make_readers-readers.new.driver ≡ record gear { rings = record gear.rings { out = out }; disks = record gear.disks { out = puts } } =
    c.make_readers-readers.ensures.driver ∙ ap (λ (g : Gear). record g { disks = record g.disks { out = puts } }) c.make_recorders.ensures.driver in (
      subst (λ (seen : Gear). IsAttaching g.G.Guest.sound (record { desk = desk; gear = seen; recorders = made; players = players; playback = None; attached = 0 })) (sym gear_is)
          (IsAttaching-opened g.G.Guest.sound _ desk gear made c.args.disks.items players out puts own),
      refl,
      subst (λ (seen : Gear). stores_in (record { desk = desk; gear = seen; recorders = made; players = players; playback = None; attached = 0 }) ≡ []) (sym gear_is)
          (no-stores g.G.Guest.sound _ desk gear made c.args.disks.items players out puts own),
    )

pub returns-in-Ok-make_recorders-clause-players : goal.returns-in-Ok-make_recorders-clause-players
returns-in-Ok-make_recorders-clause-players g c =
    let are = c.make_readers-readers.ensures.made in (
      players-told (λ (p : Playing). p.left) (λ (w : Wave). w.left) c.args.disks.items c.make_readers-readers.result.items are.as_many (λ k w p a b. let one = are.each k w p a b in ap (λ (p : Playing). p.left) one.player_is),
      players-told (λ (p : Playing). p.faults) (λ (w : Wave). w.faults) c.args.disks.items c.make_readers-readers.result.items are.as_many (λ k w p a b. let one = are.each k w p a b in ap (λ (p : Playing). p.faults) one.player_is),
    )
