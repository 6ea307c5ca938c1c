use Rattle.std.proofs.Common.{◌∙◌, List, IsNone, IsSome, ap, inr, length, refl, subst, sym}
use Rattle.session_model.specs.Scripts.{Script, phases}
use Rattle.session_model.specs.Serial.{serial}
use Rattle.wave_pcm.specs.Readings.{Reading, SameReading}
use Rattle.control_desk.specs.Desks.{Desk}
use Rattle.session_run.specs.Seen.{Gear, driver_of}
use Rattle.driver_laws.specs.Drivers.{run}
use Rattle.run_laws.specs.Runs.{AtPhase}
use Rattle.session_run.specs.Seen.{HasCome}
use Rattle.session_run.specs.Seen.{Playing, session_of, stores_in}
use Rattle.session_run.proofs.PassedLemmas.{at-err, at-ok}
use Rattle.session_run.proofs.PassedLemmas.{later-trans}
use Rattle.jack_control.specs.Openings.{AreFaultless}
use Rattle.jack_control.specs.Plays.{made_by}
use Rattle.jack_control.proofs.HandedLemmas.{err_of, ok_of}
use Rattle.jack_control.proofs.PlayingLemmas.{come-ended, cut-begun, cut-broken, cut-whole, explain-whole, faultless-later, given-made, made-all, made-behind, one-failed, out-behind, serial-whole, source-made, status-either, was-read, was-write}
use Rattle.jack_control.proofs.playing.perform.Goals as goal

pub returns-then-is_err-clause-made : goal.returns-then-is_err-clause-made
returns-then-is_err-clause-made g c =
    let cut = err_of c.make_files.result (sym c.if-is_err.ensures.value) c.make_files.ensures.cut in
    record { made = cut.0; out = cut.1; touches = cut.2; empties = c.make_files.ensures.empties }

pub returns-then-is_err-clause-write : goal.returns-then-is_err-clause-write
returns-then-is_err-clause-write g c e = err_of c.make_files.result (sym c.if-is_err.ensures.value) c.make_files.ensures.cause

pub run-session-requires-after_bounds : goal.run-session-requires-after_bounds
run-session-requires-after_bounds g c κs within =
    let made = ok_of c.make_files.result (sym c.if-is_err.ensures.value) c.make_files.ensures.made in
    (made.0, made.1)

pub returns-in-Err-clause-fault : goal.returns-in-Err-clause-fault
returns-in-Err-clause-fault g c = status-either c.in-Err.fault c.status_of.result c.status_of.ensures

pub returns-in-Err-clause-read : goal.returns-in-Err-clause-read
returns-in-Err-clause-read g c e =
    source-made c.args.session c.make_files.new.session c.run-session.result.0 c.make_files.ensures.same.gear c.make_files.ensures.same.players
    (c.run-session.ensures.read (was-read c.in-Err.fault c.status_of.result c.run-session.result.1 _ c.in-Err.is c.status_of.ensures refl e))

pub returns-in-Err-clause-write : goal.returns-in-Err-clause-write
returns-in-Err-clause-write g c e =
    inr (one-failed (stores_in c.make_files.new.session) (stores_in c.run-session.result.0) (c.run-session.ensures.write (was-write c.in-Err.fault c.status_of.result c.run-session.result.1 _ c.in-Err.is c.status_of.ensures refl e)))

pub returns-in-Err-end-clause-write : goal.returns-in-Err-end-clause-write
returns-in-Err-end-clause-write g c e = inr (one-failed (stores_in c.run-session.result.0) (stores_in c.end.new.self) (at-err c.end.result _ c.in-Err-end.is c.end.ensures.cause))

pub returns-then-is_err-clause-fronts : goal.returns-then-is_err-clause-fronts
returns-then-is_err-clause-fronts g c given is =
    cut-begun g.G.Guest.sound c.args.session c.make_files.new.session (stores_in c.make_files.new.session) c.requires.attaching.0 c.make_files.ensures.fronts c.make_files.ensures.same.desk c.make_files.ensures.same.gear given is

pub returns-in-Err-clause-fronts : goal.returns-in-Err-clause-fronts
returns-in-Err-clause-fronts g c given is =
    cut-broken g.G.Guest.sound (g.H.Host.files c.args.host.now) (g.H.Host.files c.make_files.new.host) (made_by c.args.names.now) c.args.names.now.records c.args.session c.make_files.new.session (made-all g.G.Guest.sound c.make_files.result (g.H.Host.files c.args.host.now) (g.H.Host.files c.make_files.new.host) (made_by c.args.names.now) c.args.names.now.records c.args.session c.make_files.new.session c.if-is_err.ensures.value refl c.make_files.ensures.made c.make_files.ensures.others c.make_files.ensures.empties c.requires.recorders c.make_files.ensures.same.as_many)
    c.run-session.result.0 c.run-session.ensures.stores c.run-session.ensures.recorders c.run-session.ensures.script given (is.own.script ∙ sym (ap (λ (gear : Gear). gear.script) c.make_files.ensures.same.gear))
    (λ serial. at-err c.run-session.result.1 _ c.in-Err.is (c.run-session.ensures.fault serial) given (given-made g.G.Guest.sound c.args.session c.make_files.new.session c.make_files.ensures.same.gear c.make_files.ensures.same.players given is))
    (λ threads.
    let far = at-err c.run-session.result.1 _ c.in-Err.is (c.run-session.ensures.so_far threads) in (
      subst (λ (s : Script). HasCome s c.run-session.result.0.desk.history c.run-session.result.0.gear.numbers) c.run-session.ensures.script (at-err c.run-session.result.1 _ c.in-Err.is (c.run-session.ensures.come threads)),
      far.0,
      far.1 given (given-made g.G.Guest.sound c.args.session c.make_files.new.session c.make_files.ensures.same.gear c.make_files.ensures.same.players given is),
    ))

pub returns-in-Err-clause-made : goal.returns-in-Err-clause-made
returns-in-Err-clause-made g c =
    made-behind g.G.Guest.sound (g.H.Host.files c.args.host.now) (g.H.Host.files c.make_files.new.host) (made_by c.args.names.now) c.args.names.now.records c.args.session c.make_files.new.session (made-all g.G.Guest.sound c.make_files.result (g.H.Host.files c.args.host.now) (g.H.Host.files c.make_files.new.host) (made_by c.args.names.now) c.args.names.now.records c.args.session c.make_files.new.session c.if-is_err.ensures.value refl c.make_files.ensures.made c.make_files.ensures.others c.make_files.ensures.empties c.requires.recorders c.make_files.ensures.same.as_many)
    c.run-session.result.0 c.run-session.ensures.stores c.run-session.ensures.recorders

pub returns-in-Err-end-clause-fronts : goal.returns-in-Err-end-clause-fronts
returns-in-Err-end-clause-fronts g c given is =
    let here = given-made g.G.Guest.sound c.args.session c.make_files.new.session c.make_files.ensures.same.gear c.make_files.ensures.same.players given is in
    cut-broken g.G.Guest.sound (g.H.Host.files c.args.host.now) (g.H.Host.files c.make_files.new.host) (made_by c.args.names.now) c.args.names.now.records c.args.session c.make_files.new.session (made-all g.G.Guest.sound c.make_files.result (g.H.Host.files c.args.host.now) (g.H.Host.files c.make_files.new.host) (made_by c.args.names.now) c.args.names.now.records c.args.session c.make_files.new.session c.if-is_err.ensures.value refl c.make_files.ensures.made c.make_files.ensures.others c.make_files.ensures.empties c.requires.recorders c.make_files.ensures.same.as_many)
    c.end.new.self (later-trans (stores_in c.make_files.new.session) (stores_in c.run-session.result.0) (stores_in c.end.new.self) c.run-session.ensures.stores c.end.ensures.stores) (c.end.ensures.recorders ∙ c.run-session.ensures.recorders) (c.end.ensures.script ∙ c.run-session.ensures.script) given (is.own.script ∙ sym (ap (λ (gear : Gear). gear.script) c.make_files.ensures.same.gear))
    (λ serial.
    at-err c.end.result _ c.in-Err-end.is (c.end.ensures.fault (subst (λ (s : Script). IsNone s.header.threads) (sym c.run-session.ensures.script) serial)) given
    (at-ok c.run-session.result.1 _ c.in_default.is (c.run-session.ensures.kept serial) given here))
    (λ threads. (
      come-ended g.G.Guest.sound c.make_files.new.session c.run-session.result.0 c.end.new.self c.run-session.ensures.script (at-ok c.run-session.result.1 _ c.in_default.is c.run-session.ensures.runs).lists (ap (λ (d : Desk). d.history) c.end.ensures.desk) c.end.ensures.numbers,
      run (driver_of g.G.Guest.sound c.run-session.result.0.gear),
      at-err c.end.result _ c.in-Err-end.is (c.end.ensures.so_far (subst (λ (s : Script). IsSome s.header.threads) (sym c.run-session.ensures.script) threads)) given
          (subst (λ (s : Script). AtPhase (session_of g.G.Guest.sound c.run-session.result.0) given (length (phases s))) (sym c.run-session.ensures.script) ((at-ok c.run-session.result.1 _ c.in_default.is c.run-session.ensures.runs).at_end given here)),
    ))

pub returns-in-Err-end-clause-made : goal.returns-in-Err-end-clause-made
returns-in-Err-end-clause-made g c =
    made-behind g.G.Guest.sound (g.H.Host.files c.args.host.now) (g.H.Host.files c.make_files.new.host) (made_by c.args.names.now) c.args.names.now.records c.args.session c.make_files.new.session (made-all g.G.Guest.sound c.make_files.result (g.H.Host.files c.args.host.now) (g.H.Host.files c.make_files.new.host) (made_by c.args.names.now) c.args.names.now.records c.args.session c.make_files.new.session c.if-is_err.ensures.value refl c.make_files.ensures.made c.make_files.ensures.others c.make_files.ensures.empties c.requires.recorders c.make_files.ensures.same.as_many)
    c.end.new.self (later-trans (stores_in c.make_files.new.session) (stores_in c.run-session.result.0) (stores_in c.end.new.self) c.run-session.ensures.stores c.end.ensures.stores) (c.end.ensures.recorders ∙ c.run-session.ensures.recorders)

pub returns-clause-explained : goal.returns-clause-explained
returns-clause-explained g c given is = explain-whole g.G.Guest.sound (g.H.Host.files c.args.host.now) (g.H.Host.files c.make_files.new.host) (made_by c.args.names.now) c.args.names.now.records c.args.session c.make_files.new.session (made-all g.G.Guest.sound c.make_files.result (g.H.Host.files c.args.host.now) (g.H.Host.files c.make_files.new.host) (made_by c.args.names.now) c.args.names.now.records c.args.session c.make_files.new.session c.if-is_err.ensures.value refl c.make_files.ensures.made c.make_files.ensures.others c.make_files.ensures.empties c.requires.recorders c.make_files.ensures.same.as_many) c.make_files.ensures.same.gear c.make_files.ensures.same.players c.run-session.result.0 c.end.new.self (at-ok c.run-session.result.1 _ c.in_default.is c.run-session.ensures.runs) c.in_default-end.ensures.ends c.in_default-end.ensures.told (later-trans (stores_in c.make_files.new.session) (stores_in c.run-session.result.0) (stores_in c.end.new.self) c.run-session.ensures.stores c.end.ensures.stores) (c.end.ensures.recorders ∙ c.run-session.ensures.recorders) c.end.ensures.script given is c.a_session_is_explained.ensures

pub returns-clause-serial : goal.returns-clause-serial
returns-clause-serial g c given is = serial-whole g.G.Guest.sound (g.H.Host.files c.args.host.now) (g.H.Host.files c.make_files.new.host) (made_by c.args.names.now) c.args.names.now.records c.args.session c.make_files.new.session (made-all g.G.Guest.sound c.make_files.result (g.H.Host.files c.args.host.now) (g.H.Host.files c.make_files.new.host) (made_by c.args.names.now) c.args.names.now.records c.args.session c.make_files.new.session c.if-is_err.ensures.value refl c.make_files.ensures.made c.make_files.ensures.others c.make_files.ensures.empties c.requires.recorders c.make_files.ensures.same.as_many) c.make_files.ensures.same.gear c.make_files.ensures.same.players c.run-session.result.0 c.end.new.self (at-ok c.run-session.result.1 _ c.in_default.is c.run-session.ensures.runs) c.in_default-end.ensures.ends c.in_default-end.ensures.told (later-trans (stores_in c.make_files.new.session) (stores_in c.run-session.result.0) (stores_in c.end.new.self) c.run-session.ensures.stores c.end.ensures.stores) (c.end.ensures.recorders ∙ c.run-session.ensures.recorders) c.end.ensures.script given is

pub returns-clause-whole : goal.returns-clause-whole
returns-clause-whole g c =
    out-behind (g.H.Host.files c.make_files.new.host) (made_by c.args.names.now) (stores_in c.make_files.new.session) (stores_in c.end.new.self)
    (made-all g.G.Guest.sound c.make_files.result (g.H.Host.files c.args.host.now) (g.H.Host.files c.make_files.new.host) (made_by c.args.names.now) c.args.names.now.records c.args.session c.make_files.new.session c.if-is_err.ensures.value refl c.make_files.ensures.made c.make_files.ensures.others c.make_files.ensures.empties c.requires.recorders c.make_files.ensures.same.as_many).out
    (later-trans (stores_in c.make_files.new.session) (stores_in c.run-session.result.0) (stores_in c.end.new.self) c.run-session.ensures.stores c.end.ensures.stores)

pub returns-clause-fronts : goal.returns-clause-fronts
returns-clause-fronts g c given is = cut-whole g.G.Guest.sound (g.H.Host.files c.args.host.now) (g.H.Host.files c.make_files.new.host) (made_by c.args.names.now) c.args.names.now.records c.args.session c.make_files.new.session (made-all g.G.Guest.sound c.make_files.result (g.H.Host.files c.args.host.now) (g.H.Host.files c.make_files.new.host) (made_by c.args.names.now) c.args.names.now.records c.args.session c.make_files.new.session c.if-is_err.ensures.value refl c.make_files.ensures.made c.make_files.ensures.others c.make_files.ensures.empties c.requires.recorders c.make_files.ensures.same.as_many) c.make_files.ensures.same.gear c.make_files.ensures.same.players c.run-session.result.0 c.end.new.self (at-ok c.run-session.result.1 _ c.in_default.is c.run-session.ensures.runs) c.in_default-end.ensures.ends c.in_default-end.ensures.told (later-trans (stores_in c.make_files.new.session) (stores_in c.run-session.result.0) (stores_in c.end.new.self) c.run-session.ensures.stores c.end.ensures.stores) (c.end.ensures.recorders ∙ c.run-session.ensures.recorders) c.end.ensures.script given is c.all_is_played_back.ensures c.blocks_kept_are_recorded.ensures.samples

pub returns-clause-made : goal.returns-clause-made
returns-clause-made g c =
    made-behind g.G.Guest.sound (g.H.Host.files c.args.host.now) (g.H.Host.files c.make_files.new.host) (made_by c.args.names.now) c.args.names.now.records c.args.session c.make_files.new.session (made-all g.G.Guest.sound c.make_files.result (g.H.Host.files c.args.host.now) (g.H.Host.files c.make_files.new.host) (made_by c.args.names.now) c.args.names.now.records c.args.session c.make_files.new.session c.if-is_err.ensures.value refl c.make_files.ensures.made c.make_files.ensures.others c.make_files.ensures.empties c.requires.recorders c.make_files.ensures.same.as_many)
    c.end.new.self (later-trans (stores_in c.make_files.new.session) (stores_in c.run-session.result.0) (stores_in c.end.new.self) c.run-session.ensures.stores c.end.ensures.stores) (c.end.ensures.recorders ∙ c.run-session.ensures.recorders)

pub returns-clause-capture : goal.returns-clause-capture
returns-clause-capture g c =
    subst (λ (r : Reading). SameReading c.args.session.gear.capture.reading r) (sym (ap (λ capture. capture.reading) c.end.ensures.capture))
    (subst (λ (r : Reading). SameReading r c.run-session.result.0.gear.capture.reading) (ap (λ (gear : Gear). gear.capture.reading) c.make_files.ensures.same.gear) c.run-session.ensures.capture)

pub returns-clause-kept : goal.returns-clause-kept
returns-clause-kept g c = ok_of c.make_files.result (sym c.if-is_err.ensures.value) c.make_files.ensures.kept

-- the history of the run, whose script was opened
pub returns-clause-history : goal.returns-clause-history
returns-clause-history g c serial_mode =
    ap (λ (d : Desk). d.history) c.end.ensures.desk
    ∙ (at-ok c.run-session.result.1 _ c.in_default.is c.run-session.ensures.runs).serial_history (subst (λ (gear : Gear). IsNone gear.script.header.threads) (sym c.make_files.ensures.same.gear) serial_mode)
    ∙ ap (λ (gear : Gear). (serial gear.script).history) c.make_files.ensures.same.gear

-- ---- the disks' players

pub returns-then-is_err-clause-players : goal.returns-then-is_err-clause-players
returns-then-is_err-clause-players g c = ap (λ (players : List Playing). length players) c.make_files.ensures.same.players

pub returns-in-Err-clause-players : goal.returns-in-Err-clause-players
returns-in-Err-clause-players g c = c.run-session.ensures.players.as_many ∙ ap (λ (players : List Playing). length players) c.make_files.ensures.same.players

pub returns-in-Err-end-clause-players : goal.returns-in-Err-end-clause-players
returns-in-Err-end-clause-players g c =
    ap (λ (players : List Playing). length players) c.end.ensures.players ∙ c.run-session.ensures.players.as_many ∙ ap (λ (players : List Playing). length players) c.make_files.ensures.same.players

pub returns-clause-players : goal.returns-clause-players
returns-clause-players g c =
    ap (λ (players : List Playing). length players) c.end.ensures.players ∙ c.run-session.ensures.players.as_many ∙ ap (λ (players : List Playing). length players) c.make_files.ensures.same.players

-- behind a run that went well no read failed
pub returns-clause-disks : goal.returns-clause-disks
returns-clause-disks g c = λ fresh.
    subst AreFaultless (sym c.end.ensures.players)
    (faultless-later c.make_files.new.session.players c.run-session.result.0.players c.run-session.ensures.players
    (at-ok c.run-session.result.1 _ c.in_default.is c.run-session.ensures.ran).settled.sound.going
    (subst AreFaultless (sym c.make_files.ensures.same.players) fresh))
