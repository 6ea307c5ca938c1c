use Rattle.std.proofs.Common.{ℕ, subst}
use Rattle.std.specs.Prelude.{IsErrOf, OnErr, OnOk}
use Rattle.session_model.specs.Explanations.{Given}
use Rattle.wave_pcm.specs.Readings.{SameReading}
use Rattle.session_ends.specs.Seen.{AreLater, AreReadLater, IsGiven, OneRose, Parts, Read, SerialKept, SourceRose, StandsInSerial, StandsSoFar, Write, session_of, stores_in, told_of}
use Rattle.session_run.proofs.ModeLemmas.{has-threads, is-serial}
use Rattle.session_run.proofs.session.Session.run.Goals as goal

pub run_serial-ran-requires-clause-serial : goal.run_serial-ran-requires-clause-serial
run_serial-ran-requires-clause-serial g c κs within = is-serial _ c.self.inside.is_serial c.self.invariant.4 c.if-is_serial.true

pub returns-then-is_serial-clause-kept : goal.returns-then-is_serial-clause-kept
returns-then-is_serial-clause-kept g c serial =
    subst
    (λ (p : Parts). OnOk c.run_serial-ran.result ((given : Given) → IsGiven (session_of g.G.Guest.sound p) given
    → SerialKept given (session_of g.G.Guest.sound c.run_serial-ran.new.parts))) c.self.view_is c.run_serial-ran.ensures.kept

pub returns-then-is_serial-clause-fault : goal.returns-then-is_serial-clause-fault
returns-then-is_serial-clause-fault g c serial =
    subst
    (λ (p : Parts). OnErr c.run_serial-ran.result ((given : Given) → IsGiven (session_of g.G.Guest.sound p) given
    → StandsInSerial given (told_of g.G.Guest.sound c.run_serial-ran.new.parts))) c.self.view_is c.run_serial-ran.ensures.fault

pub returns-then-is_serial-clause-read : goal.returns-then-is_serial-clause-read
returns-then-is_serial-clause-read g c =
    subst (λ (p : Parts). IsErrOf c.run_serial-ran.result Read → SourceRose p c.run_serial-ran.new.parts) c.self.view_is c.run_serial-ran.ensures.read

pub returns-then-is_serial-clause-write : goal.returns-then-is_serial-clause-write
returns-then-is_serial-clause-write g c =
    subst (λ (p : Parts). IsErrOf c.run_serial-ran.result Write → OneRose (stores_in p) (stores_in c.run_serial-ran.new.parts)) c.self.view_is c.run_serial-ran.ensures.write

pub run_threads-parts-requires-clause-threads : goal.run_threads-parts-requires-clause-threads
run_threads-parts-requires-clause-threads g c κs within = has-threads _ c.self.inside.is_serial c.self.invariant.4 c.if-is_serial.false

pub returns-clause-so_far : goal.returns-clause-so_far
returns-clause-so_far g c threads =
    subst
    (λ (p : Parts). OnErr c.run_threads-parts.result.1 ((x : ℕ) × ((given : Given) → IsGiven (session_of g.G.Guest.sound p) given
    → StandsSoFar x (told_of g.G.Guest.sound c.run_threads-parts.result.0.0) given))) c.self.view_is c.run_threads-parts.ensures.so_far

pub returns-clause-stores : goal.returns-clause-stores
returns-clause-stores g c = subst (λ (p : Parts). AreLater (stores_in p) (stores_in c.run_threads-parts.result.0.0)) c.self.view_is c.run_threads-parts.ensures.stays.later

pub returns-clause-capture : goal.returns-clause-capture
returns-clause-capture g c =
    subst (λ (p : Parts). SameReading p.gear.capture.reading c.run_threads-parts.result.0.0.gear.capture.reading) c.self.view_is c.run_threads-parts.ensures.stays.capture

pub returns-clause-players : goal.returns-clause-players
returns-clause-players g c = subst (λ (p : Parts). AreReadLater p.players c.run_threads-parts.result.0.0.players) c.self.view_is c.run_threads-parts.ensures.stays.players

pub returns-clause-read : goal.returns-clause-read
returns-clause-read g c =
    subst (λ (p : Parts). IsErrOf c.run_threads-parts.result.1 Read → SourceRose p c.run_threads-parts.result.0.0) c.self.view_is c.run_threads-parts.ensures.read

pub returns-clause-write : goal.returns-clause-write
returns-clause-write g c =
    subst (λ (p : Parts). IsErrOf c.run_threads-parts.result.1 Write → OneRose (stores_in p) (stores_in c.run_threads-parts.result.0.0)) c.self.view_is c.run_threads-parts.ensures.write
