-- What a session that was opened was given, and which of its reads failed.
--     channels-told, no-channels      the channels of disk files, and of none
--     session-told      what a session was given
--     AreDisks-fresh, waves-many, players-many, players-fresh      its disk files, of which nothing was read
use Rattle.std.proofs.Common.{◌≡◌, ◌∙◌, ℕ, suc, zero, ℤ, List, [], ◌∷◌, Some, ap, arith, length, map, refl, sym}
use Rattle.std.specs.Prelude.{All, Option}
use Rattle.std.proofs.lemmas.List.{length-map}
use Rattle.std.proofs.lemmas.Option.{none-some, same_Some}
use Rattle.session_model.specs.Courses.{DiskFile}
use Rattle.session_model.specs.Explanations.{Given}
use Rattle.session_model.specs.Kinds.{Sound}
use Rattle.session_model.specs.Scripts.{Script}
use Rattle.client_kinds.specs.Scores.{Score}
use Rattle.wave_pcm.specs.Readings.{Reading}
use Rattle.play_words.specs.Words.{Play}
use Rattle.run_laws.specs.Sessions.{IsGiven as TellsGiven}
use Rattle.session_run.specs.Seen.{AreDisks, Parts, Playing, session_of}
use Rattle.play_inputs.specs.disk_inputs.specs.DiskFiles.{AreDiskFiles}
use Rattle.play_inputs.specs.disk_inputs.specs.Openings.{AreFresh, IsFresh}
use Rattle.play_inputs.specs.Inputs.{Files, IfBytes, IfBytesAll, IsInput}
use Rattle.play_inputs.specs.Openings.{GivesInput}
use Rattle.play_inputs.proofs.DiskLemmas.{all-map}
use Rattle.play_inputs.proofs.InputLemmas.{if_bytes_map}
use Rattle.jack_control.specs.Openings.{AreFaultless}

-- disk files have the channels of their lines
pub channels-told : (bytes : List (List ℕ)) (rate : ℕ) (channels : List ℕ) (disks : List DiskFile) → AreDiskFiles bytes rate channels disks → map (λ (file : DiskFile). file.channels) disks ≡ channels
channels-told [] rate [] [] are = refl
channels-told [] rate [] (f ∷ fs) are = absurd are
channels-told [] rate (c ∷ cs) disks are = absurd are
channels-told (b ∷ bs) rate [] disks are = absurd are
channels-told (b ∷ bs) rate (c ∷ cs) [] are = absurd are
channels-told (b ∷ bs) rate (c ∷ cs) (f ∷ fs) are =
    let head : f.channels ≡ c = are.0.channels_are in
    let tail : map (λ (file : DiskFile). file.channels) fs ≡ cs = channels-told bs rate cs fs are.1 in
    (λ k. head k ∷ tail k)

pub no-channels : (bytes : List (List ℕ)) (rate : ℕ) (disks : List DiskFile) → AreDiskFiles bytes rate [] disks → disks ≡ []
no-channels [] rate [] are = refl
no-channels [] rate (f ∷ fs) are = absurd are
no-channels (b ∷ bs) rate disks are = absurd are

module _ (sounding : Score → Sound) (files : Option Files) (scores : List Sound) (play : Play) (script : Script) (left : Option (List ℤ)) (lefts : List (Option (List ℤ))) (parts : Parts) (script_is : parts.gear.script ≡ script)
    (scores_are : map sounding parts.gear.stage.staged.owned.scores ≡ scores) (left_is : parts.gear.capture.reading.left ≡ left) (lefts_are : map (λ (player : Playing). player.left) parts.players ≡ lefts) where
  abbrev Reads : List ℕ → List ℕ → List (List ℕ) → Type 0
  Reads script_bytes capture_bytes disk_bytes =
      (given : Given) × IsInput script_bytes capture_bytes disk_bytes scores play given × (given.script ≡ script) × (left ≡ Some given.capture) × (lefts ≡ map (λ (file : DiskFile). Some file.samples) given.disks)

  abbrev Tells : List ℕ → List ℕ → List (List ℕ) → Type 0
  Tells script_bytes capture_bytes disk_bytes = (given : Given) × IsInput script_bytes capture_bytes disk_bytes scores play given × TellsGiven (session_of sounding parts) given

  tells : (script_bytes capture_bytes : List ℕ) (disk_bytes : List (List ℕ)) → Reads script_bytes capture_bytes disk_bytes → Tells script_bytes capture_bytes disk_bytes
  tells script_bytes capture_bytes disk_bytes (given, input, of, samples, blocks) = (
    given,
    input,
    record {
      own = record {
        script = of ∙ sym script_is;
        scores = input.scores_are ∙ sym scores_are;
        channels = channels-told disk_bytes given.script.header.rate given.script.header.disks given.disks input.disks ∙ ap (λ (s : Script). s.header.disks) (of ∙ sym script_is);
      };
      capture = left_is ∙ samples;
      disks = lefts_are ∙ blocks;
    },
  )

  pub session-told : GivesInput files scores play script left lefts → IfBytes files play.script (λ script_bytes. IfBytes files play.capture (λ capture_bytes. IfBytesAll files play.disks (Tells script_bytes capture_bytes)))
  session-told =
      if_bytes_map files play.script (λ script_bytes. IfBytes files play.capture (λ capture_bytes. IfBytesAll files play.disks (Reads script_bytes capture_bytes)))
      (λ script_bytes. IfBytes files play.capture (λ capture_bytes. IfBytesAll files play.disks (Tells script_bytes capture_bytes)))
      (λ script_bytes. if_bytes_map files play.capture (λ capture_bytes. IfBytesAll files play.disks (Reads script_bytes capture_bytes)) (λ capture_bytes. IfBytesAll files play.disks (Tells script_bytes capture_bytes))
      (λ capture_bytes. all-map files play.disks (Reads script_bytes capture_bytes) (Tells script_bytes capture_bytes) (tells script_bytes capture_bytes)))

-- ---- disk files of which nothing was read

pub AreDisks-fresh : (rate : ℕ) (channels : List ℕ) (waves : List Reading) → AreFresh rate channels waves → AreDisks channels waves
AreDisks-fresh rate channels waves fresh = record {
  channels_are = fresh.0;
  each = λ k d within. let one = fresh.1 k d within in record { readable = one.readable; given = one.given; going = one.going };
}

-- as many as there are numbers of channels
pub waves-many : (rate : ℕ) (channels : List ℕ) (waves : List Reading) → AreFresh rate channels waves → length waves ≡ length channels
waves-many rate channels waves fresh = sym (length-map waves (λ (wave : Reading). wave.format.channels)) ∙ ap length fresh.0

pub players-many : (players : List Playing) (waves : List Reading) → map (λ (p : Playing). p.faults) players ≡ map (λ (w : Reading). w.faults) waves → length players ≡ length waves
players-many players waves same = sym (length-map players (λ (p : Playing). p.faults)) ∙ ap length same ∙ length-map waves (λ (w : Reading). w.faults)

pub players-fresh : (rate : ℕ) (players : List Playing) (waves : List Reading) → map (λ (p : Playing). p.faults) players ≡ map (λ (w : Reading). w.faults) waves → All (IsFresh rate) waves → AreFaultless players
players-fresh rate [] waves same fresh disk player is = absurd (none-some player is)
players-fresh rate (p ∷ ps) [] same fresh disk player is = cc same
players-fresh rate (p ∷ ps) (w ∷ ws) same fresh zero player is =
    let one : p ≡ player = same_Some p player is in
    let first : p.faults ≡ w.faults = cc same in
    sym (ap (λ (q : Playing). q.faults) one) ∙ first ∙ (fresh 0 w (omega arith)).faults
players-fresh rate (p ∷ ps) (w ∷ ws) same fresh (suc disk) player is =
    let rest : map (λ (q : Playing). q.faults) ps ≡ map (λ (v : Reading). v.faults) ws = cc same in
    players-fresh rate ps ws rest (λ k d within. fresh (suc k) d (omega (arith, within))) disk player is
