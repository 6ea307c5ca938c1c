-- The play of a rehearsal.
--     played-told      its two files give the session that was made, so its history and its playback's file are those of serial mode
--     history-of      the history of a session that was opened
--     finished-of      its status
use Rattle.std.proofs.Common.{◌≡◌, ◌∙◌, ◌⊎◌, inl, inr, ℕ, ℤ, List, [], None, Some, Ok, IsNone, ap, refl, sym, subst}
use Rattle.std.specs.Prelude.{Option, codes}
use Rattle.jack_types.specs.declared.files.Format.{Format}
use Rattle.jack_types.specs.declared.replies.Entry.{Entry}
use Rattle.jack_host.specs.Causes.{Rose}
use Rattle.jack_host.specs.Files.{bytes_under}
use Rattle.session_model.specs.Courses.{DiskFile}
use Rattle.session_model.specs.Explanations.{Explained, Given, Printed, playback_text}
use Rattle.session_model.specs.Grammar.{Spells}
use Rattle.session_model.specs.Kinds.{Sound}
use Rattle.session_model.specs.Scripts.{Script}
use Rattle.session_model.specs.Serial.{serial, serial_printed}
use Rattle.session_model.specs.WaveFiles.{IsWave}
use Rattle.session_model.specs.WaveOpening.{Opened, opened, wave_in}
use Rattle.client_kinds.specs.Scores.{Score}
use Rattle.wave_laws.proofs.WaveFaults.{wave-same}
use Rattle.play_words.specs.Words.{Play}
use Rattle.rehearsals.specs.Made.{Made}
use Rattle.session_run.specs.Seen.{Parts}
use Rattle.play_inputs.specs.declared.status.Status.{Status}
use Rattle.play_inputs.specs.declared.status.Status.TheVariants as done
use Rattle.play_inputs.specs.Inputs.{Files, IsInput}
use Rattle.jack_control.specs.Openings.{IsSessionOf}
use Rattle.jack_control.specs.Performances.{HasHistory}
use Rattle.jack_control.specs.Plays.{IsExplained}
use Rattle.jack_control.specs.Rehearsals.{IsRehearsed}
use Rattle.jack_control.specs.Rehearsing.{HasFiles, rehearsal_play}
use Rattle.play_inputs.specs.disk_inputs.specs.DiskFiles.{AreDiskFiles}
use Rattle.play_inputs.proofs.ExactLemmas.{one_script}
use Rattle.play_inputs.proofs.InputLemmas.{spelled_whole}
use Rattle.jack_control.proofs.OpeningLemmas.{no-channels}

-- bytes are read as their wave
abbrev pub Reads : List ℕ → Type 0
Reads bytes = (told : Opened) → opened bytes ≡ Ok told → IsWave bytes told.format (wave_in told)

pub one_text : {X : Type 0} (found : Option X) (one other : X) → found ≡ Some one → found ≡ Some other → one ≡ other
one_text found one other e f = cc

pub none_text : (text : List ℕ) → None ≡ Some text → ⊥
none_text text same = cc

given-same : (a b : Given) → a.script ≡ b.script → a.capture ≡ b.capture → a.disks ≡ b.disks → a.scores ≡ b.scores → a ≡ b
given-same a b script capture disks scores =
    ap (λ (s : Script). record a { script = s }) script
    ∙ ap (λ (xs : List ℤ). record b { capture = xs; disks = a.disks; scores = a.scores }) capture
    ∙ ap (λ (files : List DiskFile). record b { disks = files; scores = a.scores }) disks
    ∙ ap (λ (all : List Sound). record b { scores = all }) scores

module _ (target : Given) (format : Format) (script_bytes capture_bytes : List ℕ) (spelled : Spells script_bytes target.script) (wave : IsWave capture_bytes format target.capture) (reads : Reads capture_bytes)
    (no_disk : target.disks ≡ []) (no_channel : target.script.header.disks ≡ []) (no_guest : target.scores ≡ []) (serial_mode : IsNone target.script.header.threads) where
  one_given : (disk_bytes : List (List ℕ)) (play : Play) (given : Given) → IsInput script_bytes capture_bytes disk_bytes [] play given → given ≡ target
  one_given disk_bytes play given input =
      let capture = input.capture in
      let script : given.script ≡ target.script = one_script script_bytes given.script target.script (spelled_whole script_bytes given.script input.script) spelled in
      let none : given.disks ≡ [] =
      no-channels disk_bytes given.script.header.rate given.disks (subst (λ (channels : List ℕ). AreDiskFiles disk_bytes given.script.header.rate channels given.disks) (ap (λ (s : Script). s.header.disks) script ∙ no_channel) input.disks) in
      given-same given target script
      (capture.samples_are ∙ (wave-same capture_bytes capture.told.format format (wave_in capture.told) target.capture (reads capture.told capture.opens) wave).1)
      (none ∙ sym no_disk) (input.scores_are ∙ sym no_guest)

  module _ (files : Files) (play : Play) (script_is : bytes_under files play.script ≡ Some script_bytes) (capture_is : bytes_under files play.capture ≡ Some capture_bytes) where
    history-told : (history : List Entry) → HasHistory (Some files) play history → history ≡ (serial target.script).history
    history-told history has =
        let same : has.0 ≡ script_bytes = one_text (bytes_under files play.script) has.0 script_bytes has.1 script_is in
        let script : Script = has.2.0 in
        let spells : Spells script_bytes script = subst (λ (bytes : List ℕ). Spells bytes script) same (spelled_whole has.0 script has.2.1) in
        let one : script ≡ target.script = one_script script_bytes script target.script spells spelled in
        has.2.2 (subst (λ (s : Script). IsNone s.header.threads) (sym one) serial_mode) ∙ subst (λ (s : Script). (serial script).history ≡ (serial s).history) one refl

    playback-told : (new : Files) (printed : Printed) → serial_printed target ≡ printed → IsExplained (Some files) (Some new) None None [] play
        → bytes_under new play.playback ≡ Some (playback_text target printed)
    playback-told new printed is plays =
        let script : plays.script_bytes ≡ script_bytes = one_text (bytes_under files play.script) plays.script_bytes script_bytes plays.script_is script_is in
        let capture : plays.capture_bytes ≡ capture_bytes = one_text (bytes_under files play.capture) plays.capture_bytes capture_bytes plays.capture_is capture_is in
        let input : IsInput script_bytes capture_bytes plays.disk_bytes [] play plays.given =
        subst (λ (bytes : List ℕ). IsInput script_bytes bytes plays.disk_bytes [] play plays.given) capture (subst (λ (bytes : List ℕ). IsInput bytes plays.capture_bytes plays.disk_bytes [] play plays.given) script plays.input) in
        let none : IsNone plays.given.script.header.threads = subst (λ (g : Given). IsNone g.script.header.threads) (sym (one_given plays.disk_bytes play plays.given input)) serial_mode in
        let text : plays.written.playback ≡ playback_text plays.given (serial_printed plays.given) = (subst (λ (p : Printed). Explained plays.given p plays.written) (plays.serial none) plays.explained).playback in
        plays.playback_is
        ∙ ap Some (text ∙ subst (λ (given : Given). playback_text plays.given (serial_printed plays.given) ≡ playback_text given (serial_printed given)) (one_given plays.disk_bytes play plays.given input) refl ∙ ap (playback_text target) is)

-- what is left of it in memory
pub played-told : (target : Given) (format : Format) (script capture : List ℕ) (printed : Printed) (made : Made) (files new : Files) (play : Play) (history : List Entry) → made.script ≡ script → made.capture ≡ capture → HasFiles files made
    → play ≡ rehearsal_play → Spells script target.script → IsWave capture format target.capture → Reads made.capture → target.disks ≡ [] → target.script.header.disks ≡ [] → target.scores ≡ [] → IsNone target.script.header.threads → serial_printed target ≡ printed
    → IsExplained (Some files) (Some new) None None [] play → HasHistory (Some files) play history
    → (history ≡ (serial target.script).history) × (bytes_under new (codes "playback") ≡ Some (playback_text target printed))
played-told target format script capture printed made files new play history script_is capture_is has play_is spelled wave reads no_disk no_channel no_guest serial_mode is plays told =
    let there : bytes_under files (codes "script") ≡ Some script = has.script ∙ ap Some script_is in
    let heard : bytes_under files (codes "capture") ≡ Some capture = has.capture ∙ ap Some capture_is in
    let read : Reads capture = subst Reads capture_is reads in (
      history-told target format script capture spelled wave read no_disk no_channel no_guest serial_mode files rehearsal_play there heard history (subst (λ (p : Play). HasHistory (Some files) p history) play_is told),
      playback-told target format script capture spelled wave read no_disk no_channel no_guest serial_mode files rehearsal_play there heard new printed is (subst (λ (p : Play). IsExplained (Some files) (Some new) None None [] p) play_is plays),
    )

-- ---- its history

-- the history of the session that was opened is that of the script that its files give
pub history-of : (sounding : Score → Sound) (files : Option Files) (scores : List Sound) (play : Play) (parts : Parts) (history : List Entry) → IsSessionOf sounding files scores play parts → (IsNone parts.gear.script.header.threads → history ≡ (serial parts.gear.script).history) → HasHistory files play history
history-of sounding None scores play parts history is same = tt
history-of sounding (Some files) scores play parts history is same =
    let given : Given = is.given.2.2.2.0 in
    let own = is.given.2.2.2.2.own in
    (is.given.0, is.given.1, (given.script, is.given.2.2.2.1.script, λ none. same (subst (λ (s : Script). IsNone s.header.threads) own.script none) ∙ ap (λ (s : Script). (serial s).history) (sym own.script)))

-- ---- its status

-- without a fault of the sink it was done, or memory lacked
pub finished-of : (n : ℕ) (out out_after : Option (List ℕ)) (faults faults_after : ℕ) (status : Status) → IsRehearsed n out out_after faults faults_after status → ¬ Rose faults faults_after → (status ≡ done.Ok) ⊎ (status ≡ done.NoMemory)
finished-of n out out_after faults faults_after done.Ok is none = inl refl
finished-of n out out_after faults faults_after done.NoMemory is none = inr refl
finished-of n out out_after faults faults_after done.Words is none = absurd is
finished-of n out out_after faults faults_after done.ReadFault is none = absurd is
finished-of n out out_after faults faults_after (done.BadWave fault) is none = absurd is
finished-of n out out_after faults faults_after (done.BadScript fault) is none = absurd is
finished-of n out out_after faults faults_after done.WriteFault is none = absurd (none is.0)
finished-of n out out_after faults faults_after (done.Differs difference) is none = absurd is
finished-of n out out_after faults faults_after (done.Wrong row sight) is none = absurd is
