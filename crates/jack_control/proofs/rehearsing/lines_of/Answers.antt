use Rattle.std.proofs.Common.{◌≡◌, ◌∙◌, List, None, Some, ap, map, refl, string_bytes, subst, sym}
use Rattle.std.specs.Prelude.{codes}
use Rattle.jack_host.specs.Files.{bytes_under}
use Rattle.host_memory.specs.MemoryHost.{host_files}
use Rattle.play_words.specs.Words.{IsPlay}
use Rattle.rehearsal_model.specs.Rehearsals.{rehearsal, rehearsal_capture, rehearsal_format, rehearsal_script}
use Rattle.session_model.specs.Kinds.{Sound}
use Rattle.session_model.specs.Serial.{serial}
use Rattle.jack_control.specs.Plays.{IsExplained}
use Rattle.jack_control.specs.Rehearsing.{rehearsal_play}
use Rattle.jack_control.proofs.RehearsalLemmas.{Reads, none_text, one_text, played-told}
use Rattle.jack_control.proofs.rehearsing.lines_of.Goals as goal

pub unreachable-requires : goal.unreachable-requires
unreachable-requires g c =
    c.in_default-play_names.ensures.unlawful refl rehearsal_play (subst (λ words. IsPlay (map string_bytes words) rehearsal_play) (sym c.deref.ensures.value) c.in-Ok.ensures)

pub unreachable-requires-in_default-file : goal.unreachable-requires-in_default-file
unreachable-requires-in_default-file g c =
    let play_is : c.in-Some.names ≡ rehearsal_play =
    c.words_name_one_play.ensures (map string_bytes c.deref.result.now) c.in-Some.names rehearsal_play c.in-Some.ensures.lawful (subst (λ words. IsPlay (map string_bytes words) rehearsal_play) (sym c.deref.ensures.value) c.in-Ok.ensures) in
    let plays = subst (λ (scores : List Sound). IsExplained (Some (host_files c.in_ok-host.host)) (Some (host_files c.play_silently.new.host)) None None scores c.in-Some.names)
    (ap (λ guests. map g.G.Guest.sound (map g.G.Guest.score guests)) c.new-guests.ensures.items) c.in-Ok-play_silently.ensures.played in
    let told = played-told (rehearsal c.args.number) rehearsal_format (rehearsal_script c.args.number) (rehearsal_capture c.args.number) (serial (rehearsal c.args.number).script) c.in_ok-made.made
    (host_files c.in_ok-host.host) (host_files c.play_silently.new.host) c.in-Some.names c.in-Ok-play_silently.history.items c.in_ok-made.ensures.script c.in_ok-made.ensures.capture c.in_ok-host.ensures.files
    play_is (c.rehearsal_is_a_script.ensures.spelled c.args.number) (c.rehearsal_is_a_wave.ensures.wave c.args.number) (subst Reads c.capture.ensures c.forward_reading.ensures.wave) refl refl refl refl
    (c.no_disk_has_no_underrun.ensures.rehearsals c.args.number) plays c.in-Ok-play_silently.ensures.history in
    none_text _ (c.in_default-file.ensures ∙ told.1)

pub summary-requires : goal.summary-requires
summary-requires g c =
    let play_is : c.in-Some.names ≡ rehearsal_play =
    c.words_name_one_play.ensures (map string_bytes c.deref.result.now) c.in-Some.names rehearsal_play c.in-Some.ensures.lawful (subst (λ words. IsPlay (map string_bytes words) rehearsal_play) (sym c.deref.ensures.value) c.in-Ok.ensures) in
    let plays = subst (λ (scores : List Sound). IsExplained (Some (host_files c.in_ok-host.host)) (Some (host_files c.play_silently.new.host)) None None scores c.in-Some.names)
    (ap (λ guests. map g.G.Guest.sound (map g.G.Guest.score guests)) c.new-guests.ensures.items) c.in-Ok-play_silently.ensures.played in
    let told = played-told (rehearsal c.args.number) rehearsal_format (rehearsal_script c.args.number) (rehearsal_capture c.args.number) (serial (rehearsal c.args.number).script) c.in_ok-made.made
    (host_files c.in_ok-host.host) (host_files c.play_silently.new.host) c.in-Some.names c.in-Ok-play_silently.history.items c.in_ok-made.ensures.script c.in_ok-made.ensures.capture c.in_ok-host.ensures.files
    play_is (c.rehearsal_is_a_script.ensures.spelled c.args.number) (c.rehearsal_is_a_wave.ensures.wave c.args.number) (subst Reads c.capture.ensures c.forward_reading.ensures.wave) refl refl refl refl
    (c.no_disk_has_no_underrun.ensures.rehearsals c.args.number) plays c.in-Ok-play_silently.ensures.history in
    record {
      history_is = c.deref-2.ensures.value ∙ told.0;
      playback_is = one_text (bytes_under (host_files c.play_silently.new.host) (codes "playback")) _ _ (sym c.in-Some-file.ensures) told.1;
    }

pub returns : goal.returns
returns g c = c.summary.ensures
