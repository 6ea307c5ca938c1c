use Rattle.std.proofs.Common.{◌≡◌, ◌∙◌, refl, sym, ap, subst, true≢false, false, [], map}
use Rattle.std.specs.Option.{option_map_or}
use Rattle.client_kinds.specs.Benches.{standing}
use Rattle.client_kinds.specs.Buffers.{buffers_of}
use Rattle.client_kinds.specs.Rooms.{HasSums}
use Rattle.client_kinds.specs.Seats.{Playing}
use Rattle.client_kinds.specs.Sounds.{asks_guest}
use Rattle.client_kinds.specs.Voices.{Voiced}
use Rattle.client_kinds.proofs.PlayLemmas.{IsPlain-voice, guest_path, not_guest, voice_memory, voice_outputs}
use Rattle.client_kinds.proofs.benches.play_parts.Goals as goal

pub returns-in-Guest-clause-output : goal.returns-in-Guest-clause-output
returns-in-Guest-clause-output g c scores h =
    guest_path g.G.Guest.sound scores c.in-Guest.guest c.args.voice.now c.args.seat.now.seated (standing c.args.voice.now c.args.seat.now.seated) c.args.ports.outputs c.args.moment.now c.args.ports.period
    (buffers_of c.args.ports.inputs c.args.ports.period c.args.input.now) (buffers_of c.args.ports.outputs c.args.ports.period c.play.new.output) refl (sym c.kind.ensures ∙ c.in-Guest.is) c.requires.guest h c.play.ensures.output

pub returns-in_default : goal.returns-in_default
returns-in_default g c = record {
  roomy = record {
    sums = subst (λ (voice : Voiced). HasSums voice.kind voice.period c.play_voice.new.mixer.room) (sym c.play_voice.ensures.voice)
        (subst (λ room. HasSums c.args.voice.now.kind c.args.voice.now.period room) (sym c.play_voice.ensures.room) c.requires.roomy.sums);
    plain = IsPlain-voice c.play_voice.new.voice.kind c.play_voice.new.voice.memory (ap (λ (voice : Voiced). asks_guest voice.kind) c.play_voice.ensures.voice ∙ bare);
  };
  kind = ap (λ (voice : Voiced). voice.kind) c.play_voice.ensures.voice;
  period = ap (λ (voice : Voiced). voice.period) c.play_voice.ensures.voice;
  score = refl;
  memory = λ scores h. ap (λ (voice : Voiced). (standing voice c.args.seat.now.seated).memory) c.play_voice.ensures.voice
      ∙ voice_memory (map g.G.Guest.sound scores) c.args.voice.now.kind c.args.voice.now.memory (option_map_or (λ (playing : Playing). playing.numbers) c.args.seat.now.seated.playing []) c.args.seat.now.seated.is_dead c.args.ports.outputs c.args.moment.now c.args.ports.period
      (buffers_of c.args.ports.inputs c.args.ports.period c.args.input.now) bare;
  output = λ scores h. c.play_voice.ensures.output
      ∙ voice_outputs (map g.G.Guest.sound scores) c.args.voice.now.kind c.args.voice.now.memory (option_map_or (λ (playing : Playing). playing.numbers) c.args.seat.now.seated.playing []) c.args.seat.now.seated.is_dead c.args.ports.outputs c.args.moment.now c.args.ports.period
      (buffers_of c.args.ports.inputs c.args.ports.period c.args.input.now) bare;
  told = λ asks. absurd (true≢false (sym asks ∙ bare));
}
  where
    bare : asks_guest c.args.voice.now.kind ≡ false
    bare = subst (λ k. asks_guest k ≡ false) c.kind.ensures (not_guest c.kind.result c.in_default.not-Guest)
