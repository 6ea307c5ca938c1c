-- Kinds and commands are read just where they are spelled.
use Rattle.std.proofs.Common.{◌≡◌, ℕ, ◌≤◌, true, List, [], ◌∷◌, ◌++◌, length, Ok, refl, sym, ap, subst, arith}
use Rattle.std.specs.Prelude.{if◌then◌else◌, ◌==◌, pos, negsuc, codes}
use Rattle.session_laws.specs.jack_types.specs.Names.{IsClientName, IsPortName}
use Rattle.session_laws.specs.jack_types.specs.declared.commands.Command.{Command}
use Rattle.session_laws.specs.jack_types.specs.declared.commands.Command.TheVariants.{Open, Close, Activate, Deactivate, Register, Unregister, Connect, Disconnect, Start, Stop, Locate, Timeout, Slow, Timebase, TimebaseIf, Release, Latency}
use Rattle.session_laws.specs.jack_types.specs.declared.kinds.Kind.{Kind}
use Rattle.session_laws.specs.jack_types.specs.declared.kinds.Kind.TheVariants.{Pass, Gain, Mix, Delay, Tone, Click, Meter, Tape, Guest, Midiplay, Midithru, Midilog, Disk}
use Rattle.session_laws.specs.jack_types.specs.declared.ports.Mode.{Mode}
use Rattle.session_laws.specs.jack_types.specs.declared.ports.Mode.TheVariants.{Capture, Playback}
use Rattle.session_laws.specs.jack_types.specs.declared.ports.PortKind.{PortKind}
use Rattle.session_laws.specs.jack_types.specs.declared.ports.PortKind.TheVariants.{Audio, Midi}
use Rattle.session_laws.specs.jack_types.specs.declared.ports.Way.{Way}
use Rattle.session_laws.specs.jack_types.specs.declared.ports.Way.TheVariants.{In, Out}
use Rattle.session_laws.specs.jack_types.specs.declared.scripts.Header.{Header}
use Rattle.session_laws.specs.session_model.specs.Grammar.{Slot, Word, Fixed, Numeral, SignedNumeral, IsIn, IsTempo, kind_slots, way_word, type_word, mode_word, command_slots, IsKind, IsCommand}
use Rattle.session_laws.specs.session_model.specs.Reading.{old_kinds, new_kinds, kind, way, port_type, mode, registering, tempo, command, commands, just, number, client, port}
use Rattle.grammar_laws.proofs.GrammarReaders.{bind_ok, ok_is, Takes, Takes-join, Takes-split, Reads, Reads-good, EachChoice, EachChoice-if, ChoiceTakes, by_word-takes, by_word-again, find-old, just-takes, made-takes, made-again, made_of_two-takes, made_of_two-again, number-reads, signed_number-reads, place-reads, client-reads, port-reads}

up_to-reads : (most : ℕ) → Reads (number 0 most) (λ n. Numeral n ∷ []) (λ n. n ≤ most)
up_to-reads most = Reads-good (number 0 most) (λ n. Numeral n ∷ []) (IsIn 0 most) (λ n. n ≤ most) (λ n h. h.1) (λ n h. (omega arith, h)) (number-reads 0 most)

-- ---- kinds

old_kinds-take : (header : Header) → EachChoice (ChoiceTakes kind_slots (IsKind header)) (old_kinds header)
old_kinds-take header = (
  just-takes kind_slots (IsKind header) (codes "pass") Pass refl tt,
  (
    made_of_two-takes kind_slots (IsKind header) (codes "gain") (signed_number-reads (negsuc 32767) (pos 32767)) (up_to-reads 31) Gain (λ a b. refl) (λ a b g h. (g, h)),
    (
      just-takes kind_slots (IsKind header) (codes "mix") Mix refl tt,
      (
        made-takes kind_slots (IsKind header) (codes "delay") (up_to-reads 4096) Delay (λ a. refl) (λ a g. g),
        (
          made_of_two-takes kind_slots (IsKind header) (codes "tone") (number-reads 1 65536) (signed_number-reads (negsuc 2147483646) (pos 2147483647)) Tone (λ a b. refl) (λ a b g h. (g, h)),
          (
            made-takes kind_slots (IsKind header) (codes "click") (signed_number-reads (negsuc 2147483647) (pos 2147483647)) Click (λ a. refl) (λ a g. g),
            (
              just-takes kind_slots (IsKind header) (codes "meter") Meter refl tt,
              (
                made-takes kind_slots (IsKind header) (codes "record") (place-reads (length header.recorders)) Tape (λ a. refl) (λ a g. g),
                (
                  made-takes kind_slots (IsKind header) (codes "guest") (up_to-reads 255) Guest (λ a. refl) (λ a g. g),
                  tt,
                ),
              ),
            ),
          ),
        ),
      ),
    ),
  ),
)

new_kinds-take : (header : Header) → header.version ≡ 3 → EachChoice (ChoiceTakes kind_slots (IsKind header)) (new_kinds header)
new_kinds-take header new = (
  made-takes kind_slots (IsKind header) (codes "midiplay") (up_to-reads 15) Midiplay (λ a. refl) (λ a g. (new, g)),
  (
    just-takes kind_slots (IsKind header) (codes "midithru") Midithru refl new,
    (
      just-takes kind_slots (IsKind header) (codes "midilog") Midilog refl new,
      (
        made-takes kind_slots (IsKind header) (codes "disk") (place-reads (length header.disks)) Disk (λ a. refl) (λ a g. (new, g)),
        tt,
      ),
    ),
  ),
)

is_three : (n : ℕ) → (n == 3) ≡ true → n ≡ 3
is_three n h = grind arith

three_is : (n : ℕ) → n ≡ 3 → (n == 3) ≡ true
three_is n h = grind arith

kind-again : (header : Header) (words : List (List ℕ)) (x : Kind) (rest : List (List ℕ)) → Takes (kind_slots x) words rest → IsKind header x → kind header words ≡ Ok (x, rest)
kind-again header words Pass rest p g = by_word-again (if header.version == 3 then old_kinds header ++ new_kinds header else old_kinds header) (codes "pass") _ (find-old (header.version == 3) _ (old_kinds header) (new_kinds header) _ refl) ([]) words rest _ p (λ others q. ap (λ (w : List (List ℕ)). Ok (Pass, w)) q)
kind-again header words (Gain factor shift) rest p g = by_word-again (if header.version == 3 then old_kinds header ++ new_kinds header else old_kinds header) (codes "gain") _ (find-old (header.version == 3) _ (old_kinds header) (new_kinds header) _ refl) (SignedNumeral factor ∷ Numeral shift ∷ []) words rest _ p (λ others q. made_of_two-again (signed_number-reads (negsuc 32767) (pos 32767)) (up_to-reads 31) Gain others rest factor shift q g.0 g.1)
kind-again header words Mix rest p g = by_word-again (if header.version == 3 then old_kinds header ++ new_kinds header else old_kinds header) (codes "mix") _ (find-old (header.version == 3) _ (old_kinds header) (new_kinds header) _ refl) ([]) words rest _ p (λ others q. ap (λ (w : List (List ℕ)). Ok (Mix, w)) q)
kind-again header words (Delay frames) rest p g = by_word-again (if header.version == 3 then old_kinds header ++ new_kinds header else old_kinds header) (codes "delay") _ (find-old (header.version == 3) _ (old_kinds header) (new_kinds header) _ refl) (Numeral frames ∷ []) words rest _ p (λ others q. made-again (up_to-reads 4096) Delay others rest frames q g)
kind-again header words (Tone half level) rest p g = by_word-again (if header.version == 3 then old_kinds header ++ new_kinds header else old_kinds header) (codes "tone") _ (find-old (header.version == 3) _ (old_kinds header) (new_kinds header) _ refl) (Numeral half ∷ SignedNumeral level ∷ []) words rest _ p (λ others q. made_of_two-again (number-reads 1 65536) (signed_number-reads (negsuc 2147483646) (pos 2147483647)) Tone others rest half level q g.0 g.1)
kind-again header words (Click level) rest p g = by_word-again (if header.version == 3 then old_kinds header ++ new_kinds header else old_kinds header) (codes "click") _ (find-old (header.version == 3) _ (old_kinds header) (new_kinds header) _ refl) (SignedNumeral level ∷ []) words rest _ p (λ others q. made-again (signed_number-reads (negsuc 2147483647) (pos 2147483647)) Click others rest level q g)
kind-again header words Meter rest p g = by_word-again (if header.version == 3 then old_kinds header ++ new_kinds header else old_kinds header) (codes "meter") _ (find-old (header.version == 3) _ (old_kinds header) (new_kinds header) _ refl) ([]) words rest _ p (λ others q. ap (λ (w : List (List ℕ)). Ok (Meter, w)) q)
kind-again header words (Tape recorder) rest p g = by_word-again (if header.version == 3 then old_kinds header ++ new_kinds header else old_kinds header) (codes "record") _ (find-old (header.version == 3) _ (old_kinds header) (new_kinds header) _ refl) (Numeral recorder ∷ []) words rest _ p (λ others q. made-again (place-reads (length header.recorders)) Tape others rest recorder q g)
kind-again header words (Guest guest) rest p g = by_word-again (if header.version == 3 then old_kinds header ++ new_kinds header else old_kinds header) (codes "guest") _ (find-old (header.version == 3) _ (old_kinds header) (new_kinds header) _ refl) (Numeral guest ∷ []) words rest _ p (λ others q. made-again (up_to-reads 255) Guest others rest guest q g)
kind-again header words (Midiplay list) rest p g = by_word-again (if header.version == 3 then old_kinds header ++ new_kinds header else old_kinds header) (codes "midiplay") _ (rw (three_is header.version g.0) refl) (Numeral list ∷ []) words rest _ p (λ others q. made-again (up_to-reads 15) Midiplay others rest list q g.1)
kind-again header words Midithru rest p g = by_word-again (if header.version == 3 then old_kinds header ++ new_kinds header else old_kinds header) (codes "midithru") _ (rw (three_is header.version g) refl) ([]) words rest _ p (λ others q. ap (λ (w : List (List ℕ)). Ok (Midithru, w)) q)
kind-again header words Midilog rest p g = by_word-again (if header.version == 3 then old_kinds header ++ new_kinds header else old_kinds header) (codes "midilog") _ (rw (three_is header.version g) refl) ([]) words rest _ p (λ others q. ap (λ (w : List (List ℕ)). Ok (Midilog, w)) q)
kind-again header words (Disk disk) rest p g = by_word-again (if header.version == 3 then old_kinds header ++ new_kinds header else old_kinds header) (codes "disk") _ (rw (three_is header.version g.0) refl) (Numeral disk ∷ []) words rest _ p (λ others q. made-again (place-reads (length header.disks)) Disk others rest disk q g.1)

pub kind-reads : (header : Header) → Reads (kind header) kind_slots (IsKind header)
kind-reads header = record {
  takes = λ words y e. by_word-takes kind_slots (IsKind header) (if header.version == 3 then old_kinds header ++ new_kinds header else old_kinds header)
      (EachChoice-if (ChoiceTakes kind_slots (IsKind header)) (header.version == 3) (old_kinds header) (new_kinds header) (old_kinds-take header) (λ h. new_kinds-take header (is_three header.version h))) words y e;
  again = λ words x rest p g. kind-again header words x rest p g;
}

-- ---- one word of two

pub way-reads : Reads way (λ x. Word (way_word x) ∷ []) (λ x. Unit {0})
way-reads = record {
  takes = λ words y e. by_word-takes (λ x. Word (way_word x) ∷ []) (λ x. Unit {0}) ((codes "in", just In) ∷ (codes "out", just Out) ∷ []) (
    just-takes (λ x. Word (way_word x) ∷ []) (λ x. Unit {0}) (codes "in") In refl tt,
    (
      just-takes (λ x. Word (way_word x) ∷ []) (λ x. Unit {0}) (codes "out") Out refl tt,
      tt,
    ),
  ) words y e;
  again = λ words x rest p g. again words x rest p;
}
  where
    again : (words : List (List ℕ)) (x : Way) (rest : List (List ℕ)) → Takes (Word (way_word x) ∷ []) words rest → way words ≡ Ok (x, rest)
    again words In rest p = by_word-again ((codes "in", just In) ∷ (codes "out", just Out) ∷ []) (codes "in") _ refl [] words rest _ p (λ others q. ap (λ (w : List (List ℕ)). Ok (In, w)) q)
    again words Out rest p = by_word-again ((codes "in", just In) ∷ (codes "out", just Out) ∷ []) (codes "out") _ refl [] words rest _ p (λ others q. ap (λ (w : List (List ℕ)). Ok (Out, w)) q)

pub port_type-reads : Reads port_type (λ x. Word (type_word x) ∷ []) (λ x. Unit {0})
port_type-reads = record {
  takes = λ words y e. by_word-takes (λ x. Word (type_word x) ∷ []) (λ x. Unit {0}) ((codes "audio", just Audio) ∷ (codes "midi", just Midi) ∷ []) (
    just-takes (λ x. Word (type_word x) ∷ []) (λ x. Unit {0}) (codes "audio") Audio refl tt,
    (
      just-takes (λ x. Word (type_word x) ∷ []) (λ x. Unit {0}) (codes "midi") Midi refl tt,
      tt,
    ),
  ) words y e;
  again = λ words x rest p g. again words x rest p;
}
  where
    again : (words : List (List ℕ)) (x : PortKind) (rest : List (List ℕ)) → Takes (Word (type_word x) ∷ []) words rest → port_type words ≡ Ok (x, rest)
    again words Audio rest p = by_word-again ((codes "audio", just Audio) ∷ (codes "midi", just Midi) ∷ []) (codes "audio") _ refl [] words rest _ p (λ others q. ap (λ (w : List (List ℕ)). Ok (Audio, w)) q)
    again words Midi rest p = by_word-again ((codes "audio", just Audio) ∷ (codes "midi", just Midi) ∷ []) (codes "midi") _ refl [] words rest _ p (λ others q. ap (λ (w : List (List ℕ)). Ok (Midi, w)) q)

pub mode-reads : Reads mode (λ x. Word (mode_word x) ∷ []) (λ x. Unit {0})
mode-reads = record {
  takes = λ words y e. by_word-takes (λ x. Word (mode_word x) ∷ []) (λ x. Unit {0}) ((codes "capture", just Capture) ∷ (codes "playback", just Playback) ∷ []) (
    just-takes (λ x. Word (mode_word x) ∷ []) (λ x. Unit {0}) (codes "capture") Capture refl tt,
    (
      just-takes (λ x. Word (mode_word x) ∷ []) (λ x. Unit {0}) (codes "playback") Playback refl tt,
      tt,
    ),
  ) words y e;
  again = λ words x rest p g. again words x rest p;
}
  where
    again : (words : List (List ℕ)) (x : Mode) (rest : List (List ℕ)) → Takes (Word (mode_word x) ∷ []) words rest → mode words ≡ Ok (x, rest)
    again words Capture rest p = by_word-again ((codes "capture", just Capture) ∷ (codes "playback", just Playback) ∷ []) (codes "capture") _ refl [] words rest _ p (λ others q. ap (λ (w : List (List ℕ)). Ok (Capture, w)) q)
    again words Playback rest p = by_word-again ((codes "capture", just Capture) ∷ (codes "playback", just Playback) ∷ []) (codes "playback") _ refl [] words rest _ p (λ others q. ap (λ (w : List (List ℕ)). Ok (Playback, w)) q)

-- ---- commands

registering-takes : (header : Header) → ChoiceTakes command_slots (IsCommand header) (codes "register", registering)
registering-takes header = record {
  takes = λ words y e.
      let p = bind_ok (port words) _ y e in
      let w = bind_ok (way p.0.1) _ y p.2 in
      let t = bind_ok (port_type w.0.1) _ y w.2 in
      let a = port-reads.takes words p.0 p.1 in
      let b = way-reads.takes p.0.1 w.0 w.1 in
      let c = port_type-reads.takes w.0.1 t.0 t.1 in
      let joined = Takes-join (Fixed p.0.0 ∷ []) (Word (way_word w.0.0) ∷ Word (type_word t.0.0) ∷ []) words p.0.1 t.0.1 a.0 (Takes-join (Word (way_word w.0.0) ∷ []) (Word (type_word t.0.0) ∷ []) p.0.1 w.0.1 t.0.1 b.0 c.0) in
      subst (λ (y : Command × List (List ℕ)). Takes (command_slots y.0) (codes "register" ∷ words) y.1 × IsCommand header y.0) (ok_is (Register p.0.0 w.0.0 t.0.0, t.0.1) y t.2) ((refl, joined), a.1);
}

registering-again : (words rest : List (List ℕ)) (port : List ℕ) (way : Way) (kind : PortKind) → Takes (Fixed port ∷ Word (way_word way) ∷ Word (type_word kind) ∷ []) words rest → IsPortName port → registering words ≡ Ok (Register port way kind, rest)
registering-again words rest port way kind p g =
    let a = Takes-split (Fixed port ∷ []) (Word (way_word way) ∷ Word (type_word kind) ∷ []) words rest p in
    let b = Takes-split (Word (way_word way) ∷ []) (Word (type_word kind) ∷ []) a.0 rest a.2 in
    rw (port-reads.again words port a.0 a.1 g, way-reads.again a.0 way b.0 b.1 tt, port_type-reads.again b.0 kind rest b.2 tt) refl

abbrev tempo_slots : List ℕ → ℕ → ℕ → ℕ → List Slot
tempo_slots client mbpm beats ticks = Fixed client ∷ Numeral mbpm ∷ Numeral beats ∷ Numeral ticks ∷ []

tempo-takes : (header : Header) (name : List ℕ) (make : List ℕ → ℕ → ℕ → ℕ → Command) → ((c : List ℕ) (m b t : ℕ) → command_slots (make c m b t) ≡ Word name ∷ tempo_slots c m b t) → ((c : List ℕ) (m b t : ℕ) → IsClientName c → IsTempo m b t → IsCommand header (make c m b t))
    → ChoiceTakes command_slots (IsCommand header) (name, tempo make)
tempo-takes header name make same good = record {
  takes = λ words y e.
      let c = bind_ok (client words) _ y e in
      let m = bind_ok (number 1000 999999 c.0.1) _ y c.2 in
      let b = bind_ok (number 1 32 m.0.1) _ y m.2 in
      let t = bind_ok (number 1 9600 b.0.1) _ y b.2 in
      let i = client-reads.takes words c.0 c.1 in
      let j = (number-reads 1000 999999).takes c.0.1 m.0 m.1 in
      let k = (number-reads 1 32).takes m.0.1 b.0 b.1 in
      let l = (number-reads 1 9600).takes b.0.1 t.0 t.1 in
      let two = Takes-join (Numeral b.0.0 ∷ []) (Numeral t.0.0 ∷ []) m.0.1 b.0.1 t.0.1 k.0 l.0 in
      let three = Takes-join (Numeral m.0.0 ∷ []) (Numeral b.0.0 ∷ Numeral t.0.0 ∷ []) c.0.1 m.0.1 t.0.1 j.0 two in
      let four = Takes-join (Fixed c.0.0 ∷ []) (Numeral m.0.0 ∷ Numeral b.0.0 ∷ Numeral t.0.0 ∷ []) words c.0.1 t.0.1 i.0 three in
      subst (λ (y : Command × List (List ℕ)). Takes (command_slots y.0) (name ∷ words) y.1 × IsCommand header y.0) (ok_is (make c.0.0 m.0.0 b.0.0 t.0.0, t.0.1) y t.2)
      (subst (λ (s : List Slot). Takes s (name ∷ words) t.0.1) (sym (same c.0.0 m.0.0 b.0.0 t.0.0)) (refl, four), good c.0.0 m.0.0 b.0.0 t.0.0 i.1 (record { mbpm_in = j.1; beats_in = k.1; ticks_in = l.1 }));
}

tempo-again : (make : List ℕ → ℕ → ℕ → ℕ → Command) (words rest : List (List ℕ)) (c : List ℕ) (m b t : ℕ) → Takes (tempo_slots c m b t) words rest → IsClientName c → IsTempo m b t → tempo make words ≡ Ok (make c m b t, rest)
tempo-again make words rest c m b t p g h =
    let i = Takes-split (Fixed c ∷ []) (Numeral m ∷ Numeral b ∷ Numeral t ∷ []) words rest p in
    let j = Takes-split (Numeral m ∷ []) (Numeral b ∷ Numeral t ∷ []) i.0 rest i.2 in
    let k = Takes-split (Numeral b ∷ []) (Numeral t ∷ []) j.0 rest j.2 in
    rw (client-reads.again words c i.0 i.1 g, (number-reads 1000 999999).again i.0 m j.0 j.1 h.mbpm_in, (number-reads 1 32).again j.0 b k.0 k.1 h.beats_in, (number-reads 1 9600).again k.0 t rest k.2 h.ticks_in) refl

commands-take : (header : Header) → EachChoice (ChoiceTakes command_slots (IsCommand header)) (commands header)
commands-take header = (
  made_of_two-takes command_slots (IsCommand header) (codes "open") client-reads (kind-reads header) Open (λ a b. refl) (λ a b g h. (g, h)),
  (
    made-takes command_slots (IsCommand header) (codes "close") client-reads Close (λ a. refl) (λ a g. g),
    (
      made-takes command_slots (IsCommand header) (codes "activate") client-reads Activate (λ a. refl) (λ a g. g),
      (
        made-takes command_slots (IsCommand header) (codes "deactivate") client-reads Deactivate (λ a. refl) (λ a g. g),
        (
          registering-takes header,
          (
            made-takes command_slots (IsCommand header) (codes "unregister") port-reads Unregister (λ a. refl) (λ a g. g),
            (
              made_of_two-takes command_slots (IsCommand header) (codes "connect") port-reads port-reads Connect (λ a b. refl) (λ a b g h. (g, h)),
              (
                made_of_two-takes command_slots (IsCommand header) (codes "disconnect") port-reads port-reads Disconnect (λ a b. refl) (λ a b g h. (g, h)),
                (
                  just-takes command_slots (IsCommand header) (codes "start") Start refl tt,
                  (
                    just-takes command_slots (IsCommand header) (codes "stop") Stop refl tt,
                    (
                      made-takes command_slots (IsCommand header) (codes "locate") (up_to-reads 2147483647) Locate (λ a. refl) (λ a g. g),
                      (
                        made-takes command_slots (IsCommand header) (codes "timeout") (up_to-reads 1000000) Timeout (λ a. refl) (λ a g. g),
                        (
                          made_of_two-takes command_slots (IsCommand header) (codes "slow") client-reads (up_to-reads 1000) Slow (λ a b. refl) (λ a b g h. (g, h)),
                          (
                            tempo-takes header (codes "timebase") Timebase (λ c m b t. refl) (λ c m b t g h. (g, h)),
                            (
                              tempo-takes header (codes "timebase_if") TimebaseIf (λ c m b t. refl) (λ c m b t g h. (g, h)),
                              (
                                made-takes command_slots (IsCommand header) (codes "release") client-reads Release (λ a. refl) (λ a g. g),
                                (
                                  made_of_two-takes command_slots (IsCommand header) (codes "latency") mode-reads port-reads Latency (λ a b. refl) (λ a b g h. h),
                                  tt,
                                ),
                              ),
                            ),
                          ),
                        ),
                      ),
                    ),
                  ),
                ),
              ),
            ),
          ),
        ),
      ),
    ),
  ),
)

command-again : (header : Header) (words : List (List ℕ)) (x : Command) (rest : List (List ℕ)) → Takes (command_slots x) words rest → IsCommand header x → command header words ≡ Ok (x, rest)
command-again header words (Open client kind) rest p g = by_word-again (commands header) (codes "open") _ refl (Fixed client ∷ kind_slots kind) words rest _ p (λ others q. made_of_two-again client-reads (kind-reads header) Open others rest client kind q g.0 g.1)
command-again header words (Close client) rest p g = by_word-again (commands header) (codes "close") _ refl (Fixed client ∷ []) words rest _ p (λ others q. made-again client-reads Close others rest client q g)
command-again header words (Activate client) rest p g = by_word-again (commands header) (codes "activate") _ refl (Fixed client ∷ []) words rest _ p (λ others q. made-again client-reads Activate others rest client q g)
command-again header words (Deactivate client) rest p g = by_word-again (commands header) (codes "deactivate") _ refl (Fixed client ∷ []) words rest _ p (λ others q. made-again client-reads Deactivate others rest client q g)
command-again header words (Register port way kind) rest p g = by_word-again (commands header) (codes "register") _ refl (Fixed port ∷ Word (way_word way) ∷ Word (type_word kind) ∷ []) words rest _ p (λ others q. registering-again others rest port way kind q g)
command-again header words (Unregister port) rest p g = by_word-again (commands header) (codes "unregister") _ refl (Fixed port ∷ []) words rest _ p (λ others q. made-again port-reads Unregister others rest port q g)
command-again header words (Connect source destination) rest p g = by_word-again (commands header) (codes "connect") _ refl (Fixed source ∷ Fixed destination ∷ []) words rest _ p (λ others q. made_of_two-again port-reads port-reads Connect others rest source destination q g.0 g.1)
command-again header words (Disconnect source destination) rest p g = by_word-again (commands header) (codes "disconnect") _ refl (Fixed source ∷ Fixed destination ∷ []) words rest _ p (λ others q. made_of_two-again port-reads port-reads Disconnect others rest source destination q g.0 g.1)
command-again header words Start rest p g = by_word-again (commands header) (codes "start") _ refl ([]) words rest _ p (λ others q. ap (λ (w : List (List ℕ)). Ok (Start, w)) q)
command-again header words Stop rest p g = by_word-again (commands header) (codes "stop") _ refl ([]) words rest _ p (λ others q. ap (λ (w : List (List ℕ)). Ok (Stop, w)) q)
command-again header words (Locate frame) rest p g = by_word-again (commands header) (codes "locate") _ refl (Numeral frame ∷ []) words rest _ p (λ others q. made-again (up_to-reads 2147483647) Locate others rest frame q g)
command-again header words (Timeout cycles) rest p g = by_word-again (commands header) (codes "timeout") _ refl (Numeral cycles ∷ []) words rest _ p (λ others q. made-again (up_to-reads 1000000) Timeout others rest cycles q g)
command-again header words (Slow client cycles) rest p g = by_word-again (commands header) (codes "slow") _ refl (Fixed client ∷ Numeral cycles ∷ []) words rest _ p (λ others q. made_of_two-again client-reads (up_to-reads 1000) Slow others rest client cycles q g.0 g.1)
command-again header words (Timebase client mbpm beats ticks) rest p g = by_word-again (commands header) (codes "timebase") _ refl (tempo_slots client mbpm beats ticks) words rest _ p (λ others q. tempo-again Timebase others rest client mbpm beats ticks q g.0 g.1)
command-again header words (TimebaseIf client mbpm beats ticks) rest p g = by_word-again (commands header) (codes "timebase_if") _ refl (tempo_slots client mbpm beats ticks) words rest _ p (λ others q. tempo-again TimebaseIf others rest client mbpm beats ticks q g.0 g.1)
command-again header words (Release client) rest p g = by_word-again (commands header) (codes "release") _ refl (Fixed client ∷ []) words rest _ p (λ others q. made-again client-reads Release others rest client q g)
command-again header words (Latency mode port) rest p g = by_word-again (commands header) (codes "latency") _ refl (Word (mode_word mode) ∷ Fixed port ∷ []) words rest _ p (λ others q. made_of_two-again mode-reads port-reads Latency others rest mode port q tt g)

pub command-reads : (header : Header) → Reads (command header) command_slots (IsCommand header)
command-reads header = record {
  takes = λ words y e. by_word-takes command_slots (IsCommand header) (commands header) (commands-take header) words y e;
  again = λ words x rest p g. command-again header words x rest p g;
}
