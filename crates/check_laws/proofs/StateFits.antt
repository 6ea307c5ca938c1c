-- The bounds of every state that a script's changes lead to, and of what is answered in it.
--     replay-fits      delays, ports and the master's tempo
--     latency-fits     a port's latency
--     reply-form       a reply is of the form of a report's
use Rattle.std.proofs.Common.{◌≡◌, ℕ, zero, suc, ◌+◌, ◌*◌, ◌^◌, ◌<◌, ◌≤◌, Bool, true, false, cond, not, ◌==◌, List, [], ◌∷◌, ◌++◌, length, map, take, get_or, Option, Some, None, is_none, refl, sym, subst, arith, length-append}
use native.Mathlib.Nat.{max-le}
use Rattle.std.specs.Str.{bytes_eq}
use Rattle.std.specs.List.{cons_option}
use Rattle.std.specs.Option.{option_map_or}
use Rattle.std.proofs.lemmas.List.Sums.{count_by-le-length}
use Rattle.jack_types.specs.Names.{client_part}
use Rattle.jack_types.specs.declared.commands.Call.{Call}
use Rattle.jack_types.specs.declared.commands.Change.{Change}
use Rattle.jack_types.specs.declared.commands.Command.{Command}
use Rattle.jack_types.specs.declared.commands.Command.TheVariants.{Open, Close, Activate, Deactivate, Register, Unregister, Connect, Disconnect, Start, Stop, Locate, Timeout, Slow, Timebase, TimebaseIf, Release, Latency}
use Rattle.jack_types.specs.declared.kinds.Kind.{Kind}
use Rattle.jack_types.specs.declared.kinds.Kind.TheVariants.{Pass, Gain, Mix, Delay, Tone, Click, Meter, Tape, Guest, Midiplay, Midithru, Midilog, Disk}
use Rattle.jack_types.specs.declared.ports.Mode.{Mode}
use Rattle.jack_types.specs.declared.ports.Mode.TheVariants.{Capture, Playback}
use Rattle.jack_types.specs.declared.ports.Range.{Range}
use Rattle.jack_types.specs.declared.replies.Entry.{Entry}
use Rattle.jack_types.specs.declared.replies.Refusal.{Refusal}
use Rattle.jack_types.specs.declared.replies.Reply.{Reply}
use Rattle.jack_types.specs.declared.replies.Reply.TheVariants.{Accepted, Refused, Latency as Told}
use Rattle.session_model.specs.Commands.{effect, after, replay, refusal, with_client, master_without, is_input}
use Rattle.session_model.specs.Grammar.{IsScript, IsCommand, IsKind, IsTempo}
use Rattle.session_model.specs.Histories.{accepted, change_of}
use Rattle.session_model.specs.Latencies.{Wiring, no_range, joined, later_by, direct_into, direct_from, inputs_of, outputs_of, output_range, input_range, range_of, delay_of_kind, delay_in, wiring_of, latency}
use Rattle.session_model.specs.Replies.{granted, reply_by, reply}
use Rattle.session_model.specs.Samples.{below}
use Rattle.session_model.specs.Scripts.{Script, Planned, Uncounted, planned, counted, uncounted, phases}
use Rattle.session_model.specs.State.{State, OpenClient, OpenPort, Connection, Master, opening, client_named, port_named, is_system, capture_port, playback_port}
use Rattle.grammar_laws.specs.session_laws.proofs.ActivationLemmas.{length-map_below}
use Rattle.grammar_laws.specs.session_laws.proofs.CycleLemmas.{find-contains}
use Rattle.grammar_laws.specs.session_laws.proofs.ListLemmas.{Each, Each-weaker, Each-map, Each-append, Each-filter_kept, Each-contains, Each-all}
use Rattle.report_texts.proofs.SameReportLemmas.{planned-keep, planned-few, IsPlanned, filter-shorter}
use Rattle.check_model.specs.Checking.{IsReplyForm}

abbrev pub AreCommands : Script → List Change → Type 0
AreCommands script changes = Each (λ (change : Change). IsCommand script.header change.command) changes

pub accepted-commands : (script : Script) → IsScript script → (history : List Entry) → Each (λ (entry : Entry). IsPlanned script entry.call) history → AreCommands script (accepted history)
accepted-commands script is [] h = tt
accepted-commands script is (entry ∷ history) h = go entry.reply (accepted-commands script is history h.1)
  where
    here : IsCommand script.header entry.call.command
    here = subst (λ (call : Call). IsCommand script.header call.command) (h.0).2 (Each-contains (λ (plan : Planned). IsCommand script.header plan.call.command) (planned script) (h.0).0 (planned-keep script is) (h.0).1)

    go : (r : Reply) → AreCommands script (accepted history) → AreCommands script (cons_option (change_of (record { call = entry.call; reply = r })) (accepted history))
    go (Accepted number) k = (here, k)
    go (Refused refusal) k = k
    go (Told range) k = k

pub Each-take : {X : Type 0} (P : X → Type 0) (n : ℕ) (xs : List X) → Each P xs → Each P (take n xs)
Each-take P zero xs h = tt
Each-take P (suc n) [] h = tt
Each-take P (suc n) (x ∷ xs) h = (h.0, Each-take P n xs h.1)

pub Each-get : {X : Type 0} (P : X → Type 0) (xs : List X) (i : ℕ) (d : X) → Each P xs → P d → P (get_or xs i d)
Each-get P [] i d h p = p
Each-get P (x ∷ xs) zero d h p = h.0
Each-get P (x ∷ xs) (suc i) d h p = Each-get P xs i d h.1 p

-- ---- states

abbrev IsShort : OpenClient → Type 0
IsShort client = delay_of_kind client.kind ≤ 4096

abbrev pub MasterFits : Option Master → Type 0
MasterFits None = Unit {0}
MasterFits (Some master) = IsTempo master.mbpm master.beats master.ticks

pub record StateFits (n : ℕ) (state : State) : Type 0 where
  pub clients : Each (λ (client : OpenClient). delay_of_kind client.kind ≤ 4096) state.clients
  pub ports : length state.ports ≤ n
  pub master : MasterFits state.master

kind-fits : (script : Script) (kind : Kind) → IsKind script.header kind → delay_of_kind kind ≤ 4096
kind-fits script Pass h = omega arith
kind-fits script (Gain _ _) h = omega arith
kind-fits script Mix h = omega arith
kind-fits script (Delay frames) h = h
kind-fits script (Tone _ _) h = omega arith
kind-fits script (Click _) h = omega arith
kind-fits script Meter h = omega arith
kind-fits script (Tape _) h = omega arith
kind-fits script (Guest _) h = omega arith
kind-fits script (Midiplay _) h = omega arith
kind-fits script Midithru h = omega arith
kind-fits script Midilog h = omega arith
kind-fits script (Disk _) h = omega arith

changed-short : (name : List ℕ) (change : OpenClient → OpenClient) (clients : List OpenClient) → ((client : OpenClient) → (change client).kind ≡ client.kind) → Each IsShort clients → Each IsShort (with_client name change clients)
changed-short name change clients same h =
    Each-map IsShort (λ (client : OpenClient). cond (bytes_eq client.name name) (change client) client) clients
    (Each-weaker IsShort (λ (client : OpenClient). IsShort (cond (bytes_eq client.name name) (change client) client)) (λ client short. go client (bytes_eq client.name name) short) clients h)
  where
    go : (client : OpenClient) (b : Bool) → IsShort client → IsShort (cond b (change client) client)
    go client true short = subst (λ kind. delay_of_kind kind ≤ 4096) (sym (same client)) short
    go client false short = short

without-fits : (name : List ℕ) (master : Option Master) → MasterFits master → MasterFits (master_without name master)
without-fits name None h = tt
without-fits name (Some master) h = go (bytes_eq master.client name)
  where
    go : (b : Bool) → MasterFits (cond b None (Some master))
    go true = tt
    go false = h

effect-fits : (script : Script) (n : ℕ) (state : State) (number : ℕ) (command : Command) → IsCommand script.header command → StateFits n state → StateFits (suc n) (effect state number command)
effect-fits script n state number (Open client kind) c h = record { clients = Each-append IsShort state.clients (record { name = client; kind = kind; birth = number; active = false; slow = 0 } ∷ []) h.clients (kind-fits script kind c.1, tt); ports = omega (arith, h.ports); master = h.master }
effect-fits script n state number (Close client) c h = record { clients = Each-filter_kept IsShort (λ (old : OpenClient). not (bytes_eq old.name client)) state.clients h.clients; ports = omega (arith, h.ports, filter-shorter (λ (port : OpenPort). not (bytes_eq (client_part port.name) client)) state.ports); master = without-fits client state.master h.master }
effect-fits script n state number (Activate client) c h = record { clients = changed-short client (λ (old : OpenClient). record old { active = true }) state.clients (λ old. refl) h.clients; ports = omega (arith, h.ports); master = h.master }
effect-fits script n state number (Deactivate client) c h = record { clients = changed-short client (λ (old : OpenClient). record old { active = false }) state.clients (λ old. refl) h.clients; ports = omega (arith, h.ports); master = without-fits client state.master h.master }
effect-fits script n state number (Register port way kind) c h = record { clients = h.clients; ports = omega (arith, h.ports, length-append state.ports (record { name = port; way = way; kind = kind; birth = number } ∷ [])); master = h.master }
effect-fits script n state number (Unregister port) c h = record { clients = h.clients; ports = omega (arith, h.ports, filter-shorter (λ (other : OpenPort). not (bytes_eq other.name port)) state.ports); master = h.master }
effect-fits script n state number (Connect source destination) c h = record { clients = h.clients; ports = omega (arith, h.ports); master = h.master }
effect-fits script n state number (Disconnect source destination) c h = record { clients = h.clients; ports = omega (arith, h.ports); master = h.master }
effect-fits script n state number Start c h = record { clients = h.clients; ports = omega (arith, h.ports); master = h.master }
effect-fits script n state number Stop c h = record { clients = h.clients; ports = omega (arith, h.ports); master = h.master }
effect-fits script n state number (Locate frame) c h = record { clients = h.clients; ports = omega (arith, h.ports); master = h.master }
effect-fits script n state number (Timeout cycles) c h = record { clients = h.clients; ports = omega (arith, h.ports); master = h.master }
effect-fits script n state number (Slow client cycles) c h = record { clients = changed-short client (λ (old : OpenClient). record old { slow = cycles }) state.clients (λ old. refl) h.clients; ports = omega (arith, h.ports); master = h.master }
effect-fits script n state number (Timebase client mbpm beats ticks) c h = record { clients = h.clients; ports = omega (arith, h.ports); master = c.1 }
effect-fits script n state number (TimebaseIf client mbpm beats ticks) c h = record { clients = h.clients; ports = omega (arith, h.ports); master = c.1 }
effect-fits script n state number (Release client) c h = record { clients = h.clients; ports = omega (arith, h.ports); master = tt }
effect-fits script n state number (Latency mode port) c h = record { clients = h.clients; ports = omega (arith, h.ports); master = h.master }

after-fits : (script : Script) (n : ℕ) (state : State) (number : ℕ) (command : Command) → IsCommand script.header command → StateFits n state → StateFits (suc n) (after state number command)
after-fits script n state number command c h = go (is_none (refusal state command))
  where
    go : (b : Bool) → StateFits (suc n) (cond b (effect state number command) state)
    go true = effect-fits script n state number command c h
    go false = record { clients = h.clients; ports = omega (arith, h.ports); master = h.master }

pub replay-fits : (script : Script) (n : ℕ) (changes : List Change) (state : State) → AreCommands script changes → StateFits n state → StateFits (n + length changes) (replay state changes)
replay-fits script n [] state c h = record { clients = h.clients; ports = omega (arith, h.ports); master = h.master }
replay-fits script n (change ∷ changes) state c h =
    let rest : StateFits (suc n + length changes) (replay (after state change.number change.command) changes) =
    replay-fits script (suc n) changes (after state change.number change.command) c.1 (after-fits script n state change.number change.command c.0 h) in
    record { clients = rest.clients; ports = omega (arith, rest.ports); master = rest.master }

pub opening-fits : (script : Script) → IsScript script → StateFits 16 (opening script.header.capture script.header.playback)
opening-fits script is = record {
  clients = (omega arith, tt);
  ports = omega (
    arith,
    length-append (map capture_port (below script.header.capture)) (map playback_port (below script.header.playback)),
    length-map_below capture_port script.header.capture,
    length-map_below playback_port script.header.playback,
    is.header.capture.1,
    is.header.playback.1,
  );
  master = tt;
}

-- ---- latencies

-- both ends of a range are at most this
abbrev pub RangeFits : ℕ → Range → Type 0
RangeFits most range = (range.min ≤ most) × (range.max ≤ most)

joined-fits : (most : ℕ) (ranges : List Range) → Each (RangeFits most) ranges → RangeFits most (joined ranges)
joined-fits most [] h = (omega arith, omega arith)
joined-fits most (range ∷ []) h = h.0
joined-fits most (range ∷ next ∷ ranges) h =
    let others : RangeFits most (joined (next ∷ ranges)) = joined-fits most (next ∷ ranges) h.1 in
    let first : RangeFits most range = h.0 in
    (omega (arith, first.0), max-le first.1 others.1)

no_range-fits : (most : ℕ) → RangeFits most no_range
no_range-fits most = (omega arith, omega arith)

module _ (wiring : Wiring) (delays : (client : List ℕ) → wiring.delay client ≤ 4096) where
  output-fits : (depth : ℕ) (port : List ℕ) → RangeFits (4096 * depth) (output_range wiring depth port)
  output-fits zero port = no_range-fits (4096 * 0)
  output-fits (suc depth) port =
      go (is_system (client_part port))
      (joined-fits (4096 * depth) (map (λ (input : OpenPort). joined (map (λ (edge : Connection). output_range wiring depth edge.source) (direct_into wiring input.name))) (inputs_of wiring (client_part port)))
      (Each-map (RangeFits (4096 * depth)) (λ (input : OpenPort). joined (map (λ (edge : Connection). output_range wiring depth edge.source) (direct_into wiring input.name))) (inputs_of wiring (client_part port))
      (Each-all (λ (input : OpenPort). RangeFits (4096 * depth) (joined (map (λ (edge : Connection). output_range wiring depth edge.source) (direct_into wiring input.name))))
      (λ input. joined-fits (4096 * depth) (map (λ (edge : Connection). output_range wiring depth edge.source) (direct_into wiring input.name))
      (Each-map (RangeFits (4096 * depth)) (λ (edge : Connection). output_range wiring depth edge.source) (direct_into wiring input.name)
      (Each-all (λ (edge : Connection). RangeFits (4096 * depth) (output_range wiring depth edge.source)) (λ edge. output-fits depth edge.source) (direct_into wiring input.name))))
      (inputs_of wiring (client_part port)))))
    where
      go : (b : Bool) → RangeFits (4096 * depth) (joined (map (λ (input : OpenPort). joined (map (λ (edge : Connection). output_range wiring depth edge.source) (direct_into wiring input.name))) (inputs_of wiring (client_part port)))) → RangeFits (4096 * suc depth) (cond b no_range (later_by (wiring.delay (client_part port)) (joined (map (λ (input : OpenPort). joined (map (λ (edge : Connection). output_range wiring depth edge.source) (direct_into wiring input.name))) (inputs_of wiring (client_part port))))))
      go true h = no_range-fits (4096 * suc depth)
      go false h = (omega (arith, h.0, delays (client_part port)), omega (arith, h.1, delays (client_part port)))

  input-fits : (depth : ℕ) (port : List ℕ) → RangeFits (4096 * depth) (input_range wiring depth port)
  input-fits zero port = no_range-fits (4096 * 0)
  input-fits (suc depth) port =
      go (is_system (client_part port))
      (joined-fits (4096 * depth) (map (λ (output : OpenPort). joined (map (λ (edge : Connection). input_range wiring depth edge.destination) (direct_from wiring output.name))) (outputs_of wiring (client_part port)))
      (Each-map (RangeFits (4096 * depth)) (λ (output : OpenPort). joined (map (λ (edge : Connection). input_range wiring depth edge.destination) (direct_from wiring output.name))) (outputs_of wiring (client_part port))
      (Each-all (λ (output : OpenPort). RangeFits (4096 * depth) (joined (map (λ (edge : Connection). input_range wiring depth edge.destination) (direct_from wiring output.name))))
      (λ output. joined-fits (4096 * depth) (map (λ (edge : Connection). input_range wiring depth edge.destination) (direct_from wiring output.name))
      (Each-map (RangeFits (4096 * depth)) (λ (edge : Connection). input_range wiring depth edge.destination) (direct_from wiring output.name)
      (Each-all (λ (edge : Connection). RangeFits (4096 * depth) (input_range wiring depth edge.destination)) (λ edge. input-fits depth edge.destination) (direct_from wiring output.name))))
      (outputs_of wiring (client_part port)))))
    where
      go : (b : Bool) → RangeFits (4096 * depth) (joined (map (λ (output : OpenPort). joined (map (λ (edge : Connection). input_range wiring depth edge.destination) (direct_from wiring output.name))) (outputs_of wiring (client_part port)))) → RangeFits (4096 * suc depth) (cond b no_range (later_by (wiring.delay (client_part port)) (joined (map (λ (output : OpenPort). joined (map (λ (edge : Connection). input_range wiring depth edge.destination) (direct_from wiring output.name))) (outputs_of wiring (client_part port))))))
      go true h = no_range-fits (4096 * suc depth)
      go false h = (omega (arith, h.0, delays (client_part port)), omega (arith, h.1, delays (client_part port)))

  range-fits : (mode : Mode) (port : OpenPort) → RangeFits (4096 * length wiring.ports) (range_of wiring mode port)
  range-fits Capture port = go (is_input port)
    where
      go : (b : Bool) → RangeFits (4096 * length wiring.ports) (cond b (joined (map (λ (edge : Connection). output_range wiring (length wiring.ports) edge.source) (direct_into wiring port.name))) (output_range wiring (length wiring.ports) port.name))
      go true =
          joined-fits (4096 * length wiring.ports) (map (λ (edge : Connection). output_range wiring (length wiring.ports) edge.source) (direct_into wiring port.name))
          (Each-map (RangeFits (4096 * length wiring.ports)) (λ (edge : Connection). output_range wiring (length wiring.ports) edge.source) (direct_into wiring port.name)
          (Each-all (λ (edge : Connection). RangeFits (4096 * length wiring.ports) (output_range wiring (length wiring.ports) edge.source)) (λ edge. output-fits (length wiring.ports) edge.source) (direct_into wiring port.name)))
      go false = output-fits (length wiring.ports) port.name
  range-fits Playback port = go (is_input port)
    where
      go : (b : Bool) → RangeFits (4096 * length wiring.ports) (cond b (input_range wiring (length wiring.ports) port.name) (joined (map (λ (edge : Connection). input_range wiring (length wiring.ports) edge.destination) (direct_from wiring port.name))))
      go true = input-fits (length wiring.ports) port.name
      go false =
          joined-fits (4096 * length wiring.ports) (map (λ (edge : Connection). input_range wiring (length wiring.ports) edge.destination) (direct_from wiring port.name))
          (Each-map (RangeFits (4096 * length wiring.ports)) (λ (edge : Connection). input_range wiring (length wiring.ports) edge.destination) (direct_from wiring port.name)
          (Each-all (λ (edge : Connection). RangeFits (4096 * length wiring.ports) (input_range wiring (length wiring.ports) edge.destination)) (λ edge. input-fits (length wiring.ports) edge.destination) (direct_from wiring port.name)))

module _ (n : ℕ) (state : State) (fits : StateFits n state) where
  delay-fits : (client : List ℕ) → delay_in state client ≤ 4096
  delay-fits client = go (client_named state client) refl
    where
      go : (o : Option OpenClient) → client_named state client ≡ o → option_map_or (λ (found : OpenClient). delay_of_kind found.kind) o 0 ≤ 4096
      go None e = omega arith
      go (Some found) e = Each-contains (λ (c : OpenClient). delay_of_kind c.kind ≤ 4096) state.clients found fits.clients (find-contains (λ (c : OpenClient). bytes_eq c.name client) state.clients found e)

  pub latency-fits : (mode : Mode) (port : List ℕ) → RangeFits (4096 * n) (latency state mode port)
  latency-fits mode port = go (port_named state port)
    where
      go : (o : Option OpenPort) → RangeFits (4096 * n) (option_map_or (range_of (wiring_of state) mode) o no_range)
      go None = no_range-fits (4096 * n)
      go (Some found) =
          let r : RangeFits (4096 * length state.ports) (range_of (wiring_of state) mode found) = range-fits (wiring_of state) delay-fits mode found in
          (omega (arith, r.0, fits.ports), omega (arith, r.1, fits.ports))

  pub reply-form : n ≤ 10000 → (number : ℕ) → number < 2 ^ 32 → (command : Command) → IsReplyForm (reply state number command)
  reply-form low number h command = go (refusal state command)
    where
      range_form : (mode : Mode) (port : List ℕ) → IsReplyForm (Told (latency state mode port))
      range_form mode port = let r : RangeFits (4096 * n) (latency state mode port) = latency-fits mode port in (omega (arith, r.0, low), omega (arith, r.1, low))

      granted-form : (c : Command) → IsReplyForm (granted state number c)
      granted-form (Open client kind) = h
      granted-form (Close client) = h
      granted-form (Activate client) = h
      granted-form (Deactivate client) = h
      granted-form (Register port way kind) = h
      granted-form (Unregister port) = h
      granted-form (Connect source destination) = h
      granted-form (Disconnect source destination) = h
      granted-form Start = h
      granted-form Stop = h
      granted-form (Locate frame) = h
      granted-form (Timeout cycles) = h
      granted-form (Slow client cycles) = h
      granted-form (Timebase client mbpm beats ticks) = h
      granted-form (TimebaseIf client mbpm beats ticks) = h
      granted-form (Release client) = h
      granted-form (Latency mode port) = range_form mode port

      go : (o : Option Refusal) → IsReplyForm (reply_by state number command o)
      go (Some refused) = tt
      go None = granted-form command

-- ---- indices

counted-bound : (earlier us : List Uncounted) → Each (λ (plan : Planned). plan.call.index ≤ length earlier + length (counted earlier us)) (counted earlier us)
counted-bound earlier [] = tt
counted-bound earlier (u ∷ us) = (
  omega (arith, count_by-le-length (λ (other : Uncounted). other.lane == u.lane) earlier),
  Each-weaker (λ (plan : Planned). plan.call.index ≤ length (earlier ++ u ∷ []) + length (counted (earlier ++ u ∷ []) us)) (λ (plan : Planned). plan.call.index ≤ length earlier + length (counted earlier (u ∷ us)))
      (λ plan h. omega (arith, h, length-append earlier (u ∷ []))) (counted (earlier ++ u ∷ []) us) (counted-bound (earlier ++ u ∷ []) us),
)

pub index-bound : (script : Script) → IsScript script → Each (λ (plan : Planned). plan.call.index ≤ 4096) (planned script)
index-bound script is =
    Each-weaker (λ (plan : Planned). plan.call.index ≤ 0 + length (planned script)) (λ (plan : Planned). plan.call.index ≤ 4096) (λ plan h. omega (arith, h, planned-few script is)) (planned script)
    (counted-bound [] (uncounted 0 0 (phases script)))
