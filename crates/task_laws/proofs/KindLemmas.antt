-- The kinds that a script opens.
use Rattle.std.proofs.Common.{◌≡◌, ℕ, suc, ◌<◌, ◌≤◌, max, fold, List, [], ◌∷◌, map, get_or, All, Contains, Some, None, inl, inr, ◌⊎◌, subst, arith}
use Rattle.std.proofs.lemmas.List.{get_or_default}
use Rattle.jack_types.specs.declared.commands.Command.{Command}
use Rattle.jack_types.specs.declared.commands.Command.TheVariants.{Open, Close, Activate, Deactivate, Register, Unregister, Connect, Disconnect, Start, Stop, Locate, Timeout, Slow, Timebase, TimebaseIf, Release, Latency}
use Rattle.jack_types.specs.declared.kinds.Kind.{Kind}
use Rattle.jack_types.specs.declared.kinds.Kind.TheVariants.{Pass, Gain, Mix, Delay, Tone, Click, Meter, Tape, Guest, Midiplay, Midithru, Midilog, Disk}
use Rattle.jack_types.specs.declared.scripts.Header.{Header}
use Rattle.driver_laws.specs.session_model.specs.Grammar.{IsScript, IsCommand, IsKind}
use Rattle.driver_laws.specs.session_model.specs.Scripts.{Script, Planned, planned}
use Rattle.driver_laws.specs.session_laws.proofs.ListLemmas.{Each, Each-contains, Each-weaker}
use Rattle.driver_laws.specs.session_laws.proofs.LoopLemmas.{Contains-cases}
use Rattle.driver_laws.specs.session_laws.proofs.SoundLemmas.{map-contains}
use Rattle.client_benches.specs.client_kinds.specs.Standings.{IsPlayable}
use Rattle.task_laws.specs.Calls.{IsOldKind, guest_bound, guests_needed, kind_opened, open_kinds}
use Rattle.task_laws.proofs.CallLemmas.{each-filter_map, planned-lawful}

pub all-each : {X : Type 0} (P : X → Type 0) (xs : List X) → Each P xs → All P xs
all-each P xs h i d within = Each-contains P xs (get_or xs i d) h (i, within, get_or_default xs i (get_or xs i d) d within)

playable : (header : Header) (kind : Kind) → IsKind header kind → IsPlayable kind
playable header Pass h = tt
playable header (Gain factor shift) h = h.1
playable header Mix h = tt
playable header (Delay frames) h = h
playable header (Tone half level) h = record { least = h.0.0; most = h.0.1; opposite = h.1.0 }
playable header (Click level) h = tt
playable header Meter h = tt
playable header (Tape recorder) h = tt
playable header (Guest guest) h = tt
playable header (Midiplay list) h = tt
playable header Midithru h = tt
playable header Midilog h = tt
playable header (Disk disk) h = tt

pub old : (header : Header) → header.version < 3 → (kind : Kind) → IsKind header kind → IsOldKind kind
old header low Pass h = tt
old header low (Gain factor shift) h = tt
old header low Mix h = tt
old header low (Delay frames) h = tt
old header low (Tone half level) h = tt
old header low (Click level) h = tt
old header low Meter h = tt
old header low (Tape recorder) h = tt
old header low (Guest guest) h = tt
old header low (Midiplay list) h = absurd (omega (arith, low, h.0))
old header low Midithru h = absurd (omega (arith, low, h))
old header low Midilog h = absurd (omega (arith, low, h))
old header low (Disk disk) h = absurd (omega (arith, low, h.0))

-- the kind that a lawful command opens is lawful
pub opened-kind : (header : Header) (command : Command) (kind : Kind) → IsCommand header command → kind_opened command ≡ Some kind → IsKind header kind
opened-kind header command kind h e = go command h e
  where
    some : (a b : Kind) → Some a ≡ Some b → a ≡ b
    some a b p = cc

    none : None ≡ Some kind → ⊥
    none p = cc

    go : (c : Command) → IsCommand header c → kind_opened c ≡ Some kind → IsKind header kind
    go (Open client other) h e = subst (IsKind header) (some other kind e) h.1
    go (Close client) h e = absurd (none e)
    go (Activate client) h e = absurd (none e)
    go (Deactivate client) h e = absurd (none e)
    go (Register port way type) h e = absurd (none e)
    go (Unregister port) h e = absurd (none e)
    go (Connect source destination) h e = absurd (none e)
    go (Disconnect source destination) h e = absurd (none e)
    go Start h e = absurd (none e)
    go Stop h e = absurd (none e)
    go (Locate frame) h e = absurd (none e)
    go (Timeout cycles) h e = absurd (none e)
    go (Slow client cycles) h e = absurd (none e)
    go (Timebase client mbpm beats ticks) h e = absurd (none e)
    go (TimebaseIf client mbpm beats ticks) h e = absurd (none e)
    go (Release client) h e = absurd (none e)
    go (Latency mode port) h e = absurd (none e)

kinds-lawful : (script : Script) → IsScript script → Each (IsKind script.header) (open_kinds script)
kinds-lawful script is = each-filter_map (IsKind script.header) (λ (plan : Planned). kind_opened plan.call.command) (planned script)
    (Each-weaker (λ (plan : Planned). IsCommand script.header plan.call.command) (λ (plan : Planned). (kind : Kind) → kind_opened plan.call.command ≡ Some kind → IsKind script.header kind)
    (λ plan h kind e. opened-kind script.header plan.call.command kind h e) (planned script) (planned-lawful script is))

pub kinds-playable : (script : Script) → IsScript script → All IsPlayable (open_kinds script)
kinds-playable script is = all-each IsPlayable (open_kinds script) (Each-weaker (IsKind script.header) IsPlayable (playable script.header) (open_kinds script) (kinds-lawful script is))

pub kinds-old : (script : Script) → IsScript script → script.header.version < 3 → All IsOldKind (open_kinds script)
kinds-old script is low = all-each IsOldKind (open_kinds script) (Each-weaker (IsKind script.header) IsOldKind (old script.header low) (open_kinds script) (kinds-lawful script is))

most-start : (xs : List ℕ) (start : ℕ) → start ≤ fold max start xs
most-start [] start = omega arith
most-start (x ∷ xs) start = let rest = most-start xs (max start x) in grind arith

most-each : (xs : List ℕ) (start x : ℕ) → Contains xs x → x ≤ fold max start xs
most-each [] start x m = absurd (omega (arith, m.1))
most-each (y ∷ xs) start x m = go (Contains-cases y x xs m) (most-each xs (max start y) x) (most-start xs (max start y))
  where
    go : (y ≡ x) ⊎ Contains xs x → (Contains xs x → x ≤ fold max (max start y) xs) → max start y ≤ fold max (max start y) xs → x ≤ fold max (max start y) xs
    go (inl e) rest first = grind arith
    go (inr k) rest first = rest k

pub guests-among : (script : Script) (guest : ℕ) → Contains (open_kinds script) (Guest guest) → guest < guests_needed script
guests-among script guest m = most-each (map guest_bound (open_kinds script)) 0 (suc guest) (map-contains guest_bound (open_kinds script) (Guest guest) m)
