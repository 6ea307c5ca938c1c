-- What a driver shows of its stage.
--     bench-seen      its benches are the stage's, with what was heard of events, on the plan that it played last
--     audio-seen, sounds-seen      so is what they have of audio, past the last one too
--     memory-logged      the memories are the stage's, with the logs
--     memory-own      so is a client's own, or the first of its kind where it has none and no log
--     outputs-same      benches of the same audio give the same at each port
use Rattle.std.proofs.Common.{◌≡◌, ℕ, ◌<◌, ◌≤◌, ◌⊎◌, inl, inr, cond, Bool, true, false, ◌==◌, List, [], ◌∷◌, find, length, map, Option, Some, None, refl, sym, ◌∙◌, ap, subst, eqb-true}
use Rattle.std.specs.Prelude.{unwrap_or}
use Rattle.std.specs.Option.{option_map, option_map_or}
use Rattle.std.proofs.lemmas.Bool.{cases_lt}
use Rattle.std.proofs.lemmas.List.{get_or_past}
use Rattle.jack_types.specs.Names.{client_part}
use Rattle.jack_types.specs.declared.events.Logged.{Logged}
use Rattle.jack_types.specs.declared.kinds.Kind.{Kind}
use Rattle.jack_types.specs.declared.kinds.Kind.TheVariants.{Pass, Delay, Guest}
use Rattle.session_model.specs.Benches.{Bench, fixed_audio, no_bench, node_at, outputs_of, place_in}
use Rattle.session_model.specs.Cycles.{Settled, at_port, audio_outputs}
use Rattle.session_model.specs.Kinds.{Memory, Sound, first, no_memory}
use Rattle.session_model.specs.Samples.{below, silence}
use Rattle.session_model.specs.State.{OpenClient}
use Rattle.client_kinds.specs.Scores.{Score}
use Rattle.session_laws.proofs.ActivationLemmas.{get_or-map_below, length-map_below}
use Rattle.plan_transport.specs.client_benches.specs.Seen.{Seen, bench_in, new_bench}
use Rattle.driver_words.specs.Hearings.{Heard, log_at}
use Rattle.plan_transport.specs.driver_laws.specs.Drivers.{Remembered, bench_at, memory_in}
use Rattle.client_seats.specs.Seatings.{memories, memory_of}
use Rattle.play_laws.specs.Plays.{bench_of, bench_on, with_log}
use Rattle.cycle_laws.specs.Gears.{Gear, driver_of}

pub bench-seen : (sounding : Score → Sound) (gear : Gear) (n : ℕ) → n < length gear.stage.staged.racked.benches → bench_at (driver_of sounding gear) n ≡ bench_on sounding gear.stage.plan gear.events gear.stage.staged n
bench-seen sounding gear n low = get_or-map_below (bench_on sounding gear.stage.plan gear.events gear.stage.staged) (length gear.stage.staged.racked.benches) n no_bench low

-- what is the same whether a client has MIDI ports or not, and what nobody has
part-seen : {X : Type 0} (sounding : Score → Sound) (part : Bench → X) (gear : Gear) → ((n : ℕ) → part (bench_on sounding gear.stage.plan gear.events gear.stage.staged n) ≡ part (bench_of sounding gear.stage.staged n))
    → part no_bench ≡ part (bench_in (map sounding gear.stage.staged.owned.scores) (new_bench Pass 0).kept) → (n : ℕ) → part (bench_at (driver_of sounding gear) n) ≡ part (bench_of sounding gear.stage.staged n)
part-seen sounding part gear plain past n = go (cases_lt n (length gear.stage.staged.racked.benches))
  where
    shown : ℕ → Bench
    shown = bench_on sounding gear.stage.plan gear.events gear.stage.staged

    go : (n < length gear.stage.staged.racked.benches) ⊎ (length gear.stage.staged.racked.benches ≤ n) → part (bench_at (driver_of sounding gear) n) ≡ part (bench_of sounding gear.stage.staged n)
    go (inl low) = ap part (bench-seen sounding gear n low) ∙ plain n
    go (inr high) =
        ap part (get_or_past (map shown (below (length gear.stage.staged.racked.benches))) n no_bench (subst (λ k. k ≤ n) (sym (length-map_below shown (length gear.stage.staged.racked.benches))) high))
        ∙ past
        ∙ ap (λ (bench : Seen). part (bench_in (map sounding gear.stage.staged.owned.scores) bench.kept)) (sym (get_or_past gear.stage.staged.racked.benches n (new_bench Pass 0) high))

pub audio-seen : (sounding : Score → Sound) (gear : Gear) (n : ℕ) → (bench_at (driver_of sounding gear) n).audio ≡ (bench_of sounding gear.stage.staged n).audio
audio-seen sounding gear = part-seen sounding (λ bench. bench.audio) gear (λ n. refl) refl

pub sounds-seen : (sounding : Score → Sound) (gear : Gear) (n : ℕ) → (bench_at (driver_of sounding gear) n).sounds ≡ (bench_of sounding gear.stage.staged n).sounds
sounds-seen sounding gear = part-seen sounding (λ bench. bench.sounds) gear (λ n. refl) refl

-- ---- memories, where each of a list has its log

abbrev logged : Heard → Remembered → Remembered
logged heard kept = record kept { memory = with_log (log_at heard kept.birth) kept.memory }

abbrev found_in : List Remembered → ℕ → Option Memory
found_in kepts birth = option_map (λ (kept : Remembered). kept.memory) (find (λ (kept : Remembered). kept.birth == birth) kepts)

found-logged : (heard : Heard) (kepts : List Remembered) (birth : ℕ) → found_in (map (logged heard) kepts) birth ≡ option_map (with_log (log_at heard birth)) (found_in kepts birth)
found-logged heard [] birth = refl
found-logged heard (kept ∷ kepts) birth = go (kept.birth == birth) refl (found-logged heard kepts birth)
  where
    memory_found : Option Remembered → Option Memory
    memory_found found = option_map (λ (one : Remembered). one.memory) found

    go : (b : Bool) → (kept.birth == birth) ≡ b → found_in (map (logged heard) kepts) birth ≡ option_map (with_log (log_at heard birth)) (found_in kepts birth)
        → memory_found (cond b (Some (logged heard kept)) (find (λ (one : Remembered). one.birth == birth) (map (logged heard) kepts)))
        ≡ option_map (with_log (log_at heard birth)) (memory_found (cond b (Some kept) (find (λ (one : Remembered). one.birth == birth) kepts)))
    go true e rest = ap (λ n. Some (with_log (log_at heard n) kept.memory)) (eqb-true kept.birth birth e)
    go false e rest = rest

pub memory-logged : (sounding : Score → Sound) (gear : Gear) (birth : ℕ)
    → memory_in (driver_of sounding gear) birth ≡ option_map (with_log (log_at gear.events birth)) (memory_of gear.stage.staged.racked gear.stage.staged.owned birth)
memory-logged sounding gear birth = found-logged gear.events (memories gear.stage.staged.racked gear.stage.staged.owned) birth

-- the first of a kind has no log
first-logged : (log : List Logged) (scores : List Sound) (kind : Kind) → log ≡ [] → first scores kind ≡ with_log log (first scores kind)
first-logged log scores (Delay frames) none = ap (λ l. with_log l (first scores (Delay frames))) (sym none)
first-logged log scores (Guest guest) none = ap (λ l. with_log l (first scores (Guest guest))) (sym none)
first-logged log scores _ none = ap (λ l. with_log l no_memory) (sym none)

pub memory-own : (log : List Logged) (held : Option Memory) (scores : List Sound) (kind : Kind) → (held ≡ None → log ≡ [])
    → unwrap_or (option_map (with_log log) held) (first scores kind) ≡ with_log log (unwrap_or held (first scores kind))
memory-own log None scores kind none = first-logged log scores kind (none refl)
memory-own log (Some memory) scores kind none = refl

pub outputs-same : (at : Settled) (nodes : List OpenClient) (benches others : ℕ → Bench) → ((n : ℕ) → (benches n).audio ≡ (others n).audio) → (outputs_of at nodes benches).audio ≡ (outputs_of at nodes others).audio
outputs-same at nodes benches others same i = λ port. option_map_or (λ n. at_port (silence at.frames) (audio_outputs at.graph (node_at nodes n).name) (same n i) port) (place_in nodes (client_part port)) (fixed_audio at port)
