-- What is read from the benches.
--     played-is, carried-is, brings-is, heard-is      the events of nodes, of births, of connections, and of inputs
--     log-owned, log-nobodys      the logs of owners, and of others
use Rattle.std.proofs.Common.{◌≡◌, ℕ, zero, suc, Bool, true, false, cond, ◌==◌, List, [], ◌∷◌, find, get_or, length, map, Option, Some, None, refl, ap, arith, eq-eqb, eqb-true}
use Rattle.std.specs.Option.{option_map, option_map_or}
use Rattle.jack_types.specs.declared.events.Event.{Event}
use Rattle.jack_types.specs.declared.events.Logged.{Logged}
use Rattle.session_model.specs.Events.{merge}
use Rattle.session_model.specs.Samples.{below}
use Rattle.midi_player.specs.Standings.{Standing}
use Rattle.midi_wiring.specs.declared.joints.MidiFrom.{MidiFrom}
use Rattle.midi_wiring.specs.declared.joints.MidiFrom.TheVariants.{Played, Kept, Nothing}
use Rattle.midi_wiring.specs.declared.joints.MidiJoint.{MidiJoint}
use Rattle.midi_wiring.specs.Hearings.{brought, heard_at, heard_by, inputs_at}
use Rattle.driver_words.specs.Hearings.{BornLog, Carried, carried_at, played_at}
use Rattle.midi_wiring.specs.Wirings.{MidiWired, midi_joints_at}
use Rattle.midi_stage.specs.declared.sounds.Output.{Output}
use Rattle.midi_stage.specs.Sounding.{all_heard, bench_born, brings, events_at, no_standing, seat_at}
use Rattle.midi_stage.specs.Stages.{MidiStaged, carried_by, heard_in, owned_logs}

get_or-made : {X Y : Type 0} (f : X → Y) (xs : List X) (i : ℕ) (d : X) → get_or (map f xs) i (f d) ≡ f (get_or xs i d)
get_or-made f [] i d = refl
get_or-made f (x ∷ xs) zero d = refl
get_or-made f (x ∷ xs) (suc i) d = get_or-made f xs i d

pub played-is : (staged : MidiStaged) (n : ℕ) → played_at (heard_in staged) n ≡ events_at staged.sounds.gives (seat_at staged.sounds n)
played-is staged n = get_or-made (events_at staged.sounds.gives) staged.sounds.seats n None

pub carried-is : (events : List (List Event)) (outputs : List Output) (birth : ℕ) → carried_at (map (carried_by events) outputs) birth ≡ events_at events (bench_born outputs birth)
carried-is events [] birth = refl
carried-is events (output ∷ outputs) birth = go (output.birth == birth) (carried-is events outputs birth)
  where
    its : Option Carried → List Event
    its o = option_map_or (λ (x : Carried). x.events) o []

    bench : Option Output → Option ℕ
    bench o = option_map (λ (x : Output). x.bench) o

    go : (b : Bool) → carried_at (map (carried_by events) outputs) birth ≡ events_at events (bench_born outputs birth)
        → its (cond b (Some (carried_by events output)) (find (λ (x : Carried). x.birth == birth) (map (carried_by events) outputs))) ≡ events_at events (bench (cond b (Some output) (find (λ (x : Output). x.birth == birth) outputs)))
    go true rest = refl
    go false rest = rest

pub brings-is : (staged : MidiStaged) (from : MidiFrom) → brought (heard_in staged) from ≡ brings staged.sounds from
brings-is staged (Played n) = played-is staged n
brings-is staged (Kept birth) = carried-is staged.sounds.gave staged.sounds.earlier birth
brings-is staged Nothing = refl

same-each : {X Z : Type 0} (f g : X → Z) (xs : List X) → ((x : X) → f x ≡ g x) → map f xs ≡ map g xs
same-each f g [] agree = refl
same-each f g (x ∷ xs) agree = λ i. agree x i ∷ same-each f g xs agree i

pub heard-is : (staged : MidiStaged) (wiring : MidiWired) (n : ℕ) → heard_by wiring (heard_in staged) n ≡ all_heard staged.sounds wiring n
heard-is staged wiring n =
    same-each (heard_at wiring (heard_in staged) n) each (below (inputs_at wiring n))
    (λ input. ap merge (same-each (λ (joint : MidiJoint). brought (heard_in staged) joint.from) (λ (joint : MidiJoint). brings staged.sounds joint.from) (midi_joints_at wiring n input) (λ joint. brings-is staged joint.from)))
  where
    each : ℕ → List Event
    each input = merge (map (λ (joint : MidiJoint). brings staged.sounds joint.from) (midi_joints_at wiring n input))

-- ---- logs

abbrev log_in : List BornLog → ℕ → List Logged
log_in logs birth = option_map_or (λ (client : BornLog). client.log) (find (λ (client : BornLog). client.birth == birth) logs) []

nothing-some : {X : Type 0} (x : X) → None ≡ Some x → ⊥
nothing-some x e = cc

some-one : (x y : ℕ) → Some x ≡ Some y → x ≡ y
some-one x y e = cc

pub log-none : (owners : List (Option ℕ)) (benches : List Standing) (birth : ℕ) → ((b : ℕ) → get_or owners b None ≡ Some birth → ⊥) → log_in (owned_logs owners benches) birth ≡ []
log-none [] benches birth nobody = refl
log-none (None ∷ owners) [] birth nobody = refl
log-none (None ∷ owners) (bench ∷ benches) birth nobody = log-none owners benches birth (λ b e. nobody (suc b) e)
log-none (Some other ∷ owners) [] birth nobody = refl
log-none (Some other ∷ owners) (bench ∷ benches) birth nobody = go (other == birth) refl (log-none owners benches birth (λ b e. nobody (suc b) e))
  where
    go : (t : Bool) → (other == birth) ≡ t → log_in (owned_logs owners benches) birth ≡ []
        → option_map_or (λ (client : BornLog). client.log) (cond t (Some (record { birth = other; log = bench.log })) (find (λ (client : BornLog). client.birth == birth) (owned_logs owners benches))) [] ≡ []
    go true e rest = absurd (nobody 0 (ap Some (eqb-true other birth e)))
    go false e rest = rest

pub log-some : (owners : List (Option ℕ)) (benches : List Standing) (birth b : ℕ) → length owners ≡ length benches → get_or owners b None ≡ Some birth
    → ((c : ℕ) → get_or owners c None ≡ Some birth → c ≡ b) → log_in (owned_logs owners benches) birth ≡ (get_or benches b no_standing).log
log-some [] benches birth b as_many e one = absurd (nothing-some birth e)
log-some (owner ∷ owners) [] birth b as_many e one = absurd (omega (arith, as_many))
log-some (None ∷ owners) (bench ∷ benches) birth zero as_many e one = absurd (nothing-some birth e)
log-some (None ∷ owners) (bench ∷ benches) birth (suc b) as_many e one = log-some owners benches birth b (omega (arith, as_many)) e (λ c f. let same : suc c ≡ suc b = one (suc c) f in omega (arith, same))
log-some (Some other ∷ owners) (bench ∷ benches) birth zero as_many e one = ap (λ t. option_map_or (λ (client : BornLog). client.log) (cond t (Some (record { birth = other; log = bench.log })) (find (λ (client : BornLog). client.birth == birth) (owned_logs owners benches))) []) (eq-eqb other birth (some-one other birth e))
log-some (Some other ∷ owners) (bench ∷ benches) birth (suc b) as_many e one =
    go (other == birth) refl (log-some owners benches birth b (omega (arith, as_many)) e (λ c f. let same : suc c ≡ suc b = one (suc c) f in omega (arith, same)))
  where
    go : (t : Bool) → (other == birth) ≡ t → log_in (owned_logs owners benches) birth ≡ (get_or benches b no_standing).log
        → option_map_or (λ (client : BornLog). client.log) (cond t (Some (record { birth = other; log = bench.log })) (find (λ (client : BornLog). client.birth == birth) (owned_logs owners benches))) [] ≡ (get_or benches b no_standing).log
    go true f rest = let same : 0 ≡ suc b = one 0 (ap Some (eqb-true other birth f)) in absurd (omega (arith, same))
    go false f rest = rest
