-- What stays true of a bench's fields.
--     sound-lent      behind a guest that is lent
--     room-carried, sound-carried      with one more route
--     room-stays, shape-played, sound-played      behind a play
--     reached-none, reached-filled      where there is no room at all, and behind a play
use Rattle.std.proofs.Common.{◌≡◌, ℕ, zero, suc, ◌<◌, ◌*◌, List, [], ◌∷◌, ◌++◌, length, map, replicate, ℤ, Option, Some, None, option_map, refl, sym, ◌∙◌, ap, subst, arith, true≢false}
use Rattle.std.specs.Option.{ForSome}
use Rattle.std.specs.Prelude.{IfSome, if◌then◌else◌, is_some, nat_lt, slice_index_or, vec_capacity}
use Rattle.activation.specs.jack_types.specs.declared.kinds.Kind.{Kind}
use Rattle.activation.specs.jack_types.specs.declared.kinds.Kind.TheVariants.{Pass, Gain, Mix as MixKind, Delay, Tone, Click, Meter, Tape, Guest, Midiplay, Midithru, Midilog, Disk}
use Rattle.std.specs.Global.{Vec}
use Rattle.client_kinds.specs.port_mixer.specs.Sums.{Mix}
use Rattle.activation.specs.session_model.specs.Benches.{Signal}
use Rattle.activation.specs.session_model.specs.Kinds.{Memory, Sound, first, play}
use Rattle.client_kinds.specs.Scores.{Score}
use Rattle.client_kinds.specs.Standings.{Standing, HasGuest, HasScore, IsGuest}
use Rattle.client_benches.specs.declared.benches.Stint.{Stint}
use Rattle.client_benches.specs.declared.values.Route.{Route}
use Rattle.client_benches.specs.declared.wires.Wire.{Wire}
use Rattle.client_benches.specs.Insides.{HasAllRoom, IsPlayedShape, IsReached, IsSound}
use Rattle.client_benches.specs.Routes.{HasOutput, IsBelow}
use Rattle.client_benches.specs.Seen.{AreFilled, MayPlay, own_scores, own_sounds}
use Rattle.client_benches.proofs.KeptLemmas.{HasScore-own, first-log, play-log}
use Rattle.client_benches.proofs.RouteLemmas.{All-more, length-more}

not-lent : (kind : Kind) (score : Option Score) → IsGuest kind → score ≡ None → HasGuest kind score → ⊥
not-lent Pass score is e there = is
not-lent (Gain factor shift) score is e there = is
not-lent MixKind score is e there = is
not-lent (Delay frames) score is e there = is
not-lent (Tone half level) score is e there = is
not-lent (Click level) score is e there = is
not-lent Meter score is e there = is
not-lent (Tape recorder) score is e there = is
not-lent (Midiplay list) score is e there = is
not-lent Midithru score is e there = is
not-lent Midilog score is e there = is
not-lent (Disk disk) score is e there = is
not-lent (Guest guest) None is e there = true≢false (sym there)
not-lent (Guest guest) (Some score) is e there = true≢false (ap (λ o. is_some o) e)

pub sound-lent : (sound : Score → Sound) (standing new : Standing) (turn : Option Stint) (routes : List Route) → IsGuest standing.kind → standing.score ≡ None
    → ((scores : List Score) → HasScore new scores → new.memory ≡ first (map sound scores) new.kind) → IsSound standing turn routes → IsSound new turn routes
sound-lent sound standing new turn routes kind none fresh s = record {
  task = λ now e. absurd (not-lent standing.kind standing.score kind none (s.task now e).guest);
  outputs = s.outputs;
  log = ap (λ memory. memory.log) (fresh (own_scores new) (HasScore-own new)) ∙ first-log (own_sounds sound new) new.kind;
}

below-carried : (turn : Option Stint) (output : Option ℕ) → IfSome output (λ output. ForSome turn (λ now. output < now.ports.outputs)) → (now : Stint) → turn ≡ Some now → IsBelow now.ports.outputs output
below-carried turn None there now e = tt
below-carried turn (Some output) there now e = there now e

pub sound-carried : (standing : Standing) (turn : Option Stint) (routes : List Route) (route : Route) → IfSome route.output (λ output. ForSome turn (λ now. output < now.ports.outputs)) → IsSound standing turn routes → IsSound standing turn (routes ++ route ∷ [])
sound-carried standing turn routes route there s = record {
  task = s.task;
  outputs = λ now e. All-more (HasOutput now.ports.outputs) routes route (s.outputs now e) (below-carried turn route.output there now e);
  log = s.log;
}

-- room stays where no length and no period changes
pub room-stays : (standing new : Standing) (memory : Memory) (mixer mixer_now : Mix) (padded padded_now input input_now output output_now : List ℤ) (wires : Vec Wire) (routes : Vec Route) (rooms rooms_now : List (Option (List Signal)))
    → new ≡ record standing { memory = memory } → mixer_now.room ≡ mixer.room → length padded_now ≡ length padded → length input_now ≡ length input → length output_now ≡ length output → length rooms_now ≡ length rooms
    → HasAllRoom standing.period mixer padded input output wires routes rooms → HasAllRoom new.period mixer_now padded_now input_now output_now wires routes rooms_now
room-stays standing new memory mixer mixer_now padded padded_now input input_now output output_now wires routes rooms rooms_now is sums silence heard sounded places r = record {
  most = omega (arith, r.most, same);
  sums = omega (arith, r.sums, same, sums);
  silence = silence ∙ r.silence ∙ sym same;
  heard = heard ∙ r.heard ∙ ap (λ n. 16 * n) (sym same);
  sounded = sounded ∙ r.sounded ∙ ap (λ n. 16 * n) (sym same);
  few_wires = r.few_wires;
  few_routes = r.few_routes;
  places = places ∙ r.places;
}
  where
    same : new.period ≡ standing.period
    same = ap (λ (s : Standing). s.period) is

pub shape-played : (standing new : Standing) (memory : Memory) (turn : Stint) → new ≡ record standing { memory = memory } → MayPlay standing turn → IsPlayedShape new.period turn.ports
shape-played standing new memory turn is may = record { inputs = may.inputs; outputs = may.outputs; within = omega (arith, may.period, ap (λ (s : Standing). s.period) is) }

pub sound-played : (sound : Score → Sound) (standing new : Standing) (turn : Option Stint) (now : Stint) (routes : List Route) (inputs : List (List ℤ)) → turn ≡ Some now
    → new ≡ record standing { memory = (play (own_sounds sound standing) standing.kind standing.memory now.ports.outputs now.moment now.ports.period inputs).memory }
    → IsSound standing turn routes → IsSound new turn routes
sound-played sound standing new turn now routes inputs busy is s = subst (λ (z : Standing). IsSound z turn routes) (sym is) (record {
  task = λ at e. (let old : MayPlay standing at = s.task at e in record {
    guest = old.guest;
    rate = old.rate;
    frames = old.frames;
    period = old.period;
    inputs = old.inputs;
    outputs = old.outputs;
  });
  outputs = s.outputs;
  log = play-log (own_sounds sound standing) standing.kind standing.memory now.ports.outputs now.moment now.ports.period inputs ∙ s.log;
})

pub room-carried : (period : ℕ) (mixer : Mix) (padded input output : List ℤ) (wires : Vec Wire) (routes routes_now : Vec Route) (rooms : List (Option (List Signal))) (route : Route)
    → routes_now.items ≡ routes.items ++ route ∷ [] → vec_capacity routes_now ≡ vec_capacity routes → length routes.items < 512
    → HasAllRoom period mixer padded input output wires routes rooms → HasAllRoom period mixer padded input output wires routes_now rooms
room-carried period mixer padded input output wires routes routes_now rooms route is capacity few r = record {
  most = r.most;
  sums = r.sums;
  silence = r.silence;
  heard = r.heard;
  sounded = r.sounded;
  few_wires = r.few_wires;
  few_routes = (omega (arith, few, ap length is, length-more routes.items route), omega (arith, capacity, r.few_routes.1));
  places = r.places;
}

abbrev no_room : Option (List Signal)
no_room = None

none-there : (n place : ℕ) → slice_index_or (replicate n no_room) place None ≡ None
none-there zero place = refl
none-there (suc n) zero = refl
none-there (suc n) (suc place) = none-there n place

pub reached-none : (rooms : List (Option (List Signal))) → rooms ≡ replicate 64 None → IsReached 0 rooms
reached-none rooms is = record { within = omega arith; beyond = λ place h. ap (λ (l : List (Option (List Signal))). slice_index_or l place None) is ∙ none-there 64 place }

pub reached-filled : (reached links : ℕ) (old new : List (Option (List Signal))) (value : ℕ → List Signal) → AreFilled old new links value → IsReached reached old → IsReached reached new
reached-filled reached links old new value filled r = record {
  within = r.within;
  beyond = λ place h. filled place ∙ ap (option_map (λ _. if nat_lt place links then value place else [])) (r.beyond place h);
}
