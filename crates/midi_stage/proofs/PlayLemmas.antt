-- All clients that have seats play.
--     PlaysAll-played      what that leaves
use Rattle.std.proofs.Common.{◌≡◌, ℕ, List, [], None, Some, ap, filter_map, get_or, length, map, refl, subst, sym, ◌∙◌}
use Rattle.std.specs.Vec.{vec_capacity, with_items}
use Rattle.std.proofs.Math.ListN.{get_or-map}
use Rattle.std.proofs.lemmas.List.{ext_get_or, length-map}
use Rattle.jack_types.specs.declared.kinds.Kind.TheVariants.{Midithru}
use Rattle.jack_types.specs.declared.moments.Moment.{Moment}
use Rattle.midi_wiring.specs.cycle_plan.specs.Plans.{Planned}
use Rattle.midi_player.specs.Standings.{Standing}
use Rattle.midi_wiring.specs.Wirings.{midi_wired_of}
use Rattle.midi_stage.specs.Insides.{PlaysAll}
use Rattle.midi_stage.specs.Sounding.{HavePlayed, no_standing, output_from, sounded}
use Rattle.midi_stage.specs.declared.parts.Parts.{Parts}
use Rattle.midi_stage.specs.declared.playing.Rooms.{Rooms}
use Rattle.midi_stage.specs.declared.sounds.Sounds.{Sounds}

same-kinds : (before after : List Standing) → length after ≡ length before → ((b : ℕ) → (get_or after b no_standing).kind ≡ (get_or before b no_standing).kind)
    → map (λ (bench : Standing). bench.kind) after ≡ map (λ (bench : Standing). bench.kind) before
same-kinds before after many same =
    ext_get_or Midithru (map (λ (bench : Standing). bench.kind) after) (map (λ (bench : Standing). bench.kind) before)
    (length-map after (λ (bench : Standing). bench.kind) ∙ many ∙ sym (length-map before (λ (bench : Standing). bench.kind)))
    (λ i low. get_or-map (λ (bench : Standing). bench.kind) after i no_standing ∙ same i ∙ sym (get_or-map (λ (bench : Standing). bench.kind) before i no_standing))

module _ (plan : Planned) (moment : Moment) (period : ℕ) (old : Parts) (benches : List Standing) (sounds : Sounds) (rooms : Rooms) (items : (with_items old.benches benches).items ≡ benches)
    (played : HavePlayed old.lists.items plan.nodes (midi_wired_of plan) moment period (length old.sounds.seats.items) old.benches.items benches (sounded sounds))
    (others : (b : ℕ) → ((n : ℕ) → get_or old.sounds.seats.items n None ≡ Some b → ⊥) → get_or benches b no_standing ≡ get_or old.benches.items b no_standing)
    (kinds : (b : ℕ) → (get_or benches b no_standing).kind ≡ (get_or old.benches.items b no_standing).kind) (many : length benches ≡ length old.benches.items)
    (outputs : sounds.outputs.items ≡ filter_map (output_from old.sounds.seats.items) (midi_wired_of plan).given) (room : vec_capacity sounds.outputs ≡ vec_capacity old.sounds.outputs)
    (gives : length sounds.gives.items ≡ length old.sounds.gives.items) (nothing : sounds.nothing ≡ []) (seats : sounds.seats ≡ old.sounds.seats) (gave : sounds.gave ≡ old.sounds.gave) (earlier : sounds.earlier ≡ old.sounds.earlier) where
  pub PlaysAll-played : PlaysAll plan moment period old (record old { benches = with_items old.benches benches; sounds = sounds; rooms = rooms })
  PlaysAll-played = record {
    played = subst (λ after. HavePlayed old.lists.items plan.nodes (midi_wired_of plan) moment period (length old.sounds.seats.items) old.benches.items after (sounded sounds)) (sym items) played;
    others = λ b none. ap (λ after. get_or after b no_standing) items ∙ others b none;
    kinds = ap (map (λ (bench : Standing). bench.kind)) items ∙ same-kinds old.benches.items benches many kinds;
    outputs = outputs;
    outputs_room = room;
    gives = gives;
    nothing = nothing;
    sounds = λ i. record { seats = seats i; gives = sounds.gives; gave = gave i; outputs = sounds.outputs; earlier = earlier i; nothing = sounds.nothing };
    same = refl;
  }
