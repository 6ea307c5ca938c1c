-- The parts from step to step of a cycle.
--     owner-is      the owners as a list
--     as-many      as many owners as benches
--     owned-within, seat-within      who has an owner, or a seat, is there
--     nodes-apart      births tell nodes apart
--     seating-of      the owners of parts that stand
--     seats-apart      each seat is a bench, of one node
--     Stands-exchanged, room-turned, free-turned      behind the exchange, and behind the turn
--     Stands-played, Stands-cleared      and once the clients played, or where nobody does
--     NAME-turned, NAME-played, NAME-cleared      what stays in each of these steps
use Rattle.std.proofs.Common.{◌≡◌, ℕ, ◌<◌, ◌≤◌, Bool, true, false, List, [], get_or, length, map, nat_lt, Option, Some, None, refl, sym, ◌∙◌, ap, subst, arith, ltb-false, ltb-true}
use Rattle.std.specs.Vec.{vec_capacity}
use Rattle.std.proofs.Math.ListN.{get_or-map}
use Rattle.std.proofs.lemmas.List.{get_or_past, length-map}
use Rattle.jack_types.specs.declared.commands.Change.{Change}
use Rattle.jack_types.specs.declared.kinds.Kind.{Kind}
use Rattle.jack_types.specs.declared.moments.Moment.{Moment}
use Rattle.session_model.specs.Benches.{node_at, place_in}
use Rattle.session_model.specs.Cycles.{player_born}
use Rattle.session_model.specs.State.{OpenClient}
use Rattle.port_registry.specs.Registered.{open_clients}
use Rattle.midi_wiring.specs.cycle_plan.specs.Plans.{IsPlanned, Planned, state_of_plan}
use Rattle.midi_player.specs.Standings.{Standing}
use Rattle.midi_seats.specs.declared.seating.Owned.{Owned}
use Rattle.midi_seats.specs.Owning.{AreKnown, HaveSeats, IsShort}
use Rattle.midi_seats.specs.Seating.{no_owned, owner_of}
use Rattle.midi_stage.specs.Insides.{Exchanges, HaveRoom, IsTurned, PlaysAll, Stands, TurnsTo, kinds_in, staged_by}
use Rattle.midi_stage.specs.Sounding.{AreSeated, no_standing, sounded}
use Rattle.midi_stage.specs.Stages.{IsSeating, owner_at}
use Rattle.midi_stage.specs.declared.parts.Parts.{Parts}
use Rattle.midi_stage.specs.declared.sounds.Sounds.{Sounds}

nothing-some : {X : Type 0} (x : X) → None ≡ Some x → ⊥
nothing-some x e = cc

one : {X : Type 0} (x y : X) → Some x ≡ Some y → x ≡ y
one x y e = cc

pub owner-is : (period : ℕ) (parts : Parts) (b : ℕ) → owner_at (staged_by period parts) b ≡ owner_of parts.owners.items b
owner-is period parts b = get_or-map (λ (bench : Owned). bench.owner) parts.owners.items b no_owned

pub as-many : (changes : List Change) (parts : Parts) → AreKnown changes (kinds_in parts) parts.owners.items → length parts.owners.items ≡ length parts.benches.items
as-many changes parts known = known.made.as_many ∙ length-map parts.benches.items (λ (bench : Standing). bench.kind)

pub seating-of : (last : Planned) (period : ℕ) (parts : Parts) → Stands last parts → IsSeating (staged_by period parts)
seating-of last period parts stands = record {
  as_many = length-map parts.owners.items (λ (bench : Owned). bench.owner) ∙ as-many last.changes parts stands.known;
  apart = λ b c birth e f. stands.known.apart b c birth (sym (owner-is period parts b) ∙ e) (sym (owner-is period parts c) ∙ f);
  free = λ b e. stands.free b (sym (owner-is period parts b) ∙ e);
}

pub owned-within : (owners : List Owned) (b birth : ℕ) → owner_of owners b ≡ Some birth → b < length owners
owned-within owners b birth e = go (nat_lt b (length owners)) refl
  where
    go : (t : Bool) → nat_lt b (length owners) ≡ t → b < length owners
    go true f = ltb-true b (length owners) f
    go false f = absurd (nothing-some birth (sym (ap (λ (bench : Owned). bench.owner) (get_or_past owners b no_owned (ltb-false b (length owners) f))) ∙ e))

pub seat-within : (seats : List (Option ℕ)) (n b : ℕ) → get_or seats n None ≡ Some b → n < length seats
seat-within seats n b e = go (nat_lt n (length seats)) refl
  where
    go : (t : Bool) → nat_lt n (length seats) ≡ t → n < length seats
    go true f = ltb-true n (length seats) f
    go false f = absurd (nothing-some b (sym (get_or_past seats n None (ltb-false n (length seats) f)) ∙ e))

-- births tell nodes apart
pub nodes-apart : (plan : Planned) → IsPlanned plan → (n m : ℕ) → n < length (open_clients plan.nodes) → m < length (open_clients plan.nodes)
    → (node_at (open_clients plan.nodes) n).birth ≡ (node_at (open_clients plan.nodes) m).birth → n ≡ m
nodes-apart plan planned n m low less e =
    let same : node_at (open_clients plan.nodes) n ≡ node_at (open_clients plan.nodes) m =
    one (node_at (open_clients plan.nodes) n) (node_at (open_clients plan.nodes) m) (sym (planned.is_plan.born n low) ∙ ap (λ birth. player_born (state_of_plan plan) birth) e ∙ planned.is_plan.born m less) in
    one n m (sym (planned.is_plan.placed n low) ∙ ap (λ (c : OpenClient). place_in (open_clients plan.nodes) c.name) same ∙ planned.is_plan.placed m less)

pub seats-apart : (plan : Planned) (parts : Parts) → IsTurned plan parts → HaveRoom parts → AreKnown plan.changes (kinds_in parts) parts.owners.items → parts.is_staffed ≡ true → AreSeated (sounded parts.sounds) (length parts.benches.items)
seats-apart plan parts turned room known staffed = record {
  benches_there = there;
  gives_there = λ n b e. let low : b < length parts.benches.items = there n b e in let many : length parts.sounds.gives.items ≡ length parts.benches.items = room.gives in omega (arith, low, many);
  apart = apart;
}
  where
    seats : HaveSeats (open_clients plan.nodes) parts.sounds.seats.items parts.owners.items
    seats = turned.seats staffed

    there : (n b : ℕ) → get_or parts.sounds.seats.items n None ≡ Some b → b < length parts.benches.items
    there n b e =
        let low : b < length parts.owners.items = owned-within parts.owners.items b (node_at (open_clients plan.nodes) n).birth (seats.owns n b e) in
        let many : length parts.owners.items ≡ length parts.benches.items = as-many plan.changes parts known in
        omega (arith, low, many)

    in-nodes : (n b : ℕ) → get_or parts.sounds.seats.items n None ≡ Some b → n < length (open_clients plan.nodes)
    in-nodes n b e = let low : n < length parts.sounds.seats.items = seat-within parts.sounds.seats.items n b e in let many : length parts.sounds.seats.items ≡ length (open_clients plan.nodes) = seats.as_many in omega (arith, low, many)

    apart : (n m b : ℕ) → get_or parts.sounds.seats.items n None ≡ Some b → get_or parts.sounds.seats.items m None ≡ Some b → n ≡ m
    apart n m b e f =
        nodes-apart plan turned.planned n m (in-nodes n b e) (in-nodes m b f)
        (one (node_at (open_clients plan.nodes) n).birth (node_at (open_clients plan.nodes) m).birth (sym (seats.owns n b e) ∙ seats.owns m b f))

-- ---- the exchange

module _ (k : Bool) (old : Parts) (sounds : Sounds) (x : Exchanges k old.sounds sounds) where
  abbrev exchanged : Parts
  exchanged = record old { sounds = sounds }

  seats-kept : sounds.seats ≡ old.sounds.seats
  seats-kept = ap (λ (s : Sounds). s.seats) x.same

  nothing-kept : sounds.nothing ≡ old.sounds.nothing
  nothing-kept = ap (λ (s : Sounds). s.nothing) x.same

  room-exchanged : HaveRoom old → HaveRoom (record old { sounds = sounds })
  room-exchanged room = record {
    seats = subst (λ seats. 64 ≤ vec_capacity seats) (sym seats-kept) room.seats;
    outputs = subst (λ n. 2064 ≤ n) (sym x.outputs_room) room.earlier;
    earlier = subst (λ n. 2064 ≤ n) (sym x.earlier_room) room.outputs;
    gives = ap (λ events. length events.items) x.gives ∙ room.gave;
    gave = ap (λ events. length events.items) x.gave ∙ room.gives;
    nothing = nothing-kept ∙ room.nothing;
    unlisted = room.unlisted;
  }

  turned-exchanged : (last : Planned) → IsTurned last old → IsTurned last (record old { sounds = sounds })
  turned-exchanged last turned = record {
    planned = turned.planned;
    wired = turned.wired;
    seats = λ e. subst (λ seats. HaveSeats (open_clients last.nodes) seats.items old.owners.items) (sym seats-kept) (turned.seats e);
    short = turned.short;
    unseated = λ e. ap (λ seats. seats.items) seats-kept ∙ turned.unseated e;
  }

  pub Stands-exchanged : (last : Planned) → Stands last old → Stands last (record old { sounds = sounds })
  Stands-exchanged last stands = record {
    known = stands.known;
    free = stands.free;
    room = room-exchanged stands.room;
    turned = λ number e. let w = stands.turned number e in (w.0, turned-exchanged last w.1);
  }

-- ---- the turn

module _ (plan : Planned) (old new : Parts) (t : TurnsTo plan old new) where
  pub benches-turned : new.benches ≡ old.benches
  benches-turned = ap (λ (p : Parts). p.benches) t.same

  pub lists-turned : new.lists ≡ old.lists
  lists-turned = ap (λ (p : Parts). p.lists) t.same

  sounds-turned : new.sounds ≡ record old.sounds { seats = new.sounds.seats }
  sounds-turned = ap (λ (p : Parts). p.sounds) t.same

  pub gives-turned : new.sounds.gives ≡ old.sounds.gives
  gives-turned = ap (λ (s : Sounds). s.gives) sounds-turned

  pub gave-turned : new.sounds.gave ≡ old.sounds.gave
  gave-turned = ap (λ (s : Sounds). s.gave) sounds-turned

  pub earlier-turned : new.sounds.earlier ≡ old.sounds.earlier
  earlier-turned = ap (λ (s : Sounds). s.earlier) sounds-turned

  outputs-turned : new.sounds.outputs ≡ old.sounds.outputs
  outputs-turned = ap (λ (s : Sounds). s.outputs) sounds-turned

  pub kinds-turned : kinds_in new ≡ kinds_in old
  kinds-turned = ap (λ benches. map (λ (bench : Standing). bench.kind) benches.items) benches-turned

  pub known-turned : AreKnown plan.changes (kinds_in new) new.owners.items
  known-turned = subst (λ (kinds : List Kind). AreKnown plan.changes kinds new.owners.items) (sym kinds-turned) t.known

  pub room-turned : HaveRoom old → HaveRoom new
  room-turned room = record {
    seats = subst (λ n. 64 ≤ n) (sym t.seats_room) room.seats;
    outputs = subst (λ outputs. 2064 ≤ vec_capacity outputs) (sym outputs-turned) room.outputs;
    earlier = subst (λ earlier. 2064 ≤ vec_capacity earlier) (sym earlier-turned) room.earlier;
    gives = ap (λ events. length events.items) gives-turned ∙ room.gives ∙ ap (λ benches. length benches.items) (sym benches-turned);
    gave = ap (λ events. length events.items) gave-turned ∙ room.gave ∙ ap (λ benches. length benches.items) (sym benches-turned);
    nothing = ap (λ (s : Sounds). s.nothing) sounds-turned ∙ room.nothing;
    unlisted = ap (λ (p : Parts). p.unlisted) t.same ∙ room.unlisted;
  }

  -- nobody's bench was nobody's before
  pub unowned : (b : ℕ) → owner_of new.owners.items b ≡ None → owner_of old.owners.items b ≡ None
  unowned b e = go (owner_of old.owners.items b) refl
    where
      go : (owner : Option ℕ) → owner_of old.owners.items b ≡ owner → owner_of old.owners.items b ≡ None
      go None f = f
      go (Some birth) f = absurd (nothing-some birth (sym e ∙ t.owned b birth f))

  pub free-turned : ((b : ℕ) → owner_of old.owners.items b ≡ None → (get_or old.benches.items b no_standing).log ≡ []) → (b : ℕ) → owner_of new.owners.items b ≡ None → (get_or new.benches.items b no_standing).log ≡ []
  free-turned free b e = ap (λ benches. (get_or benches.items b no_standing).log) benches-turned ∙ free b (unowned b e)

-- ---- behind the plays

module _ (plan : Planned) (moment : Moment) (period : ℕ) (old new : Parts) (p : PlaysAll plan moment period old new) where
  pub owners-played : new.owners ≡ old.owners
  owners-played = ap (λ (q : Parts). q.owners) p.same

  pub lists-played : new.lists ≡ old.lists
  lists-played = ap (λ (q : Parts). q.lists) p.same

  pub seats-played : new.sounds.seats ≡ old.sounds.seats
  seats-played = ap (λ (s : Sounds). s.seats) p.sounds

  pub gave-played : new.sounds.gave ≡ old.sounds.gave
  gave-played = ap (λ (s : Sounds). s.gave) p.sounds

  pub earlier-played : new.sounds.earlier ≡ old.sounds.earlier
  earlier-played = ap (λ (s : Sounds). s.earlier) p.sounds

  staffed-played : new.is_staffed ≡ old.is_staffed
  staffed-played = ap (λ (q : Parts). q.is_staffed) p.same

  many-benches : length new.benches.items ≡ length old.benches.items
  many-benches = sym (length-map new.benches.items (λ (bench : Standing). bench.kind)) ∙ ap length p.kinds ∙ length-map old.benches.items (λ (bench : Standing). bench.kind)

  module _ (turned : IsTurned plan old) (number : old.number ≡ Some (length plan.changes)) (room : HaveRoom old) (known : AreKnown plan.changes (kinds_in old) old.owners.items)
      (free : (b : ℕ) → owner_of old.owners.items b ≡ None → (get_or old.benches.items b no_standing).log ≡ []) (staffed : old.is_staffed ≡ true) where
    free-new : (b : ℕ) → owner_of new.owners.items b ≡ None → (get_or new.benches.items b no_standing).log ≡ []
    free-new b e =
        ap (λ (s : Standing). s.log) (p.others b (λ n f. nothing-some (node_at (open_clients plan.nodes) n).birth (sym none ∙ (turned.seats staffed).owns n b f))) ∙ free b none
      where
        none : owner_of old.owners.items b ≡ None
        none = ap (λ owners. owner_of owners.items b) (sym owners-played) ∙ e

    turned-new : IsTurned plan new
    turned-new = record {
      planned = turned.planned;
      wired = ap (λ (q : Parts). q.wiring) p.same ∙ turned.wired;
      seats = λ e. subst (λ seats. HaveSeats (open_clients plan.nodes) seats.items new.owners.items) (sym seats-played) (subst (λ owners. HaveSeats (open_clients plan.nodes) old.sounds.seats.items owners.items) (sym owners-played) (turned.seats staffed));
      short = λ e. absurd (untrue old.is_staffed staffed (sym staffed-played ∙ e));
      unseated = λ e. absurd (untrue old.is_staffed staffed (sym staffed-played ∙ e));
    }
      where
        untrue : (b : Bool) → b ≡ true → b ≡ false → ⊥
        untrue b e f = cc

    pub Stands-played : Stands plan new
    Stands-played = record {
      known = subst (λ owners. AreKnown plan.changes (kinds_in new) owners.items) (sym owners-played) (subst (λ (kinds : List Kind). AreKnown plan.changes kinds old.owners.items) (sym p.kinds) known);
      free = free-new;
      room = record {
        seats = subst (λ seats. 64 ≤ vec_capacity seats) (sym seats-played) room.seats;
        outputs = subst (λ n. 2064 ≤ n) (sym p.outputs_room) room.outputs;
        earlier = subst (λ earlier. 2064 ≤ vec_capacity earlier) (sym earlier-played) room.earlier;
        gives = p.gives ∙ room.gives ∙ sym many-benches;
        gave = ap (λ events. length events.items) gave-played ∙ room.gave ∙ sym many-benches;
        nothing = p.nothing;
        unlisted = ap (λ (q : Parts). q.unlisted) p.same ∙ room.unlisted;
      };
      turned = λ k e. (one k (length plan.changes) (sym e ∙ ap (λ (q : Parts). q.number) p.same ∙ number), turned-new);
    }

-- ---- where nobody plays

module _ (old new : Parts) (same : new ≡ record old { sounds = record old.sounds { outputs = new.sounds.outputs } }) where
  sounds-cleared : new.sounds ≡ record old.sounds { outputs = new.sounds.outputs }
  sounds-cleared = ap (λ (q : Parts). q.sounds) same

  pub owners-cleared : new.owners ≡ old.owners
  owners-cleared = ap (λ (q : Parts). q.owners) same

  pub benches-cleared : new.benches ≡ old.benches
  benches-cleared = ap (λ (q : Parts). q.benches) same

  pub lists-cleared : new.lists ≡ old.lists
  lists-cleared = ap (λ (q : Parts). q.lists) same

  pub seats-cleared : new.sounds.seats ≡ old.sounds.seats
  seats-cleared = ap (λ (s : Sounds). s.seats) sounds-cleared

  pub gave-cleared : new.sounds.gave ≡ old.sounds.gave
  gave-cleared = ap (λ (s : Sounds). s.gave) sounds-cleared

  pub earlier-cleared : new.sounds.earlier ≡ old.sounds.earlier
  earlier-cleared = ap (λ (s : Sounds). s.earlier) sounds-cleared

  staffed-cleared : new.is_staffed ≡ old.is_staffed
  staffed-cleared = ap (λ (q : Parts). q.is_staffed) same

  module _ (plan : Planned) (outputs_room : vec_capacity new.sounds.outputs ≡ vec_capacity old.sounds.outputs) (turned : IsTurned plan old) (number : old.number ≡ Some (length plan.changes)) (room : HaveRoom old)
      (known : AreKnown plan.changes (kinds_in old) old.owners.items) (free : (b : ℕ) → owner_of old.owners.items b ≡ None → (get_or old.benches.items b no_standing).log ≡ []) where
    turned-none : IsTurned plan new
    turned-none = record {
      planned = turned.planned;
      wired = ap (λ (q : Parts). q.wiring) same ∙ turned.wired;
      seats = λ e. subst (λ seats. HaveSeats (open_clients plan.nodes) seats.items new.owners.items) (sym seats-cleared)
          (subst (λ owners. HaveSeats (open_clients plan.nodes) old.sounds.seats.items owners.items) (sym owners-cleared) (turned.seats (sym staffed-cleared ∙ e)));
      short = λ e. subst (λ owners. IsShort (open_clients plan.nodes) owners.items) (sym owners-cleared) (turned.short (sym staffed-cleared ∙ e));
      unseated = λ e. ap (λ seats. seats.items) seats-cleared ∙ turned.unseated (sym staffed-cleared ∙ e);
    }

    pub Stands-cleared : Stands plan new
    Stands-cleared = record {
      known = subst (λ owners. AreKnown plan.changes (kinds_in new) owners.items) (sym owners-cleared) (subst (λ benches. AreKnown plan.changes (map (λ (bench : Standing). bench.kind) benches.items) old.owners.items) (sym benches-cleared) known);
      free = λ b e. ap (λ benches. (get_or benches.items b no_standing).log) benches-cleared ∙ free b (ap (λ owners. owner_of owners.items b) (sym owners-cleared) ∙ e);
      room = record {
        seats = subst (λ seats. 64 ≤ vec_capacity seats) (sym seats-cleared) room.seats;
        outputs = subst (λ n. 2064 ≤ n) (sym outputs_room) room.outputs;
        earlier = subst (λ earlier. 2064 ≤ vec_capacity earlier) (sym earlier-cleared) room.earlier;
        gives = ap (λ (s : Sounds). length s.gives.items) sounds-cleared ∙ room.gives ∙ ap (λ benches. length benches.items) (sym benches-cleared);
        gave = ap (λ events. length events.items) gave-cleared ∙ room.gave ∙ ap (λ benches. length benches.items) (sym benches-cleared);
        nothing = ap (λ (s : Sounds). s.nothing) sounds-cleared ∙ room.nothing;
        unlisted = ap (λ (q : Parts). q.unlisted) same ∙ room.unlisted;
      };
      turned = λ k e. (one k (length plan.changes) (sym e ∙ ap (λ (q : Parts). q.number) same ∙ number), turned-none);
    }
