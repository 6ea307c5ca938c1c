-- A plan's wiring says the parts and the routes of its clients' work.
--     SetsTasks-wired      so does the wiring of every plan
use Rattle.std.proofs.Common.{◌≡◌, ℕ, zero, suc, ◌<◌, ◌≤◌, Bool, true, false, cond, ◌&&◌, ◌==◌, List, [], ◌∷◌, ◌++◌, length, map-id, map, filter, filter_map, get_or, position, take, count_by, Contains, Option, Some, None, nat_lt, refl, sym, ◌∙◌, ap, ap₂, subst, arith, true≢false, eq-eqb, eqb-true}
use Rattle.std.specs.List.{cons_option, position_or_len}
use Rattle.std.specs.Option.{option_map, option_map_or}
use Rattle.std.specs.Str.{bytes_eq}
use Rattle.std.proofs.lemmas.List.{get_or-map, get_or_default, length-map, map-append}
use Rattle.std.proofs.lemmas.List.Quantifiers.{position-Some}
use Rattle.std.proofs.lemmas.List.Sums.{length-filter, position_or_len_is}
use Rattle.jack_types.specs.Names.{client_part}
use Rattle.jack_types.specs.declared.ports.Link.{Link}
use Rattle.jack_types.specs.declared.ports.Mark.{Mark}
use Rattle.jack_types.specs.declared.ports.Mark.TheVariants.{Direct, Feedback}
use Rattle.session_model.specs.Activation.{link_at, no_link, outgoing, place_among}
use Rattle.session_model.specs.Benches.{IsPlan, Known, Route, audio_part_of, direct_part, edges_between, fixed_audio, marked_part, node_at, place_in, port_place, route_of}
use Rattle.session_model.specs.Commands.{is_audio, is_input, ports_of, replay}
use Rattle.session_model.specs.Cycles.{Settled, audio_inputs, audio_outputs, captured_at, edges_into, midi_outputs}
use Rattle.session_model.specs.Samples.{below, silence}
use Rattle.session_model.specs.Soundness.{Apart, IsEnd, IsSound}
use Rattle.session_model.specs.State.{Connection, OpenClient, OpenPort, State, capture_port, is_direct, is_system, system_client}
use Rattle.cycle_plan.specs.session_laws.proofs.CycleLemmas.{bytes_same, filter-passes}
use Rattle.cycle_plan.specs.session_laws.proofs.FeedbackLemmas.{FeedbackInside, FeedbackInside-opening, FeedbackInside-replay}
use Rattle.cycle_plan.specs.session_laws.proofs.GraphLemmas.{route-audio, route-midi}
use Rattle.cycle_plan.specs.session_laws.proofs.LoopLemmas.{Contains-first, Contains-later, and_parts, and_true}
use Rattle.cycle_plan.specs.session_laws.proofs.PlaceLemmas.{filter-contains, position-found, position-passes}
use Rattle.cycle_plan.specs.session_laws.proofs.PlanLemmas.{Apart-below, Distinct-from_Apart, IsSound-opening}
use Rattle.cycle_plan.specs.session_laws.proofs.SequentialLemmas.{Contains-below, outgoing_at}
use Rattle.cycle_plan.specs.session_laws.proofs.SoundLemmas.{Apart-filter, Apart-same, IsSound-replay}
use Rattle.cycle_plan.specs.session_laws.proofs.WiredLemmas.{AreWired, AreWired-opening, AreWired-replay}
use Rattle.cycle_plan.specs.session_laws.proofs.FilterLemmas.{map-filter_after}
use Rattle.cycle_plan.specs.port_registry.specs.Registered.{open_client, open_clients}
use Rattle.cycle_plan.specs.Layouts.{same_link}
use Rattle.cycle_plan.specs.Plans.{IsPlanned, Planned, link_in, opening_of, state_of_plan}
use Rattle.cycle_plan.proofs.NetworkLemmas.{bool-same, fails}
use Rattle.client_wiring.specs.declared.joints.Carried.{Carried}
use Rattle.client_wiring.specs.declared.joints.Joint.{Joint}
use Rattle.client_wiring.specs.declared.joints.Output.TheVariants.{Audio as AudioOutput, Midi as MidiOutput}
use Rattle.client_wiring.specs.declared.joints.Widths.{Widths}
use Rattle.client_wiring.specs.Tables.{link_numbered}
use Rattle.client_wiring.specs.Wirings.{SetsTasks, carried_by, carried_on, is_from, joint_into, joint_of, link_index, place_out_of, origin_from, origin_of, output_name, output_of, part_from, port_index, route_by, source_place, widths_of, wired_of}
use Rattle.client_wiring.proofs.ListLemmas.{from_places, places_front, take-whole}
use Rattle.client_wiring.proofs.NameLemmas.{bytes-turned}
use Rattle.client_wiring.proofs.OverLemmas.{between-is, between-of_link, carries, device_of_none, is_between, name-of_place, same_link-is, same_link-self}
use lib.Pointwise.{bytes_decides}

-- ---- lists

-- the elements that pass, and those that the others that pass are made of
abbrev pub passes : {Y : Type 0} → (Y → Bool) → Option Y → Bool
passes test None = false
passes test (Some y) = test y

pub same-made : {X Y Z : Type 0} (f : X → Z) (g : Y → Z) (t : X → Bool) (u : Y → Bool) (made : X → Option Y) (xs : List X)
    → ((x : X) → Contains xs x → t x ≡ passes u (made x)) → ((x : X) (y : Y) → Contains xs x → t x ≡ true → made x ≡ Some y → f x ≡ g y)
    → map f (filter t xs) ≡ map g (filter u (filter_map made xs))
same-made f g t u made [] agree same = refl
same-made {X} {Y} {Z} f g t u made (x ∷ xs) agree same =
    go (made x) (t x) refl refl (agree x (Contains-first x xs)) (same-made f g t u made xs (λ z m. agree z (Contains-later x z xs m)) (λ z y m. same z y (Contains-later x z xs m)))
  where
    go : (o : Option Y) (b : Bool) → made x ≡ o → t x ≡ b → t x ≡ passes u (made x) → map f (filter t xs) ≡ map g (filter u (filter_map made xs))
        → map f (cond b (x ∷ filter t xs) (filter t xs)) ≡ map g (filter u (cons_option o (filter_map made xs)))
    go None true e h k rest = absurd (true≢false (sym h ∙ k ∙ ap (passes u) e))
    go None false e h k rest = rest
    go (Some y) true e h k rest =
        ap₂ (λ z zs. z ∷ zs) (same x y (Contains-first x xs) h e) rest
        ∙ sym (ap (λ b. map g (cond b (y ∷ filter u (filter_map made xs)) (filter u (filter_map made xs)))) (sym (ap (passes u) e) ∙ sym k ∙ h))
    go (Some y) false e h k rest = rest ∙ sym (ap (λ b. map g (cond b (y ∷ filter u (filter_map made xs)) (filter u (filter_map made xs)))) (sym (ap (passes u) e) ∙ sym k ∙ h))

-- maps that agree at each place
same-places : {X Z : Type 0} (f : X → Z) (g : ℕ → Z) (xs : List X) (d : X) → ((i : ℕ) → i < length xs → f (get_or xs i d) ≡ g i) → map f xs ≡ map g (below (length xs))
same-places f g xs d agree = sym (ap (map f) (from_places xs d)) ∙ front (length xs) (omega arith)
  where
    front : (n : ℕ) → n ≤ length xs → map f (map (λ k. get_or xs k d) (below n)) ≡ map g (below n)
    front zero h = refl
    front (suc n) h =
        ap (map f) (map-append (λ k. get_or xs k d) (below n) (n ∷ []))
        ∙ map-append f (map (λ k. get_or xs k d) (below n)) (get_or xs n d ∷ [])
        ∙ ap₂ (λ ys y. ys ++ y ∷ []) (front n (omega (arith, h))) (agree n (omega (arith, h)))
        ∙ sym (map-append g (below n) (n ∷ []))

same-map : {X Z : Type 0} (f g : X → Z) (xs : List X) → ((x : X) → Contains xs x → f x ≡ g x) → map f xs ≡ map g xs
same-map f g [] agree = refl
same-map f g (x ∷ xs) agree = ap₂ (λ z zs. z ∷ zs) (agree x (Contains-first x xs)) (same-map f g xs (λ y m. agree y (Contains-later x y xs m)))

-- a place that was found, as a number
pub place-index : {X : Type 0} (test : X → Bool) (xs : List X) (i : ℕ) → position test xs ≡ Some i → position_or_len test xs ≡ i
place-index test xs i e = go (nat_lt (position_or_len test xs) (length xs)) refl
  where
    one : (a b : ℕ) → Some a ≡ Some b → a ≡ b
    one a b f = cc

    apart : (b : ℕ) → None ≡ Some b → ⊥
    apart b f = cc

    go : (b : Bool) → nat_lt (position_or_len test xs) (length xs) ≡ b → position_or_len test xs ≡ i
    go true f = one (position_or_len test xs) i (sym (ap (λ b. cond b (Some (position_or_len test xs)) None) f) ∙ e)
    go false f = absurd (apart i (sym (ap (λ b. cond b (Some (position_or_len test xs)) None) f) ∙ e))

below-apart : (n : ℕ) → Apart (λ (k : ℕ). k) (below n)
below-apart n = subst (Apart (λ (k : ℕ). k)) (map-id (below n)) (Apart-below (λ (k : ℕ). k) (λ k. k) n (λ i j p q e. e))

-- ---- a state with its plan

module _ (state : State) (nodes : List OpenClient) (links : List Link) (plan : IsPlan state nodes links) (number : ℕ) (sound : IsSound state number) (wired_so : AreWired state) (inside : FeedbackInside state.edges) where
  apart : {X : Type 0} {x : X} → None ≡ Some x → ⊥
  apart f = cc

  some-one : {X : Type 0} (x y : X) → Some x ≡ Some y → x ≡ y
  some-one x y f = cc

  -- ---- routes

  carried-output : (edge : Connection) (x : Carried) → carried_by state nodes links edge ≡ Some x → x.output ≡ output_of state edge.source
  carried-output edge x e = go (link_in nodes edge) e
    where
      go : (o : Option Link) → option_map (carried_on links (output_of state edge.source)) o ≡ Some x → x.output ≡ output_of state edge.source
      go None f = absurd (apart f)
      go (Some link) f = sym (ap (λ (c : Carried). c.output) (some-one (carried_on links (output_of state edge.source) link) x f))

  -- a link of the plan stands at its place, and goes out at its place
  link-there : (link : Link) → Contains links link → (link_index links link < length links) × (link_at links (link_index links link) ≡ link)
  link-there link m =
      let w = position-passes (same_link link) links link no_link m (same_link-self link) in
      (w.0, sym (same_link-is link (link_at links (link_index links link)) w.1))

  place-out : (link : Link) → Contains links link → place_out_of links link ≡ place_among links (link_index links link)
  place-out link m =
      sym (length-filter (is_from link.from) (take (link_index links link) links))
      ∙ ap (λ ls. length (filter (is_from link.from) ls)) (sym (places_front links no_link (link_index links link) (omega (arith, (link-there link m).0))))
      ∙ ap length (sym (map-filter_after (link_at links) (is_from link.from) (below (link_index links link))))
      ∙ length-map (filter (λ k. is_from link.from (link_at links k)) (below (link_index links link))) (link_at links)
      ∙ length-filter (λ k. is_from link.from (link_at links k)) (below (link_index links link))
      ∙ ap (λ (l : Link). count_by (λ k. (link_at links k).from == l.from) (below (link_index links link))) (sym (link-there link m).1)

  -- the link of an edge is one of the plan's
  link-listed : (edge : Connection) → Contains state.edges edge → (link : Link) → link_in nodes edge ≡ Some link → Contains links link
  link-listed edge m link e = let ends = between-of_link state nodes links plan link.from link.to edge e in plan.joined edge link.from link.to m ends.1 ends.2 ends.3

  route-is : (edge : Connection) → Contains state.edges edge → (name : List ℕ) → client_part edge.source ≡ name → route_of state name edge.source ≡ route_by (output_of state edge.source)
  route-is edge m name e = ap (λ n. route_of state n edge.source) (sym e) ∙ go (wired_so edge m).0 (wired_so edge m).1
    where
      made : Option ℕ → Option ℕ → Route
      made audio midi = record { audio = audio; midi = midi }

      by : Option ℕ → ℕ → Route
      by audio midi = route_by (option_map_or AudioOutput audio (MidiOutput midi))

      go : (is_sound : Bool) → IsEnd state false is_sound edge.source → route_of state (client_part edge.source) edge.source ≡ route_by (output_of state edge.source)
      go true end =
          let told = route-audio state number sound edge.source end in
          ap₂ made told.0.2 told.1 ∙ sym (ap (λ o. by o (port_index (midi_outputs state (client_part edge.source)) edge.source)) told.0.2)
      go false end =
          let told = route-midi state number sound edge.source end in
          ap₂ made told.1 told.0.2
          ∙ ap (λ j. by None j) (sym (place-index (λ (port : OpenPort). bytes_eq port.name edge.source) (midi_outputs state (client_part edge.source)) told.0.0 told.0.2))
          ∙ sym (ap (λ o. by o (port_index (midi_outputs state (client_part edge.source)) edge.source)) told.1)

  pub routes-are : (n : ℕ) → n < length nodes
      → map (λ l. map (λ (edge : Connection). route_of state (node_at nodes n).name edge.source) (edges_between state (node_at nodes n).name (node_at nodes (link_at links l).to).name)) (outgoing links n)
      ≡ map (λ k. map (λ (carried : Carried). route_by carried.output) (filter (λ (carried : Carried). carried.node == n && carried.place == k) (filter_map (carried_by state nodes links) state.edges))) (below (length (outgoing links n)))
  routes-are n low =
      same-places (λ l. map (λ (edge : Connection). route_of state (node_at nodes n).name edge.source) (edges_between state (node_at nodes n).name (node_at nodes (link_at links l).to).name))
      (λ k. map (λ (carried : Carried). route_by carried.output) (filter (λ (carried : Carried). carried.node == n && carried.place == k) (filter_map (carried_by state nodes links) state.edges)))
      (outgoing links n) 0 over
    where
      over : (k : ℕ) → k < length (outgoing links n)
          → map (λ (edge : Connection). route_of state (node_at nodes n).name edge.source) (edges_between state (node_at nodes n).name (node_at nodes (link_at links (get_or (outgoing links n) k 0)).to).name)
          ≡ map (λ (carried : Carried). route_by carried.output) (filter (λ (carried : Carried). carried.node == n && carried.place == k) (filter_map (carried_by state nodes links) state.edges))
      over k inside-k =
          same-made (λ (edge : Connection). route_of state (node_at nodes n).name edge.source) (λ (carried : Carried). route_by carried.output) (is_between nodes n (link_at links l).to) here (carried_by state nodes links) state.edges
          (λ edge e. between-is state nodes links plan n (link_at links l).to low into listed edge e ∙ ap (λ j. carries j (carried_by state nodes links edge)) place ∙ at-place edge e)
          (λ edge x e t made. route-is edge e (node_at nodes n).name (source edge t) ∙ sym (ap route_by (carried-output edge x made)))
        where
          l : ℕ
          l = get_or (outgoing links n) k 0

          m : Contains (outgoing links n) l
          m = (k, inside-k, get_or_default (outgoing links n) k l 0 inside-k)

          here : Carried → Bool
          here carried = carried.node == n && carried.place == k

          within : l < length links
          within = Contains-below (length links) l (filter-contains (λ j. (link_at links j).from == n) (below (length links)) l m)

          from : (link_at links l).from ≡ n
          from = eqb-true (link_at links l).from n (filter-passes (λ j. (link_at links j).from == n) (below (length links)) l m)

          it : link_at links l ≡ link_numbered n (link_at links l).to
          it = ap (λ j. link_numbered j (link_at links l).to) from

          listed : Contains links (link_numbered n (link_at links l).to)
          listed = subst (Contains links) it (l, within, get_or_default links l (link_at links l) no_link within)

          into : (link_at links l).to < length nodes
          into = plan.upward.within l no_link within

          place : link_index links (link_numbered n (link_at links l).to) ≡ l
          place = position_or_len_is (same_link (link_numbered n (link_at links l).to)) links l no_link (omega (arith, within))
              (λ j less. fails (same_link (link_numbered n (link_at links l).to) (get_or links j no_link))
              (λ t. plan.upward.distinct j l no_link less within (sym (same_link-is (link_numbered n (link_at links l).to) (get_or links j no_link) t) ∙ sym it)))
              (λ h. ap (same_link (link_numbered n (link_at links l).to)) it ∙ same_link-self (link_numbered n (link_at links l).to))

          -- the link goes out at this place
          outgoing-place : place_among links l ≡ k
          outgoing-place =
              let there = outgoing_at links l 0 within in
              Distinct-from_Apart (λ (j : ℕ). j) (outgoing links n) (Apart-filter (λ (j : ℕ). j) (λ j. (link_at links j).from == n) (below (length links)) (below-apart (length links))) (place_among links l) k 0
              (subst (λ j. place_among links l < length (outgoing links j)) from there.0) inside-k
              (subst (λ j. get_or (outgoing links j) (place_among links l) 0 ≡ l) from there.1)

          at-place : (edge : Connection) → Contains state.edges edge → carries l (carried_by state nodes links edge) ≡ passes here (carried_by state nodes links edge)
          at-place edge e = go (link_in nodes edge) refl
            where
              made : Option Link → Option Carried
              made link = option_map (carried_on links (output_of state edge.source)) link

              go : (o : Option Link) → link_in nodes edge ≡ o → carries l (made (link_in nodes edge)) ≡ passes here (made (link_in nodes edge))
              go None f = ap (λ o. carries l (made o)) f ∙ sym (ap (λ o. passes here (made o)) f)
              go (Some link) f =
                  ap (λ o. carries l (made o)) f
                  ∙ bool-same (link_index links link == l) (link.from == n && place_out_of links link == k) forward back
                  ∙ sym (ap (λ o. passes here (made o)) f)
                where
                  known : Contains links link
                  known = link-listed edge e link f

                  forward : (link_index links link == l) ≡ true → (link.from == n && place_out_of links link == k) ≡ true
                  forward t =
                      let index : link_index links link ≡ l = eqb-true (link_index links link) l t in
                      let same : link ≡ link_at links l = sym (link-there link known).1 ∙ ap (link_at links) index in
                      and_true (link.from == n) (place_out_of links link == k) (eq-eqb link.from n (ap (λ (x : Link). x.from) same ∙ from))
                      (eq-eqb (place_out_of links link) k (place-out link known ∙ ap (place_among links) index ∙ outgoing-place))

                  back : (link.from == n && place_out_of links link == k) ≡ true → (link_index links link == l) ≡ true
                  back t =
                      let both = and_parts (link.from == n) (place_out_of links link == k) t in
                      let its_from : (link_at links (link_index links link)).from ≡ n = ap (λ (x : Link). x.from) (link-there link known).1 ∙ eqb-true link.from n both.0 in
                      let its_place : place_among links (link_index links link) ≡ k = sym (place-out link known) ∙ eqb-true (place_out_of links link) k both.1 in
                      let there : get_or (outgoing links (link_at links (link_index links link)).from) (place_among links (link_index links link)) 0 ≡ link_index links link = (outgoing_at links (link_index links link) 0 (link-there link known).0).1 in
                      eq-eqb (link_index links link) l (sym there ∙ ap₂ (λ j i. get_or (outgoing links j) i 0) its_from its_place)

          source : (edge : Connection) → is_between nodes n (link_at links l).to edge ≡ true → client_part edge.source ≡ (node_at nodes n).name
          source edge t =
              let outer = and_parts (is_direct edge.mark) (bytes_eq (client_part edge.source) (node_at nodes n).name && bytes_eq (client_part edge.destination) (node_at nodes (link_at links l).to).name) t in
              bytes_same (client_part edge.source) (node_at nodes n).name (and_parts (bytes_eq (client_part edge.source) (node_at nodes n).name) (bytes_eq (client_part edge.destination) (node_at nodes (link_at links l).to).name) outer.1).0

  -- ---- inputs

  -- the ports of a client have names of their own
  module _ (name : List ℕ) where
    abbrev owned : OpenPort → Bool
    owned port = bytes_eq (client_part port.name) name

    abbrev is_sound_input : OpenPort → Bool
    is_sound_input port = is_audio port && is_input port

    inputs-apart : Apart (λ (port : OpenPort). port.name) (audio_inputs state name)
    inputs-apart = Apart-filter (λ (port : OpenPort). port.name) is_sound_input (ports_of state name) (Apart-filter (λ (port : OpenPort). port.name) owned state.ports sound.port_names)

    input-owned : (port : OpenPort) → Contains (audio_inputs state name) port → client_part port.name ≡ name
    input-owned port m = bytes_same (client_part port.name) name (filter-passes owned state.ports port (filter-contains is_sound_input (ports_of state name) port m))

    pub input-listed : (port : OpenPort) → Contains (audio_inputs state name) port → Contains state.ports port
    input-listed port m = filter-contains owned state.ports port (filter-contains is_sound_input (ports_of state name) port m)

    pub input-sound : (port : OpenPort) → Contains (audio_inputs state name) port → is_audio port ≡ true
    input-sound port m = (and_parts (is_audio port) (is_input port) (filter-passes is_sound_input (ports_of state name) port m)).0

    pub input-place : (i : ℕ) (d : OpenPort) → i < length (audio_inputs state name) → port_place (audio_inputs state name) (get_or (audio_inputs state name) i d).name ≡ Some i
    input-place i d within =
        let it : OpenPort = get_or (audio_inputs state name) i d in
        let listed : Contains (audio_inputs state name) it = (i, within, get_or_default (audio_inputs state name) i it d within) in
        let same : bytes_eq it.name it.name ≡ true = (bytes_decides it.name it.name).1 refl in
        position-found (λ (port : OpenPort). bytes_eq port.name it.name) (audio_inputs state name) it listed same
        ∙ ap Some (position_or_len_is (λ (port : OpenPort). bytes_eq port.name it.name) (audio_inputs state name) i d (omega (arith, within))
        (λ k less. fails (bytes_eq (get_or (audio_inputs state name) k d).name it.name)
        (λ t. let one : k ≡ i = Distinct-from_Apart (λ (port : OpenPort). port.name) (audio_inputs state name) inputs-apart k i d (omega (arith, less, within)) within (bytes_same (get_or (audio_inputs state name) k d).name it.name t) in
        omega (arith, one, less)))
        (λ h. same))

  -- an edge into an audio input is one of audio
  pub edge-sound : (edge : Connection) → Contains state.edges edge → (port : OpenPort) → Contains state.ports port → is_audio port ≡ true → edge.destination ≡ port.name → IsEnd state false true edge.source
  edge-sound edge m port listed audio e =
      let ends = wired_so edge m in
      let one : ends.2.port ≡ port = Apart-same (λ (p : OpenPort). p.name) state.ports ends.2.port port sound.port_names ends.2.listed listed (ends.2.named ∙ e) in
      let told : ends.0 ≡ true = sym ends.2.type_is ∙ ap is_audio one ∙ audio in
      subst (λ b. IsEnd state false b edge.source) told ends.1

  -- what an origin brings
  module _ (at : Settled) (same : at.graph ≡ state) where
    origin-is : (n : ℕ) (edge : Connection) → Contains state.edges edge → IsEnd state false true edge.source
        → marked_part state nodes links n edge (at.before.audio edge.source) (fixed_audio (record at { graph = state }) edge.source) edge.mark ≡ part_from (record at { graph = state }) nodes (origin_of state nodes links n edge)
    origin-is n edge m end = go edge.mark (place_in nodes (client_part edge.source)) refl refl
      where
        now : Settled
        now = record at { graph = state }

        told : ((j : ℕ) × (j < length (audio_outputs state (client_part edge.source))) × (port_place (audio_outputs state (client_part edge.source)) edge.source ≡ Some j)) × (port_place (midi_outputs state (client_part edge.source)) edge.source ≡ None)
        told = route-audio state number sound edge.source end

        place : source_place state edge ≡ told.0.0
        place = place-index (λ (port : OpenPort). bytes_eq port.name edge.source) (audio_outputs state (client_part edge.source)) told.0.0 told.0.2

        captured : is_system (client_part edge.source) ≡ true → fixed_audio (record at { graph = state }) edge.source ≡ at.capture (source_place state edge)
        captured e =
            ap (λ b. cond b (captured_at now edge.source) (silence at.frames)) e
            ∙ ap (λ o. option_map_or at.capture o (silence at.frames)) told.0.2
            ∙ ap at.capture (sym place)

        kept : (a : ℕ) → place_in nodes (client_part edge.source) ≡ Some a → edge.source ≡ output_name state nodes a (source_place state edge)
        kept a e =
            let its_name : (node_at nodes a).name ≡ client_part edge.source = (name-of_place state nodes links plan (client_part edge.source) a e).1 in
            let there = position-Some (λ (port : OpenPort). bytes_eq port.name edge.source) (audio_outputs state (client_part edge.source)) told.0.0 (capture_port 0) told.0.2 in
            sym (ap₂ (λ name k. (get_or (audio_outputs state name) k (capture_port 0)).name) its_name place
            ∙ bytes_same (get_or (audio_outputs state (client_part edge.source)) told.0.0 (capture_port 0)).name edge.source there.1)

        go : (mark : Mark) (from : Option ℕ) → edge.mark ≡ mark → place_in nodes (client_part edge.source) ≡ from
            → marked_part state nodes links n edge (at.before.audio edge.source) (fixed_audio (record at { graph = state }) edge.source) mark ≡ part_from (record at { graph = state }) nodes (origin_from state nodes links n edge mark from)
        go Direct (Some a) f g = ap (direct_part state nodes links n edge (fixed_audio now edge.source)) g
        go Direct None f g = ap (direct_part state nodes links n edge (fixed_audio now edge.source)) g ∙ ap Known (captured (device_of_none state nodes links plan false true edge.source end g))
        go Feedback (Some a) f g = ap (λ name. Known (at.before.audio name)) (kept a g)
        go Feedback None f g = absurd (true≢false (sym (device_of_none state nodes links plan false true edge.source end g) ∙ (inside edge m f).0))

    pub parts-are : (n : ℕ) → n < length nodes
        → map (λ (port : OpenPort). map (λ (edge : Connection). marked_part state nodes links n edge (at.before.audio edge.source) (fixed_audio (record at { graph = state }) edge.source) edge.mark) (edges_into state port.name)) (audio_inputs state (node_at nodes n).name)
        ≡ map (λ i. map (λ (joint : Joint). part_from (record at { graph = state }) nodes joint.origin) (filter (λ (joint : Joint). joint.node == n && joint.input == i) (filter_map (joint_of state nodes links) state.edges))) (below (length (audio_inputs state (node_at nodes n).name)))
    parts-are n low =
        same-places (λ (port : OpenPort). map (λ (edge : Connection). marked_part state nodes links n edge (at.before.audio edge.source) (fixed_audio (record at { graph = state }) edge.source) edge.mark) (edges_into state port.name))
        (λ i. map (λ (joint : Joint). part_from (record at { graph = state }) nodes joint.origin) (filter (λ (joint : Joint). joint.node == n && joint.input == i) (filter_map (joint_of state nodes links) state.edges)))
        (audio_inputs state (node_at nodes n).name) (capture_port 0) input
      where
        name : List ℕ
        name = (node_at nodes n).name

        input : (i : ℕ) → i < length (audio_inputs state (node_at nodes n).name)
            → map (λ (edge : Connection). marked_part state nodes links n edge (at.before.audio edge.source) (fixed_audio (record at { graph = state }) edge.source) edge.mark) (edges_into state (get_or (audio_inputs state (node_at nodes n).name) i (capture_port 0)).name)
            ≡ map (λ (joint : Joint). part_from (record at { graph = state }) nodes joint.origin) (filter (λ (joint : Joint). joint.node == n && joint.input == i) (filter_map (joint_of state nodes links) state.edges))
        input i within =
            same-made (λ (edge : Connection). marked_part state nodes links n edge (at.before.audio edge.source) (fixed_audio (record at { graph = state }) edge.source) edge.mark)
            (λ (joint : Joint). part_from (record at { graph = state }) nodes joint.origin) (λ (edge : Connection). bytes_eq edge.destination port.name) here (joint_of state nodes links) state.edges
            (λ edge m. bool-same (bytes_eq edge.destination port.name) (passes here (joint_of state nodes links edge)) (λ t. ap (passes here) (joined edge t) ∙ self edge) (back edge))
            (λ edge x m t made. origin-is n edge m (edge-sound edge m port (input-listed name port listed) (input-sound name port listed) (bytes_same edge.destination port.name t))
            ∙ ap (part_from (record at { graph = state }) nodes) (ap (λ (joint : Joint). joint.origin) (some-one (joint edge) x (sym (joined edge t) ∙ made))))
          where
            port : OpenPort
            port = get_or (audio_inputs state (node_at nodes n).name) i (capture_port 0)

            listed : Contains (audio_inputs state (node_at nodes n).name) port
            listed = (i, within, get_or_default (audio_inputs state (node_at nodes n).name) i port (capture_port 0) within)

            here : Joint → Bool
            here joint = joint.node == n && joint.input == i

            joint : Connection → Joint
            joint edge = record { node = n; input = i; origin = origin_of state nodes links n edge }

            self : (edge : Connection) → here (joint edge) ≡ true
            self edge = and_true (n == n) (i == i) (eq-eqb n n refl) (eq-eqb i i refl)

            joined : (edge : Connection) → bytes_eq edge.destination port.name ≡ true → joint_of state nodes links edge ≡ Some (joint edge)
            joined edge t =
                let into : edge.destination ≡ port.name = bytes_same edge.destination port.name t in
                let its_client : client_part edge.destination ≡ (node_at nodes n).name = ap client_part into ∙ input-owned name port listed in
                ap₂ (joint_into state nodes links edge)
                (ap (place_in nodes) its_client ∙ plan.placed n low)
                (ap₂ (λ client destination. port_place (audio_inputs state client) destination) its_client into ∙ input-place name i (capture_port 0) within)

            back : (edge : Connection) → passes here (joint_of state nodes links edge) ≡ true → bytes_eq edge.destination port.name ≡ true
            back edge = go (place_in nodes (client_part edge.destination)) (port_place (audio_inputs state (client_part edge.destination)) edge.destination) refl refl
              where
                go : (node its : Option ℕ) → place_in nodes (client_part edge.destination) ≡ node → port_place (audio_inputs state (client_part edge.destination)) edge.destination ≡ its
                    → passes here (joint_into state nodes links edge node its) ≡ true → bytes_eq edge.destination port.name ≡ true
                go None its f g t = absurd (true≢false (sym t))
                go (Some m) None f g t = absurd (true≢false (sym t))
                go (Some m) (Some k) f g t =
                    let both = and_parts (m == n) (k == i) t in
                    let node : m ≡ n = eqb-true m n both.0 in
                    let its : k ≡ i = eqb-true k i both.1 in
                    let its_name : (node_at nodes n).name ≡ client_part edge.destination = (name-of_place state nodes links plan (client_part edge.destination) n (f ∙ ap Some node)).1 in
                    let found : port_place (audio_inputs state (node_at nodes n).name) edge.destination ≡ Some i = ap (λ client. port_place (audio_inputs state client) edge.destination) its_name ∙ g ∙ ap Some its in
                    let there = position-Some (λ (p : OpenPort). bytes_eq p.name edge.destination) (audio_inputs state (node_at nodes n).name) i (capture_port 0) found in
                    bytes-turned edge.destination port.name ∙ there.1

-- ---- every plan

pub SetsTasks-wired : (plan : Planned) → IsPlanned plan → SetsTasks plan (wired_of plan)
SetsTasks-wired plan p = record {
  inputs = λ n low. ap (λ (w : Widths). w.inputs) (widths-at n low);
  outputs = λ n low. ap (λ (w : Widths). w.outputs) (widths-at n low);
  parts = λ n at low same. parts-at n at low same;
  routes = λ n low. routes-are state nodes plan.links p.is_plan (length plan.changes) sound wired_so inside n (inside-nodes n low);
}
  where
    state : State
    state = state_of_plan plan

    nodes : List OpenClient
    nodes = open_clients plan.nodes

    wired_so : AreWired (state_of_plan plan)
    wired_so = AreWired-replay (opening_of plan.base) plan.changes (AreWired-opening plan.base.capture plan.base.playback)

    inside : FeedbackInside (state_of_plan plan).edges
    inside = FeedbackInside-replay (opening_of plan.base) plan.changes (FeedbackInside-opening plan.base.capture plan.base.playback)

    sound : IsSound (state_of_plan plan) (length plan.changes)
    sound = subst (λ cs. IsSound (replay (opening_of plan.base) cs) (length plan.changes)) (take-whole plan.changes)
        (IsSound-replay (opening_of plan.base) plan.changes (IsSound-opening plan.base.capture plan.base.playback (omega (arith, p.few_capture)) (omega (arith, p.few_playback))) p.lawful (length plan.changes) (omega arith))

    inside-nodes : (n : ℕ) → n < length plan.nodes → n < length (open_clients plan.nodes)
    inside-nodes n low = let same : length (open_clients plan.nodes) ≡ length plan.nodes = length-map plan.nodes open_client in omega (arith, low, same)

    widths-at : (n : ℕ) → n < length plan.nodes → get_or (map (widths_of (state_of_plan plan)) (open_clients plan.nodes)) n (record { inputs = 0; outputs = 0 }) ≡ widths_of (state_of_plan plan) (node_at (open_clients plan.nodes) n)
    widths-at n low = get_or-map (widths_of (state_of_plan plan)) (open_clients plan.nodes) n system_client (record { inputs = 0; outputs = 0 }) (inside-nodes n low)

    parts-at : (n : ℕ) (at : Settled) → n < length plan.nodes → at.graph ≡ state_of_plan plan
        → map (λ (port : OpenPort). map (audio_part_of at (open_clients plan.nodes) plan.links n) (edges_into at.graph port.name)) (audio_inputs at.graph (node_at (open_clients plan.nodes) n).name)
        ≡ map (λ i. map (λ (joint : Joint). part_from at (open_clients plan.nodes) joint.origin) (filter (λ (joint : Joint). joint.node == n && joint.input == i) (wired_of plan).joints)) (below (length (audio_inputs at.graph (node_at (open_clients plan.nodes) n).name)))
    parts-at n at low same =
        subst (λ (now : Settled). map (λ (port : OpenPort). map (audio_part_of now (open_clients plan.nodes) plan.links n) (edges_into now.graph port.name)) (audio_inputs now.graph (node_at (open_clients plan.nodes) n).name)
        ≡ map (λ i. map (λ (joint : Joint). part_from now (open_clients plan.nodes) joint.origin) (filter (λ (joint : Joint). joint.node == n && joint.input == i) (wired_of plan).joints)) (below (length (audio_inputs now.graph (node_at (open_clients plan.nodes) n).name))))
        (ap (λ (graph : State). (let now : Settled = record at { graph = graph } in now)) (sym same))
        (parts-are state nodes plan.links p.is_plan (length plan.changes) sound wired_so inside at same n (inside-nodes n low))
