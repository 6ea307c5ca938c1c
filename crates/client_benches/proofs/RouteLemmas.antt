-- What the routes of a link carry.
--     IsCopied      what is kept while outputs are copied to a link's room
--     copied-none, copied-other, copied-more, signals-copied      its beginning, its steps, and its end
--     lies_within      an output among so many lies within their buffers
use Rattle.std.proofs.Common.{◌≡◌, ◌≢◌, ℕ, zero, suc, ◌+◌, ◌*◌, ◌≤◌, ◌==◌, List, [], ◌∷◌, ◌++◌, length, map, filter, get_or, All, ℤ, Option, Some, None, refl, sym, ◌∙◌, ap, ap₂, subst, arith, eq-eqb, ne_eqb}
use Rattle.std.specs.Prelude.{⊤, slice_range}
use mathlib.Core.Logic.{dite}
use native.Mathlib.Decide.{ℕ_discrete}
use Rattle.std.proofs.lemmas.List.Elements.{All-tail, All-head}
use Rattle.activation.specs.session_model.specs.Benches.{Signal, routed}
use Rattle.activation.specs.session_model.specs.Cycles.{ClientPlayed}
use Rattle.activation.specs.session_model.specs.Kinds.{input_at, no_memory}
use Rattle.client_kinds.specs.Buffers.{buffers_of, with_buffer}
use Rattle.client_kinds.proofs.BufferLemmas.{buffer_within, place_within}
use Rattle.client_benches.specs.declared.values.Route.{Route}
use Rattle.client_benches.specs.Rooms.{LiesWithin, signal_of, with_output}
use Rattle.client_benches.specs.Routes.{IsBelow, carried_by, route_of}
use Rattle.client_benches.proofs.PartLemmas.{filter-more, filter-same}
use Rattle.client_benches.proofs.SliceLemmas.{length-slice, length-with_buffer, map_more, slice-here, slice-other}

abbrev pub outputs_on : List Route → ℕ → List (Option ℕ)
outputs_on routes link = map (λ (route : Route). route.output) (filter (λ (route : Route). route.link == link) routes)

-- what has to lie at the place of an output, where there is one
abbrev pub Lies : ℕ → ℕ → List ℤ → List ℤ → Option ℕ → Type 0
Lies period count outputs buffers (Some j) = slice_range buffers (j * period) (j * period + period) ≡ input_at period (buffers_of count period outputs) j
Lies period count outputs buffers None = ⊤

pub record IsCopied (period count : ℕ) (outputs : List ℤ) (link : ℕ) (routes : List Route) (buffers : List ℤ) (carried : List (Option ℕ)) : Type 0 where
  pub room : count * period ≤ length buffers
  pub which : carried ≡ outputs_on routes link
  pub few : length carried ≤ length routes
  pub ports : All (IsBelow count) carried
  pub copied : All (Lies period count outputs buffers) carried

pub lies_within : (period count : ℕ) (outputs : List ℤ) (carried : List (Option ℕ)) → count * period ≤ length outputs → All (IsBelow count) carried → All (LiesWithin period outputs) carried
lies_within period count outputs carried long below k d h = go (get_or carried k d) (below k d h)
  where
    go : (o : Option ℕ) → IsBelow count o → LiesWithin period outputs o
    go (Some j) low = omega (arith, place_within j count period low, long)
    go None low = tt

pub All-more : {X : Type 0} (P : X → Type 0) (xs : List X) (x : X) → All P xs → P x → All P (xs ++ x ∷ [])
All-more P [] x all one zero d h = one
All-more P [] x all one (suc k) d h = absurd (omega (arith, h))
All-more P (y ∷ ys) x all one zero d h = All-head P y ys all
All-more P (y ∷ ys) x all one (suc k) d h = All-more P ys x (All-tail P y ys all) one k d (omega (arith, h))

pub length-more : {X : Type 0} (xs : List X) (x : X) → length (xs ++ x ∷ []) ≡ suc (length xs)
length-more [] x = refl
length-more (y ∷ ys) x = ap suc (length-more ys x)

module _ (period count : ℕ) (outputs : List ℤ) (link : ℕ) where
  pub copied-none : (buffers : List ℤ) → count * period ≤ length buffers → IsCopied period count outputs link [] buffers []
  copied-none buffers room = record { room = room; which = refl; few = omega arith; ports = λ k d h. absurd (omega (arith, h)); copied = λ k d h. absurd (omega (arith, h)) }

  pub copied-other : (routes : List Route) (route : Route) (buffers : List ℤ) (carried : List (Option ℕ)) → route.link ≢ link → IsCopied period count outputs link routes buffers carried
      → IsCopied period count outputs link (routes ++ route ∷ []) buffers carried
  copied-other routes route buffers carried other c = record {
    room = c.room;
    which = c.which ∙ ap (map (λ (r : Route). r.output)) (sym (filter-same (λ (r : Route). r.link == link) routes route (ne_eqb route.link link other)));
    few = omega (arith, c.few, length-more routes route);
    ports = c.ports;
    copied = c.copied;
  }

  -- an output that was copied to its place lies there, and what lay at others' places stays
  record IsPut (buffers new : List ℤ) (o : Option ℕ) : Type 0 where
    pub long : length new ≡ length buffers
    pub here : Lies period count outputs new o
    pub others : (p : Option ℕ) → Lies period count outputs buffers p → Lies period count outputs new p

  put-output : (buffers : List ℤ) (o : Option ℕ) → IsBelow count o → count * period ≤ length outputs → count * period ≤ length buffers → IsPut buffers (with_output period outputs buffers o) o
  put-output buffers None port there room = record { long = refl; here = tt; others = λ p is. is }
  put-output buffers (Some output) port there room = record {
    long = length-with_buffer output period buffers buffer within long;
    here = here;
    others = others;
  }
    where
      buffer : List ℤ
      buffer = slice_range outputs (output * period) (output * period + period)

      buffers_now : List ℤ
      buffers_now = with_buffer period output buffers buffer

      long : length buffer ≡ period
      long = length-slice output count period outputs there port

      within : output * period + period ≤ length buffers
      within = omega (arith, place_within output count period port, room)

      here : Lies period count outputs buffers_now (Some output)
      here = slice-here output period buffers buffer (omega (arith, within)) long ∙ sym (buffer_within output count period outputs port)

      others : (p : Option ℕ) → Lies period count outputs buffers p → Lies period count outputs buffers_now p
      others None is = tt
      others (Some j) is = dite (ℕ_discrete j output)
          (λ same. subst (λ i. Lies period count outputs buffers_now (Some i)) (sym same) here)
          (λ apart. slice-other j output period buffers buffer apart within long ∙ is)

  pub copied-more : (routes : List Route) (route : Route) (buffers new : List ℤ) (carried : List (Option ℕ)) → route.link ≡ link → IsBelow count route.output → count * period ≤ length outputs
      → new ≡ with_output period outputs buffers route.output
      → IsCopied period count outputs link routes buffers carried
      → IsCopied period count outputs link (routes ++ route ∷ []) new (carried ++ route.output ∷ [])
  copied-more routes route buffers new carried on port there is c = subst (λ l. IsCopied period count outputs link (routes ++ route ∷ []) l (carried ++ route.output ∷ [])) (sym is) (record {
    room = omega (arith, c.room, put.long);
    which = ap (λ l. l ++ route.output ∷ []) c.which
        ∙ sym (map_more (λ (r : Route). r.output) (filter (λ (r : Route). r.link == link) routes) route)
        ∙ ap (map (λ (r : Route). r.output)) (sym (filter-more (λ (r : Route). r.link == link) routes route (eq-eqb route.link link on)));
    few = omega (arith, c.few, length-more routes route, length-more carried route.output);
    ports = All-more (IsBelow count) carried route.output c.ports port;
    copied = All-more (Lies period count outputs (with_output period outputs buffers route.output)) carried route.output (λ k d h. put.others (get_or carried k d) (c.copied k d h)) put.here;
  })
    where
      put : IsPut buffers (with_output period outputs buffers route.output) route.output
      put = put-output buffers route.output port there c.room

  abbrev played : ClientPlayed
  played = record { audio = buffers_of count period outputs; midi = []; memory = no_memory }

  signal-of : (route : Route) (buffers : List ℤ) → Lies period count outputs buffers route.output → signal_of period buffers route.output ≡ routed period played (route_of route)
  signal-of route buffers is = go route.output is
    where
      go : (o : Option ℕ) → Lies period count outputs buffers o → signal_of period buffers o ≡ routed period played (record { audio = o; midi = None })
      go (Some j) is = ap (λ (xs : List ℤ). record { audio = xs; midi = [] }) is
      go None is = refl

  signals-of : (routes : List Route) (buffers : List ℤ) → All (Lies period count outputs buffers) (map (λ (route : Route). route.output) routes)
      → map (signal_of period buffers) (map (λ (route : Route). route.output) routes) ≡ map (routed period played) (map route_of routes)
  signals-of [] buffers copied = refl
  signals-of (route ∷ routes) buffers copied = ap₂ (λ (one : Signal) (others : List Signal). one ∷ others)
      (signal-of route buffers (All-head (Lies period count outputs buffers) route.output (map (λ (route : Route). route.output) routes) copied))
      (signals-of routes buffers (All-tail (Lies period count outputs buffers) route.output (map (λ (route : Route). route.output) routes) copied))

  pub signals-copied : (routes : List Route) (buffers : List ℤ) (carried : List (Option ℕ)) → IsCopied period count outputs link routes buffers carried → map (signal_of period buffers) carried ≡ carried_by period (buffers_of count period outputs) link routes
  signals-copied routes buffers carried c =
      ap (map (signal_of period buffers)) c.which
      ∙ signals-of (filter (λ (route : Route). route.link == link) routes) buffers (subst (λ l. All (Lies period count outputs buffers) l) c.which c.copied)
