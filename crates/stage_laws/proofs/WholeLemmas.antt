-- The stage from one cycle to the next.
--     same-bench, same-bench-of, same-bench-on      nothing changed of a bench; by an equation; and in two steps
--     by-place, stays-idle, same-played, lengths, has-played, set-played      what a performance leaves of each bench
--     seating-played, sounded-played, unfed-played, idle-played, kinds-played, periods-played, staffed-played      and of the stage
use Rattle.std.proofs.Common.{◌≡◌, ℕ, ◌<◌, ◌≤◌, ◌⊎◌, inl, inr, List, [], length, Option, Some, None, refl, sym, ◌∙◌, ap, subst, arith}
use Rattle.std.specs.Prelude.{ℤ}
use Rattle.std.proofs.lemmas.Bool.{cases_lt}
use Rattle.std.proofs.lemmas.List.{ext_get_or, length-map}
use Rattle.std.proofs.Math.ListN.{get_or-map}
use Rattle.jack_types.specs.declared.kinds.Kind.{Kind}
use Rattle.jack_types.specs.declared.kinds.Kind.TheVariants.{Pass}
use Rattle.jack_types.specs.declared.moments.Moment.{Moment}
use Rattle.session_model.specs.Activation.{given_to}
use Rattle.session_model.specs.Benches.{Signal}
use Rattle.session_model.specs.Samples.{silence}
use Rattle.session_model.specs.Kinds.{Sound}
use Rattle.client_kinds.specs.Scores.{Score}
use Rattle.port_registry.specs.Registered.{open_clients}
use Rattle.cycle_plan.specs.Plans.{Planned}
use Rattle.driver_words.specs.Feeding.{Fed}
use Rattle.client_kinds.specs.Standings.{HasGuest, Standing}
use Rattle.client_benches.specs.Seen.{Remembered as Kept, Seen, kept_after, kept_gives, new_bench}
use Rattle.client_wiring.specs.Wirings.{Wired, wired_of}
use Rattle.bench_rack.specs.Racks.{Racked, bench_at}
use Rattle.client_tasks.specs.Fillings.{AreJoints, known_at}
use Rattle.client_tasks.specs.Tasks.{AreSet, HasRooms, turn_of, widths_at}
use Rattle.client_seats.specs.Owners.{owner_at}
use Rattle.client_seats.specs.Moves.{kinds_of}
use Rattle.client_seats.specs.Seatings.{HasBench, HavePeriod, IsSameBench, IsSeating, kind_at, standing_at}
use Rattle.client_seats.proofs.PlayLemmas.{IsSameBench-played, IsSeating-played}
use Rattle.task_laws.proofs.PlayingLemmas.{empty-kept, idle-kept}
use Rattle.stage_feeds.specs.Feeding.{Feeds, fed_from}
use Rattle.stage_feeds.proofs.FeedingLemmas.{same-fed, set-fed, used-up}
use Rattle.stage_laws.specs.Stages.{IsStaffed, Staged}
use Rattle.stage_laws.specs.Casts.{Casts, Fills, Performs}
use Rattle.stage_laws.proofs.KeepLemmas.{audio-played}

pub same-bench-of : (before after : Standing) → after ≡ before → IsSameBench before after
same-bench-of before after e = subst (λ s. IsSameBench before s) (sym e) (record { kind = refl; period = refl; score = refl; bare = λ b. b })

pub same-bench : (standing : Standing) → IsSameBench standing standing
same-bench standing = record { kind = refl; period = refl; score = refl; bare = λ b. b }

pub same-bench-on : (before between after : Standing) → IsSameBench before between → IsSameBench between after → IsSameBench before after
same-bench-on before between after a b = record { kind = b.kind ∙ a.kind; period = b.period ∙ a.period; score = b.score ∙ a.score; bare = λ bare. b.bare (a.bare bare) }

module _ (sounding : Score → Sound) (old : Staged) (last plan : Planned) (moment : Moment) (period : ℕ) (channels : List (List ℤ)) (cast : Staged) (casts : (Casts sounding) old last plan moment period cast)
    (places : List (Option ℕ)) (filled : Racked) (fills : Fills cast plan moment period channels places filled) (disks : Fed) (fed : Racked) (feeds : Feeds plan disks filled fed)
    (crew : ℕ) (played : Racked) (performs : (Performs sounding) fed plan crew played) where
  abbrev given_at : ℕ → List (List Signal)
  given_at p = given_to (kept_after sounding) (kept_gives sounding) plan.links (λ n. (bench_at fed n).kept) p

  -- each bench was played, or stays
  pub by-place : (p : ℕ) → ((bench_at played p).kept ≡ (kept_after sounding) (bench_at fed p).kept (given_at p)) ⊎ ((bench_at played p).kept ≡ (bench_at fed p).kept)
  by-place p = go (cases_lt p crew)
    where
      go : (p < crew) ⊎ (crew ≤ p) → ((bench_at played p).kept ≡ (kept_after sounding) (bench_at fed p).kept (given_at p)) ⊎ ((bench_at played p).kept ≡ (bench_at fed p).kept)
      go (inl h) = inl (performs.each p h)
      go (inr h) = inr (ap (λ (b : Seen). b.kept) (performs.others p h))

  -- past the plan's nodes nobody was fed, and nobody has work
  idle-fed : (p : ℕ) → length plan.nodes ≤ p → (bench_at fed p).kept.turn ≡ None
  idle-fed p h = ap (λ (b : Seen). b.kept.turn) (feeds.others p h) ∙ fills.idle p h

  pub stays-idle : (p : ℕ) → length plan.nodes ≤ p → (bench_at played p).kept ≡ (bench_at filled p).kept
  stays-idle p h = go (by-place p) ∙ ap (λ (b : Seen). b.kept) (feeds.others p h)
    where
      go : ((bench_at played p).kept ≡ (kept_after sounding) (bench_at fed p).kept (given_at p)) ⊎ ((bench_at played p).kept ≡ (bench_at fed p).kept) → (bench_at played p).kept ≡ (bench_at fed p).kept
      go (inl e) = e ∙ (idle-kept sounding) (bench_at fed p).kept (given_at p) (idle-fed p h)
      go (inr e) = e

  pub same-played : (p : ℕ) → IsSameBench (standing_at cast.racked p) (standing_at played p)
  same-played p = subst (λ s. IsSameBench s (standing_at played p)) (fills.standings p) (same-bench-on (standing_at filled p) (standing_at fed p) (standing_at played p) (same-fed plan disks filled fed feeds p) (go (by-place p)))
    where
      go : ((bench_at played p).kept ≡ (kept_after sounding) (bench_at fed p).kept (given_at p)) ⊎ ((bench_at played p).kept ≡ (bench_at fed p).kept) → IsSameBench (standing_at fed p) (standing_at played p)
      go (inl e) = subst (λ (k : Kept). IsSameBench (standing_at fed p) k.standing) (sym e) ((IsSameBench-played sounding) (bench_at fed p).kept (given_at p))
      go (inr e) = subst (λ (k : Kept). IsSameBench (standing_at fed p) k.standing) (sym e) (same-bench (standing_at fed p))

  pub lengths : length played.benches ≡ length cast.racked.benches
  lengths = performs.lengths ∙ feeds.lengths ∙ fills.lengths

  pub seating-played : IsSeating played cast.owned
  seating-played = IsSeating-played cast.racked played cast.owned casts.seating lengths same-played free
    where
      free : (p : ℕ) → owner_at cast.owned p ≡ None → standing_at played p ≡ standing_at cast.racked p
      free p none = go (cases_lt p (length plan.nodes))
        where
          none_some : {X : Type 0} {x : X} → None ≡ Some x → ⊥
          none_some k = cc

          go : (p < length plan.nodes) ⊎ (length plan.nodes ≤ p) → standing_at played p ≡ standing_at cast.racked p
          go (inl h) = absurd (none_some (sym none ∙ (casts.has p h).owner))
          go (inr h) = ap (λ (k : Kept). k.standing) (stays-idle p h) ∙ fills.standings p

  -- what each heard
  abbrev sources-played : ℕ → List ℤ
  sources-played = known_at cast.racked channels (silence period) places (wired_of plan).joints

  set-there : AreSet (wired_of plan) plan.links moment period sources-played (length plan.nodes) fed
  set-there = set-fed plan disks filled fed feeds (wired_of plan) moment period sources-played fills.set

  pub sounded-played : (n : ℕ) → n < length plan.nodes → length (bench_at played n).kept.audio ≡ (widths_at (wired_of plan) n).outputs
  sounded-played n h =
      ap (λ (k : Kept). length k.audio) (performs.each n (omega (arith, h, performs.few)))
      ∙ (audio-played sounding) (bench_at fed n).kept (given_at n) (turn_of (wired_of plan) plan.links moment period n) (set-there n h).turn

  pub unfed-played : (p : ℕ) → (standing_at played p).memory.fed ≡ []
  unfed-played p = go (cases_lt p (length plan.nodes))
    where
      before : (standing_at filled p).memory.fed ≡ []
      before = ap (λ (s : Standing). s.memory.fed) (fills.standings p) ∙ casts.unfed p

      go : (p < length plan.nodes) ⊎ (length plan.nodes ≤ p) → (standing_at played p).memory.fed ≡ []
      go (inl h) =
          ap (λ (k : Kept). k.standing.memory.fed) (performs.each p (omega (arith, h, performs.few)))
          ∙ ap (λ (b : Seen). ((kept_after sounding) b.kept (given_at p)).standing.memory.fed) (feeds.each p h)
          ∙ used-up sounding disks (bench_at filled p) (given_at p) (turn_of (wired_of plan) plan.links moment period p) (fills.set p h).turn ((empty-kept sounding) (fed_from disks (bench_at filled p)).kept (given_at p)) before
      go (inr h) = ap (λ (k : Kept). k.standing.memory.fed) (stays-idle p h) ∙ before

  pub idle-played : (p : ℕ) → length plan.nodes ≤ p → (bench_at played p).kept.turn ≡ None
  idle-played p h = ap (λ (k : Kept). k.turn) (stays-idle p h) ∙ fills.idle p h

  pub periods-played : HavePeriod played cast.room
  periods-played p h = (same-played p).period ∙ casts.periods p (omega (arith, h, lengths))

  pub kinds-played : kinds_of played ≡ kinds_of cast.racked
  kinds-played = ext_get_or Pass (kinds_of played) (kinds_of cast.racked)
      (length-map played.benches kind_of ∙ lengths ∙ sym (length-map cast.racked.benches kind_of))
      (λ i h. get_or-map kind_of played.benches i (new_bench Pass 0) ∙ (same-played i).kind ∙ sym (get_or-map kind_of cast.racked.benches i (new_bench Pass 0)))
    where
      kind_of : Seen → Kind
      kind_of bench = bench.kept.standing.kind

  pub has-played : (n : ℕ) → n < length plan.nodes → HasBench (open_clients plan.nodes) played cast.owned n n
  has-played n h =
      let b = casts.has n h in
      let s = same-played n in
      record {
        owner = b.owner;
        kind = s.kind ∙ b.kind;
        guest = subst (λ k. HasGuest k (standing_at played n).score) (sym s.kind) (subst (λ x. HasGuest (kind_at cast.racked n) x) (sym s.score) b.guest);
      }

  pub set-played : AreSet (wired_of plan) plan.links moment period sources-played (length plan.nodes) played
  set-played n h =
      let e = performs.each n (omega (arith, h, performs.few)) in
      let s = set-there n h in
      record {
        turn = ap (λ (k : Kept). k.turn) e ∙ s.turn;
        wires = ap (λ (k : Kept). k.wires) e ∙ s.wires;
        routes = ap (λ (k : Kept). k.routes) e ∙ s.routes;
      }

  pub staffed-played : HasRooms plan.links played → (new : Staged) → new.racked ≡ played → new.owned ≡ cast.owned → new.wiring ≡ wired_of plan → new.period ≡ period → open_clients new.nodes ≡ open_clients plan.nodes → IsStaffed new plan
  staffed-played rooms new rack owned wiring same_period nodes = record {
    nodes = nodes;
    has = λ n h. subst (λ o. HasBench (open_clients plan.nodes) new.racked o n n) (sym owned) (subst (λ r. HasBench (open_clients plan.nodes) r cast.owned n n) (sym rack) (has-played n h));
    moment = moment;
    sources = sources-played;
    set = subst (λ w. AreSet w plan.links moment new.period sources-played (length plan.nodes) new.racked) (sym wiring)
        (subst (λ k. AreSet (wired_of plan) plan.links moment k sources-played (length plan.nodes) new.racked) (sym same_period)
        (subst (λ r. AreSet (wired_of plan) plan.links moment period sources-played (length plan.nodes) r) (sym rack) set-played));
    rooms = subst (HasRooms plan.links) (sym rack) rooms;
    joints = subst (λ (w : Wired). AreJoints (length plan.nodes) w.joints) (casts.wiring ∙ sym wiring) casts.joints;
    sounded = λ n h. ap (λ (r : Racked). length (bench_at r n).kept.audio) rack ∙ sounded-played n h ∙ ap (λ (w : Wired). (widths_at w n).outputs) (sym wiring);
  }
