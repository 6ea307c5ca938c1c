use Rattle.std.proofs.Common.{◌≡◌, ◌≢◌, ◌<◌, ◌≤◌, ◌+◌, ◌⊎◌, inl, inr, ◌∙◌, ℕ, false, List, [], None, Some, Option, ap, arith, get_or, length, refl, sym, subst, get_or-set_same, get_or-set_other, replicate}
use Rattle.std.specs.Prelude.{is_some, nat_lt, slice_set}
use Rattle.std.proofs.lemmas.Bool.{cases_eq, cases_lt, lt-ltb, le-ltb}
use Rattle.std.proofs.lemmas.List.{get_or-replicate, get_or_past, length-replicate, length-set}
use Rattle.jack_types.specs.declared.kinds.Kind.TheVariants.{Pass}
use Rattle.jack_types.specs.declared.ports.Link.{Link}
use Rattle.session_model.specs.Activation.{link_at, no_link, place_among}
use Rattle.session_model.specs.Benches.{Signal}
use Rattle.session_laws.proofs.SequentialLemmas.{outgoing_at}
use Rattle.bench_rack.specs.client_benches.specs.Seen.{Seen, has_room_at, new_bench, room_count}
use Rattle.bench_rack.specs.Racks.{Racked, bench_at, link_total, linked}
use Rattle.client_tasks.specs.Steps.{count_out}
use Rattle.client_tasks.proofs.ListLemmas.{out-more, out-other, outgoing-counted}
use Rattle.client_tasks.proofs.RackLemmas.{bench_at-other, bench_at-put, length-put, room_count-front, total-none, total-put}
use Rattle.client_tasks.proofs.carrying.link_all.Goals as goal

-- a bench that has no room
no_room : (rooms : List (Option (List Signal))) → rooms ≡ replicate 64 None → (p : ℕ) → is_some (get_or rooms p None) ≡ false
no_room rooms e p = ap (λ (list : List (Option (List Signal))). is_some (get_or list p None)) e ∙ ap is_some (go (cases_lt p 64))
  where
    go : (p < 64) ⊎ (64 ≤ p) → get_or {A = Option (List Signal)} (replicate 64 None) p None ≡ None
    go (inl h) = get_or-replicate 64 p None None h
    go (inr h) = get_or_past (replicate 64 None) p None h

-- a bench with one room more, behind its others
one_more : (bench : Seen) (c n : ℕ) → length bench.rooms ≡ 64 → c < 64 → ((p : ℕ) → has_room_at bench p ≡ nat_lt p c) → n ≡ c + 1 → (p : ℕ) → has_room_at (linked c bench) p ≡ nat_lt p n
one_more bench c n long low front more p = go (cases_eq p c) (cases_lt p c)
  where
    go : (p ≡ c) ⊎ (p ≢ c) → (p < c) ⊎ (c ≤ p) → is_some (get_or (slice_set bench.rooms c (Some [])) p None) ≡ nat_lt p n
    go (inl e) other = ap (λ k. is_some (get_or (slice_set bench.rooms c (Some [])) k None)) e ∙ ap is_some (get_or-set_same bench.rooms c (Some []) None (omega (arith, long, low))) ∙ sym (lt-ltb p n (omega (arith, e, more)))
    go (inr d) (inl l) = ap is_some (get_or-set_other bench.rooms c p (Some []) None d) ∙ front p ∙ lt-ltb p c l ∙ sym (lt-ltb p n (omega (arith, l, more)))
    go (inr d) (inr l) = ap is_some (get_or-set_other bench.rooms c p (Some []) None d) ∙ front p ∙ le-ltb p c l ∙ sym (le-ltb p n (omega (arith, l, d, more)))

pub loop-place-init : goal.loop-place-init
loop-place-init g c = record {
  rooms = λ n p. no_room (bench_at c.args.rack.now n).rooms (c.requires.none n) p ∙ sym (le-ltb p 0 (omega arith));
  long = λ n. ap length (c.requires.none n) ∙ length-replicate {A = Option (List Signal)} 64 None;
  kept = λ p. refl;
  others = λ count p low h. refl;
  total = let zero : link_total c.args.rack.now ≡ 0 = total-none room_count c.args.rack.now.benches (new_bench Pass 0) none in omega (arith, zero);
  lengths = refl;
  links = refl;
}
  where
    none : (p : ℕ) → room_count (bench_at c.args.rack.now p) ≡ 0
    none p = room_count-front (bench_at c.args.rack.now p) 0 (omega arith) (λ place. no_room (bench_at c.args.rack.now p).rooms (c.requires.none p) place ∙ sym (le-ltb place 0 (omega arith)))

pub link-requires-clause-link : goal.link-requires-clause-link
link-requires-clause-link g c =
    let link : Link = get_or c.args.links.now c.loop-place.place no_link in
    let most : count_out c.args.links.now link.from (c.loop-place.place + 1) ≤ 64 = c.requires.few link.from (c.loop-place.place + 1) (omega (arith, c.loop-place-test.true)) in
    let more : count_out c.args.links.now link.from (c.loop-place.place + 1) ≡ count_out c.args.links.now link.from c.loop-place.place + 1 = out-more c.args.links.now link.from c.loop-place.place refl in
    omega (arith, most, more, c.count_from.ensures.count)

pub loop-place-preserved : goal.loop-place-preserved
loop-place-preserved g c = record {
  rooms = λ n p. rooms n (cases_eq n node) p;
  long = λ n. long n (cases_eq n node);
  kept = λ p. kept p (cases_eq p node) ∙ c.loop-place.invariant.kept p;
  others = λ count p low h.
      let from : node < count = low place no_link c.loop-place-test.true in
      let apart : p ≢ node = λ e. absurd (omega (arith, e, from, h)) in
      other p apart ∙ c.loop-place.invariant.others count p low h;
  total =
      let total : link_total c.link.new.self + room_count (bench_at c.loop-place.rack node) ≡ link_total c.loop-place.rack + room_count now = total-put room_count c.loop-place.rack c.link.new.self node now c.link.ensures within in
      let was : room_count (bench_at c.loop-place.rack node) ≡ count_out links node place = room_count-front (bench_at c.loop-place.rack node) (count_out links node place) (omega (arith, low)) (c.loop-place.invariant.rooms node) in
      let is : room_count now ≡ count_out links node (place + 1) = room_count-front now (count_out links node (place + 1)) (c.requires.few node (place + 1) (omega (arith, c.loop-place-test.true))) now-front in
      omega (arith, total, was, is, more, c.loop-place.invariant.total);
  lengths = length-put c.loop-place.rack c.link.new.self node now c.link.ensures ∙ c.loop-place.invariant.lengths;
  links = ap (λ (rack : Racked). rack.links) c.link.ensures ∙ c.loop-place.invariant.links;
}
  where
    links : List Link
    links = c.args.links.now

    place : ℕ
    place = c.loop-place.place

    node : ℕ
    node = (link_at c.args.links.now c.loop-place.place).from

    now : Seen
    now = linked c.count_from.result (bench_at c.loop-place.rack (link_at c.args.links.now c.loop-place.place).from)

    within : node < length c.loop-place.rack.benches
    within = let low : node < length c.args.rack.now.benches = c.requires.nodes place no_link c.loop-place-test.true in omega (arith, low, c.loop-place.invariant.lengths)

    more : count_out links node (place + 1) ≡ count_out links node place + 1
    more = out-more links node place refl

    low : count_out links node place < 64
    low = let most : count_out links node (place + 1) ≤ 64 = c.requires.few node (place + 1) (omega (arith, c.loop-place-test.true)) in omega (arith, most, more)

    at-node : bench_at c.link.new.self node ≡ now
    at-node = ap (λ (rack : Racked). bench_at rack node) c.link.ensures ∙ bench_at-put c.loop-place.rack node now within

    other : (p : ℕ) → p ≢ node → bench_at c.link.new.self p ≡ bench_at c.loop-place.rack p
    other p n = ap (λ (rack : Racked). bench_at rack p) c.link.ensures ∙ bench_at-other c.loop-place.rack node p now n

    now-front : (p : ℕ) → has_room_at now p ≡ nat_lt p (count_out links node (place + 1))
    now-front = one_more (bench_at c.loop-place.rack node) c.count_from.result (count_out links node (place + 1)) (c.loop-place.invariant.long node) (omega (arith, low, c.count_from.ensures.count))
        (λ p. c.loop-place.invariant.rooms node p ∙ ap (nat_lt p) (sym c.count_from.ensures.count)) (omega (arith, more, c.count_from.ensures.count))

    rooms : (n : ℕ) → (n ≡ node) ⊎ (n ≢ node) → (p : ℕ) → has_room_at (bench_at c.link.new.self n) p ≡ nat_lt p (count_out links n (place + 1))
    rooms n (inl e) p =
        ap (λ m. has_room_at (bench_at c.link.new.self m) p) e ∙ ap (λ bench. has_room_at bench p) at-node ∙ now-front p ∙ ap (λ m. nat_lt p (count_out links m (place + 1))) (sym e)
    rooms n (inr d) p =
        ap (λ bench. has_room_at bench p) (other n d) ∙ c.loop-place.invariant.rooms n p ∙ ap (nat_lt p) (sym (out-other links n place (λ e. d (sym e))))

    long : (n : ℕ) → (n ≡ node) ⊎ (n ≢ node) → length (bench_at c.link.new.self n).rooms ≡ 64
    long n (inl e) =
        ap (λ m. length (bench_at c.link.new.self m).rooms) e ∙ ap (λ (bench : Seen). length bench.rooms) at-node
        ∙ length-set (bench_at c.loop-place.rack node).rooms c.count_from.result (Some []) ∙ c.loop-place.invariant.long node
    long n (inr d) = ap (λ (bench : Seen). length bench.rooms) (other n d) ∙ c.loop-place.invariant.long n

    kept : (p : ℕ) → (p ≡ node) ⊎ (p ≢ node) → (bench_at c.link.new.self p).kept ≡ (bench_at c.loop-place.rack p).kept
    kept p (inl e) = ap (λ m. (bench_at c.link.new.self m).kept) e ∙ ap (λ (bench : Seen). bench.kept) at-node ∙ ap (λ m. (bench_at c.loop-place.rack m).kept) (sym e)
    kept p (inr d) = ap (λ (bench : Seen). bench.kept) (other p d)

pub returns-clause-rooms : goal.returns-clause-rooms
returns-clause-rooms g c l h =
    let node : ℕ = (link_at c.args.links.now l).from in
    let whole : c.loop-place.place ≡ length c.args.links.now = omega (arith, c.loop-place-test.false, c.loop-place.auto.place-end) in
    let at : place_among c.args.links.now l < count_out c.args.links.now (link_at c.args.links.now l).from c.loop-place.place =
    subst (λ k. place_among c.args.links.now l < k) (outgoing-counted c.args.links.now (link_at c.args.links.now l).from ∙ ap (count_out c.args.links.now (link_at c.args.links.now l).from) (sym whole)) (outgoing_at c.args.links.now l 0 h).0 in
    c.loop-place.invariant.rooms (link_at c.args.links.now l).from (place_among c.args.links.now l)
    ∙ lt-ltb (place_among c.args.links.now l) (count_out c.args.links.now (link_at c.args.links.now l).from c.loop-place.place) at
