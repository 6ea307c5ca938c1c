-- What stays true of a rack's fields behind a cycle.
--     room_count-places      benches with room at the same places have as many rooms
--     have_front      room by nodes is room at the benches that are played
--     others-front, played-front, rooms-front      a list of which the first benches were played
--     whole-played      with other benches, each with as many rooms
--     wires-played      a play keeps all connections
use Rattle.std.proofs.Common.{◌≡◌, ℕ, suc, ◌+◌, ◌-◌, ◌<◌, ◌≤◌, cond, Bool, true, false, List, [], ◌∷◌, ◌++◌, length, take, drop, get_or, ℤ, refl, sym, ◌∙◌, ap, ap₂, arith}
use Rattle.std.specs.Prelude.{nat_lt, sum_by}
use Rattle.std.specs.Global.{Vec}
use Rattle.std.proofs.lemmas.Bool.{leb-true, ltb-false}
use Rattle.std.proofs.lemmas.List.{get_or-append_right, get_or-drop, get_or-take, get_or_append_left, length-take, length-take-le}
use Rattle.std.proofs.lemmas.List.Sums.{sum_by-cons}
use Rattle.table_lemmas.proofs.Readings.{get_at, inside}
use Rattle.jack_types.specs.declared.kinds.Kind.TheVariants.{Pass}
use Rattle.jack_types.specs.declared.ports.Link.{Link}
use Rattle.session_model.specs.Activation.{AreLinks, link_at, place_among, sequential}
use Rattle.session_model.specs.Benches.{Signal}
use Rattle.session_model.specs.Kinds.{Sound}
use Rattle.session_model.specs.Samples.{below}
use Rattle.bench_crew.specs.client_kinds.specs.Scores.{Score}
use Rattle.bench_crew.specs.client_benches.specs.Seen.{Remembered, Seen, has_room_at, kept_after, kept_gives, new_bench, room_count}
use Rattle.bench_crew.specs.client_benches.specs.Wires.{kept_count}
use Rattle.bench_crew.specs.cycle_workers.specs.Runs.{HaveRoom}
use Rattle.bench_rack.specs.Insides.{IsWhole, bench_among, racked}
use Rattle.bench_rack.proofs.SequentialLemmas.{sequential-same}

sum-same : {X Y : Type 0} (f : X → ℕ) (g : Y → ℕ) (xs : List X) (ys : List Y) (d : X) (e : Y) → length xs ≡ length ys → ((n : ℕ) → n < length ys → f (get_or xs n d) ≡ g (get_or ys n e)) → sum_by f xs ≡ sum_by g ys
sum-same f g [] [] d e long same = refl
sum-same f g [] (y ∷ ys) d e long same = absurd (omega (arith, long))
sum-same f g (x ∷ xs) [] d e long same = absurd (omega (arith, long))
sum-same f g (x ∷ xs) (y ∷ ys) d e long same =
    sum_by-cons f x xs
    ∙ ap₂ (λ (a b : ℕ). a + b) (same 0 (omega arith)) (sum-same f g xs ys d e (omega (arith, long)) (λ n h. same (suc n) (omega (arith, h))))
    ∙ sym (sum_by-cons g y ys)

pub room_count-places : (seen other : Seen) → ((place : ℕ) → has_room_at seen place ≡ has_room_at other place) → room_count seen ≡ room_count other
unfolding room_count
room_count-places seen other same =
    sum-same (λ (place : ℕ). cond (has_room_at seen place) 1 0) (λ (place : ℕ). cond (has_room_at other place) 1 0) (below 64) (below 64) 0 0 refl
    (λ n h. ap (λ (b : Bool). cond b 1 0) (same (get_or (below 64) n 0)))

pub whole-played : (benches new : List Seen) (links : ℕ) (spare : Vec (List ℤ)) (spare_links : Vec (List Signal)) → length new ≡ length benches
    → ((n : ℕ) → n < length benches → kept_count (bench_among new n).kept.wires ≡ kept_count (bench_among benches n).kept.wires)
    → ((n place : ℕ) → has_room_at (bench_among new n) place ≡ has_room_at (bench_among benches n) place)
    → IsWhole (racked benches links) spare spare_links → IsWhole (racked new links) spare spare_links
whole-played benches new links spare spare_links long wires rooms whole = record {
  wires = ap (λ n. length spare.items + n) (sum-same (λ (bench : Seen). kept_count bench.kept.wires) (λ (bench : Seen). kept_count bench.kept.wires) new benches (new_bench Pass 0) (new_bench Pass 0) long wires) ∙ whole.wires;
  wire_space = whole.wire_space;
  links = ap (λ n. length spare_links.items + n) (sum-same room_count room_count new benches (new_bench Pass 0) (new_bench Pass 0) long (λ n h. room_count-places (bench_among new n) (bench_among benches n) (rooms n))) ∙ whole.links;
  link_space = whole.link_space;
}

-- a play takes no connection and makes none
pub wires-played : (sound : Score → Sound) (benches new : List Seen) (nodes : ℕ) (links : List Link)
    → ((n : ℕ) → n < nodes → (bench_among new n).kept ≡ sequential (kept_after sound) (kept_gives sound) links (λ m. (bench_among benches m).kept) n)
    → ((n : ℕ) → nodes ≤ n → bench_among new n ≡ bench_among benches n)
    → (n : ℕ) → kept_count (bench_among new n).kept.wires ≡ kept_count (bench_among benches n).kept.wires
wires-played sound benches new nodes links played others n = go (nat_lt n nodes) refl
  where
    go : (b : Bool) → nat_lt n nodes ≡ b → kept_count (bench_among new n).kept.wires ≡ kept_count (bench_among benches n).kept.wires
    go true h = ap (λ (kept : Remembered). kept_count kept.wires) (played n (leb-true (suc n) nodes h))
    go false h = ap (λ (bench : Seen). kept_count bench.kept.wires) (others n (ltb-false n nodes h))

-- benches by node, each looked up in the front that is played
pub have_front : (nodes : ℕ) (links : List Link) (benches : List Seen)
    → ((l : ℕ) → l < length links → has_room_at (bench_among benches (link_at links l).from) (place_among links l) ≡ true)
    → HaveRoom has_room_at links (take nodes benches)
have_front nodes links benches have l bench h there =
    ap (λ (seen : Seen). has_room_at seen (place_among links l))
    (sym (get_at (take nodes benches) (link_at links l).from bench (new_bench Pass 0) there)
    ∙ get_or-take nodes benches (link_at links l).from (new_bench Pass 0) (omega (arith, inside (take nodes benches) (link_at links l).from bench there, length-take nodes benches)))
    ∙ have l h

-- a front of a list was changed, and what lies behind it stayed
module _ (nodes from : ℕ) (benches new : List Seen) (few : nodes ≤ length benches) (here : from ≡ nodes) (long : length new ≡ length (take from benches)) where
  front-taken : length (take from benches) ≡ nodes
  front-taken = length-take-le from benches (omega (arith, few, here)) ∙ here

  front-there : (n : ℕ) → n < nodes → bench_among (new ++ drop from benches) n ≡ bench_among new n
  front-there n low = get_or_append_left new (drop from benches) (new_bench Pass 0) n (omega (arith, low, long, front-taken))

  front-before : (n : ℕ) → n < nodes → bench_among (take from benches) n ≡ bench_among benches n
  front-before n low = get_or-take from benches n (new_bench Pass 0) (omega (arith, low, here))

  pub others-front : (n : ℕ) → nodes ≤ n → bench_among (new ++ drop from benches) n ≡ bench_among benches n
  others-front n high =
      get_or-append_right new (drop from benches) nodes n (new_bench Pass 0) (long ∙ front-taken) high
      ∙ get_or-drop from benches (n - nodes) (new_bench Pass 0)
      ∙ ap (bench_among benches) (omega (arith, high, here))

  pub played-front : (sound : Score → Sound) (links : List Link) → AreLinks nodes links
      → ((n : ℕ) → n < length (take from benches) → (bench_among new n).kept ≡ sequential (kept_after sound) (kept_gives sound) links (λ m. (bench_among (take from benches) m).kept) n)
      → (n : ℕ) → n < nodes → (bench_among (new ++ drop from benches) n).kept ≡ sequential (kept_after sound) (kept_gives sound) links (λ m. (bench_among benches m).kept) n
  played-front sound links are played n low =
      ap (λ (bench : Seen). bench.kept) (front-there n low)
      ∙ played n (omega (arith, low, front-taken))
      ∙ sequential-same (kept_after sound) (kept_gives sound) nodes links are (λ m. (bench_among (take from benches) m).kept) (λ m. (bench_among benches m).kept) (λ m there. ap (λ (bench : Seen). bench.kept) (front-before m there)) n low

  pub rooms-front : ((n place : ℕ) → n < length (take from benches) → has_room_at (bench_among new n) place ≡ has_room_at (bench_among (take from benches) n) place)
      → (n place : ℕ) → has_room_at (bench_among (new ++ drop from benches) n) place ≡ has_room_at (bench_among benches n) place
  rooms-front rooms n place = go (nat_lt n nodes) refl
    where
      go : (b : Bool) → nat_lt n nodes ≡ b → has_room_at (bench_among (new ++ drop from benches) n) place ≡ has_room_at (bench_among benches n) place
      go true h =
          let low = leb-true (suc n) nodes h in
          ap (λ (bench : Seen). has_room_at bench place) (front-there n low)
          ∙ rooms n place (omega (arith, low, front-taken))
          ∙ ap (λ (bench : Seen). has_room_at bench place) (front-before n low)
      go false h = ap (λ (bench : Seen). has_room_at bench place) (others-front n (ltb-false n nodes h))
