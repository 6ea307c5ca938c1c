-- What a cycle gets of one disk.
--     gets-missed, gets-found      a get that found neither a block nor the end, and one that did
--     gets-behind      the underruns of before stand in front of it
--     more-few, more-now      at most one, of this disk and cycle
--     played-same, counted-one      what is counted is what was got
--     read-at, feed-at, feed-sound      what was read stands there, and is sound
--     only-one      the disk's ring, block and count change, and nothing else
--     got-seen, rests-seen      what is seen of a get, and of a disk that nobody plays
use Rattle.std.proofs.Common.{◌≡◌, ℕ, ◌+◌, ◌-◌, ◌*◌, ◌^◌, ◌<◌, ◌≤◌, Bool, true, false, cond, List, [], ◌∷◌, ◌++◌, length, map, get_or, set, min, All, Option, refl, sym, ◌∙◌, ap, ap₂, subst, arith, append-nil, length-append, length-set, true≢false}
use Rattle.std.specs.Prelude.{nat_lt, ◌==◌}
use Rattle.std.proofs.Math.Seq.{map-set, map-set_same}
use Rattle.std.proofs.lemmas.Option.{slice_get_read, get_or_from_slice_get}
use Rattle.std.proofs.lemmas.Bool.{eq-eqb}
use Rattle.std.proofs.lemmas.List.{get_or-map, get_or-set_other, get_or-set_same, get_or_default, length-map, set-get_or}
use Rattle.std.proofs.lemmas.List.Elements.{All-cons, All-head, All-nil, All-tail, filter-append}
use Rattle.jack_types.specs.declared.replies.Underrun.{Underrun}
use Rattle.session_model.specs.Rings.{RingBlock}
use Rattle.record_ring.specs.Rings.{Gets}
use Rattle.driver_words.specs.Rings.{Getting, Sending}
use Rattle.record_ring.specs.declared.consumer.Got.{Got}
use Rattle.record_ring.specs.declared.consumer.Got.TheVariants.{Block, Empty, Ended}
use Rattle.driver_laws.specs.Cycling.{GetsOne, Silent, Heard, Over, Missed}
use Rattle.driver_laws.specs.Drivers.{underruns_on}
use Rattle.disk_feeds.specs.declared.feed.Feed.{Feed}
use Rattle.disk_feeds.specs.Cycling.{given_now, played_by}
use Rattle.driver_words.specs.Feeding.{AreCounted, Fed, disk_at, no_block, no_ring}
use Rattle.disk_feeds.specs.Insides.{FeedsFrom, IsFeed, IsSound, fed_of, given_in}
use Rattle.disk_feeds.specs.Steps.{GetsOnly}

-- ---- the ring

pub gets-missed : (k disk : ℕ) (before after : Getting) (sent taken : ℕ) → (one : RingBlock) × (found : ℕ) × Gets before after one found (Empty sent taken)
    → GetsOne k disk true before after [] (record { disk = disk; cycle = k; sent = sent; taken = taken } ∷ [])
gets-missed k disk before after sent taken gets =
    let same : (sent ≡ gets.1) × (taken ≡ gets.1) = (gets.2.3, gets.2.4) in
    Missed gets.0 gets.1 refl (subst (λ (q : ℕ × ℕ). Gets before after gets.0 gets.1 (Empty q.0 q.1)) (λ j. (same.0 j, same.1 j)) gets.2)
    (ap (λ (q : ℕ × ℕ). record { disk = disk; cycle = k; sent = q.0; taken = q.1 } ∷ []) (λ j. (same.0 j, same.1 j)))

pub gets-found : (k disk : ℕ) (before after : Getting) (got : Got) → ((sent taken : ℕ) → got ≡ Empty sent taken → ⊥) → (one : RingBlock) × (found : ℕ) × Gets before after one found got → GetsOne k disk true before after [] []
gets-found k disk before after Block apart gets = Heard gets.0 gets.1 refl gets.2 refl
gets-found k disk before after (Empty sent taken) apart gets = absurd (apart sent taken refl)
gets-found k disk before after Ended apart gets = Over gets.0 gets.1 refl gets.2 refl

pub gets-behind : (k disk : ℕ) (active : Bool) (before after : Getting) (more misses misses_after : List Underrun) → misses_after ≡ misses ++ more → GetsOne k disk active before after [] more → GetsOne k disk active before after misses misses_after
gets-behind k disk active before after more misses misses_after is (Silent idle same none) = Silent idle same (is ∙ ap (λ (us : List Underrun). misses ++ us) none ∙ append-nil misses)
gets-behind k disk active before after more misses misses_after is (Heard one found on gets none) = Heard one found on gets (is ∙ ap (λ (us : List Underrun). misses ++ us) none ∙ append-nil misses)
gets-behind k disk active before after more misses misses_after is (Over one found on gets none) = Over one found on gets (is ∙ ap (λ (us : List Underrun). misses ++ us) none ∙ append-nil misses)
gets-behind k disk active before after more misses misses_after is (Missed one found on gets one_more) = Missed one found on gets (is ∙ ap (λ (us : List Underrun). misses ++ us) one_more)

pub more-few : (k disk : ℕ) (active : Bool) (before after : Getting) (more : List Underrun) → GetsOne k disk active before after [] more → length more ≤ 1
more-few k disk active before after more (Silent idle same none) = omega (arith, ap length none)
more-few k disk active before after more (Heard one found on gets none) = omega (arith, ap length none)
more-few k disk active before after more (Over one found on gets none) = omega (arith, ap length none)
more-few k disk active before after more (Missed one found on gets one_more) = omega (arith, ap length one_more)

abbrev IsOf : ℕ → ℕ → Underrun → Type 0
IsOf k disk underrun = (underrun.cycle ≡ k) × (underrun.disk ≡ disk)

pub more-now : (k disk : ℕ) (active : Bool) (before after : Getting) (more : List Underrun) → GetsOne k disk active before after [] more → All (IsOf k disk) more
more-now k disk active before after more (Silent idle same none) = subst (λ (us : List Underrun). All (IsOf k disk) us) (sym none) (All-nil (IsOf k disk))
more-now k disk active before after more (Heard one found on gets none) = subst (λ (us : List Underrun). All (IsOf k disk) us) (sym none) (All-nil (IsOf k disk))
more-now k disk active before after more (Over one found on gets none) = subst (λ (us : List Underrun). All (IsOf k disk) us) (sym none) (All-nil (IsOf k disk))
more-now k disk active before after more (Missed one found on gets one_more) = subst (λ (us : List Underrun). All (IsOf k disk) us) (sym one_more) (All-cons (IsOf k disk) (record { disk = disk; cycle = k; sent = found; taken = found }) [] (refl, refl) (All-nil (IsOf k disk)))

filter-all : (us : List Underrun) (k disk : ℕ) → All (IsOf k disk) us → underruns_on us disk ≡ us
filter-all [] k disk now = refl
filter-all (u ∷ us) k disk now = rw (eq-eqb u.disk disk (All-head (IsOf k disk) u us now).1) (ap (λ (vs : List Underrun). u ∷ vs) (filter-all us k disk (All-tail (IsOf k disk) u us now)))

more-on : (us more : List Underrun) (k disk : ℕ) → All (IsOf k disk) more → underruns_on (us ++ more) disk ≡ underruns_on us disk ++ more
more-on us more k disk now = filter-append (λ (u : Underrun). u.disk == disk) us more ∙ ap (λ (vs : List Underrun). underruns_on us disk ++ vs) (filter-all more k disk now)

-- ---- the count

lt-same : (n : ℕ) → nat_lt n n ≡ false
lt-same n = grind arith

lt-more : (n : ℕ) → nat_lt n (n + 1) ≡ true
lt-more n = grind arith

pub played-same : (before after : Getting) (played : ℕ) → length after.got ≡ length before.got → played_by before after played ≡ played
played-same before after played same = ap (λ n. cond (nat_lt (length before.got) n) (min (played + 1) (2 ^ 64 - 1)) played) same ∙ ap (λ b. cond b (min (played + 1) (2 ^ 64 - 1)) played) (lt-same (length before.got))

pub played-more : (before after : Getting) (played : ℕ) → length after.got ≡ length before.got + 1 → played_by before after played ≡ min (played + 1) (2 ^ 64 - 1)
played-more before after played more = ap (λ n. cond (nat_lt (length before.got) n) (min (played + 1) (2 ^ 64 - 1)) played) more ∙ ap (λ b. cond b (min (played + 1) (2 ^ 64 - 1)) played) (lt-more (length before.got))

pub counted-one : (k disk : ℕ) (active : Bool) (before after : Getting) (more : List Underrun) (played : ℕ) → (active ≡ true → length after.got < 2 ^ 63) → length before.got ≡ played → GetsOne k disk active before after [] more → length after.got ≡ played_by before after played
counted-one k disk active before after more played few is (Silent idle same none) =
    ap (λ (g : Getting). length g.got) same ∙ is ∙ sym (played-same before after played (ap (λ (g : Getting). length g.got) same))
counted-one k disk active before after more played few is (Heard one found on gets none) =
    let longer : length after.got ≡ length before.got + 1 = ap (λ (g : Getting). length g.got) gets.3 ∙ length-append before.got (one ∷ []) in
    let count : length after.got ≡ min (played + 1) (2 ^ 64 - 1) = omega (arith, longer, is, few on) in
    count ∙ sym (played-more before after played longer)
counted-one k disk active before after more played few is (Over one found on gets none) =
    ap (λ (g : Getting). length g.got) gets.2 ∙ is ∙ sym (played-same before after played (ap (λ (g : Getting). length g.got) gets.2))
counted-one k disk active before after more played few is (Missed one found on gets one_more) =
    ap (λ (g : Getting). length g.got) gets.6 ∙ is ∙ sym (played-same before after played (ap (λ (g : Getting). length g.got) gets.6))

-- ---- what is seen

set_at : {X Y : Type 0} (f : X → Y) (xs : List X) (i : ℕ) (x : X) (d : Y) → i < length xs → get_or (map f (set xs i x)) i d ≡ f x
set_at f xs i x d low = ap (λ ys. get_or ys i d) (map-set f xs i x) ∙ get_or-set_same (map f xs) i (f x) d (omega (arith, low, length-map xs f))

set_other : {X Y : Type 0} (f : X → Y) (xs : List X) (i other : ℕ) (x : X) (d : Y) → (other ≡ i → ⊥) → get_or (map f (set xs i x)) other d ≡ get_or (map f xs) other d
set_other f xs i other x d apart = ap (λ ys. get_or ys other d) (map-set f xs i x) ∙ get_or-set_other (map f xs) i other (f x) d apart

set_long : {X Y : Type 0} (f : X → Y) (xs : List X) (i : ℕ) (x : X) → length (map f (set xs i x)) ≡ length (map f xs)
set_long f xs i x = length-map (set xs i x) f ∙ length-set xs i x ∙ sym (length-map xs f)

pub read-at : {X : Type 0} (xs : List X) (i : ℕ) (x d : X) → i < length xs → x ≡ get_or xs i x → get_or xs i d ≡ x
read-at xs i x d low is = get_or_from_slice_get xs i x d (slice_get_read xs (length xs) i x refl low is)

pub feed-at : {Y : Type 0} (f : Feed → Y) (feeds : List Feed) (i : ℕ) (feed : Feed) (d : Y) → i < length feeds → feed ≡ get_or feeds i feed → get_or (map f feeds) i d ≡ f feed
feed-at f feeds i feed d low is = get_or-map f feeds i feed d low ∙ ap f (sym is)

channels-kept : (feeds : List Feed) (i : ℕ) (feed old : Feed) → old ≡ get_or feeds i old → feed.channels ≡ old.channels → map (λ (feed : Feed). feed.channels) (set feeds i feed) ≡ map (λ (feed : Feed). feed.channels) feeds
channels-kept feeds i feed old is same = map-set_same (λ (feed : Feed). feed.channels) feeds i feed old (same ∙ ap (λ (feed : Feed). feed.channels) is)

module _ (active : Bool) (cycle i : ℕ) (disks : List Getting) (out : List (Option Sending)) (feeds : List Feed) (underruns more : List Underrun) (period misses : ℕ) (ring old_ring : Getting) (feed old_feed : Feed) where
  abbrev before : Fed
  before = fed_of disks out feeds underruns period misses

  abbrev after : Fed
  after = fed_of (set disks i ring) out (set feeds i feed) (underruns ++ more) period misses

  pub only-one : i < length disks → length feeds ≡ length disks → old_ring ≡ get_or disks i old_ring → old_feed ≡ get_or feeds i old_feed
      → GetsOne cycle i active old_ring ring [] more → given_in feed ≡ given_now active (period * old_feed.channels) old_ring ring → feed.played ≡ played_by old_ring ring old_feed.played
      → feed.channels ≡ old_feed.channels → (active ≡ true → length ring.got < 2 ^ 63) → GetsOnly active cycle i before after
  only-one low as_many ring_is feed_is gets given count channels few = record {
    at = record {
      gets = gets-behind cycle i active (disk_at before i) (disk_at after i) more (underruns_on underruns i) (underruns_on (underruns ++ more) i) (more-on underruns more cycle i now)
          (subst (λ (q : Getting × Getting). GetsOne cycle i active q.0 q.1 [] more) (λ j. (sym old_at j, sym new_at j)) gets);
      gives =
          set_at given_in feeds i feed no_block low_feeds
          ∙ given
          ∙ ap (λ (q : ℕ × Getting × Getting). given_now active (period * q.0) q.1 q.2) (λ j. (sym (feed-at (λ (feed : Feed). feed.channels) feeds i old_feed 0 low_feeds feed_is) j, sym old_at j, sym new_at j));
      counts =
          set_at (λ (feed : Feed). feed.played) feeds i feed 0 low_feeds
          ∙ count
          ∙ ap (λ (q : Getting × Getting × ℕ). played_by q.0 q.1 q.2) (λ j. (sym old_at j, sym new_at j, sym (feed-at (λ (feed : Feed). feed.played) feeds i old_feed 0 low_feeds feed_is) j));
    };
    disks = λ other apart. get_or-set_other disks i other ring no_ring apart;
    blocks = λ other apart. set_other given_in feeds i other feed no_block apart;
    played = λ other apart. set_other (λ (feed : Feed). feed.played) feeds i other feed 0 apart;
    as_many = length-set disks i ring;
    as_many_blocks = set_long given_in feeds i feed;
    as_many_counts = set_long (λ (feed : Feed). feed.played) feeds i feed;
    underruns = more;
    more = refl;
    now = now;
    few = more-few cycle i active old_ring ring more gets;
    counted = counted;
    same = ap (λ (channels : List ℕ). record after { channels = channels }) (channels-kept feeds i feed old_feed feed_is channels);
  }
    where
      low_feeds : i < length feeds
      low_feeds = omega (arith, low, as_many)

      now : All (IsOf cycle i) more
      now = more-now cycle i active old_ring ring more gets

      old_at : disk_at before i ≡ old_ring
      old_at = read-at disks i old_ring no_ring low ring_is

      new_at : disk_at after i ≡ ring
      new_at = get_or-set_same disks i ring no_ring low

      counted : AreCounted before → AreCounted after
      counted all = map-set (λ (g : Getting). length g.got) disks i ring ∙ ap₂ (λ (xs : List ℕ) (n : ℕ). set xs i n) all one ∙ sym (map-set (λ (feed : Feed). feed.played) feeds i feed)
        where
          was : length old_ring.got ≡ old_feed.played
          was =
              ap (λ (g : Getting). length g.got) ring_is
              ∙ sym (get_or-map (λ (g : Getting). length g.got) disks i old_ring 0 low)
              ∙ ap (λ (xs : List ℕ). get_or xs i 0) all
              ∙ feed-at (λ (feed : Feed). feed.played) feeds i old_feed 0 low_feeds feed_is

          one : length ring.got ≡ feed.played
          one = counted-one cycle i active old_ring ring more old_feed.played few was gets ∙ sym count

pub feed-sound : (period : ℕ) (feeds : List Feed) (i : ℕ) (feed : Feed) → All (IsFeed period) feeds → i < length feeds → feed ≡ get_or feeds i feed → IsFeed period feed
feed-sound period feeds i feed each low is = subst (IsFeed period) (sym is) (each i feed low)

-- with what contracts saw before
seen-only : (active : Bool) (cycle i disk : ℕ) (first seen last : Fed) → first ≡ seen → i ≡ disk → GetsOnly active cycle i first last → GetsOnly active cycle disk seen last
seen-only active cycle i disk first seen last view same only = subst (λ (q : ℕ × Fed). GetsOnly active cycle q.0 q.1 last) (λ j. (same j, view j)) only

pub got-seen : (cycle i disk : ℕ) (disks : List Getting) (out : List (Option Sending)) (feeds : List Feed) (underruns underruns_after more : List Underrun) (period misses misses_after : ℕ) (ring old_ring : Getting) (feed old_feed : Feed) (seen : Fed)
    → fed_of disks out feeds underruns period misses ≡ seen → i ≡ disk → underruns_after ≡ underruns ++ more → misses_after ≡ misses → IsSound disks out feeds period → disk < length seen.disks
    → old_ring ≡ get_or disks i old_ring → old_feed ≡ get_or feeds i old_feed → GetsOne cycle disk true old_ring ring [] more → FeedsFrom old_feed feed old_ring ring → length ring.got < 2 ^ 63
    → GetsOnly true cycle disk seen (fed_of (set disks i ring) out (set feeds i feed) underruns_after period misses_after)
got-seen cycle i disk disks out feeds underruns underruns_after more period misses misses_after ring old_ring feed old_feed seen view same more_is misses_is sound low ring_is feed_is gets from few =
    seen-only true cycle i disk (fed_of disks out feeds underruns period misses) seen _ view same
    (subst (λ (q : List Underrun × ℕ). GetsOnly true cycle i (fed_of disks out feeds underruns period misses) (fed_of (set disks i ring) out (set feeds i feed) q.0 period q.1)) (λ j. (sym more_is j, sym misses_is j))
    (only-one true cycle i disks out feeds underruns more period misses ring old_ring feed old_feed there sound.as_many ring_is feed_is
    (subst (λ (d : ℕ). GetsOne cycle d true old_ring ring [] more) (sym same) gets)
    (from.given ∙ ap (λ n. given_now true n old_ring ring) (feed-sound period feeds i old_feed sound.each (omega (arith, there, sound.as_many)) feed_is).room)
    from.count from.channels (λ _. few)))
  where
    there : i < length disks
    there = omega (arith, low, same, ap (λ (s : Fed). length s.disks) view)

pub rests-seen : (cycle i disk : ℕ) (disks : List Getting) (out : List (Option Sending)) (feeds : List Feed) (underruns : List Underrun) (period misses : ℕ) (feed old_feed : Feed) (seen : Fed)
    → fed_of disks out feeds underruns period misses ≡ seen → i ≡ disk → IsSound disks out feeds period → disk < length seen.disks
    → old_feed ≡ get_or feeds i old_feed → feed ≡ record old_feed { is_given = false }
    → GetsOnly false cycle disk seen (fed_of disks out (set feeds i feed) underruns period misses)
rests-seen cycle i disk disks out feeds underruns period misses feed old_feed seen view same sound low feed_is rest_is =
    seen-only false cycle i disk (fed_of disks out feeds underruns period misses) seen _ view same
    (subst (λ (q : List Getting × List Underrun). GetsOnly false cycle i (fed_of disks out feeds underruns period misses) (fed_of q.0 out (set feeds i feed) q.1 period misses)) (λ j. (set-get_or disks i no_ring j, append-nil underruns j))
    (only-one false cycle i disks out feeds underruns [] period misses (get_or disks i no_ring) (get_or disks i no_ring) feed old_feed there sound.as_many (get_or_default disks i no_ring (get_or disks i no_ring) there) feed_is
    (Silent refl refl refl)
    (ap given_in rest_is)
    (ap (λ (f : Feed). f.played) rest_is ∙ sym (played-same (get_or disks i no_ring) (get_or disks i no_ring) old_feed.played refl))
    (ap (λ (f : Feed). f.channels) rest_is)
    (λ on. absurd (true≢false (sym on)))))
  where
    there : i < length disks
    there = omega (arith, low, same, ap (λ (s : Fed). length s.disks) view)
