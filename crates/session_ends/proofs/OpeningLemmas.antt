-- A session before its first phase.
--     IsOpened sounding script scores desk gear made waves players      its parts are new
--     IsAttaching-opened, no-stores      it is attaching, and has no store yet
--     players-told      what its players tell of their files
--     passed-on      what holds of an error that is passed on
use Rattle.std.proofs.Common.{◌≡◌, ℕ, zero, suc, ◌+◌, ◌*◌, ◌^◌, ◌<◌, ◌≤◌, List, [], ◌∷◌, length, map, take, filter_map, get_or, slice_get, Option, Some, None, All, Result, Ok, Err, refl, sym, ◌∙◌, ap, ap₂, subst, arith}
use Rattle.std.specs.Prelude.{IfErr, IsErrAnd, slice_index, slice_index_or}
use Rattle.std.proofs.Math.Nat.{mul_comm}
use Rattle.std.proofs.lemmas.List.{length-map}
use Rattle.std.proofs.lemmas.Nat.{mul-le}
use Rattle.std.proofs.lemmas.List.Elements.{All-from_get_or, All-head, All-tail}
use Rattle.std.proofs.lemmas.Option.{get_or_from_slice_get, slice_get-get_or, slice_get_within}
use Rattle.session_model.specs.Grammar.{IsScript}
use Rattle.session_model.specs.Kinds.{Sound}
use Rattle.session_model.specs.Samples.{below}
use Rattle.session_model.specs.Scripts.{Script}
use Rattle.client_kinds.specs.Scores.{Score}
use Rattle.graph_word.specs.declared.view.TakenRow.{TakenRow}
use Rattle.graph_word.specs.Publications.{IsOpening as IsPublication, Publishing, Reading}
use Rattle.driver_words.specs.Feeding.{channels_at, disk_at, no_ring as no_disk}
use Rattle.driver_words.specs.Rings.{Getting, IsOpening, IsPair, Sending}
use Rattle.driver_words.specs.Tapes.{Tape}
use Rattle.session_works.specs.DeskWords.{Desk, IsDesk, IsNewDesk, base_of}
use Rattle.driver_laws.specs.Drivers.{Driver, HasOwnRings, HasOwnRows, IsOwnRing, greatest_period, last_content}
use Rattle.driver_laws.specs.Openings.{IsNew as IsNewDriver}
use Rattle.disk_feeds.specs.Openings.{IsNew as AreNewFeeds}
use Rattle.recorder_rings.specs.Openings.{IsNew as AreNew}
use Rattle.recorder_rings.specs.Sending.{no_ring, ring_at}
use Rattle.recorder_files.specs.Recorders.{Recording, Stored, held_in, held_or}
use Rattle.session_works.specs.Drivers.{Gear, driver_of}
use Rattle.session_works.specs.RunWords.{IsNewPlayer, IsOne, Playing}
use Rattle.session_works.specs.SerialWords.{bare}
use Rattle.session_works.proofs.PassedLemmas.{some_at}
use Rattle.session_works.specs.Parts.{Parts, session_of, stores_in}
use Rattle.wave_pcm.specs.Readings.{Reading as Wave}
use Rattle.session_works.specs.Standings.{IsAttaching}
use Rattle.session_ends.specs.Openings.{AreDisks}
use Rattle.session_ends.specs.Readers.{AreReaders, IsReader}
use Rattle.session_ends.proofs.PairLemmas.{IsBare, IsOver, opened-at}
use Rattle.session_ends.proofs.PeriodLemmas.{greatest-first}

pub passed-on : {T E : Type 0} (r : Result T E) (e : E) (P : E → Type 0) → IsErrAnd r (λ y. y ≡ e) → P e → IfErr r P
passed-on (Ok t) e P is holds = absurd is
passed-on (Err y) e P is holds = subst P (sym is) holds

pub record IsOpened (sounding : Score → Sound) (script : Script) (scores : List Sound) (desk : Desk) (gear : Gear) (made : List Recording) (waves : List Wave) (players : List Playing) : Type 0 where
  pub lawful : IsScript script
  pub desk_is : IsNewDesk script desk.publishing desk
  pub desk_kept : IsDesk desk
  pub opening : IsPublication (base_of script) desk.publishing gear.reading
  pub new : IsNewDriver script scores (driver_of sounding gear)
  pub period : ℕ
  pub losses : ℕ
  pub rings : AreNew script.header.recorders script.header.ring period losses gear.rings
  pub formats : map (λ (r : Recording). r.format) made ≡ script.header.recorders
  pub bare_made : All IsBare made
  pub over : (i : ℕ) (r : Recording) → slice_get made i ≡ Some r → IsOver gear.rings i r
  pub misses : ℕ
  pub feeds : AreNewFeeds script.header.disks script.header.ring (greatest_period script) misses gear.disks
  pub files : AreDisks script.header.disks waves
  pub long : 4 ≤ greatest_period script
  pub readers : AreReaders script.header.ring (greatest_period script) gear.disks waves players

none_below : {n : ℕ} → n < 0 → ⊥
none_below p = omega arith

-- as many zeros as there are others
zeros : {X Y : Type 0} (f : X → ℕ) (xs : List X) (ys : List Y) → length xs ≡ length ys → All (λ x. f x ≡ 0) xs → map f xs ≡ map (λ _. 0) ys
zeros f [] [] long all = refl
zeros f [] (y ∷ ys) long all = absurd (omega (arith, long))
zeros f (x ∷ xs) [] long all = absurd (omega (arith, long))
zeros f (x ∷ xs) (y ∷ ys) long all =
    ap (λ (n : ℕ). n ∷ map f xs) (All-head (λ x. f x ≡ 0) x xs all) ∙ ap (λ (ns : List ℕ). 0 ∷ ns) (zeros f xs ys (omega (arith, long)) (All-tail (λ x. f x ≡ 0) x xs all))

-- an item of a mapped list is that of an item
unmapped_there : {X Y : Type 0} (f : X → Y) (xs : List X) (k : ℕ) (y : Y) → slice_get (map f xs) k ≡ Some y → (x : X) × (slice_get xs k ≡ Some x) × (f x ≡ y)
unmapped_there f [] k y e = absurd cc
unmapped_there f (x ∷ xs) zero y e = (x, refl, cc)
unmapped_there f (x ∷ xs) (suc k) y e = unmapped_there f xs k y e

none-held : (made : List Recording) → All IsBare made → filter_map (λ (held : Option Stored). held) (map held_in made) ≡ []
none-held [] all = refl
none-held (r ∷ made) all =
    let first : IsBare r = All-head IsBare r made all in
    let none : held_in r ≡ None = ap (λ (tape : Option Tape). held_or r.store tape) first.0 ∙ first.1 in
    ap (λ (held : Option Stored). filter_map (λ (held : Option Stored). held) (held ∷ map held_in made)) none ∙ none-held made (All-tail IsBare r made all)

-- what is told of each reader is what its file told
pub players-told : {X : Type 0} (f : Playing → X) (g : Wave → X) (waves : List Wave) (players : List Playing) → length players ≡ length waves
    → ((k : ℕ) (wave : Wave) (player : Playing) → slice_get waves k ≡ Some wave → slice_get players k ≡ Some player → f player ≡ g wave) → map f players ≡ map g waves
players-told f g [] [] long each = refl
players-told f g [] (p ∷ ps) long each = absurd (omega (arith, long))
players-told f g (w ∷ ws) [] long each = absurd (omega (arith, long))
players-told {X} f g (w ∷ ws) (p ∷ ps) long each = ap₂ (λ (x : X) (xs : List X). x ∷ xs) (each 0 w p refl refl) (players-told f g ws ps (omega (arith, long)) (λ k a b x y. each (suc k) a b x y))

module _ (sounding : Score → Sound) (scores : List Sound) (desk : Desk) (gear : Gear) (made : List Recording) (waves : List Wave) (players : List Playing) (out : List (Option Getting)) (puts : List (Option Sending))
    (is : IsOpened sounding gear.script scores desk gear made waves players) where
  -- behind the making of recorders and readers their ends are out
  abbrev parts : Parts
  parts = record { desk = desk; gear = record gear { rings = record gear.rings { out = out }; disks = record gear.disks { out = puts } }; recorders = made; players = players; playback = None; attached = 0 }

  as-many : length made ≡ length gear.script.header.recorders
  as-many = sym (length-map made (λ (r : Recording). r.format)) ∙ ap length is.formats

  -- the driver without its file
  abbrev bare_driver : Driver
  bare_driver = record (driver_of sounding gear) { playback = None }

  own_ring : (i : ℕ) (ring : Sending) → slice_get gear.rings.rings i ≡ Some ring → IsOwnRing bare_driver i ring
  own_ring i ring here =
      let own : IsOwnRing (driver_of sounding gear) i ring = is.new.own_rings i ring here in
      record { samples = own.samples; most = own.most; items = own.items }

  own_rows : HasOwnRows bare_driver
  own_rows = record {
    cycles = ap (map (λ (row : TakenRow). row.cycle)) is.new.rows ∙ sym (ap (λ (ns : List ℕ). map (λ i. i + 1) (below (length ns))) is.new.numbers);
    numbers = ap (map (λ (row : TakenRow). length row.changes)) is.new.rows ∙ sym is.new.numbers;
    last = ap last_content is.new.rows ∙ sym is.new.content;
    place = subst (λ content. content ≡ take (length content) gear.reading.held) (sym is.new.content) refl;
    base = ap (λ (r : Reading). r.base) is.opening.reader_is;
  }

  own_rings : HasOwnRings bare_driver
  own_rings = record {
    recorders = is.new.as_many;
    disks = is.new.as_many_disks;
    puts = zeros (λ (ring : Sending). length ring.put) gear.rings.rings gear.script.header.recorders is.new.as_many (λ i d h. ap length (is.new.rings i d h).put) ∙ sym is.new.sent;
    gets = zeros (λ (got : Getting). length got.got) gear.disks.disks gear.script.header.disks is.new.as_many_disks (λ i d h. ap length (is.new.disks i d h).blocks) ∙ sym is.new.played;
    own_disks = is.new.own_disks;
    own = own_ring;
  }

  over-ring : (i : ℕ) (ring : Sending) (got : Getting) → slice_get gear.rings.rings i ≡ Some ring → slice_get (map (λ (r : Recording). r.getting) made) i ≡ Some got
      → (capacity : ℕ) × (samples : ℕ) × (most : ℕ) × IsOpening capacity samples most ring got
  over-ring i ring got here there =
      let found = unmapped_there (λ (r : Recording). r.getting) made i got there in
      let over : IsOver gear.rings i found.0 = is.over i found.0 found.1 in (
        over.0,
        over.1,
        over.2,
        subst (λ s. IsOpening over.0 over.1 over.2 s got) (get_or_from_slice_get gear.rings.rings i ring no_ring here)
            (subst (λ g. IsOpening over.0 over.1 over.2 (ring_at gear.rings i) g) found.2 over.3),
      )

  pair : (ring : Sending) (got : Getting) → (capacity : ℕ) × (samples : ℕ) × (most : ℕ) × IsOpening capacity samples most ring got → IsPair ring got
  pair ring got over = record {
    one = sym (ap (λ (g : Getting). g.table) over.3.getting_is);
    same_samples = ap (λ (s : Sending). s.samples) over.3.sending_is ∙ sym (ap (λ (g : Getting). g.samples) over.3.getting_is);
    same_most = ap (λ (s : Sending). s.most) over.3.sending_is ∙ sym (ap (λ (g : Getting). g.most) over.3.getting_is);
  }

  -- what holds of the ends of new rings holds of all that the recorders have
  all-ends : (P : Getting → Type 0) → ((capacity samples most : ℕ) (ring : Sending) (got : Getting) → IsOpening capacity samples most ring got → P got) → All P (map (λ (r : Recording). r.getting) made)
  all-ends P each i d h =
      let found = unmapped_there (λ (r : Recording). r.getting) made i (get_or (map (λ (r : Recording). r.getting) made) i d) (slice_get-get_or (map (λ (r : Recording). r.getting) made) i d h) in
      let over : IsOver gear.rings i found.0 = is.over i found.0 found.1 in
      subst P found.2 (each over.0 over.1 over.2 (ring_at gear.rings i) found.0.getting over.3)

  fresh_ring : (i : ℕ) → i < length gear.rings.rings → (get_or gear.rings.rings i no_ring).least ≡ 0
  fresh_ring i h =
      let long = is.rings.opened.as_many in
      let opened = opened-at (slice_index_or gear.rings.out i None) (IsOpening gear.script.header.ring (is.period * slice_index gear.rings.channels i) 500000000 (ring_at gear.rings i)) (is.rings.opened.each i (omega (arith, h, long))) in
      ap (λ (s : Sending). s.least) opened.2.sending_is

  as-many-readers : length players ≡ length gear.script.header.disks
  as-many-readers = is.readers.as_many ∙ sym (length-map waves (λ (w : Wave). w.format.channels)) ∙ ap length is.files.channels_are

  -- each reader, over its ring
  reader-at : (disk : ℕ) (player : Playing) → slice_get players disk ≡ Some player → (wave : Wave) × (slice_get waves disk ≡ Some wave) × IsReader gear.script.header.ring (greatest_period gear.script) gear.disks disk wave player
  reader-at disk player here =
      let within : disk < length waves = subst (λ n. disk < n) is.readers.as_many (slice_get_within players disk player here) in
      let wave = some_at waves disk within in
      (wave.0, wave.1, is.readers.each disk wave.0 player wave.1 here)

  opened-over : (disk : ℕ) (player : Playing) (got : Getting) → slice_get players disk ≡ Some player → slice_get gear.disks.disks disk ≡ Some got
      → (capacity : ℕ) × (samples : ℕ) × (most : ℕ) × IsOpening capacity samples most player.sending got
  opened-over disk player got here there =
      let reader = reader-at disk player here in (
        gear.script.header.ring,
        greatest_period gear.script * channels_at gear.disks disk,
        2 ^ 33,
        subst (λ (g : Getting). IsOpening gear.script.header.ring (greatest_period gear.script * channels_at gear.disks disk) (2 ^ 33) player.sending g) (get_or_from_slice_get gear.disks.disks disk got no_disk there) reader.2.opening,
      )

  new-player : (disk : ℕ) (player : Playing) → slice_get players disk ≡ Some player → IsNewPlayer gear.script disk player
  new-player disk player here = record {
    put = ap (λ (s : Sending). s.put) opening.sending_is;
    looks = ap (λ (s : Sending). s.least) opening.sending_is;
    open_ended = ap (λ (s : Sending). s.ended) opening.sending_is;
    capacity = ap (λ (s : Sending). s.capacity) opening.sending_is;
    size = samples ∙ ap (λ n. n * slice_index gear.script.header.disks disk) (greatest-first gear.script is.lawful (omega (arith, within))) ∙ mul_comm gear.script.header.period (slice_index gear.script.header.disks disk);
    some = let few = mul-le 4 1 (greatest_period gear.script) (slice_index gear.script.header.disks disk) is.long (is.lawful.header.disks disk 0 within).0 in omega (arith, few, samples);
    waiting = ap (λ (p : Playing). p.waiting) reader.2.player_is;
    over = ap (λ (p : Playing). p.over) reader.2.player_is;
    failed = ap (λ (p : Playing). p.failed) reader.2.player_is;
  }
    where
      reader : (wave : Wave) × (slice_get waves disk ≡ Some wave) × IsReader gear.script.header.ring (greatest_period gear.script) gear.disks disk wave player
      reader = reader-at disk player here

      opening : IsOpening gear.script.header.ring (greatest_period gear.script * channels_at gear.disks disk) (2 ^ 33) player.sending (disk_at gear.disks disk)
      opening = reader.2.opening

      within : disk < length gear.script.header.disks
      within = subst (λ n. disk < n) as-many-readers (slice_get_within players disk player here)

      samples : player.sending.samples ≡ greatest_period gear.script * slice_index gear.script.header.disks disk
      samples = ap (λ (s : Sending). s.samples) opening.sending_is ∙ ap (λ channels. greatest_period gear.script * slice_index channels disk) is.feeds.channels_are

  fresh_disk : (disk : ℕ) (got : Getting) → slice_get gear.disks.disks disk ≡ Some got → got.least ≡ 0
  fresh_disk disk got here =
      let within : disk < length gear.script.header.disks = subst (λ n. disk < n) is.feeds.opened.as_many (slice_get_within gear.disks.disks disk got here) in
      let opened = opened-at (slice_index_or gear.disks.out disk None) (λ (s : Sending). IsOpening gear.script.header.ring (greatest_period gear.script * slice_index gear.script.header.disks disk) (2 ^ 33) s (disk_at gear.disks disk)) (is.feeds.opened.each disk within) in
      sym (ap (λ (g : Getting). g.least) (get_or_from_slice_get gear.disks.disks disk got no_disk here)) ∙ ap (λ (g : Getting). g.least) opened.2.getting_is

  one : IsOne (bare (session_of sounding parts))
  one = record {
    lawful = is.lawful;
    desk_script = ap (λ (d : Desk). d.script) is.desk_is;
    driver_script = refl;
    desk = is.desk_kept;
    table = sym (ap (λ (r : Reading). r.table) is.opening.reader_is);
    base = ap (λ (p : Publishing). p.base) is.opening.publisher_is ∙ sym (ap (λ (r : Reading). r.base) is.opening.reader_is);
    rows = own_rows;
    rings = own_rings;
    own_recorders = subst (All (λ overrun. overrun.recorder < length gear.script.header.recorders)) (sym is.new.overruns) (λ i d h. absurd (none_below h));
    own_disks = subst (All (λ underrun. underrun.disk < length gear.script.header.disks)) (sym is.new.underruns) (λ i d h. absurd (none_below h));
    capacity = λ i d h. (is.new.rings i d h).capacity_is;
    recorder_ends = length-map made (λ (r : Recording). r.getting) ∙ as-many;
    recorder_pairs = λ i ring got here there. pair ring got (over-ring i ring got here there);
    disk_ends = as-many-readers;
    disk_pairs = λ disk player got here there. pair player.sending got (opened-over disk player got here there);
  }

  pub IsAttaching-opened : IsAttaching sounding parts
  IsAttaching-opened = record {
    served = is.lawful;
    new = record {
      one = one;
      opening = is.opening;
      new_desk = is.desk_is;
      new_driver = record {
        script_is = refl;
        scores_are = refl;
        rows = is.new.rows;
        content = is.new.content;
        numbers = is.new.numbers;
        moments = is.new.moments;
        transport = is.new.transport;
        overruns = is.new.overruns;
        underruns = is.new.underruns;
        as_many = is.new.as_many;
        rings = is.new.rings;
        own_rings = own_ring;
        sent = is.new.sent;
        as_many_disks = is.new.as_many_disks;
        disks = is.new.disks;
        own_disks = is.new.own_disks;
        played = is.new.played;
        playback = refl;
        set = is.new.set;
        failed = is.new.failed;
        nodes = is.new.nodes;
        memories = is.new.memories;
      };
      no_gets = all-ends (λ (got : Getting). got.got ≡ []) (λ capacity samples most ring got opening. ap (λ (g : Getting). g.got) opening.getting_is);
      new_players = new-player;
      counts = zeros (λ (r : Recording). r.blocks) made gear.script.header.recorders as-many (λ i d h. (is.bare_made i d h).2);
      no_tapes = refl;
    };
    fresh = record {
      rings = All-from_get_or (λ (ring : Sending). ring.least ≡ 0) gear.rings.rings no_ring fresh_ring;
      getting = all-ends (λ (got : Getting). got.least ≡ 0) (λ capacity samples most ring got opening. ap (λ (g : Getting). g.least) opening.getting_is);
      disks = fresh_disk;
    };
    formats = is.formats;
    playback = record { begun = λ h. absurd (none_below h); none = λ h. is.new.playback };
    records = λ i r here. record {
      begun = λ h. absurd (none_below h);
      none = λ h. bare_at i r here;
    };
    no_playback = refl;
    no_stores = λ i d h. (is.bare_made i d h).1;
  }
    where
      bare_at : (i : ℕ) (r : Recording) → slice_get made i ≡ Some r → r.tape ≡ None
      bare_at i r here = subst (λ (x : Recording). x.tape ≡ None) (get_or_from_slice_get made i r r here) (is.bare_made i r (slice_get_within made i r here)).0

  pub no-stores : stores_in parts ≡ []
  no-stores = ap (λ (tape : Option Tape). filter_map (λ (held : Option Stored). held) (held_or None tape ∷ map held_in made)) is.new.playback ∙ none-held made is.bare_made
