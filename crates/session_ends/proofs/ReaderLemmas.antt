-- The readers of a new session's disks, made one after the other over the ends of their rings that put.
--     blocks-none, blocks-more      their blocks
--     AreGiven, given-of channels capacity period misses waves blocks before      what they are made of
--     AreMade capacity period waves blocks before after count waves_left blocks_left players      the first of them
--     made-none      before the first
--     end-next, end-is, file-next, block-next      what the next one is made of
--     MayRead, may-read, reads-next      it may be made of that
--     made-more, made-all      one more, and all of them
use Rattle.std.proofs.Common.{◌≡◌, ℕ, zero, suc, ◌+◌, ◌*◌, ◌%◌, ◌^◌, ◌<◌, ◌≤◌, ◌⊎◌, inl, inr, false, List, [], ◌∷◌, ◌++◌, length, map, take, drop, get_or, slice_get, Option, Some, None, All, refl, sym, ◌∙◌, ap, ap₂, subst, arith, length-append}
use Rattle.std.specs.Prelude.{set, slice_index}
use Rattle.std.specs.List.{remove}
use Rattle.std.proofs.Math.Nat.{mul-mod_left}
use Rattle.std.proofs.lemmas.Grind.{take_at_read}
use Rattle.std.proofs.lemmas.List.{drop-drop, get_or-drop, get_or-map, get_or-set_other, length-map, map-append}
use Rattle.std.proofs.lemmas.Nat.{mul-le}
use Rattle.std.proofs.lemmas.Option.{get_or_from_slice_get, same_Some, slice_get_read}
use Rattle.session_model.specs.Grammar.{IsScript}
use Rattle.session_model.specs.Scripts.{Script}
use Rattle.port_registry.proofs.PlaceLemmas.{slice_get-push}
use Rattle.record_ring.specs.declared.block.Block.{Block}
use Rattle.driver_words.specs.Feeding.{channels_at, disk_at, producer_at}
use Rattle.driver_words.specs.Rings.{IsOpening, Sending}
use Rattle.wave_pcm.specs.Readings.{IsReadable, Reading}
use Rattle.driver_laws.specs.Drivers.{greatest_period}
use Rattle.disk_feeds.specs.Openings.{IsNew}
use Rattle.session_works.specs.Drivers.{Gear}
use Rattle.session_works.specs.RunWords.{Playing}
use Rattle.session_ends.specs.Openings.{AreDisks, IsUnread}
use Rattle.session_ends.specs.Readers.{AreBlocks, AreReaders, IsReader}
use Rattle.session_ends.proofs.PairLemmas.{opened-at}

-- ---- blocks

-- of so many frames for each channel
abbrev pub sizes : ℕ → List ℕ → List ℕ
sizes period channels = map (λ count. period * count) channels

pub blocks-none : (period : ℕ) → AreBlocks (sizes period []) []
blocks-none period = record { whole = refl; room = refl }

pub blocks-more : (period : ℕ) (channels : List ℕ) (blocks : List Block) (i : ℕ) (block : Block) → i < length channels → AreBlocks (sizes period (take i channels)) blocks
    → length block.samples.items ≡ period * get_or channels i 0 → block.samples.room ≡ period * get_or channels i 0 → AreBlocks (sizes period (take (i + 1) channels)) (blocks ++ block ∷ [])
blocks-more period channels blocks i block there before whole room = record {
  whole = map-append (λ (b : Block). length b.samples.items) blocks (block ∷ []) ∙ ap₂ (λ (xs : List ℕ) (n : ℕ). xs ++ n ∷ []) before.whole whole ∙ sym next;
  room = map-append (λ (b : Block). b.samples.room) blocks (block ∷ []) ∙ ap₂ (λ (xs : List ℕ) (n : ℕ). xs ++ n ∷ []) before.room room ∙ sym next;
}
  where
    next : sizes period (take (i + 1) channels) ≡ sizes period (take i channels) ++ (period * get_or channels i 0) ∷ []
    next = ap (sizes period) (take_at_read channels i 0 there).1 ∙ map-append (λ count. period * count) (take i channels) (get_or channels i 0 ∷ [])

-- ---- readers

pub record AreGiven (channels : List ℕ) (capacity period misses : ℕ) (waves : List Reading) (blocks : List Block) (before : Gear) : Type 0 where
  pub some : All (λ count. (1 ≤ count) × (count ≤ 8)) channels
  pub long : 4 ≤ period
  pub rings : IsNew channels capacity period misses before.disks
  pub files : AreDisks channels waves
  pub blocks_are : AreBlocks (sizes period channels) blocks

-- so many readers were made; the files, the blocks and the ends for the others are left
pub record AreMade (capacity period : ℕ) (waves : List Reading) (blocks : List Block) (before after : Gear) (count : ℕ) (waves_left : List Reading) (blocks_left : List Block) (players : List Playing) : Type 0 where
  pub as_many : length players ≡ count
  pub each : (disk : ℕ) (wave : Reading) (player : Playing) → slice_get waves disk ≡ Some wave → slice_get players disk ≡ Some player → IsReader capacity period before.disks disk wave player
  pub files : waves_left ≡ drop count waves
  pub rooms : blocks_left ≡ drop count blocks
  pub left : (disk : ℕ) → count ≤ disk → producer_at after.disks disk ≡ producer_at before.disks disk
  pub same : after ≡ record before { disks = record before.disks { out = after.disks.out } }

pub made-none : (capacity period : ℕ) (waves : List Reading) (blocks : List Block) (before : Gear) → AreMade capacity period waves blocks before before 0 waves blocks []
made-none capacity period waves blocks before = record {
  as_many = refl;
  each = λ disk wave player here there. absurd (nothing disk player there);
  files = refl;
  rooms = refl;
  left = λ disk h. refl;
  same = refl;
}
  where
    nothing : (disk : ℕ) (player : Playing) → slice_get [] disk ≡ Some player → ⊥
    nothing disk player here = cc

-- what stands first of what is left stands at the place
first-left : {X : Type 0} (xs left : List X) (count : ℕ) (x : X) → left ≡ drop count xs → count < length xs → x ≡ get_or left 0 x → slice_get xs count ≡ Some x
first-left xs left count x is low first =
    slice_get_read xs (length xs) count x refl low (first ∙ ap (λ ys. get_or ys 0 x) is ∙ get_or-drop count xs 0 x ∙ ap (λ n. get_or xs n x) same)
  where
    same : count + 0 ≡ count
    same = omega arith

-- what is left behind it
rest-left : {X : Type 0} (xs left after : List X) (count : ℕ) → left ≡ drop count xs → after ≡ remove left 0 → after ≡ drop (count + 1) xs
rest-left xs left after count is removed = removed ∙ ap (drop 1) is ∙ drop-drop 1 count xs

-- all that a reader is made of
pub record MayRead (wave : Reading) (producer : Sending) (block : Block) : Type 0 where
  pub given : wave.given ≡ 0
  pub going : wave.failed ≡ false
  pub readable : IsReadable wave.format
  pub put : producer.put ≡ []
  pub open_ended : producer.ended ≡ false
  pub most : 2 ^ 33 ≤ producer.most
  pub some : 0 < producer.samples
  pub frames : producer.samples % wave.format.channels ≡ 0
  pub whole : length block.samples.items ≡ producer.samples
  pub room : block.samples.room ≡ producer.samples

pub given-of : (script : Script) (misses : ℕ) (waves : List Reading) (blocks : List Block) (before : Gear) → IsScript script → 4 ≤ greatest_period script
    → IsNew script.header.disks script.header.ring (greatest_period script) misses before.disks → AreDisks script.header.disks waves → AreBlocks (sizes (greatest_period script) script.header.disks) blocks
    → AreGiven script.header.disks script.header.ring (greatest_period script) misses waves blocks before
given-of script misses waves blocks before lawful long rings files blocks_are = record { some = lawful.header.disks; long = long; rings = rings; files = files; blocks_are = blocks_are }

module _ (channels : List ℕ) (capacity period misses : ℕ) (waves : List Reading) (blocks : List Block) (before : Gear) (given : AreGiven channels capacity period misses waves blocks before) where
  pub as-many-files : length waves ≡ length channels
  as-many-files = sym (length-map waves (λ (w : Reading). w.format.channels)) ∙ ap length given.files.channels_are

  as-many-blocks : length blocks ≡ length channels
  as-many-blocks = sym (length-map blocks (λ (b : Block). b.samples.room)) ∙ ap length given.blocks_are.room ∙ length-map channels (λ count. period * count)

  module _ (count : ℕ) (low : count < length waves) where
    inside : count < length channels
    inside = subst (λ n. count < n) as-many-files low

    counted : channels_at before.disks count ≡ slice_index channels count
    counted = ap (λ cs. slice_index cs count) given.rings.channels_are

    size : period * channels_at before.disks count ≡ period * slice_index channels count
    size = ap (λ n. period * n) counted

    channels-are : (wave : Reading) → slice_get waves count ≡ Some wave → wave.format.channels ≡ slice_index channels count
    channels-are wave here =
        sym (ap (λ (w : Reading). w.format.channels) (get_or_from_slice_get waves count wave wave here)) ∙ sym (get_or-map (λ (w : Reading). w.format.channels) waves count wave 0 low)
        ∙ ap (λ cs. slice_index cs count) given.files.channels_are

    pub may-read : (wave : Reading) (producer : Sending) (block : Block) → slice_get waves count ≡ Some wave → slice_get blocks count ≡ Some block
        → IsOpening capacity (period * channels_at before.disks count) (2 ^ 33) producer (disk_at before.disks count) → MayRead wave producer block
    may-read wave producer block file room opening = record {
      given = unread.given;
      going = unread.going;
      readable = unread.readable;
      put = ap (λ (s : Sending). s.put) opening.sending_is;
      open_ended = ap (λ (s : Sending). s.ended) opening.sending_is;
      most = subst (λ n. 2 ^ 33 ≤ n) (sym (ap (λ (s : Sending). s.most) opening.sending_is)) (omega arith);
      some = let few = mul-le 4 1 period (slice_index channels count) given.long (given.some count 0 inside).0 in omega (arith, few, samples);
      frames = ap₂ (λ n c. n % c) samples (channels-are wave file) ∙ mul-mod_left period (slice_index channels count);
      whole = whole_at ∙ sym samples;
      room = room_at ∙ sym samples;
    }
      where
        samples : producer.samples ≡ period * slice_index channels count
        samples = ap (λ (s : Sending). s.samples) opening.sending_is ∙ size

        unread : IsUnread wave
        unread = subst IsUnread (get_or_from_slice_get waves count wave wave file) (given.files.each count wave low)

        there : count < length blocks
        there = subst (λ n. count < n) (sym as-many-blocks) inside

        whole_at : length block.samples.items ≡ period * slice_index channels count
        whole_at =
            sym (ap (λ (b : Block). length b.samples.items) (get_or_from_slice_get blocks count block block room)) ∙ sym (get_or-map (λ (b : Block). length b.samples.items) blocks count block 0 there) ∙ ap (λ ns. slice_index ns count) given.blocks_are.whole
            ∙ get_or-map (λ n. period * n) channels count 0 0 inside

        room_at : block.samples.room ≡ period * slice_index channels count
        room_at =
            sym (ap (λ (b : Block). b.samples.room) (get_or_from_slice_get blocks count block block room)) ∙ sym (get_or-map (λ (b : Block). b.samples.room) blocks count block 0 there) ∙ ap (λ ns. slice_index ns count) given.blocks_are.room
            ∙ get_or-map (λ n. period * n) channels count 0 0 inside

    module _ (after : Gear) (waves_left : List Reading) (blocks_left : List Block) (players : List Playing) (so_far : AreMade capacity period waves blocks before after count waves_left blocks_left players) where
      -- the end that is handed out next
      pub end-next : (handed : Option Sending) → handed ≡ producer_at after.disks count
          → (producer : Sending) × (handed ≡ Some producer) × IsOpening capacity (period * channels_at before.disks count) (2 ^ 33) producer (disk_at before.disks count)
      end-next handed is =
          let opened = opened-at (producer_at before.disks count) (λ (s : Sending). IsOpening capacity (period * slice_index channels count) (2 ^ 33) s (disk_at before.disks count)) (given.rings.opened.each count inside) in
          (opened.0, is ∙ so_far.left count (omega arith) ∙ opened.1, subst (λ n. IsOpening capacity n (2 ^ 33) opened.0 (disk_at before.disks count)) (sym size) opened.2)

      -- and where it is this one
      pub end-is : (handed : Option Sending) (producer : Sending) → handed ≡ producer_at after.disks count → handed ≡ Some producer → IsOpening capacity (period * channels_at before.disks count) (2 ^ 33) producer (disk_at before.disks count)
      end-is handed producer is some =
          let end = end-next handed is in
          subst (λ (s : Sending). IsOpening capacity (period * channels_at before.disks count) (2 ^ 33) s (disk_at before.disks count)) (same_Some end.0 producer (sym end.1 ∙ some)) end.2

      pub file-next : (wave : Reading) → wave ≡ get_or waves_left 0 wave → slice_get waves count ≡ Some wave
      file-next wave first = first-left waves waves_left count wave so_far.files low first

      pub block-next : (block : Block) → block ≡ get_or blocks_left 0 block → slice_get blocks count ≡ Some block
      block-next block first = first-left blocks blocks_left count block so_far.rooms (subst (λ n. count < n) (sym as-many-blocks) inside) first

      -- so it may be made
      pub reads-next : (handed : Option Sending) (producer : Sending) (wave : Reading) (block : Block) → handed ≡ producer_at after.disks count → handed ≡ Some producer → wave ≡ get_or waves_left 0 wave → block ≡ get_or blocks_left 0 block
          → MayRead wave producer block
      reads-next handed producer wave block is some first room = may-read wave producer block (file-next wave first) (block-next block room) (end-is handed producer is some)

      pub some-left : (0 < length waves_left) × (0 < length blocks_left)
      some-left = (
        more waves waves_left so_far.files low,
        more blocks blocks_left so_far.rooms (subst (λ n. count < n) (sym as-many-blocks) inside),
      )
        where
          dropped : {X : Type 0} (n : ℕ) (xs : List X) → n < length xs → 0 < length (drop n xs)
          dropped zero xs h = h
          dropped (suc n) [] h = absurd (omega (arith, h))
          dropped (suc n) (x ∷ xs) h = dropped n xs (omega (arith, h))

          more : {X : Type 0} (xs left : List X) → left ≡ drop count xs → count < length xs → 0 < length left
          more xs left is h = subst (λ ys. 0 < length ys) (sym is) (dropped count xs h)

      pub made-more : (wave : Reading) (producer : Sending) (one : Playing) (next : Gear) (waves_next : List Reading) (blocks_next : List Block) (players_next : List Playing) → slice_get waves count ≡ Some wave
          → IsOpening capacity (period * channels_at before.disks count) (2 ^ 33) producer (disk_at before.disks count)
          → one ≡ record { format = wave.format; sending = producer; left = wave.left; waiting = None; over = false; failed = false; faults = wave.faults }
          → next ≡ record after { disks = record after.disks { out = set after.disks.out count None } } → waves_next ≡ remove waves_left 0 → blocks_next ≡ remove blocks_left 0 → players_next ≡ players ++ one ∷ []
          → AreMade capacity period waves blocks before next (count + 1) waves_next blocks_next players_next
      made-more wave producer one next waves_next blocks_next players_next here opening one_is next_is waves_are blocks_are pushed = record {
        as_many = ap length pushed ∙ length-append players (one ∷ []) ∙ ap (λ n. n + 1) so_far.as_many;
        each = λ disk other player file there. at disk other player file (slice_get-push players one disk player (sym (ap (λ ps. slice_get ps disk) pushed) ∙ there));
        files = rest-left waves waves_left waves_next count so_far.files waves_are;
        rooms = rest-left blocks blocks_left blocks_next count so_far.rooms blocks_are;
        left = λ disk h.
            ap (λ (g : Gear). producer_at g.disks disk) next_is ∙ get_or-set_other after.disks.out count disk None None (apart disk h) ∙ so_far.left disk (omega (arith, h));
        same = next_is ∙ ap (λ (g : Gear). record g { disks = record g.disks { out = set after.disks.out count None } }) so_far.same
            ∙ ap (λ (out : List (Option Sending)). record before { disks = record before.disks { out = out } }) (sym (ap (λ (g : Gear). g.disks.out) next_is));
      }
        where
          apart : (disk : ℕ) → count + 1 ≤ disk → disk ≡ count → ⊥
          apart disk h e = omega (arith, h, e)

          reader : IsReader capacity period before.disks count wave one
          reader = record {
            opening = subst (λ (s : Sending). IsOpening capacity (period * channels_at before.disks count) (2 ^ 33) s (disk_at before.disks count)) (sym (ap (λ (p : Playing). p.sending) one_is)) opening;
            player_is = one_is ∙ ap (λ (s : Sending). record { format = wave.format; sending = s; left = wave.left; waiting = None; over = false; failed = false; faults = wave.faults }) (sym (ap (λ (p : Playing). p.sending) one_is));
          }

          at : (disk : ℕ) (other : Reading) (player : Playing) → slice_get waves disk ≡ Some other → (slice_get players disk ≡ Some player) ⊎ ((disk ≡ length players) × (one ≡ player)) → IsReader capacity period before.disks disk other player
          at disk other player file (inl there) = so_far.each disk other player file there
          at disk other player file (inr last) =
              let place : disk ≡ count = last.0 ∙ so_far.as_many in
              let same : wave ≡ other = same_Some wave other (sym here ∙ ap (slice_get waves) (sym place) ∙ file) in
              subst (λ n. IsReader capacity period before.disks n other player) (sym place) (subst (λ (w : Reading). IsReader capacity period before.disks count w player) same (subst (IsReader capacity period before.disks count wave) last.1 reader))

pub made-all : (capacity period : ℕ) (waves : List Reading) (blocks : List Block) (before after : Gear) (count : ℕ) (waves_left : List Reading) (blocks_left : List Block) (players : List Playing)
    → AreMade capacity period waves blocks before after count waves_left blocks_left players → length waves ≡ count → AreReaders capacity period before.disks waves players
made-all capacity period waves blocks before after count waves_left blocks_left players made all = record { as_many = made.as_many ∙ sym all; each = made.each }
