-- The blocks of recorders, and the room of each.
--     read_at      what was read stands there, whatever stands for what is not there
--     room_at      a block has room for a period of its recorder's channels
--     room-fits      so it has room for as many frames as a period has, or fewer
--     items_at, items_set      the samples of a block, and of one that takes its place
--     sound-block      the rings stay sound where a block of the same room takes its place
--     seen-block      and its samples alone are seen to be other
--     seen-ring, seen-items, seen-number      what is seen of one recorder
--     ring_set, block_set      and where it was set
use Rattle.std.proofs.Common.{◌≡◌, ℕ, ◌*◌, ◌<◌, ◌≤◌, List, [], length, map, get_or, set, Option, refl, sym, ◌∙◌, ap, ap₂, subst, ℤ, length-set}
use Rattle.std.proofs.Math.Nat.{mul-le-mul_right}
use Rattle.std.proofs.Math.Seq.{map-set, map-set_same}
use Rattle.std.proofs.lemmas.List.{get_or-map, get_or-set_same}
use Rattle.std.proofs.lemmas.Option.{slice_get_read, get_or_from_slice_get}
use Rattle.jack_types.specs.declared.replies.Overrun.{Overrun}
use Rattle.record_ring.specs.declared.block.Block.{Block}
use Rattle.driver_words.specs.Rings.{Sending, Getting}
use Rattle.recorder_rings.specs.Sending.{Sent, no_ring}
use Rattle.recorder_rings.specs.Insides.{IsSound, sent_of}

pub read_at : {X : Type 0} (xs : List X) (i : ℕ) (x d : X) → i < length xs → x ≡ get_or xs i x → get_or xs i d ≡ x
read_at xs i x d low is = get_or_from_slice_get xs i x d (slice_get_read xs (length xs) i x refl low is)

pub room_at : (room : ℕ) (blocks : List Block) (channels : List ℕ) (i : ℕ) (block : Block) → i < length blocks → i < length channels
    → map (λ (block : Block). block.samples.room) blocks ≡ map (λ count. room * count) channels → block ≡ get_or blocks i block → block.samples.room ≡ room * get_or channels i 0
room_at room blocks channels i block low low_channels same is =
    ap (λ (block : Block). block.samples.room) is
    ∙ sym (get_or-map (λ (block : Block). block.samples.room) blocks i block 0 low)
    ∙ ap (λ rooms. get_or rooms i 0) same
    ∙ get_or-map (λ count. room * count) channels i 0 0 low_channels

pub room-fits : (room frames count other_count has : ℕ) → frames ≤ room → count ≡ other_count → has ≡ room * other_count → frames * count ≤ has
room-fits room frames count other_count has few same is = subst (λ n. frames * count ≤ n) (ap (λ n. room * n) same ∙ sym is) (mul-le-mul_right count few)

pub items_at : (blocks : List Block) (i : ℕ) (block : Block) → i < length blocks → block ≡ get_or blocks i block → get_or (map (λ (block : Block). block.samples.items) blocks) i [] ≡ block.samples.items
items_at blocks i block low is = get_or-map (λ (block : Block). block.samples.items) blocks i block [] low ∙ ap (λ (block : Block). block.samples.items) (sym is)

pub items_set : (blocks : List Block) (i : ℕ) (block : Block) → i < length blocks → get_or (map (λ (block : Block). block.samples.items) (set blocks i block)) i [] ≡ block.samples.items
items_set blocks i block low =
    get_or-map (λ (block : Block). block.samples.items) (set blocks i block) i block [] (subst (λ n. i < n) (sym (length-set blocks i block)) low)
    ∙ ap (λ (block : Block). block.samples.items) (get_or-set_same blocks i block block low)

pub rooms-kept : (blocks : List Block) (i : ℕ) (block old : Block) → old ≡ get_or blocks i old → block.samples.room ≡ old.samples.room
    → map (λ (block : Block). block.samples.room) (set blocks i block) ≡ map (λ (block : Block). block.samples.room) blocks
rooms-kept blocks i block old is same = map-set_same (λ (block : Block). block.samples.room) blocks i block old (same ∙ ap (λ (block : Block). block.samples.room) is)

pub sound-block : (rings : List Sending) (out : List (Option Getting)) (channels sent : List ℕ) (blocks : List Block) (room i : ℕ) (block old : Block)
    → old ≡ get_or blocks i old → block.samples.room ≡ old.samples.room → IsSound rings out channels sent blocks room → IsSound rings out channels sent (set blocks i block) room
sound-block rings out channels sent blocks room i block old is same sound = record {
  ends = sound.ends;
  recorders = sound.recorders;
  counts = sound.counts;
  as_many = length-set blocks i block ∙ sound.as_many;
  rooms = rooms-kept blocks i block old is same ∙ sound.rooms;
  few = sound.few;
  period = sound.period;
}

pub seen-block : (rings : List Sending) (out : List (Option Getting)) (channels sent : List ℕ) (blocks : List Block) (overruns : List Overrun) (room losses : ℕ) (seen : Sent) (i recorder : ℕ) (block : Block) (items : List ℤ)
    → sent_of rings out channels sent blocks overruns room losses ≡ seen → i ≡ recorder → block.samples.items ≡ items
    → sent_of rings out channels sent (set blocks i block) overruns room losses ≡ record seen { blocks = set seen.blocks recorder items }
seen-block rings out channels sent blocks overruns room losses seen i recorder block items view same is =
    ap (λ (xs : List (List ℤ)). record { rings = rings; out = out; channels = channels; sent = sent; blocks = xs; overruns = overruns; room = room; losses = losses })
    (map-set (λ (block : Block). block.samples.items) blocks i block ∙ ap₂ (λ (n : ℕ) (xs : List ℤ). set (map (λ (block : Block). block.samples.items) blocks) n xs) same is)
    ∙ ap (λ (s : Sent). record s { blocks = set s.blocks recorder items }) view

pub seen-ring : (rings seen_rings : List Sending) (i recorder : ℕ) (ring : Sending) → rings ≡ seen_rings → i ≡ recorder → i < length rings → ring ≡ get_or rings i ring → get_or seen_rings recorder no_ring ≡ ring
seen-ring rings seen_rings i recorder ring view same low is = ap₂ (λ (xs : List Sending) (n : ℕ). get_or xs n no_ring) (sym view) (sym same) ∙ read_at rings i ring no_ring low is

pub seen-items : (blocks : List Block) (seen_blocks : List (List ℤ)) (i recorder : ℕ) (block : Block) → map (λ (block : Block). block.samples.items) blocks ≡ seen_blocks → i ≡ recorder → i < length blocks → block ≡ get_or blocks i block
    → get_or seen_blocks recorder [] ≡ block.samples.items
seen-items blocks seen_blocks i recorder block view same low is = ap₂ (λ (xs : List (List ℤ)) (n : ℕ). get_or xs n []) (sym view) (sym same) ∙ items_at blocks i block low is

pub seen-number : (numbers seen_numbers : List ℕ) (i recorder number : ℕ) → numbers ≡ seen_numbers → i ≡ recorder → i < length numbers → number ≡ get_or numbers i number → get_or seen_numbers recorder 0 ≡ number
seen-number numbers seen_numbers i recorder number view same low is = ap₂ (λ (xs : List ℕ) (n : ℕ). get_or xs n 0) (sym view) (sym same) ∙ read_at numbers i number 0 low is

pub ring_set : (rings : List Sending) (i recorder : ℕ) (ring : Sending) → i ≡ recorder → i < length rings → get_or (set rings i ring) recorder no_ring ≡ ring
ring_set rings i recorder ring same low = ap (λ n. get_or (set rings i ring) n no_ring) (sym same) ∙ get_or-set_same rings i ring no_ring low

pub block_set : (blocks : List Block) (i recorder : ℕ) (block : Block) → i ≡ recorder → i < length blocks → get_or (map (λ (block : Block). block.samples.items) (set blocks i block)) recorder [] ≡ block.samples.items
block_set blocks i recorder block same low = ap (λ n. get_or (map (λ (block : Block). block.samples.items) (set blocks i block)) n []) (sym same) ∙ items_set blocks i block low
