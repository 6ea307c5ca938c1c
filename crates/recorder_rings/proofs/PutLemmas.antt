-- What a put does at a recorder.
--     puts-went, puts-lacked      its block goes in, or there is an overrun
--     counted-went, counted-lacked      what was put is counted
--     one-went, none-went, sent-more      the count
--     sound-put, seen-put      what stays sound, and what is seen
use Rattle.std.proofs.Common.{◌≡◌, ℕ, ◌+◌, ◌-◌, ◌^◌, ◌<◌, cond, true, List, [], ◌∷◌, ◌++◌, length, map, get_or, set, min, Option, refl, sym, ◌∙◌, ap, ap₂, ℤ, arith, length-set, length-append}
use Rattle.std.proofs.Math.Seq.{map-set, map-set_same}
use Rattle.std.proofs.lemmas.Bool.{eq-eqb}
use Rattle.std.proofs.lemmas.List.{get_or-map, get_or-set_same}
use Rattle.std.proofs.lemmas.List.Elements.{filter-append}
use Rattle.std.specs.Prelude.{◌==◌}
use Rattle.jack_types.specs.declared.replies.Overrun.{Overrun}
use Rattle.session_model.specs.Rings.{RingBlock}
use Rattle.record_ring.specs.declared.block.Block.{Block}
use Rattle.driver_words.specs.Rings.{Sending, Getting, IsFull, Puts}
use Rattle.driver_laws.specs.Cycling.{PutsOne, Went, Lacked}
use Rattle.driver_laws.specs.Drivers.{overruns_on}
use Rattle.recorder_rings.specs.Sending.{Sent, no_ring}
use Rattle.recorder_rings.specs.Insides.{IsSound, sent_of}
use Rattle.recorder_rings.proofs.BlockLemmas.{items_set, rooms-kept, seen-number}

pub puts-went : (cycle recorder : ℕ) (samples : List ℤ) (before after : Sending) (losses : List Overrun)
    → (look : ℕ) × Puts before (record { cycle = cycle; samples = samples }) look after → PutsOne cycle recorder true samples before after losses losses
puts-went cycle recorder samples before after losses went = Went went.0 refl went.1 refl

lost-on : (losses : List Overrun) (recorder : ℕ) (overrun : Overrun) → overrun.recorder ≡ recorder → overruns_on (losses ++ overrun ∷ []) recorder ≡ overruns_on losses recorder ++ overrun ∷ []
lost-on losses recorder overrun is =
    filter-append (λ (o : Overrun). o.recorder == recorder) losses (overrun ∷ [])
    ∙ ap (λ b. overruns_on losses recorder ++ cond b (overrun ∷ []) []) (eq-eqb overrun.recorder recorder is)

pub puts-lacked : (cycle recorder : ℕ) (samples : List ℤ) (before after : Sending) (losses : List Overrun) (overrun : Overrun) → IsFull before overrun.taken after
    → overrun ≡ record { recorder = recorder; cycle = cycle; sent = length before.put; taken = overrun.taken }
    → PutsOne cycle recorder true samples before after (overruns_on losses recorder) (overruns_on (losses ++ overrun ∷ []) recorder)
puts-lacked cycle recorder samples before after losses overrun full is =
    Lacked overrun.taken refl full (lost-on losses recorder overrun (ap (λ (o : Overrun). o.recorder) is) ∙ ap (λ (o : Overrun). overruns_on losses recorder ++ o ∷ []) is)

pub counted-went : (rings : List Sending) (sent : List ℕ) (i total count : ℕ) (ring old : Sending) (block : RingBlock) → (look : ℕ) × Puts old block look ring → old ≡ get_or rings i old → i < length rings
    → length old.put < 2 ^ 62 → map (λ (ring : Sending). length ring.put) rings ≡ sent → count ≡ get_or sent i count → total ≡ min (count + 1) (2 ^ 64 - 1)
    → map (λ (ring : Sending). length ring.put) (set rings i ring) ≡ set sent i total
counted-went rings sent i total count ring old block went is low few counted count_is total_is =
    map-set (λ (ring : Sending). length ring.put) rings i ring ∙ ap₂ (λ (xs : List ℕ) (n : ℕ). set xs i n) counted one_more
  where
    before : count ≡ length old.put
    before = count_is ∙ ap (λ (xs : List ℕ). get_or xs i count) (sym counted) ∙ get_or-map (λ (ring : Sending). length ring.put) rings i old count low ∙ ap (λ (ring : Sending). length ring.put) (sym is)

    longer : length ring.put ≡ length old.put + 1
    longer = ap (λ (ring : Sending). length ring.put) went.1.after_is ∙ length-append old.put (block ∷ [])

    one_more : length ring.put ≡ total
    one_more = omega (arith, before, longer, few, total_is)

pub counted-lacked : (rings : List Sending) (sent : List ℕ) (i look : ℕ) (ring old : Sending) → IsFull old look ring → old ≡ get_or rings i old
    → map (λ (ring : Sending). length ring.put) rings ≡ sent → map (λ (ring : Sending). length ring.put) (set rings i ring) ≡ sent
counted-lacked rings sent i look ring old full is counted =
    map-set_same (λ (ring : Sending). length ring.put) rings i ring old (ap (λ (ring : Sending). length ring.put) full.after_is ∙ ap (λ (ring : Sending). length ring.put) is) ∙ counted

pub one-went : (old ring before after : Sending) (block : RingBlock) → (look : ℕ) × Puts old block look ring → before ≡ old → after ≡ ring → length after.put ≡ length before.put → ⊥
one-went old ring before after block went before_is after_is same = omega (arith, same, longer, ap (λ (s : Sending). length s.put) before_is, ap (λ (s : Sending). length s.put) after_is)
  where
    longer : length ring.put ≡ length old.put + 1
    longer = ap (λ (s : Sending). length s.put) went.1.after_is ∙ length-append old.put (block ∷ [])

pub none-went : (old ring before after : Sending) (look : ℕ) → IsFull old look ring → before ≡ old → after ≡ ring → length after.put ≡ length before.put + 1 → ⊥
none-went old ring before after look full before_is after_is more =
    omega (arith, more, ap (λ (s : Sending). length s.put) full.after_is, ap (λ (s : Sending). length s.put) before_is, ap (λ (s : Sending). length s.put) after_is)

pub sent-more : (sent seen_sent : List ℕ) (i recorder count total : ℕ) → sent ≡ seen_sent → i ≡ recorder → i < length sent → count ≡ get_or sent i count → total ≡ min (count + 1) (2 ^ 64 - 1)
    → set sent i total ≡ set seen_sent recorder (min (get_or seen_sent recorder 0 + 1) (2 ^ 64 - 1))
sent-more sent seen_sent i recorder count total view same low count_is total_is =
    ap (λ n. set sent i n) (total_is ∙ ap (λ n. min (n + 1) (2 ^ 64 - 1)) (sym (seen-number sent sent i i count refl refl low count_is)))
    ∙ ap₂ (λ (xs : List ℕ) (n : ℕ). set xs n (min (get_or xs n 0 + 1) (2 ^ 64 - 1))) view same

pub sound-put : (rings : List Sending) (out : List (Option Getting)) (channels sent : List ℕ) (blocks : List Block) (room i : ℕ) (ring : Sending) (sent_after : List ℕ) (block old : Block)
    → length sent_after ≡ length sent → old ≡ get_or blocks i old → block.samples.room ≡ old.samples.room → IsSound rings out channels sent blocks room
    → IsSound (set rings i ring) out channels sent_after (set blocks i block) room
sound-put rings out channels sent blocks room i ring sent_after block old as_many is same sound = record {
  ends = sound.ends ∙ sym (length-set rings i ring);
  recorders = sound.recorders ∙ sym (length-set rings i ring);
  counts = as_many ∙ sound.counts ∙ sym (length-set rings i ring);
  as_many = length-set blocks i block ∙ sound.as_many ∙ sym (length-set rings i ring);
  rooms = rooms-kept blocks i block old is same ∙ sound.rooms;
  few = sound.few;
  period = sound.period;
}

pub seen-put : (rings : List Sending) (out : List (Option Getting)) (channels sent : List ℕ) (blocks : List Block) (overruns : List Overrun) (room losses : ℕ) (seen : Sent)
    (sent_after : List ℕ) (overruns_after : List Overrun) (losses_after i recorder : ℕ) (ring : Sending) (block : Block)
    → sent_of rings out channels sent blocks overruns room losses ≡ seen → i ≡ recorder → losses_after ≡ losses → i < length rings → i < length blocks
    → sent_of (set rings i ring) out channels sent_after (set blocks i block) overruns_after room losses_after
    ≡ record seen { rings = set seen.rings recorder (get_or (set rings i ring) recorder no_ring); sent = sent_after; blocks = set seen.blocks recorder (get_or (map (λ (block : Block). block.samples.items) (set blocks i block)) recorder []); overruns = overruns_after }
seen-put rings out channels sent blocks overruns room losses seen sent_after overruns_after losses_after i recorder ring block view same same_losses low low_blocks =
    ap₂ (λ (xs : List (List ℤ)) (n : ℕ). record { rings = set rings i ring; out = out; channels = channels; sent = sent_after; blocks = xs; overruns = overruns_after; room = room; losses = n })
    (map-set (λ (block : Block). block.samples.items) blocks i block) same_losses
    ∙ ap₂ (λ (s : Sending) (xs : List ℤ). record { rings = set rings i s; out = out; channels = channels; sent = sent_after; blocks = set (map (λ (block : Block). block.samples.items) blocks) i xs; overruns = overruns_after; room = room; losses = losses })
    (sym (get_or-set_same rings i ring no_ring low)) (sym (items_set blocks i block low_blocks))
    ∙ ap (λ (n : ℕ). record { rings = set rings n (get_or (set rings i ring) n no_ring); out = out; channels = channels; sent = sent_after; blocks = set (map (λ (block : Block). block.samples.items) blocks) n (get_or (map (λ (block : Block). block.samples.items) (set blocks i block)) n []); overruns = overruns_after; room = room; losses = losses }) same
    ∙ ap (λ (s : Sent). record s { rings = set s.rings recorder (get_or (set rings i ring) recorder no_ring); sent = sent_after; blocks = set s.blocks recorder (get_or (map (λ (block : Block). block.samples.items) (set blocks i block)) recorder []); overruns = overruns_after }) view
