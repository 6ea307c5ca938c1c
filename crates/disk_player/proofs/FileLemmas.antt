-- What was put is the front of the file.
--     cut-file      the samples of a block are the file's block
--     front-of      the front of blocks
--     goes-with, ends-with, broken-put      behind a turn
use Rattle.std.proofs.Common.{◌≡◌, ℕ, ◌+◌, ◌*◌, ◌<◌, ◌≤◌, true, false, Bool, List, [], ◌++◌, length, map, drop, get_or, ℤ, pos, Option, Some, None, refl, sym, ◌∙◌, ap, ap₂, subst, arith, true≢false, append_assoc, append-nil, length-append}
use Rattle.std.specs.Prelude.{is_none}
use Rattle.std.specs.Int.{div_ceil}
use Rattle.std.proofs.lemmas.Grind.{div_ceil_times}
use Rattle.std.proofs.lemmas.List.{drop-drop, ext_get_or, get_or_append_left, length-drop, length-map, map-append}
use Rattle.std.proofs.Math.Nat.{add-mul, mul-le-mul_right, mul_assoc, mul_comm}
use Rattle.device_periods.proofs.PeriodLemmas.{laid_whole}
use Rattle.session_laws.proofs.ActivationLemmas.{get_or-map_below, length-map_below}
use Rattle.session_model.specs.Courses.{DiskFile, block_channel}
use Rattle.session_model.specs.Disks.{blocks_of}
use Rattle.session_model.specs.Rings.{RingBlock}
use Rattle.session_model.specs.Samples.{below, sample}
use Rattle.driver_words.specs.Rings.{Sending}
use Rattle.disk_player.proofs.StepLemmas.{all-within, below-join, cut-later, less-times, puts-put, puts-samples}
use Rattle.disk_player.specs.Files.{HasPut, PlaysFile, block_of_file}
use Rattle.disk_player.specs.Playing.{AreBlocks, Playing, cut_block, in_hand}
use Rattle.disk_player.specs.Turning.{Breaks, HowEnds, PutsEach, PutsOn, samples_of}
use Rattle.disk_player.specs.declared.player.TurnEnd.{TurnEnd}
use Rattle.disk_player.specs.declared.player.TurnEnd.TheVariants.{Put, Full, Ended}

pub cut-file : (file : DiskFile) (period i : ℕ) → cut_block (file.channels * period) file.samples i ≡ block_of_file file period i
cut-file file period i =
    laid_whole period file.channels (map (block_channel file period i) (below file.channels)) (cut_block (file.channels * period) file.samples i)
    (length-map_below (λ k. sample file.samples (i * (file.channels * period) + k)) (file.channels * period) ∙ mul_comm file.channels period)
    (length-map_below (block_channel file period i) file.channels)
    (λ f c low high.
    get_or-map_below (λ k. sample file.samples (i * (file.channels * period) + k)) (file.channels * period) (f * file.channels + c) (pos 0) (within f c low high)
    ∙ ap (sample file.samples) (order f c)
    ∙ sym (get_or-map_below (λ m. sample file.samples ((i * period + m) * file.channels + c)) period f (pos 0) low)
    ∙ ap (λ (channel : List ℤ). sample channel f) (sym (get_or-map_below (block_channel file period i) file.channels c [] high)))
  where
    within : (f c : ℕ) → f < period → c < file.channels → f * file.channels + c < file.channels * period
    within f c low high =
        let most : (f + 1) * file.channels ≤ period * file.channels = mul-le-mul_right file.channels (omega (arith, low)) in
        omega (arith, most, high, mul_comm file.channels period, add-mul f 1 file.channels)

    order : (f c : ℕ) → i * (file.channels * period) + (f * file.channels + c) ≡ (i * period + f) * file.channels + c
    order f c =
        let blocks : i * (file.channels * period) ≡ (i * period) * file.channels = ap (λ m. i * m) (mul_comm file.channels period) ∙ sym (mul_assoc i period file.channels) in
        omega (arith, blocks, add-mul (i * period) f file.channels)

pub front-of : {X : Type 0} (d : X) (xs ys : List X) (f : ℕ → X) (n : ℕ) → xs ++ ys ≡ map f (below n) → xs ≡ map f (below (length xs))
front-of d xs ys f n all =
    ext_get_or d xs (map f (below (length xs))) (sym (length-map_below f (length xs)))
    (λ i h. sym (get_or_append_left xs ys d i h) ∙ ap (λ zs. get_or zs i d) all ∙ get_or-map_below f n i d (omega (arith, h, long)) ∙ sym (get_or-map_below f (length xs) i d h))
  where
    long : length xs + length ys ≡ n
    long = sym (length-append xs ys) ∙ ap length all ∙ length-map_below f n

module _ (file : DiskFile) (period : ℕ) (before : Playing) (plays : PlaysFile file period before) where
  abbrev pub size : ℕ
  size = file.channels * period

  abbrev pub left : List ℤ
  left = drop (plays.read * size) file.samples

  -- the blocks that were put and those in hand
  module _ (blocks : List RingBlock) (sent : Sending) (read hand : List (List ℤ)) (puts : PutsEach before.sending blocks sent) (are : AreBlocks before.sending.samples left read) (law : samples_of blocks ++ hand ≡ in_hand before.waiting ++ read) where
    pub all-blocks : samples_of sent.put ++ hand ≡ map (block_of_file file period) (below (plays.read + length read))
    all-blocks =
        ap (λ (put : List RingBlock). samples_of put ++ hand) (puts-put before.sending sent blocks puts)
        ∙ ap (λ xs. xs ++ hand) (map-append (λ (b : RingBlock). b.samples) before.sending.put blocks)
        ∙ append_assoc (samples_of before.sending.put) (samples_of blocks) hand
        ∙ ap (λ xs. samples_of before.sending.put ++ xs) law
        ∙ sym (append_assoc (samples_of before.sending.put) (in_hand before.waiting) read)
        ∙ ap₂ (λ (xs ys : List (List ℤ)). xs ++ ys) plays.blocks (cut ∙ ap (λ (f : ℕ → List ℤ). map f (below (length read))) (λ i. λ j. later j i))
        ∙ below-join (block_of_file file period) plays.read (length read)
      where
        cut : read ≡ map (cut_block size left) (below (length read))
        cut = subst (λ (s : ℕ). read ≡ map (cut_block s left) (below (length read))) plays.size are.cut

        later : (j : ℕ) → cut_block size left j ≡ block_of_file file period (plays.read + j)
        later j = cut-later size plays.read j file.samples ∙ cut-file file period (plays.read + j)

    pub all-within-file : plays.read + length read ≤ blocks_of file period
    all-within-file =
        all-within size (length file.samples) plays.read (length read) plays.some plays.within
        (subst (λ (n : ℕ). length read ≤ div_ceil n size) (length-drop (plays.read * size) file.samples) (subst (λ (s : ℕ). length read ≤ div_ceil (length left) s) plays.size are.within))

    pub count-all : length sent.put + length hand ≡ plays.read + length read
    count-all =
        ap (λ n. n + length hand) (sym (length-map sent.put (λ (b : RingBlock). b.samples)))
        ∙ sym (length-append (samples_of sent.put) hand)
        ∙ ap length all-blocks
        ∙ length-map_below (block_of_file file period) (plays.read + length read)

    pub put-front : samples_of sent.put ≡ map (block_of_file file period) (below (length sent.put))
    put-front =
        front-of [] (samples_of sent.put) hand (block_of_file file period) (plays.read + length read) all-blocks
        ∙ ap (λ n. map (block_of_file file period) (below n)) (length-map sent.put (λ (b : RingBlock). b.samples))

  module _ (passed : Playing) (n : ℕ) (on : PutsOn n before passed) where
    are : AreBlocks before.sending.samples left on.read
    are = (on.reads.told left plays.left).0

    sent-put : passed.sending.put ≡ on.sent.put
    sent-put = by_end passed.sending.ended refl
      where
        by_end : (ended : Bool) → passed.sending.ended ≡ ended → passed.sending.put ≡ on.sent.put
        by_end false is = ap (λ (s : Sending). s.put) (on.still is)
        by_end true is = ap (λ (s : Sending). s.put) (on.ended is)

    sent-samples : passed.sending.samples ≡ on.sent.samples
    sent-samples = by_end passed.sending.ended refl
      where
        by_end : (ended : Bool) → passed.sending.ended ≡ ended → passed.sending.samples ≡ on.sent.samples
        by_end false is = ap (λ (s : Sending). s.samples) (on.still is)
        by_end true is = ap (λ (s : Sending). s.samples) (on.ended is)

    left-behind : passed.left ≡ Some (drop ((plays.read + length on.read) * size) file.samples)
    left-behind =
        (on.reads.told left plays.left).1
        ∙ ap (λ (xs : List ℤ). Some xs) (drop-drop (length on.read * before.sending.samples) (plays.read * size) file.samples ∙ ap (λ k. drop k file.samples) together)
      where
        together : plays.read * size + length on.read * before.sending.samples ≡ (plays.read + length on.read) * size
        together = ap (λ s. plays.read * size + length on.read * s) plays.size ∙ sym (add-mul plays.read (length on.read) size)

    none-behind : passed.over ≡ true → passed.left ≡ Some []
    none-behind now = on.reads.over left plays.left (λ was. some-is (sym plays.left ∙ plays.over was)) now
      where
        some-is : {xs ys : List ℤ} → Some xs ≡ Some ys → xs ≡ ys
        some-is e = ap held e
          where
            held : Option (List ℤ) → List ℤ
            held None = []
            held (Some xs) = xs

    none-waits : passed.sending.ended ≡ true → passed.waiting ≡ None
    none-waits over = by_waiting passed.waiting refl
      where
        by_waiting : (w : Option (List ℤ)) → passed.waiting ≡ w → passed.waiting ≡ None
        by_waiting None is = is
        by_waiting (Some block) is = absurd (true≢false (sym over ∙ on.ready.ended ∙ ap (λ (w : Option (List ℤ)). is_none w) is))

    pub goes-with : PlaysFile file period passed
    goes-with = record {
      read = plays.read + length on.read;
      size = sent-samples ∙ puts-samples before.sending on.sent on.blocks on.puts ∙ plays.size;
      some = plays.some;
      blocks = ap (λ (put : List RingBlock). samples_of put ++ in_hand passed.waiting) sent-put ∙ all-blocks on.blocks on.sent on.read (in_hand passed.waiting) on.puts are on.hand;
      within = all-within-file on.blocks on.sent on.read (in_hand passed.waiting) on.puts are on.hand;
      left = left-behind;
      over = none-behind;
      ended = λ over. (on.ready.over over, none-waits over);
    }

    -- a block waits that was not put
    pub ends-with : length passed.sending.put ≡ blocks_of file period → passed.sending.ended ≡ true
    ends-with all = by_waiting passed.waiting refl
      where
        by_waiting : (w : Option (List ℤ)) → passed.waiting ≡ w → passed.sending.ended ≡ true
        by_waiting None is = on.ready.ended ∙ ap (λ (w : Option (List ℤ)). is_none w) is
        by_waiting (Some block) is =
            let count : length on.sent.put + length (in_hand passed.waiting) ≡ plays.read + length on.read = count-all on.blocks on.sent on.read (in_hand passed.waiting) on.puts are on.hand in
            let one : length (in_hand passed.waiting) ≡ 1 = ap (λ (w : Option (List ℤ)). length (in_hand w)) is in
            let within : plays.read + length on.read ≤ blocks_of file period = all-within-file on.blocks on.sent on.read (in_hand passed.waiting) on.puts are on.hand in
            absurd (omega (arith, count, one, within, all, ap length sent-put))

    -- behind the last put nothing is put, and no end is made
    pub turned : (most : ℕ) (after : Playing) (turn : TurnEnd) → HowEnds most n passed after turn → PlaysFile file period after × (length after.sending.put ≡ blocks_of file period → after.sending.ended ≡ true)
    turned most after (Put m) how = subst (λ (p : Playing). PlaysFile file period p × (length p.sending.put ≡ blocks_of file period → p.sending.ended ≡ true)) (sym how.3) (goes-with, ends-with)
    turned most after Ended how = subst (λ (p : Playing). PlaysFile file period p × (length p.sending.put ≡ blocks_of file period → p.sending.ended ≡ true)) (sym how.2) (goes-with, ends-with)
    turned most after (Full sent taken) how =
        subst (λ (p : Playing). PlaysFile file period p × (length p.sending.put ≡ blocks_of file period → p.sending.ended ≡ true)) (sym (how.4 ∙ ap (λ (s : Sending). record passed { sending = s }) how.3.after_is)) (
          record {
            read = goes-with.read;
            size = goes-with.size;
            some = goes-with.some;
            blocks = goes-with.blocks;
            within = goes-with.within;
            left = goes-with.left;
            over = goes-with.over;
            ended = goes-with.ended;
          },
          ends-with,
        )

  pub broken-put : (most : ℕ) (after : Playing) → Breaks most before after → HasPut file period after.sending
  broken-put most after breaks =
      let law : samples_of breaks.blocks ++ [] ≡ in_hand before.waiting ++ breaks.read = append-nil (samples_of breaks.blocks) ∙ breaks.hand in
      let are : AreBlocks before.sending.samples left breaks.read = breaks.told left plays.left in
      record {
        blocks = put-front breaks.blocks after.sending breaks.read [] breaks.puts are law;
        within = omega (arith, count-all breaks.blocks after.sending breaks.read [] breaks.puts are law, all-within-file breaks.blocks after.sending breaks.read [] breaks.puts are law);
        whole = λ ended. absurd (true≢false (sym ended ∙ breaks.going));
      }

-- what a player of a file put
pub has-put : (file : DiskFile) (period : ℕ) (playing : Playing) → PlaysFile file period playing → HasPut file period playing.sending
has-put file period playing plays = record {
  blocks = front-of [] (samples_of playing.sending.put) (in_hand playing.waiting) (block_of_file file period) plays.read plays.blocks ∙ ap (λ n. map (block_of_file file period) (below n)) (length-map playing.sending.put (λ (b : RingBlock). b.samples));
  within = omega (arith, count, plays.within);
  whole = λ ended.
      let none : length (drop (plays.read * (file.channels * period)) file.samples) ≡ 0 = ap held (sym plays.left ∙ plays.over (plays.ended ended).0) in
      let most : blocks_of file period * (file.channels * period) < length file.samples + file.channels * period = (div_ceil_times (length file.samples) (file.channels * period) plays.some).1 in
      let less : blocks_of file period < plays.read + 1
      = less-times (blocks_of file period) (plays.read + 1) (file.channels * period) (omega (arith, most, none, length-drop (plays.read * (file.channels * period)) file.samples, add-mul plays.read 1 (file.channels * period))) in
      let no : length (in_hand playing.waiting) ≡ 0 = ap (λ (w : Option (List ℤ)). length (in_hand w)) (plays.ended ended).1 in
      omega (arith, count, no, less, plays.within);
}
  where
    held : Option (List ℤ) → ℕ
    held None = 0
    held (Some xs) = length xs

    count : length playing.sending.put + length (in_hand playing.waiting) ≡ plays.read
    count =
        ap (λ n. n + length (in_hand playing.waiting)) (sym (length-map playing.sending.put (λ (b : RingBlock). b.samples)))
        ∙ sym (length-append (samples_of playing.sending.put) (in_hand playing.waiting))
        ∙ ap length plays.blocks
        ∙ length-map_below (block_of_file file period) plays.read
