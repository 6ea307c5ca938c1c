-- Blocks after blocks.
--     puts-more, puts-put, puts-samples      one block more went into the ring; what was put; the blocks' size
--     less-times, one-more      a block that begins before the end is one of the blocks
--     blocks-join      blocks of samples, and of those behind them
--     starts, goes-on, breaks-first, breaks      a turn: the first look ahead, one block more, and a read that failed
--     on-err      what stands behind an error
use Rattle.std.proofs.Common.{◌≡◌, ℕ, zero, suc, ◌+◌, ◌-◌, ◌*◌, ◌<◌, ◌≤◌, false, List, [], ◌∷◌, ◌++◌, length, map, drop, ℤ, pos, Option, Some, None, Result, Ok, Err, refl, sym, ◌∙◌, ap, ap₂, subst, arith, append_assoc, append-nil, length-append}
use Rattle.std.specs.Prelude.{All, OnErr}
use Rattle.std.specs.Int.{div_ceil}
use Rattle.std.proofs.lemmas.Grind.{div_ceil_times}
use Rattle.std.proofs.lemmas.List.{drop-drop, get_or-drop, length-drop, map-append}
use Rattle.std.proofs.lemmas.List.Elements.{All-append}
use Rattle.std.proofs.Math.Nat.{add-mul}
use Rattle.session_model.specs.Rings.{RingBlock}
use Rattle.session_model.specs.Samples.{below, sample}
use Rattle.driver_words.specs.Rings.{Sending, Puts}
use Rattle.disk_player.specs.Insides.{LooksAhead, PutsNext}
use Rattle.disk_player.specs.Playing.{AreBlocks, Playing, cut_block, in_hand}
use Rattle.disk_player.specs.Turning.{Breaks, PutsEach, PutsOn, samples_of}

pub puts-more : (before between after : Sending) (blocks : List RingBlock) (block : RingBlock) (look : ℕ) → PutsEach before blocks between → Puts between block look after → PutsEach before (blocks ++ block ∷ []) after
puts-more before between after [] block look puts one = (look, after, subst (λ (s : Sending). Puts s block look after) puts one, refl)
puts-more before between after (b ∷ bs) block look puts one = (puts.0, puts.1, puts.2, puts-more puts.1 between after bs block look puts.3 one)

pub puts-samples : (before after : Sending) (blocks : List RingBlock) → PutsEach before blocks after → after.samples ≡ before.samples
puts-samples before after [] puts = ap (λ (s : Sending). s.samples) puts
puts-samples before after (block ∷ blocks) puts = puts-samples puts.1 after blocks puts.3 ∙ ap (λ (s : Sending). s.samples) puts.2.after_is

pub puts-put : (before after : Sending) (blocks : List RingBlock) → PutsEach before blocks after → after.put ≡ before.put ++ blocks
puts-put before after [] puts = ap (λ (s : Sending). s.put) puts ∙ sym (append-nil before.put)
puts-put before after (block ∷ blocks) puts =
    puts-put puts.1 after blocks puts.3
    ∙ ap (λ (s : Sending). s.put ++ blocks) puts.2.after_is
    ∙ append_assoc before.put (block ∷ []) blocks

-- ---- the file's blocks

pub less-times : (n d size : ℕ) → n * size < d * size → n < d
less-times zero zero size h = absurd (omega (arith, h))
less-times zero (suc d) size h = omega arith
less-times (suc n) zero size h = absurd (omega (arith, h))
less-times (suc n) (suc d) size h = let rest : n < d = less-times n d size (omega (arith, h)) in omega (arith, rest)

pub one-more : (size n long : ℕ) → 0 < size → n * size < long → n + 1 ≤ div_ceil long size
one-more size n long some within =
    let most : long ≤ div_ceil long size * size = (div_ceil_times long size some).0 in
    let less : n < div_ceil long size = less-times n (div_ceil long size) size (omega (arith, most, within)) in
    omega (arith, less)

scaled : (a b size : ℕ) → a ≤ b → a * size ≤ b * size
scaled zero b size h = omega arith
scaled (suc a) zero size h = absurd (omega (arith, h))
scaled (suc a) (suc b) size h = let rest : a * size ≤ b * size = scaled a b size (omega (arith, h)) in omega (arith, rest)

-- blocks that begin within what is left begin within the whole
pub all-within : (size long n k : ℕ) → 0 < size → n ≤ div_ceil long size → k ≤ div_ceil (long - n * size) size → n + k ≤ div_ceil long size
all-within size long n zero some first more = omega (arith, first)
all-within size long n (suc k) some first more =
    let below_all : div_ceil (long - n * size) size * size < (long - n * size) + size = (div_ceil_times (long - n * size) size some).1 in
    let most : long ≤ div_ceil long size * size = (div_ceil_times long size some).0 in
    let up : suc k * size ≤ div_ceil (long - n * size) size * size = scaled (suc k) (div_ceil (long - n * size) size) size more in
    let one : suc k * size ≡ k * size + size = omega arith in
    let there : (n + k) * size < div_ceil long size * size = omega (arith, below_all, up, one, most, add-mul n k size) in
    let less : n + k < div_ceil long size = less-times (n + k) (div_ceil long size) size there in
    omega (arith, less)

pub below-join : {X : Type 0} (g : ℕ → X) (n k : ℕ) → map g (below n) ++ map (λ j. g (n + j)) (below k) ≡ map g (below (n + k))
below-join g n zero = append-nil (map g (below n)) ∙ ap (λ m. map g (below m)) (same n)
  where
    same : (n : ℕ) → n ≡ n + 0
    same n = omega arith
below-join g n (suc k) =
    ap (λ xs. map g (below n) ++ xs) (map-append (λ j. g (n + j)) (below k) (k ∷ []))
    ∙ sym (append_assoc (map g (below n)) (map (λ j. g (n + j)) (below k)) (g (n + k) ∷ []))
    ∙ ap (λ xs. xs ++ g (n + k) ∷ []) (below-join g n k)
    ∙ sym (map-append g (below (n + k)) ((n + k) ∷ []))
    ∙ ap (λ m. map g (below m)) (next n k)
  where
    next : (n k : ℕ) → suc (n + k) ≡ n + suc k
    next n k = omega arith

pub cut-later : (size n j : ℕ) (samples : List ℤ) → cut_block size (drop (n * size) samples) j ≡ cut_block size samples (n + j)
cut-later size n j samples = ap (λ (f : ℕ → ℤ). map f (below size)) (λ i. λ k. one k i)
  where
    one : (k : ℕ) → sample (drop (n * size) samples) (j * size + k) ≡ sample samples ((n + j) * size + k)
    one k = get_or-drop (n * size) samples (j * size + k) (pos 0) ∙ ap (sample samples) (omega (arith, add-mul n j size))

pub blocks-join : (size : ℕ) (left : List ℤ) (ahead behind : List (List ℤ)) → 0 < size → AreBlocks size left ahead → AreBlocks size (drop (length ahead * size) left) behind → AreBlocks size left (ahead ++ behind)
blocks-join size left ahead behind some one two = record {
  cut =
      ap₂ (λ (xs ys : List (List ℤ)). xs ++ ys) one.cut (two.cut ∙ ap (λ (f : ℕ → List ℤ). map f (below (length behind))) (λ i. λ j. cut-later size (length ahead) j left i))
      ∙ below-join (cut_block size left) (length ahead) (length behind)
      ∙ ap (λ n. map (cut_block size left) (below n)) (sym (length-append ahead behind));
  within =
      let more : length behind ≤ div_ceil (length left - length ahead * size) size = subst (λ (n : ℕ). length behind ≤ div_ceil n size) (length-drop (length ahead * size) left) two.within in
      omega (arith, length-append ahead behind, all-within size (length left) (length ahead) (length behind) some one.within more);
}

-- ---- a turn

pub starts : (before after : Playing) → LooksAhead before after → PutsOn 0 before after
starts before after looks = record {
  blocks = [];
  sent = before.sending;
  read = looks.read;
  count_is = refl;
  puts = refl;
  reads = looks.reads;
  hand = looks.hand;
  still = looks.still;
  ended = looks.ended;
  format = looks.format;
  faults = looks.faults;
  ready = looks.ready;
}

module _ (n : ℕ) (before now put : Playing) (on : PutsOn n before now) (going : now.sending.ended ≡ false) (next : PutsNext now put) where
  still : now.sending ≡ on.sent
  still = on.still going

  size : now.sending.samples ≡ before.sending.samples
  size = ap (λ (s : Sending). s.samples) still ∙ puts-samples before.sending on.sent on.blocks on.puts

  size' : put.sending.samples ≡ before.sending.samples
  size' = ap (λ (s : Sending). s.samples) next.puts.after_is ∙ size

  some : 0 < before.sending.samples
  some = subst (λ (k : ℕ). 0 < k) size next.some

  puts' : PutsEach before.sending (on.blocks ++ next.block ∷ []) put.sending
  puts' = puts-more before.sending on.sent put.sending on.blocks next.block next.look on.puts (subst (λ (s : Sending). Puts s next.block next.look put.sending) still next.puts)

  -- the block that waited was put
  hand' : samples_of (on.blocks ++ next.block ∷ []) ≡ in_hand before.waiting ++ on.read
  hand' = map-append (λ (b : RingBlock). b.samples) on.blocks (next.block ∷ []) ∙ ap (λ w. samples_of on.blocks ++ in_hand w) (sym next.waited) ∙ on.hand

  left' : put.left ≡ now.left
  left' = ap (λ (p : Playing). p.left) next.rest_is

  over' : put.over ≡ now.over
  over' = ap (λ (p : Playing). p.over) next.rest_is

  pub goes-on : (after : Playing) → LooksAhead put after → PutsOn (n + 1) before after
  goes-on after looks = record {
    blocks = on.blocks ++ next.block ∷ [];
    sent = put.sending;
    read = on.read ++ looks.read;
    count_is = length-append on.blocks (next.block ∷ []) ∙ ap (λ k. k + 1) on.count_is;
    puts = puts';
    reads = record {
      whole = All-append (λ (b : List ℤ). length b ≡ before.sending.samples) on.read looks.read on.reads.whole (subst (λ (s : ℕ). All (λ (b : List ℤ). length b ≡ s) looks.read) size' looks.reads.whole);
      told = both;
      over = λ left is known now_over. looks.reads.over (drop (length on.read * before.sending.samples) left) (left' ∙ (on.reads.told left is).1)
          (λ was. some-is (sym (on.reads.told left is).1 ∙ on.reads.over left is known (sym over' ∙ was))) now_over;
    };
    hand =
        ap₂ (λ (xs ys : List (List ℤ)). xs ++ ys) hand' (looks.hand ∙ ap (λ (p : Playing). in_hand p.waiting ++ looks.read) next.rest_is)
        ∙ append_assoc (in_hand before.waiting) on.read looks.read;
    still = looks.still;
    ended = looks.ended;
    format = looks.format ∙ ap (λ (p : Playing). p.format) next.rest_is ∙ on.format;
    faults = looks.faults ∙ ap (λ (p : Playing). p.faults) next.rest_is ∙ on.faults;
    ready = looks.ready;
  }
    where
      some-is : {xs ys : List ℤ} → Some xs ≡ Some ys → xs ≡ ys
      some-is e = ap held e
        where
          held : Option (List ℤ) → List ℤ
          held None = []
          held (Some xs) = xs

      further : (r k s : ℕ) → r * s + k * s ≡ (r + k) * s
      further r k s = sym (add-mul r k s)

      both : (left : List ℤ) → before.left ≡ Some left
          → AreBlocks before.sending.samples left (on.read ++ looks.read) × (after.left ≡ Some (drop (length (on.read ++ looks.read) * before.sending.samples) left))
      both left is =
          let s : ℕ = before.sending.samples in
          let old : AreBlocks s left on.read × (now.left ≡ Some (drop (length on.read * s) left)) = on.reads.told left is in
          let new : AreBlocks s (drop (length on.read * s) left) looks.read × (after.left ≡ Some (drop (length looks.read * s) (drop (length on.read * s) left)))
          = subst (λ (k : ℕ). AreBlocks k (drop (length on.read * s) left) looks.read × (after.left ≡ Some (drop (length looks.read * k) (drop (length on.read * s) left)))) size'
          (looks.reads.told (drop (length on.read * s) left) (left' ∙ old.1)) in (
            blocks-join s left on.read looks.read some old.0 new.0,
            new.1 ∙ ap (λ (xs : List ℤ). Some xs) (drop-drop (length looks.read * s) (length on.read * s) left ∙ ap (λ k. drop k left) (further (length on.read) (length looks.read) s ∙ ap (λ k. k * s) (sym (length-append on.read looks.read)))),
          )

  pub breaks : (most : ℕ) (after : Playing) → n < most → after.sending ≡ put.sending → after.format ≡ put.format → put.sending.ended ≡ false → Breaks most before after
  breaks most after few same format open_end = record {
    blocks = on.blocks ++ next.block ∷ [];
    read = on.read;
    few = omega (arith, few, length-append on.blocks (next.block ∷ []), on.count_is);
    puts = subst (λ (s : Sending). PutsEach before.sending (on.blocks ++ next.block ∷ []) s) (sym same) puts';
    whole = on.reads.whole;
    told = λ left is. (on.reads.told left is).0;
    hand = hand';
    going = ap (λ (s : Sending). s.ended) same ∙ open_end;
    format = format ∙ ap (λ (p : Playing). p.format) next.rest_is ∙ on.format;
  }

pub breaks-first : (most : ℕ) (before after : Playing) → after.sending ≡ before.sending → after.format ≡ before.format → before.waiting ≡ None → before.sending.ended ≡ false → Breaks most before after
breaks-first most before after same format none going = record {
  blocks = [];
  read = [];
  few = omega arith;
  puts = same;
  whole = λ k d h. absurd (omega (arith, h));
  told = λ left is. record { cut = refl; within = omega arith };
  hand = sym (ap (λ w. in_hand w ++ []) none);
  going = ap (λ (s : Sending). s.ended) same ∙ going;
  format = format;
}

pub on-err : {T E : Type 0} {P : Type 0} (result : Result T E) → P → OnErr result P
on-err (Ok value) is = tt
on-err (Err error) is = is
