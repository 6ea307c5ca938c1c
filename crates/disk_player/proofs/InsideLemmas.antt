-- What stays true of the player's fields, and what contracts see of them.
--     none-waiting, some-waiting      the block that waits
--     looks-same      nothing was done
--     looks-filled      a block was read
--     looks-found      the file's end was found
--     looks-over      or had been
use Rattle.std.proofs.Common.{◌≡◌, ◌⊎◌, inl, inr, ℕ, ◌*◌, ◌<◌, true, false, Bool, nat_lt, List, [], ◌∷◌, ◌++◌, length, drop, ℤ, Option, Some, None, refl, sym, ◌∙◌, ap, arith, true≢false, append-nil}
use Rattle.std.specs.Prelude.{is_none, if◌then◌else◌}
use Rattle.std.proofs.lemmas.Bool.{lt-ltb, ltb-true}
use Rattle.std.proofs.lemmas.List.{drop_all, nil_from_length}
use Rattle.std.proofs.lemmas.List.Elements.{All-cons, All-nil}
use Rattle.driver_words.specs.Rings.{Sending}
use Rattle.record_ring.specs.declared.block.Block.{Block}
use Rattle.wave_pcm.specs.Readings.{Reading, SameReading}
use Rattle.disk_player.proofs.StepLemmas.{one-more}
use Rattle.disk_player.specs.Insides.{FillsBlock, IsSound, LooksAhead, seen_of, waiting_in}
use Rattle.disk_player.specs.Playing.{Playing, cut_block, in_hand}
use Rattle.disk_player.specs.Turning.{Reads}

pub none-waiting : (n : ℕ) (items : List ℤ) → n ≡ 0 → waiting_in n items ≡ None
none-waiting n items none = ap (λ k. waiting_in k items) none

pub some-waiting : (n : ℕ) (items : List ℤ) → 0 < n → waiting_in n items ≡ Some items
some-waiting n items some = ap (λ (b : Bool). if b then Some items else None) (lt-ltb 0 n some)

reads-none : (before after : Playing) → after.left ≡ before.left → after.over ≡ before.over → Reads before [] after
reads-none before after left over = record {
  whole = All-nil (λ (block : List ℤ). length block ≡ before.sending.samples);
  told = λ samples is. (record { cut = refl; within = omega arith }, left ∙ is ∙ ap (λ n. Some (drop n samples)) (none before.sending.samples));
  over = λ samples is known now. left ∙ is ∙ ap (λ (xs : List ℤ). Some xs) (known (sym over ∙ now));
}
  where
    none : (n : ℕ) → 0 ≡ 0 * n
    none n = omega arith

module _ {wave : Reading} {sending : Sending} {block : Block} {size waiting : ℕ} {exhausted ended : Bool} (s : IsSound wave sending block size waiting exhausted ended) where
  pub stands : ended ≡ true → sending.ended ≡ true
  stands over = s.end ∙ over

  pub goes : 0 < waiting → sending.ended ≡ false
  goes some = s.end ∙ by_end ended refl
    where
      by_end : (b : Bool) → ended ≡ b → ended ≡ false
      by_end true is = absurd (omega (arith, some, (s.over is).1))
      by_end false is = is

  pub looks-same : wave.failed ≡ false → (ended ≡ true) ⊎ (0 < waiting) → LooksAhead (seen_of wave sending block.samples.items waiting exhausted) (seen_of wave sending block.samples.items waiting exhausted)
  looks-same going case = record {
    read = [];
    reads = reads-none (seen_of wave sending block.samples.items waiting exhausted) (seen_of wave sending block.samples.items waiting exhausted) refl refl;
    hand = sym (append-nil (in_hand (waiting_in waiting block.samples.items)));
    still = λ _. refl;
    ended = λ over. ap (λ (b : Bool). record sending { ended = b }) over;
    format = refl;
    faults = refl;
    ready = record {
      going = going;
      ended = either case;
      over = λ over. (s.over (sym s.end ∙ over)).0;
    };
  }
    where
      either : (ended ≡ true) ⊎ (0 < waiting) → sending.ended ≡ is_none (waiting_in waiting block.samples.items)
      either (inl over) = stands over ∙ sym (ap (λ (w : Option (List ℤ)). is_none w) (none-waiting waiting block.samples.items (s.over over).1))
      either (inr some) = goes some ∙ sym (ap (λ (w : Option (List ℤ)). is_none w) (some-waiting waiting block.samples.items some))

  pub looks-over : wave.failed ≡ false → exhausted ≡ true → waiting ≡ 0 → LooksAhead (seen_of wave sending block.samples.items waiting exhausted) (seen_of wave (record sending { ended = true }) block.samples.items waiting exhausted)
  looks-over going over none = record {
    read = [];
    reads = reads-none (seen_of wave sending block.samples.items waiting exhausted) (seen_of wave (record sending { ended = true }) block.samples.items waiting exhausted) refl refl;
    hand = sym (append-nil (in_hand (waiting_in waiting block.samples.items)));
    still = λ open_end. absurd (true≢false open_end);
    ended = λ _. refl;
    format = refl;
    faults = refl;
    ready = record {
      going = going;
      ended = sym (ap (λ (w : Option (List ℤ)). is_none w) (none-waiting waiting block.samples.items none));
      over = λ _. over;
    };
  }

-- ---- a block was read

module _ {wave : Reading} {sending : Sending} {block : Block} {size : ℕ} {waiting : ℕ} {exhausted ended : Bool} (s : IsSound wave sending block size waiting exhausted ended) (none : waiting ≡ 0) (more : exhausted ≡ false) (open_end : ended ≡ false)
    (going : wave.failed ≡ false) (wave' : Reading) (block' : Block) (count : ℕ) (fills : FillsBlock wave wave' block'.samples.items size count) (same : SameReading wave wave') (going' : wave'.failed ≡ false) (room : block'.samples.room ≡ block.samples.room) where
  pub looks-filled : 0 < count → LooksAhead (seen_of wave sending block.samples.items waiting exhausted) (seen_of wave' sending block'.samples.items count (nat_lt count size))
  looks-filled some = record {
    read = block'.samples.items ∷ [];
    reads = record {
      whole = All-cons (λ (b : List ℤ). length b ≡ sending.samples) block'.samples.items [] (fills.length_is ∙ sym s.samples) (All-nil (λ (b : List ℤ). length b ≡ sending.samples));
      told = λ left is. (
        record {
          cut = ap (λ (b : List ℤ). b ∷ []) ((fills.told left is).0 ∙ ap (λ k. cut_block k left 0) (sym s.samples));
          within = one-more sending.samples 0 (length left) (omega (arith, s.some, s.samples)) (omega (arith, some, (fills.told left is).2));
        },
        (fills.told left is).1 ∙ ap (λ k. Some (drop k left)) (once s.samples),
      );
      over = λ left is _ now. (fills.told left is).1 ∙ ap (λ (xs : List ℤ). Some xs) (drop_all size left (omega (arith, (fills.told left is).2, ltb-true count size now)));
    };
    hand = ap in_hand (some-waiting count block'.samples.items some) ∙ ap (λ w. in_hand w ++ block'.samples.items ∷ []) (sym (none-waiting waiting block.samples.items none));
    still = λ _. refl;
    ended = λ over. absurd (true≢false (sym over ∙ (s.end ∙ open_end)));
    format = same.format;
    faults = (same.kept going').1;
    ready = record {
      going = going';
      ended = s.end ∙ open_end ∙ sym (ap (λ (w : Option (List ℤ)). is_none w) (some-waiting count block'.samples.items some));
      over = λ over. absurd (true≢false (sym over ∙ (s.end ∙ open_end)));
    };
  }
    where
      once : sending.samples ≡ size → size ≡ 1 * sending.samples
      once is = omega (arith, is)

  at_end : count ≡ 0 → nat_lt count size ≡ true
  at_end empty = ap (λ k. nat_lt k size) empty ∙ lt-ltb 0 size s.some

  pub looks-found : count ≡ 0 → LooksAhead (seen_of wave sending block.samples.items waiting exhausted) (seen_of wave' (record sending { ended = true }) block'.samples.items count (nat_lt count size))
  looks-found end = record {
    read = [];
    reads = record {
      whole = All-nil (λ (b : List ℤ). length b ≡ sending.samples);
      told = λ left is. (record { cut = refl; within = omega arith }, (fills.told left is).1 ∙ ap (λ (xs : List ℤ). Some xs) (rest left is ∙ sym (empty left is) ∙ ap (λ n. drop n left) (nothing sending.samples)));
      over = λ left is _ _. (fills.told left is).1 ∙ ap (λ (xs : List ℤ). Some xs) (rest left is);
    };
    hand = ap in_hand (none-waiting count block'.samples.items end) ∙ ap (λ w. in_hand w ++ []) (sym (none-waiting waiting block.samples.items none));
    still = λ stays. absurd (true≢false stays);
    ended = λ _. refl;
    format = same.format;
    faults = (same.kept going').1;
    ready = record {
      going = going';
      ended = sym (ap (λ (w : Option (List ℤ)). is_none w) (none-waiting count block'.samples.items end));
      over = λ _. at_end end;
    };
  }
    where
      nothing : (n : ℕ) → 0 ≡ 0 * n
      nothing n = omega arith

      short : (left : List ℤ) → wave.left ≡ Some left → length left ≡ 0
      short left is = omega (arith, (fills.told left is).2, end, s.some)

      empty : (left : List ℤ) → wave.left ≡ Some left → left ≡ []
      empty left is = nil_from_length left (short left is)

      rest : (left : List ℤ) → wave.left ≡ Some left → drop size left ≡ []
      rest left is = drop_all size left (omega (arith, short left is))
