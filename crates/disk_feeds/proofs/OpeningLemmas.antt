-- Rings and feeds as they are made, one after the other.
--     opened-none      before the first ring
--     opened-more      one more
--     opened-empty      all of them are empty
--     made-none, made-more      before the first feed, and one more
--     sound-made      what is made is sound
use Rattle.std.proofs.Common.{◌≡◌, ℕ, ℤ, suc, ◌+◌, ◌*◌, ◌^◌, ◌<◌, ◌≤◌, Bool, true, false, List, [], ◌∷◌, ◌++◌, length, map, take, get_or, Option, Some, None, refl, sym, ◌∙◌, ap, ap₂, subst, arith, length-append}
use Rattle.std.specs.Prelude.{All, MatchOption, nat_lt, if◌then◌else◌}
use Rattle.std.proofs.lemmas.Grind.{take_at_read}
use Rattle.std.proofs.lemmas.Bool.{leb-true, ltb-false}
use Rattle.std.proofs.lemmas.List.{get_or-take, length-map, length-take, map-append}
use Rattle.std.proofs.Math.ListN.{get_or-append}
use Rattle.std.proofs.Math.Seq.{get_or-append_seam}
use Rattle.std.proofs.lemmas.List.Elements.{All-append, All-cons, All-from_get_or, All-nil}
use Rattle.driver_words.specs.Rings.{Sending, Getting, IsOpening}
use Rattle.driver_laws.specs.Openings.{IsEmptyDisk}
use Rattle.disk_feeds.specs.declared.feed.Feed.{Feed}
use Rattle.driver_words.specs.Feeding.{no_block, no_ring}
use Rattle.disk_feeds.specs.Insides.{AreMade, IsFeed, IsSound, given_in}
use Rattle.disk_feeds.specs.Openings.{AreOpened}

-- ---- rings

pub opened-none : (capacity period : ℕ) → AreOpened capacity period [] [] []
opened-none capacity period = record { as_many = refl; ends = refl; each = λ disk low. absurd (none disk low) }
  where
    none : (n : ℕ) → n < 0 → ⊥
    none n p = omega (arith, p)

abbrev pub HasEnds : ℕ → ℕ → Option Sending → Getting → Type 0
HasEnds capacity samples out ring = MatchOption out ⊥ (λ (sending : Sending). IsOpening capacity samples (2 ^ 33) sending ring)

both-ends : (capacity period count other_count : ℕ) (o other_o : Option Sending) (g other_g : Getting) → other_o ≡ o → other_count ≡ count → other_g ≡ g
    → HasEnds capacity (period * count) o g → HasEnds capacity (period * other_count) other_o other_g
both-ends capacity period count other_count o other_o g other_g same same_count same_g h = rw same (rw same_count (rw same_g h))

pub opened-more : (capacity period : ℕ) (channels : List ℕ) (disks : List Getting) (out : List (Option Sending)) (i : ℕ) (ring : Getting) (sending : Sending) → i < length channels
    → AreOpened capacity period (take i channels) disks out → IsOpening capacity (period * get_or channels i 0) (2 ^ 33) sending ring
    → AreOpened capacity period (take (i + 1) channels) (disks ++ ring ∷ []) (out ++ Some sending ∷ [])
opened-more capacity period channels disks out i ring sending there before opening = record {
  as_many = length-append disks _ ∙ omega (arith, there, disks_long, length-take i channels, length-take (i + 1) channels);
  ends = length-append out _ ∙ omega (arith, there, out_long, length-take i channels, length-take (i + 1) channels);
  each = λ disk low. at disk (omega (arith, low, there, length-take (i + 1) channels)) (nat_lt disk i) refl;
}
  where
    disks_long : length disks ≡ i
    disks_long = before.as_many ∙ omega (arith, there, length-take i channels)

    out_long : length out ≡ i
    out_long = before.ends ∙ omega (arith, there, length-take i channels)

    last : HasEnds capacity (period * get_or (take (i + 1) channels) i 0) (get_or (out ++ Some sending ∷ []) i None) (get_or (disks ++ ring ∷ []) i no_ring)
    last = both-ends capacity period (get_or channels i 0) _ (Some sending) _ ring _
        (ap (λ n. get_or (out ++ Some sending ∷ []) n None) (sym out_long) ∙ get_or-append_seam out (Some sending) [] None)
        (get_or-take (i + 1) channels i 0 (omega arith))
        (ap (λ n. get_or (disks ++ ring ∷ []) n no_ring) (sym disks_long) ∙ get_or-append_seam disks ring [] no_ring)
        opening

    at : (disk : ℕ) → disk < i + 1 → (b : Bool) → nat_lt disk i ≡ b
        → HasEnds capacity (period * get_or (take (i + 1) channels) disk 0) (get_or (out ++ Some sending ∷ []) disk None) (get_or (disks ++ ring ∷ []) disk no_ring)
    at disk low true h = let less : disk < i = leb-true (suc disk) i h in
        both-ends capacity period (get_or (take i channels) disk 0) _ (get_or out disk None) _ (get_or disks disk no_ring) _
        (get_or-append out _ None disk (omega (arith, less, out_long)))
        (get_or-take (i + 1) channels disk 0 low ∙ sym (get_or-take i channels disk 0 less))
        (get_or-append disks _ no_ring disk (omega (arith, less, disks_long)))
        (before.each disk (omega (arith, less, there, length-take i channels)))
    at disk low false h = let same : i ≡ disk = omega (arith, low, ltb-false disk i h) in
        subst (λ n. HasEnds capacity (period * get_or (take (i + 1) channels) n 0) (get_or (out ++ Some sending ∷ []) n None) (get_or (disks ++ ring ∷ []) n no_ring)) same last

empty-one : (capacity samples : ℕ) (ring : Getting) (o : Option Sending) → HasEnds capacity samples o ring → IsEmptyDisk ring
empty-one capacity samples ring None h = absurd h
empty-one capacity samples ring (Some sending) h = record {
  blocks = ap (λ (g : Getting). g.got) h.getting_is;
  told = ap (λ (g : Getting). g.told) h.getting_is;
  done = ap (λ (g : Getting). g.done) h.getting_is;
}

pub opened-empty : (capacity period : ℕ) (channels : List ℕ) (disks : List Getting) (out : List (Option Sending)) → AreOpened capacity period channels disks out → All IsEmptyDisk disks
opened-empty capacity period channels disks out opened =
    All-from_get_or IsEmptyDisk disks no_ring (λ i low. empty-one capacity (period * get_or channels i 0) (get_or disks i no_ring) (get_or out i None) (opened.each i (subst (λ n. i < n) opened.as_many low)))

-- ---- feeds

pub made-none : (period : ℕ) → AreMade period [] []
made-none period = record { each = All-nil (IsFeed period); channels_are = refl; played = refl; blocks = refl }

pub made-more : (period : ℕ) (channels : List ℕ) (feeds : List Feed) (i : ℕ) (feed : Feed) → i < length channels → AreMade period (take i channels) feeds
    → IsFeed period feed → feed.channels ≡ get_or channels i 0 → feed.played ≡ 0 → feed.is_given ≡ false → AreMade period (take (i + 1) channels) (feeds ++ feed ∷ [])
made-more period channels feeds i feed there before is_feed channels_are none idle = record {
  each = All-append (IsFeed period) feeds (feed ∷ []) before.each (All-cons (IsFeed period) feed [] is_feed (All-nil (IsFeed period)));
  channels_are = map-append (λ (feed : Feed). feed.channels) feeds (feed ∷ []) ∙ ap₂ (λ (xs : List ℕ) (n : ℕ). xs ++ n ∷ []) before.channels_are channels_are ∙ sym next;
  played = map-append (λ (feed : Feed). feed.played) feeds (feed ∷ []) ∙ ap₂ (λ (xs : List ℕ) (n : ℕ). xs ++ n ∷ []) before.played none ∙ sym (of_next 0);
  blocks =
      map-append given_in feeds (feed ∷ [])
      ∙ ap₂ (λ (xs : List (Option (List ℤ))) (b : Bool). xs ++ (if b then Some feed.block.samples.items else None) ∷ []) before.blocks idle
      ∙ sym (of_next no_block);
}
  where
    next : take (i + 1) channels ≡ take i channels ++ get_or channels i 0 ∷ []
    next = (take_at_read channels i 0 there).1

    of_next : {X : Type 0} (x : X) → map (λ _. x) (take (i + 1) channels) ≡ map (λ _. x) (take i channels) ++ x ∷ []
    of_next x = ap (map (λ _. x)) next ∙ map-append (λ _. x) (take i channels) (get_or channels i 0 ∷ [])

pub sound-made : (capacity period : ℕ) (channels : List ℕ) (disks : List Getting) (out : List (Option Sending)) (feeds : List Feed)
    → AreOpened capacity period channels disks out → AreMade period channels feeds → length channels ≤ 255 → period ≤ 4096 → IsSound disks out feeds period
sound-made capacity period channels disks out feeds opened made few short = record {
  ends = opened.ends ∙ sym opened.as_many;
  as_many = sym (length-map feeds (λ (feed : Feed). feed.channels)) ∙ ap length made.channels_are ∙ sym opened.as_many;
  few = omega (arith, few, opened.as_many);
  each = made.each;
  frames = short;
}
