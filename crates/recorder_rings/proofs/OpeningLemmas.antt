-- Rings as they are made, one after the other.
--     opened-none      before the first
--     opened-more      one more
--     opened-empty      all of them are empty
--     few-channels      no recorder has more than 8 channels
--     sound-opened      what is made is sound
--     none-sent      as many counts as recorders
use Rattle.std.proofs.Common.{◌≡◌, ℕ, suc, ◌+◌, ◌*◌, ◌<◌, ◌≤◌, Bool, true, false, List, [], ◌∷◌, ◌++◌, length, map, replicate, take, get_or, Option, Some, None, refl, sym, ◌∙◌, ap, subst, arith, length-append}
use Rattle.std.specs.Prelude.{All, MatchOption, nat_lt}
use Rattle.std.proofs.lemmas.Bool.{leb-true, ltb-false}
use Rattle.std.proofs.lemmas.List.{get_or-map, get_or-take, length-map, length-replicate, length-take}
use Rattle.std.proofs.Math.ListN.{get_or-append}
use Rattle.std.proofs.Math.Seq.{get_or-append_seam}
use Rattle.std.proofs.lemmas.List.Elements.{All-from_get_or}
use Rattle.std.proofs.lemmas.Simd.{splat_is_map}
use Rattle.jack_types.specs.Recorders.{no_format}
use Rattle.jack_types.specs.declared.files.Format.{Format}
use Rattle.record_ring.specs.declared.block.Block.{Block}
use Rattle.driver_words.specs.Rings.{Sending, Getting, IsOpening}
use Rattle.driver_laws.specs.Openings.{IsEmptyRing}
use Rattle.recorder_rings.specs.Sending.{no_ring}
use Rattle.recorder_rings.specs.Openings.{AreOpened}
use Rattle.recorder_rings.specs.Insides.{IsSound}

pub opened-none : (capacity period : ℕ) → AreOpened capacity period [] [] []
opened-none capacity period = record { as_many = refl; ends = refl; each = λ recorder low. absurd (none recorder low) }
  where
    none : (n : ℕ) → n < 0 → ⊥
    none n p = omega (arith, p)

both-ends : (capacity period samples other_samples : ℕ) (o other_o : Option Getting) (s other_s : Sending) → other_o ≡ o → other_samples ≡ samples → other_s ≡ s
    → MatchOption o ⊥ (IsOpening capacity (period * samples) 500000000 s) → MatchOption other_o ⊥ (IsOpening capacity (period * other_samples) 500000000 other_s)
both-ends capacity period samples other_samples o other_o s other_s same same_samples same_s h = rw same (rw same_samples (rw same_s h))

pub opened-more : (capacity period : ℕ) (channels : List ℕ) (rings : List Sending) (out : List (Option Getting)) (i : ℕ) (ring : Sending) (getting : Getting) → i < length channels
    → AreOpened capacity period (take i channels) rings out → IsOpening capacity (period * get_or channels i 0) 500000000 ring getting
    → AreOpened capacity period (take (i + 1) channels) (rings ++ ring ∷ []) (out ++ Some getting ∷ [])
opened-more capacity period channels rings out i ring getting there before opening = record {
  as_many = length-append rings _ ∙ omega (arith, there, rings_long, length-take i channels, length-take (i + 1) channels);
  ends = length-append out _ ∙ omega (arith, there, out_long, length-take i channels, length-take (i + 1) channels);
  each = λ recorder low. at recorder (omega (arith, low, there, length-take (i + 1) channels)) (nat_lt recorder i) refl;
}
  where
    rings_long : length rings ≡ i
    rings_long = before.as_many ∙ omega (arith, there, length-take i channels)

    out_long : length out ≡ i
    out_long = before.ends ∙ omega (arith, there, length-take i channels)

    last : MatchOption (get_or (out ++ Some getting ∷ []) i None) ⊥ (IsOpening capacity (period * get_or (take (i + 1) channels) i 0) 500000000 (get_or (rings ++ ring ∷ []) i no_ring))
    last = both-ends capacity period (get_or channels i 0) _ (Some getting) _ ring _
        (ap (λ n. get_or (out ++ Some getting ∷ []) n None) (sym out_long) ∙ get_or-append_seam out (Some getting) [] None)
        (get_or-take (i + 1) channels i 0 (omega arith))
        (ap (λ n. get_or (rings ++ ring ∷ []) n no_ring) (sym rings_long) ∙ get_or-append_seam rings ring [] no_ring)
        opening

    at : (recorder : ℕ) → recorder < i + 1 → (b : Bool) → nat_lt recorder i ≡ b
        → MatchOption (get_or (out ++ Some getting ∷ []) recorder None) ⊥ (IsOpening capacity (period * get_or (take (i + 1) channels) recorder 0) 500000000 (get_or (rings ++ ring ∷ []) recorder no_ring))
    at recorder low true h = let less : recorder < i = leb-true (suc recorder) i h in
        both-ends capacity period (get_or (take i channels) recorder 0) _ (get_or out recorder None) _ (get_or rings recorder no_ring) _
        (get_or-append out _ None recorder (omega (arith, less, out_long)))
        (get_or-take (i + 1) channels recorder 0 low ∙ sym (get_or-take i channels recorder 0 less))
        (get_or-append rings _ no_ring recorder (omega (arith, less, rings_long)))
        (before.each recorder (omega (arith, less, there, length-take i channels)))
    at recorder low false h = let same : i ≡ recorder = omega (arith, low, ltb-false recorder i h) in
        subst (λ n. MatchOption (get_or (out ++ Some getting ∷ []) n None) ⊥ (IsOpening capacity (period * get_or (take (i + 1) channels) n 0) 500000000 (get_or (rings ++ ring ∷ []) n no_ring))) same last

empty-one : (capacity samples : ℕ) (ring : Sending) (o : Option Getting) → MatchOption o ⊥ (IsOpening capacity samples 500000000 ring) → IsEmptyRing capacity ring
empty-one capacity samples ring None h = absurd h
empty-one capacity samples ring (Some getting) h = record {
  put = ap (λ (s : Sending). s.put) h.sending_is;
  ended = ap (λ (s : Sending). s.ended) h.sending_is;
  capacity_is = ap (λ (s : Sending). s.capacity) h.sending_is;
}

pub opened-empty : (capacity period : ℕ) (channels : List ℕ) (rings : List Sending) (out : List (Option Getting)) → AreOpened capacity period channels rings out → All (IsEmptyRing capacity) rings
opened-empty capacity period channels rings out opened =
    All-from_get_or (IsEmptyRing capacity) rings no_ring (λ i low. empty-one capacity (period * get_or channels i 0) (get_or rings i no_ring) (get_or out i None) (opened.each i (subst (λ n. i < n) opened.as_many low)))

pub few-channels : (formats : List Format) (channels : List ℕ) → channels ≡ map (λ (format : Format). format.channels) formats → All (λ (format : Format). (1 ≤ format.channels) × (format.channels ≤ 8)) formats → All (λ count. count ≤ 8) channels
few-channels formats channels is few = λ k d low.
    let there : k < length formats = omega (arith, low, ap length is, length-map formats (λ (format : Format). format.channels)) in
    let read : get_or channels k d ≡ (get_or formats k no_format).channels = ap (λ (xs : List ℕ). get_or xs k d) is ∙ get_or-map (λ (format : Format). format.channels) formats k no_format d there in
    subst (λ n. n ≤ 8) (sym read) (few k no_format there).1

pub sound-opened : (formats : List Format) (capacity period : ℕ) (channels sent : List ℕ) (rings : List Sending) (out : List (Option Getting)) (blocks : List Block) → AreOpened capacity period channels rings out
    → channels ≡ map (λ (format : Format). format.channels) formats → sent ≡ replicate {A = ℕ} (length formats) 0 → map (λ (block : Block). block.samples.room) blocks ≡ map (λ count. period * count) channels
    → All (λ count. count ≤ 8) channels → period ≤ 4096 → IsSound rings out channels sent blocks period
sound-opened formats capacity period channels sent rings out blocks opened is none rooms few short = record {
  ends = opened.ends ∙ sym opened.as_many;
  recorders = sym opened.as_many;
  counts = ap length none ∙ length-replicate (length formats) 0 ∙ sym (length-map formats (λ (format : Format). format.channels)) ∙ ap length (sym is) ∙ sym opened.as_many;
  as_many = sym (length-map blocks (λ (block : Block). block.samples.room)) ∙ ap length rooms ∙ length-map channels (λ count. period * count) ∙ sym opened.as_many;
  rooms = rooms;
  few = few;
  period = short;
}

pub none-sent : (formats : List Format) → replicate {A = ℕ} (length formats) 0 ≡ map {B = ℕ} (λ _. 0) formats
none-sent formats = splat_is_map formats (length formats) 0 refl
