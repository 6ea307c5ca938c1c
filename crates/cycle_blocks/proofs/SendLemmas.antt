-- What the blocks of a cycle do, recorder by recorder.
--     may-put      a block that was laid may be put
--     idle-one, sent-one      a recorder on which none records, and one whose block was put
--     may-next      the next recorder's block may be put
--     sent-none, sent-next, sent-all      no block, one block more, and all
use Rattle.std.proofs.Common.{◌≡◌, ℕ, ◌+◌, ◌*◌, ◌^◌, ◌<◌, ◌≤◌, ◌⊎◌, inl, inr, Bool, true, false, List, [], ◌∷◌, ◌++◌, length, set, ℤ, All, refl, sym, ◌∙◌, ap, subst, arith, append-nil, append_assoc, length-append, length-set}
use Rattle.std.specs.Prelude.{filter, ◌==◌}
use Rattle.std.proofs.lemmas.Bool.{cases_eq, cases_lt, ne_eqb}
use Rattle.std.proofs.lemmas.List.{get_or-set_other}
use Rattle.std.proofs.lemmas.List.Elements.{All-append, All-head, All-nil, All-tail, All-weaker, filter-append}
use Rattle.jack_types.specs.declared.replies.Overrun.{Overrun}
use Rattle.session_model.specs.State.{OpenClient}
use Rattle.driver_words.specs.Rings.{Sending, items_of}
use Rattle.bench_rack.specs.Racks.{Racked}
use Rattle.recorder_rings.specs.driver_laws.specs.Cycling.{PutsOne, Idle}
use Rattle.recorder_rings.specs.driver_laws.specs.Drivers.{overruns_on}
use Rattle.recorder_rings.specs.Sending.{AreCounted, MayPut, Sent, block_at, channels_at, no_ring, ring_at}
use Rattle.cycle_blocks.specs.Blocks.{MaySend, Sends, block_by, is_taped}
use Rattle.cycle_blocks.specs.Steps.{MaySendOne, SendsFirst, SendsOne}

pub may-put : (before laid : Sent) (period recorder : ℕ) (samples : List ℤ) → laid ≡ record before { blocks = set before.blocks recorder samples } → length (block_at laid recorder) ≡ period * channels_at before recorder
    → MaySendOne before period recorder → MayPut laid recorder
may-put before laid period recorder samples is long may =
    subst (λ (s : Sent). length (block_at s recorder) ≡ period * channels_at before recorder → MayPut s recorder) (sym is) fits long
  where
    fits : length (block_at (record before { blocks = set before.blocks recorder samples }) recorder) ≡ period * channels_at before recorder → MayPut (record before { blocks = set before.blocks recorder samples }) recorder
    fits e = record {
      there = may.there;
      samples = may.samples;
      going = may.going;
      few = may.few;
      most = subst (λ n. items_of (ring_at before recorder).put + n ≤ (ring_at before recorder).most) (sym e) may.most;
      losses = may.losses;
    }

-- ---- one recorder

-- nothing else is other than before
same-but : (before after : Sent) (rings : List Sending) (sent : List ℕ) (blocks : List (List ℤ)) (overruns : List Overrun)
    → after ≡ record before { rings = rings; sent = sent; blocks = blocks; overruns = overruns } → after ≡ record before { rings = after.rings; sent = after.sent; blocks = after.blocks; overruns = after.overruns }
same-but before after rings sent blocks overruns is = subst (λ (s : Sent). s ≡ record before { rings = s.rings; sent = s.sent; blocks = s.blocks; overruns = s.overruns }) (sym is) refl

pub idle-one : (active : Bool) (samples : List ℤ) (cycle recorder : ℕ) (before : Sent) → active ≡ false → SendsOne active samples cycle recorder before before
idle-one active samples cycle recorder before idle = record {
  at = Idle idle refl refl;
  others = λ other apart. refl;
  as_many = refl;
  overruns = [];
  more = sym (append-nil before.overruns);
  now = All-nil (λ (overrun : Overrun). (overrun.cycle ≡ cycle) × (overrun.recorder ≡ recorder));
  few = omega arith;
  counted = λ counted. counted;
  same = refl;
}

pub sent-one : (samples : List ℤ) (cycle recorder : ℕ) (before laid after : Sent) (block : List ℤ) → laid ≡ record before { blocks = set before.blocks recorder block } → block_at laid recorder ≡ samples
    → PutsOne cycle recorder true (block_at laid recorder) (ring_at laid recorder) (ring_at after recorder) (overruns_on laid.overruns recorder) (overruns_on after.overruns recorder)
    → (more : List Overrun) × (after.overruns ≡ laid.overruns ++ more) × (length more ≤ 1) × All (λ (overrun : Overrun). (overrun.cycle ≡ cycle) × (overrun.recorder ≡ recorder)) more
    → (AreCounted laid → AreCounted after)
    → after ≡ record laid { rings = set laid.rings recorder (ring_at after recorder); sent = after.sent; blocks = set laid.blocks recorder (block_at after recorder); overruns = after.overruns }
    → SendsOne true samples cycle recorder before after
sent-one samples cycle recorder before laid after block laid_is =
    subst (λ (s : Sent). block_at s recorder ≡ samples
    → PutsOne cycle recorder true (block_at s recorder) (ring_at s recorder) (ring_at after recorder) (overruns_on s.overruns recorder) (overruns_on after.overruns recorder)
    → (more : List Overrun) × (after.overruns ≡ s.overruns ++ more) × (length more ≤ 1) × All (λ (overrun : Overrun). (overrun.cycle ≡ cycle) × (overrun.recorder ≡ recorder)) more
    → (AreCounted s → AreCounted after)
    → after ≡ record s { rings = set s.rings recorder (ring_at after recorder); sent = after.sent; blocks = set s.blocks recorder (block_at after recorder); overruns = after.overruns }
    → SendsOne true samples cycle recorder before after)
    (sym laid_is) of_block
  where
    of_block : block_at (record before { blocks = set before.blocks recorder block }) recorder ≡ samples
        → PutsOne cycle recorder true (block_at (record before { blocks = set before.blocks recorder block }) recorder) (ring_at before recorder) (ring_at after recorder) (overruns_on before.overruns recorder) (overruns_on after.overruns recorder)
        → (more : List Overrun) × (after.overruns ≡ before.overruns ++ more) × (length more ≤ 1) × All (λ (overrun : Overrun). (overrun.cycle ≡ cycle) × (overrun.recorder ≡ recorder)) more
        → (AreCounted before → AreCounted after)
        → after ≡ record before { rings = set before.rings recorder (ring_at after recorder); sent = after.sent; blocks = set (set before.blocks recorder block) recorder (block_at after recorder); overruns = after.overruns }
        → SendsOne true samples cycle recorder before after
    of_block is puts more counted after_is = record {
      at = subst (λ (xs : List ℤ). PutsOne cycle recorder true xs (ring_at before recorder) (ring_at after recorder) (overruns_on before.overruns recorder) (overruns_on after.overruns recorder)) is puts;
      others = λ other apart. ap (λ (s : Sent). ring_at s other) after_is ∙ get_or-set_other before.rings recorder other (ring_at after recorder) no_ring apart;
      as_many = ap (λ (s : Sent). length s.rings) after_is ∙ length-set before.rings recorder (ring_at after recorder);
      overruns = more.0;
      more = more.1;
      now = more.3;
      few = more.2;
      counted = counted;
      same = same-but before after (set before.rings recorder (ring_at after recorder)) after.sent (set (set before.blocks recorder block) recorder (block_at after recorder)) after.overruns after_is;
    }

-- ---- one recorder after the other

filter-nothing : {X : Type 0} (p : X → Bool) (xs : List X) → All (λ x. p x ≡ false) xs → filter p xs ≡ []
filter-nothing p [] none = refl
filter-nothing p (x ∷ xs) none = rw (All-head (λ x. p x ≡ false) x xs none) (filter-nothing p xs (All-tail (λ x. p x ≡ false) x xs none))

-- overruns of one recorder are none of another
overruns-other : (before more : List Overrun) (cycle recorder other : ℕ) → (other ≡ recorder → ⊥) → All (λ (overrun : Overrun). (overrun.cycle ≡ cycle) × (overrun.recorder ≡ recorder)) more
    → overruns_on (before ++ more) other ≡ overruns_on before other
overruns-other before more cycle recorder other apart now =
    filter-append (λ (o : Overrun). o.recorder == other) before more
    ∙ ap (λ (os : List Overrun). overruns_on before other ++ os) (filter-nothing (λ (o : Overrun). o.recorder == other) more
    (All-weaker (λ (o : Overrun). (o.cycle ≡ cycle) × (o.recorder ≡ recorder)) (λ (o : Overrun). (o.recorder == other) ≡ false) (λ o is. ne_eqb o.recorder other (λ e. apart (sym e ∙ is.1))) more now))
    ∙ append-nil (overruns_on before other)

module _ (rack : Racked) (nodes : List OpenClient) (cycle period : ℕ) where
  pub sent-none : (before : Sent) → SendsFirst rack nodes cycle period 0 before before
  sent-none before = record {
    each = λ recorder low. absurd (omega (arith, low));
    rings_later = λ recorder high. refl;
    overruns_later = λ recorder high. refl;
    as_many = refl;
    overruns = [];
    more = sym (append-nil before.overruns);
    now = All-nil (λ (overrun : Overrun). (overrun.cycle ≡ cycle) × (overrun.recorder < 0));
    few = omega arith;
    counted = λ counted. counted;
    same = refl;
  }

  pub may-next : (before between : Sent) (k : ℕ) → k < length before.rings → MaySend before period → SendsFirst rack nodes cycle period k before between → MaySendOne between period k
  may-next before between k low may first = record {
    there = omega (arith, low, first.as_many);
    period = subst (λ n. period ≤ n) (sym room) may.period;
    samples = ap (λ (ring : Sending). ring.samples) ring ∙ may.samples k low ∙ ap (λ n. n * channels_at before k) (sym room) ∙ ap (λ n. between.room * n) (sym channels);
    going = ap (λ (ring : Sending). ring.ended) ring ∙ may.going k low;
    few = subst (λ (ring : Sending). length ring.put < 2 ^ 62) (sym ring) (may.few k low);
    most = subst (λ (q : Sending × ℕ). items_of q.0.put + period * q.1 ≤ q.0.most) (λ i. (sym ring i, sym channels i)) (may.most k low);
    losses = omega (arith, low, may.losses, first.few, longer, ap (λ (s : Sent). s.losses) first.same);
  }
    where
      ring : ring_at between k ≡ ring_at before k
      ring = first.rings_later k (omega arith)

      room : between.room ≡ before.room
      room = ap (λ (s : Sent). s.room) first.same

      channels : channels_at between k ≡ channels_at before k
      channels = ap (λ (s : Sent). channels_at s k) first.same

      longer : length between.overruns ≡ length before.overruns + length first.overruns
      longer = ap length first.more ∙ length-append before.overruns first.overruns

  pub sent-next : (before between after : Sent) (k : ℕ) → SendsFirst rack nodes cycle period k before between
      → SendsOne (is_taped nodes k) (block_by rack nodes period (channels_at between k) k) cycle k between after → SendsFirst rack nodes cycle period (k + 1) before after
  sent-next before between after k first one = record {
    each = λ recorder low. at_each recorder low (cases_eq recorder k);
    rings_later = λ recorder high. one.others recorder (λ e. absurd (omega (arith, e, high))) ∙ first.rings_later recorder (omega (arith, high));
    overruns_later = λ recorder high. losses recorder (λ e. absurd (omega (arith, e, high))) ∙ first.overruns_later recorder (omega (arith, high));
    as_many = one.as_many ∙ first.as_many;
    overruns = first.overruns ++ one.overruns;
    more = one.more ∙ ap (λ (os : List Overrun). os ++ one.overruns) first.more ∙ append_assoc before.overruns first.overruns one.overruns;
    now = All-append (λ (o : Overrun). (o.cycle ≡ cycle) × (o.recorder < k + 1)) first.overruns one.overruns
        (All-weaker (λ (o : Overrun). (o.cycle ≡ cycle) × (o.recorder < k)) (λ (o : Overrun). (o.cycle ≡ cycle) × (o.recorder < k + 1)) (λ o is. (is.0, omega (arith, is.1))) first.overruns first.now)
        (All-weaker (λ (o : Overrun). (o.cycle ≡ cycle) × (o.recorder ≡ k)) (λ (o : Overrun). (o.cycle ≡ cycle) × (o.recorder < k + 1)) (λ o is. (is.0, omega (arith, is.1))) one.overruns one.now);
    few = omega (arith, first.few, one.few, length-append first.overruns one.overruns);
    counted = λ counted. one.counted (first.counted counted);
    same = same-but before after after.rings after.sent after.blocks after.overruns (one.same ∙ ap (λ (s : Sent). record s { rings = after.rings; sent = after.sent; blocks = after.blocks; overruns = after.overruns }) first.same);
  }
    where
      losses : (recorder : ℕ) → (recorder ≡ k → ⊥) → overruns_on after.overruns recorder ≡ overruns_on between.overruns recorder
      losses recorder apart = ap (λ (os : List Overrun). overruns_on os recorder) one.more ∙ overruns-other between.overruns one.overruns cycle k recorder apart one.now

      channels : channels_at between k ≡ channels_at before k
      channels = ap (λ (s : Sent). channels_at s k) first.same

      here : PutsOne cycle k (is_taped nodes k) (block_by rack nodes period (channels_at before k) k) (ring_at before k) (ring_at after k) (overruns_on before.overruns k) (overruns_on after.overruns k)
      here =
          subst (λ (q : ℕ × Sending × List Overrun). PutsOne cycle k (is_taped nodes k) (block_by rack nodes period q.0 k) q.1 (ring_at after k) q.2 (overruns_on after.overruns k))
          (λ i. (channels i, first.rings_later k (omega arith) i, first.overruns_later k (omega arith) i)) one.at

      at_each : (recorder : ℕ) → recorder < k + 1 → (recorder ≡ k) ⊎ (recorder ≡ k → ⊥)
          → PutsOne cycle recorder (is_taped nodes recorder) (block_by rack nodes period (channels_at before recorder) recorder) (ring_at before recorder) (ring_at after recorder) (overruns_on before.overruns recorder) (overruns_on after.overruns recorder)
      at_each recorder low (inl same) =
          subst (λ (n : ℕ). PutsOne cycle n (is_taped nodes n) (block_by rack nodes period (channels_at before n) n) (ring_at before n) (ring_at after n) (overruns_on before.overruns n) (overruns_on after.overruns n)) (sym same) here
      at_each recorder low (inr apart) =
          subst (λ (q : Sending × List Overrun). PutsOne cycle recorder (is_taped nodes recorder) (block_by rack nodes period (channels_at before recorder) recorder) (ring_at before recorder) q.0 (overruns_on before.overruns recorder) q.1)
          (λ i. (sym (one.others recorder apart) i, sym (losses recorder apart) i)) (first.each recorder (earlier recorder low apart))
        where
          earlier : (recorder : ℕ) → recorder < k + 1 → (recorder ≡ k → ⊥) → recorder < k
          earlier recorder low apart = go (cases_lt recorder k)
            where
              go : (recorder < k) ⊎ (k ≤ recorder) → recorder < k
              go (inl h) = h
              go (inr h) = absurd (apart (omega (arith, low, h)))

  pub sent-all : (before after : Sent) (count : ℕ) → count ≡ length before.rings → SendsFirst rack nodes cycle period count before after → Sends rack nodes cycle period before after
  sent-all before after count is first = record {
    each = λ recorder low. first.each recorder (omega (arith, low, is));
    as_many = first.as_many;
    overruns = first.overruns;
    more = first.more;
    now = All-weaker (λ (o : Overrun). (o.cycle ≡ cycle) × (o.recorder < count)) (λ (o : Overrun). (o.cycle ≡ cycle) × (o.recorder < length before.rings)) (λ o h. (h.0, omega (arith, h.1, is))) first.overruns first.now;
    few = omega (arith, first.few, is);
    counted = first.counted;
    same = first.same;
  }
