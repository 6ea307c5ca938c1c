-- What a cycle gets, disk by disk.
--     may-next      the next disk's block may be got
--     got-none, got-next, got-all      no block, one block more, and all
use Rattle.std.proofs.Common.{◌≡◌, ℕ, ◌+◌, ◌*◌, ◌<◌, ◌≤◌, ◌⊎◌, inl, inr, Bool, false, List, [], ◌∷◌, ◌++◌, length, All, refl, sym, ◌∙◌, ap, subst, arith, append-nil, append_assoc, length-append}
use Rattle.std.specs.Prelude.{filter, ◌==◌}
use Rattle.std.proofs.lemmas.Bool.{cases_eq, cases_lt, ne_eqb}
use Rattle.std.proofs.lemmas.List.Elements.{All-append, All-head, All-nil, All-tail, All-weaker, filter-append}
use Rattle.jack_types.specs.declared.replies.Underrun.{Underrun}
use Rattle.session_model.specs.State.{OpenClient}
use Rattle.driver_words.specs.Rings.{Getting}
use Rattle.driver_laws.specs.Cycling.{GetsOne}
use Rattle.driver_laws.specs.Drivers.{underruns_on}
use Rattle.disk_feeds.specs.Cycling.{GetsAll, GetsAt, given_now, is_fed, played_by}
use Rattle.driver_words.specs.Feeding.{Fed, MayGet, block_at, channels_at, disk_at, played_at}
use Rattle.disk_feeds.specs.Steps.{GetsFirst, GetsOnly, MayGetOne}

filter-nothing : {X : Type 0} (p : X → Bool) (xs : List X) → All (λ x. p x ≡ false) xs → filter p xs ≡ []
filter-nothing p [] none = refl
filter-nothing p (x ∷ xs) none = rw (All-head (λ x. p x ≡ false) x xs none) (filter-nothing p xs (All-tail (λ x. p x ≡ false) x xs none))

-- underruns of one disk are none of another
underruns-other : (before more : List Underrun) (cycle disk other : ℕ) → (other ≡ disk → ⊥) → All (λ (underrun : Underrun). (underrun.cycle ≡ cycle) × (underrun.disk ≡ disk)) more
    → underruns_on (before ++ more) other ≡ underruns_on before other
underruns-other before more cycle disk other apart now =
    filter-append (λ (u : Underrun). u.disk == other) before more
    ∙ ap (λ (us : List Underrun). underruns_on before other ++ us) (filter-nothing (λ (u : Underrun). u.disk == other) more
    (All-weaker (λ (u : Underrun). (u.cycle ≡ cycle) × (u.disk ≡ disk)) (λ (u : Underrun). (u.disk == other) ≡ false) (λ u is. ne_eqb u.disk other (λ e. apart (sym e ∙ is.1))) more now))
    ∙ append-nil (underruns_on before other)

-- what was got of a disk, where what is seen of it is the same
at-later : (active : Bool) (cycle disk : ℕ) (before between after : Fed) → disk_at after disk ≡ disk_at between disk → block_at after disk ≡ block_at between disk → played_at after disk ≡ played_at between disk
    → underruns_on after.underruns disk ≡ underruns_on between.underruns disk → GetsAt active cycle disk before between → GetsAt active cycle disk before after
at-later active cycle disk before between after disks blocks played underruns at = record {
  gets = subst (λ (q : Getting × List Underrun). GetsOne cycle disk active (disk_at before disk) q.0 (underruns_on before.underruns disk) q.1) (λ j. (sym disks j, sym underruns j)) at.gets;
  gives = blocks ∙ at.gives ∙ ap (λ (g : Getting). given_now active (before.period * channels_at before disk) (disk_at before disk) g) (sym disks);
  counts = played ∙ at.counts ∙ ap (λ (g : Getting). played_by (disk_at before disk) g (played_at before disk)) (sym disks);
}

at-earlier : (active : Bool) (cycle disk : ℕ) (before between after : Fed) → disk_at between disk ≡ disk_at before disk → between.period * channels_at between disk ≡ before.period * channels_at before disk
    → played_at between disk ≡ played_at before disk → underruns_on between.underruns disk ≡ underruns_on before.underruns disk → GetsAt active cycle disk between after → GetsAt active cycle disk before after
at-earlier active cycle disk before between after disks size played underruns at = record {
  gets = subst (λ (q : Getting × List Underrun). GetsOne cycle disk active q.0 (disk_at after disk) q.1 (underruns_on after.underruns disk)) (λ j. (disks j, underruns j)) at.gets;
  gives = at.gives ∙ ap (λ (q : ℕ × Getting). given_now active q.0 q.1 (disk_at after disk)) (λ j. (size j, disks j));
  counts = at.counts ∙ ap (λ (q : Getting × ℕ). played_by q.0 (disk_at after disk) q.1) (λ j. (disks j, played j));
}

module _ (nodes : List OpenClient) (cycle : ℕ) where
  pub got-none : (before : Fed) → GetsFirst nodes cycle 0 before before
  got-none before = record {
    each = λ disk low. absurd (omega (arith, low));
    disks = λ disk high. refl;
    blocks = λ disk high. refl;
    played = λ disk high. refl;
    underruns_later = λ disk high. refl;
    as_many = refl;
    as_many_blocks = refl;
    as_many_counts = refl;
    underruns = [];
    more = sym (append-nil before.underruns);
    now = All-nil (λ (underrun : Underrun). (underrun.cycle ≡ cycle) × (underrun.disk < 0));
    few = omega arith;
    counted = λ counted. counted;
    same = refl;
  }

  pub may-next : (before between : Fed) (k : ℕ) → k < length before.disks → MayGet before → GetsFirst nodes cycle k before between → MayGetOne between k
  may-next before between k low may first = record {
    there = omega (arith, low, first.as_many);
    samples = ap (λ (ring : Getting). ring.samples) (first.disks k (omega arith)) ∙ may.periods k low ∙ sym (ap (λ (s : Fed). s.period * channels_at s k) first.same);
    misses = omega (arith, low, may.misses, first.few, longer, ap (λ (s : Fed). s.misses) first.same);
  }
    where
      longer : length between.underruns ≡ length before.underruns + length first.underruns
      longer = ap length first.more ∙ length-append before.underruns first.underruns

  pub got-next : (before between after : Fed) (k : ℕ) → GetsFirst nodes cycle k before between → GetsOnly (is_fed nodes k) cycle k between after → GetsFirst nodes cycle (k + 1) before after
  got-next before between after k first only = record {
    each = λ disk low. at_each disk low (cases_eq disk k);
    disks = λ disk high. only.disks disk (above disk high) ∙ first.disks disk (omega (arith, high));
    blocks = λ disk high. only.blocks disk (above disk high) ∙ first.blocks disk (omega (arith, high));
    played = λ disk high. only.played disk (above disk high) ∙ first.played disk (omega (arith, high));
    underruns_later = λ disk high. misses disk (above disk high) ∙ first.underruns_later disk (omega (arith, high));
    as_many = only.as_many ∙ first.as_many;
    as_many_blocks = only.as_many_blocks ∙ first.as_many_blocks;
    as_many_counts = only.as_many_counts ∙ first.as_many_counts;
    underruns = first.underruns ++ only.underruns;
    more = only.more ∙ ap (λ (us : List Underrun). us ++ only.underruns) first.more ∙ append_assoc before.underruns first.underruns only.underruns;
    now = All-append (λ (u : Underrun). (u.cycle ≡ cycle) × (u.disk < k + 1)) first.underruns only.underruns
        (All-weaker (λ (u : Underrun). (u.cycle ≡ cycle) × (u.disk < k)) (λ (u : Underrun). (u.cycle ≡ cycle) × (u.disk < k + 1)) (λ u is. (is.0, omega (arith, is.1))) first.underruns first.now)
        (All-weaker (λ (u : Underrun). (u.cycle ≡ cycle) × (u.disk ≡ k)) (λ (u : Underrun). (u.cycle ≡ cycle) × (u.disk < k + 1)) (λ u is. (is.0, omega (arith, is.1))) only.underruns only.now);
    few = omega (arith, first.few, only.few, length-append first.underruns only.underruns);
    counted = λ counted. only.counted (first.counted counted);
    same = only.same ∙ ap (λ (s : Fed). record s { disks = after.disks; played = after.played; blocks = after.blocks; underruns = after.underruns }) first.same;
  }
    where
      above : (disk : ℕ) → k + 1 ≤ disk → disk ≡ k → ⊥
      above disk high e = omega (arith, e, high)

      misses : (disk : ℕ) → (disk ≡ k → ⊥) → underruns_on after.underruns disk ≡ underruns_on between.underruns disk
      misses disk apart = ap (λ (us : List Underrun). underruns_on us disk) only.more ∙ underruns-other between.underruns only.underruns cycle k disk apart only.now

      here : GetsAt (is_fed nodes k) cycle k before after
      here =
          at-earlier (is_fed nodes k) cycle k before between after (first.disks k (omega arith)) (ap (λ (s : Fed). s.period * channels_at s k) first.same) (first.played k (omega arith)) (first.underruns_later k (omega arith)) only.at

      at_each : (disk : ℕ) → disk < k + 1 → (disk ≡ k) ⊎ (disk ≡ k → ⊥) → GetsAt (is_fed nodes disk) cycle disk before after
      at_each disk low (inl same) = subst (λ (n : ℕ). GetsAt (is_fed nodes n) cycle n before after) (sym same) here
      at_each disk low (inr apart) =
          at-later (is_fed nodes disk) cycle disk before between after (only.disks disk apart) (only.blocks disk apart) (only.played disk apart) (misses disk apart) (first.each disk (earlier disk low apart))
        where
          earlier : (disk : ℕ) → disk < k + 1 → (disk ≡ k → ⊥) → disk < k
          earlier disk low apart = go (cases_lt disk k)
            where
              go : (disk < k) ⊎ (k ≤ disk) → disk < k
              go (inl h) = h
              go (inr h) = absurd (apart (omega (arith, low, h)))

  pub got-all : (before after : Fed) (count : ℕ) → count ≡ length before.disks → GetsFirst nodes cycle count before after → GetsAll nodes cycle before after
  got-all before after count is first = record {
    each = λ disk low. first.each disk (omega (arith, low, is));
    as_many = first.as_many;
    as_many_blocks = first.as_many_blocks;
    as_many_counts = first.as_many_counts;
    underruns = first.underruns;
    more = first.more;
    now = All-weaker (λ (u : Underrun). (u.cycle ≡ cycle) × (u.disk < count)) (λ (u : Underrun). (u.cycle ≡ cycle) × (u.disk < length before.disks)) (λ u h. (h.0, omega (arith, h.1, is))) first.underruns first.now;
    few = omega (arith, first.few, is);
    counted = first.counted;
    same = first.same;
  }
