-- Disks in a session, from cycle to cycle.
--     gets-one      of each ring one get
--     periods-stay, up-to-next      what stays true
--     new-periods, new-counted, new-none      new disks
--     none-gets, none-changes      no disks
use Rattle.std.proofs.Common.{◌≡◌, ℕ, ◌+◌, ◌*◌, ◌<◌, ◌≤◌, Bool, List, [], ◌∷◌, ◌++◌, length, map, get_or, slice_get, All, Option, Some, None, ℤ, refl, sym, ◌∙◌, ap, ap₂, subst, arith, append-nil}
use Rattle.std.proofs.lemmas.List.{nil_from_length}
use Rattle.std.proofs.lemmas.List.Elements.{All-append, All-head, All-nil, All-tail, All-weaker}
use Rattle.std.proofs.lemmas.Option.{get_or_from_slice_get, slice_get_within}
use Rattle.jack_types.specs.declared.replies.Underrun.{Underrun}
use Rattle.session_model.specs.State.{OpenClient}
use Rattle.driver_words.specs.Rings.{Getting, Sending}
use Rattle.driver_laws.specs.Cycling.{GetsOne, Silent, Heard, Over, Missed}
use Rattle.driver_laws.specs.Drivers.{underruns_on}
use Rattle.driver_laws.specs.Openings.{IsEmptyDisk}
use Rattle.disk_feeds.specs.Cycling.{GetsAll, is_fed}
use Rattle.driver_words.specs.Feeding.{AreCounted, AreForPeriods, AreUpTo, Fed, HasNoDisks, MayGet, channels_at, disk_at, no_ring}
use Rattle.disk_feeds.specs.Openings.{IsNew}
use Rattle.disk_feeds.proofs.OpeningLemmas.{HasEnds}

pub gets-one : (nodes : List OpenClient) (cycle : ℕ) (before after : Fed) → GetsAll nodes cycle before after → (disk : ℕ) (got got_after : Getting) → slice_get before.disks disk ≡ Some got → slice_get after.disks disk ≡ Some got_after
    → GetsOne cycle disk (is_fed nodes disk) got got_after (underruns_on before.underruns disk) (underruns_on after.underruns disk)
gets-one nodes cycle before after all disk got got_after here here_after =
    subst (λ (q : Getting × Getting). GetsOne cycle disk (is_fed nodes disk) q.0 q.1 (underruns_on before.underruns disk) (underruns_on after.underruns disk))
    (λ j. (get_or_from_slice_get before.disks disk got no_ring here j, get_or_from_slice_get after.disks disk got_after no_ring here_after j))
    (all.each disk (slice_get_within before.disks disk got here)).gets

-- a get leaves the ring for blocks of as many samples
samples-stay : (k disk : ℕ) (active : Bool) (before after : Getting) (misses misses_after : List Underrun) → GetsOne k disk active before after misses misses_after → after.samples ≡ before.samples
samples-stay k disk active before after misses misses_after (Silent idle same none) = ap (λ (g : Getting). g.samples) same
samples-stay k disk active before after misses misses_after (Heard one found on gets none) = ap (λ (g : Getting). g.samples) gets.3
samples-stay k disk active before after misses misses_after (Over one found on gets none) = ap (λ (g : Getting). g.samples) gets.2
samples-stay k disk active before after misses misses_after (Missed one found on gets more) = ap (λ (g : Getting). g.samples) gets.6

pub periods-stay : (nodes : List OpenClient) (cycle : ℕ) (before after : Fed) → GetsAll nodes cycle before after → AreForPeriods before → AreForPeriods after
periods-stay nodes cycle before after all periods = λ disk low.
    let there : disk < length before.disks = omega (arith, low, all.as_many) in
    samples-stay cycle disk (is_fed nodes disk) (disk_at before disk) (disk_at after disk) (underruns_on before.underruns disk) (underruns_on after.underruns disk) (all.each disk there).gets
    ∙ periods disk there
    ∙ sym (ap (λ (s : Fed). s.period * channels_at s disk) all.same)

pub up-to-next : (nodes : List OpenClient) (k : ℕ) (before after : Fed) → GetsAll nodes (k + 1) before after → AreUpTo k before → AreUpTo (k + 1) after
up-to-next nodes k before after all earlier =
    subst (λ (us : List Underrun). All (λ (u : Underrun). u.cycle ≤ k + 1) us) (sym all.more)
    (All-append (λ (u : Underrun). u.cycle ≤ k + 1) before.underruns all.underruns
    (All-weaker (λ (u : Underrun). u.cycle ≤ k) (λ (u : Underrun). u.cycle ≤ k + 1) (λ u low. omega (arith, low)) before.underruns earlier)
    (All-weaker (λ (u : Underrun). (u.cycle ≡ k + 1) × (u.disk < length before.disks)) (λ (u : Underrun). u.cycle ≤ k + 1) (λ u is. omega (arith, is.0)) all.underruns all.now))

-- ---- new disks

new-samples : (capacity samples : ℕ) (ring : Getting) (o : Option Sending) → HasEnds capacity samples o ring → ring.samples ≡ samples
new-samples capacity samples ring None h = absurd h
new-samples capacity samples ring (Some sending) h = ap (λ (g : Getting). g.samples) h.getting_is

pub new-periods : (channels : List ℕ) (capacity period misses : ℕ) (seen : Fed) → IsNew channels capacity period misses seen → AreForPeriods seen
new-periods channels capacity period misses seen is = λ disk low.
    new-samples capacity (period * get_or channels disk 0) (disk_at seen disk) (get_or seen.out disk None) (is.opened.each disk (omega (arith, low, is.opened.as_many)))
    ∙ ap₂ (λ (n : ℕ) (counts : List ℕ). n * get_or counts disk 0) (sym is.period_is) (sym is.channels_are)

none-got : (disks : List Getting) (channels : List ℕ) → length disks ≡ length channels → All IsEmptyDisk disks → map (λ (g : Getting). length g.got) disks ≡ map (λ _. 0) channels
none-got [] [] same empty = refl
none-got [] (n ∷ channels) same empty = absurd (omega (arith, same))
none-got (g ∷ disks) [] same empty = absurd (omega (arith, same))
none-got (g ∷ disks) (n ∷ channels) same empty =
    ap₂ (λ (m : ℕ) (ms : List ℕ). m ∷ ms) (ap length (All-head IsEmptyDisk g disks empty).blocks) (none-got disks channels (omega (arith, same)) (All-tail IsEmptyDisk g disks empty))

pub new-counted : (channels : List ℕ) (capacity period misses : ℕ) (seen : Fed) → IsNew channels capacity period misses seen → AreCounted seen
new-counted channels capacity period misses seen is = none-got seen.disks channels is.opened.as_many is.empty ∙ sym is.played

pub new-up-to : (channels : List ℕ) (capacity period misses : ℕ) (seen : Fed) → IsNew channels capacity period misses seen → AreUpTo 0 seen
new-up-to channels capacity period misses seen is = subst (λ (us : List Underrun). All (λ (u : Underrun). u.cycle ≤ 0) us) (sym is.underruns) (All-nil (λ (u : Underrun). u.cycle ≤ 0))

pub new-none : (capacity period misses : ℕ) (seen : Fed) → IsNew [] capacity period misses seen → HasNoDisks seen
new-none capacity period misses seen is = record { disks = nil_from_length seen.disks is.opened.as_many; played = is.played; blocks = is.blocks }

-- ---- no disks

pub none-may : (seen : Fed) → HasNoDisks seen → length seen.underruns ≤ seen.misses → MayGet seen
none-may seen none room = record {
  periods = λ disk low. absurd (omega (arith, low, ap length none.disks));
  misses = omega (arith, room, ap length none.disks);
}

pub none-gets : (nodes : List OpenClient) (cycle : ℕ) (seen : Fed) → HasNoDisks seen → GetsAll nodes cycle seen seen
none-gets nodes cycle seen none = record {
  each = λ disk low. absurd (omega (arith, low, ap length none.disks));
  as_many = refl;
  as_many_blocks = refl;
  as_many_counts = refl;
  underruns = [];
  more = sym (append-nil seen.underruns);
  now = All-nil (λ (u : Underrun). (u.cycle ≡ cycle) × (u.disk < length seen.disks));
  few = omega arith;
  counted = λ counted. counted;
  same = refl;
}

pub none-changes : (nodes : List OpenClient) (cycle : ℕ) (seen after : Fed) → HasNoDisks seen → GetsAll nodes cycle seen after → after ≡ seen
none-changes nodes cycle seen after none all =
    all.same
    ∙ ap (λ (q : List Getting × List ℕ × List (Option (List ℤ)) × List Underrun). record seen { disks = q.0; played = q.1; blocks = q.2; underruns = q.3 })
    (λ j. (
      (nil_from_length after.disks (all.as_many ∙ ap length none.disks) ∙ sym none.disks) j,
      (nil_from_length after.played (all.as_many_counts ∙ ap length none.played) ∙ sym none.played) j,
      (nil_from_length after.blocks (all.as_many_blocks ∙ ap length none.blocks) ∙ sym none.blocks) j,
      (all.more ∙ ap (λ (us : List Underrun). seen.underruns ++ us) (nil_from_length all.underruns (omega (arith, all.few, ap length none.disks))) ∙ append-nil seen.underruns) j,
    ))
