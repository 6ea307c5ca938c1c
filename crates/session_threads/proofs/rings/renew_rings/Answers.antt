use Rattle.std.proofs.Common.{◌≡◌, ◌<◌, ◌≤◌, ◌+◌, List, length, set, sym, ◌∙◌, ap, ap₂, subst}
use Rattle.std.proofs.lemmas.Option.{slice_get-get_or, slice_get_read}
use Rattle.driver_words.specs.Rings.{Sending}
use Rattle.session_works.specs.Drivers.{Gear}
use Rattle.recorder_rings.specs.Sending.{no_ring, ring_at}
use Rattle.thread_laws.specs.Segments.{Renewed}
use Rattle.session_works.specs.Insides.{parts_with, seen_with}
use Rattle.session_works.specs.Parts.{Parts, session_of}
use Rattle.session_threads.proofs.RenewLemmas.{RenewedUpTo, may-renew, renewed-all, renewed-keep, renewed-more, renewed-parts}
use Rattle.session_works.proofs.RingLemmas.{AreEach}
use Rattle.session_works.proofs.StayLemmas.{stay-given}
use Rattle.session_threads.proofs.rings.renew_rings.Goals as goal

pub renew_one-requires-clause-there : goal.renew_one-requires-clause-there
renew_one-requires-clause-there g c = low
  where
    many : length c.args.recorders.now.items ≡ length c.args.driver.now.rings.rings
    many = sym c.requires.pairs.as_many

    here : c.loop-recorder.recorder < length c.args.recorders.now.items
    here = subst (λ n. c.loop-recorder.recorder < n) (c.len-recorder-end.ensures ∙ c.args.recorders.now.ok.0) c.loop-recorder-test.true

    low : c.loop-recorder.recorder < length c.loop-recorder.driver.rings.rings
    low = subst (λ n. c.loop-recorder.recorder < n) (many ∙ sym c.loop-recorder.invariant.renewed.rings_same) here

pub renew_one-requires-clause-pair : goal.renew_one-requires-clause-pair
renew_one-requires-clause-pair g c =
    may-renew c.loop-recorder.recorder c.args.driver.now c.args.recorders.now.items c.loop-recorder.driver.rings.rings c.loop-recorder.recorders.items (ring_at c.loop-recorder.driver.rings c.loop-recorder.recorder) c.index_mut.result.now
    c.requires.pairs c.loop-recorder.invariant.renewed here
    (slice_get-get_or c.loop-recorder.driver.rings.rings c.loop-recorder.recorder no_ring (subst (λ n. c.loop-recorder.recorder < n) (many ∙ sym c.loop-recorder.invariant.renewed.rings_same) here))
    (slice_get_read c.loop-recorder.recorders.items (length c.args.recorders.now.items) c.loop-recorder.recorder c.index_mut.result.now (sym c.loop-recorder.invariant.renewed.recordings_same) here c.index_mut.ensures.value)
  where
    many : length c.args.recorders.now.items ≡ length c.args.driver.now.rings.rings
    many = sym c.requires.pairs.as_many

    here : c.loop-recorder.recorder < length c.args.recorders.now.items
    here = subst (λ n. c.loop-recorder.recorder < n) (c.len-recorder-end.ensures ∙ c.args.recorders.now.ok.0) c.loop-recorder-test.true

pub loop-recorder-preserved : goal.loop-recorder-preserved
loop-recorder-preserved g c = record {
  renewed =
      subst (λ (rings : List Sending). AreEach (RenewedUpTo (c.loop-recorder.recorder + 1)) c.args.driver.now.rings.rings c.args.recorders.now.items rings (set c.loop-recorder.recorders.items c.loop-recorder.recorder c.renew_one.new.recorder))
      (sym (ap (λ (gear : Gear). gear.rings.rings) c.renew_one.ensures.driver))
      (renewed-more c.loop-recorder.recorder c.args.driver.now.rings.rings c.args.recorders.now.items c.loop-recorder.driver.rings.rings c.loop-recorder.recorders.items (ring_at c.loop-recorder.driver.rings c.loop-recorder.recorder)
      (ring_at c.renew_one.new.driver.rings c.loop-recorder.recorder) c.index_mut.result.now c.renew_one.new.recorder
      (slice_get-get_or c.loop-recorder.driver.rings.rings c.loop-recorder.recorder no_ring (subst (λ n. c.loop-recorder.recorder < n) (many ∙ sym c.loop-recorder.invariant.renewed.rings_same) here))
      (slice_get_read c.loop-recorder.recorders.items (length c.args.recorders.now.items) c.loop-recorder.recorder c.index_mut.result.now (sym c.loop-recorder.invariant.renewed.recordings_same) here c.index_mut.ensures.value)
      (record { renews = c.renew_one.ensures.renews; same = c.renew_one.ensures.recorder }) c.loop-recorder.invariant.renewed);
  driver = moved;
}
  where
    many : length c.args.recorders.now.items ≡ length c.args.driver.now.rings.rings
    many = sym c.requires.pairs.as_many

    here : c.loop-recorder.recorder < length c.args.recorders.now.items
    here = subst (λ n. c.loop-recorder.recorder < n) (c.len-recorder-end.ensures ∙ c.args.recorders.now.ok.0) c.loop-recorder-test.true

    moved : c.renew_one.new.driver ≡ record c.args.driver.now { rings = record c.args.driver.now.rings { rings = c.renew_one.new.driver.rings.rings } }
    moved =
        c.renew_one.ensures.driver ∙ ap₂ (λ (gear : Gear) (xs : List Sending). record gear { rings = record gear.rings { rings = xs } }) c.loop-recorder.invariant.driver (sym (ap (λ (gear : Gear). gear.rings.rings) c.renew_one.ensures.driver))

pub returns-clause-renewed : goal.returns-clause-renewed
returns-clause-renewed g c aside =
    subst (λ (parts : Parts). Renewed (seen_with g.G.Guest.sound aside c.args.driver.now c.args.recorders.now.items) (session_of g.G.Guest.sound parts)) (sym (ap (λ (gear : Gear). parts_with aside gear c.loop-recorder.recorders.items) c.loop-recorder.invariant.driver))
    (renewed-parts g.G.Guest.sound (parts_with aside c.args.driver.now c.args.recorders.now.items) c.loop-recorder.driver.rings.rings c.loop-recorder.recorders.items (sym many)
    (renewed-all c.loop-recorder.recorder _ _ _ _ (subst (λ n. n ≤ c.loop-recorder.recorder) (c.len-recorder-end.ensures ∙ c.args.recorders.now.ok.0) c.loop-recorder-test.false) c.loop-recorder.invariant.renewed))
  where
    many : length c.args.recorders.now.items ≡ length c.args.driver.now.rings.rings
    many = sym c.requires.pairs.as_many

pub returns-clause-stays : goal.returns-clause-stays
returns-clause-stays g c aside files =
    stay-given g.G.Guest.sound aside c.args.driver.now c.loop-recorder.driver c.args.recorders.now.items c.loop-recorder.recorders.items c.loop-recorder.invariant.driver files
    c.loop-recorder.invariant.renewed.recordings_same
    (renewed-keep (parts_with aside c.args.driver.now c.args.recorders.now.items) (parts_with aside c.loop-recorder.driver c.loop-recorder.recorders.items) files
    (c.loop-recorder.invariant.renewed.rings_same ∙ c.requires.pairs.as_many ∙ sym c.loop-recorder.invariant.renewed.recordings_same) (renewed-all c.loop-recorder.recorder _ _ _ _ (subst (λ n. n ≤ c.loop-recorder.recorder) (c.len-recorder-end.ensures ∙ c.args.recorders.now.ok.0) c.loop-recorder-test.false) c.loop-recorder.invariant.renewed))
