-- A recorder's file may be written on, and its ring has its two ends. Callers cite this module.
--     MayGive recording      what `give_up` requires of it
--     opened-may      behind `new` and `attach`, over a new ring
--     given-may, given-pair      behind each `give_up`
use Rattle.std.proofs.Common.{◌≡◌, ◌∙◌, ℕ, ◌≤◌, false, None, Some, sym, ap, subst, arith}
use Rattle.jack_types.specs.declared.files.Format.{Format}
use Rattle.session_model.specs.WaveFiles.{IsFormat}
use Rattle.driver_words.specs.Rings.{Getting, IsOpening, IsPair, Renews, Sending, items_of}
use Rattle.driver_words.specs.Tapes.{Tape}
use Rattle.disk_recorder.specs.Recordings.{MayWrite}
use Rattle.recorder_files.specs.Recorders.{GivesUp, Recording, Reel}

-- its file is there, and may be written
abbrev pub MayGive : Recording → Type 0
MayGive recording = (tape : Tape) × (recording.tape ≡ Some tape) × MayWrite recording.getting tape

-- a file that was begun
pub begun-may : (getting : Getting) (tape : Tape) → IsFormat tape.format → getting.most ≤ 1000000000 → items_of getting.got ≤ getting.most → tape.stopped ≡ false → tape.written ≡ 0 → MayWrite getting tape
begun-may getting tape lawful few got going none = record { going = going; lawful = lawful; few = few; got = got; written = omega (arith, none) }

-- the file of a recorder that was made over a new ring
pub opened-may : (capacity samples most : ℕ) (sending : Sending) (getting : Getting) (format : Format) (recording after : Recording) (tape : Tape) → IsOpening capacity samples most sending getting → most ≤ 1000000000 → IsFormat format
    → recording ≡ record { format = format; getting = getting; tape = None; store = None; blocks = 0 } → after ≡ record recording { tape = Some tape } → tape.stopped ≡ false → tape.format ≡ recording.format → tape.written ≡ 0 → MayGive after
opened-may capacity samples most sending getting format recording after tape opens few lawful made begun going same none =
    let most_is : getting.most ≡ most = ap (λ (g : Getting). g.most) opens.getting_is in
    let got_none : items_of getting.got ≡ 0 = ap (λ (g : Getting). items_of g.got) opens.getting_is in
    let getting_is : after.getting ≡ getting = ap (λ (r : Recording). r.getting) begun ∙ ap (λ (r : Recording). r.getting) made in
    let format_is : tape.format ≡ format = same ∙ ap (λ (r : Recording). r.format) made in (
      tape,
      ap (λ (r : Recording). r.tape) begun,
      subst (λ (g : Getting). MayWrite g tape) (sym getting_is) (begun-may getting tape (subst IsFormat (sym format_is) lawful) (omega (arith, few, most_is)) (omega (arith, got_none)) going none),
    )

-- where the two ends of the ring met
pub renewed-may : (sending : Sending) (getting : Getting) (tape : Tape) (sending_after : Sending) (getting_after : Getting) → MayWrite getting tape → Renews sending getting sending_after getting_after → MayWrite getting_after tape
renewed-may sending getting tape sending_after getting_after may renews =
    subst (λ (g : Getting). MayWrite g tape) (sym renews.getting_is) (record { going = may.going; lawful = may.lawful; few = may.few; got = may.got; written = may.written })

-- they are one ring's behind it too
pub renewed-pair : (sending : Sending) (getting : Getting) (sending_after : Sending) (getting_after : Getting) → IsPair sending getting → Renews sending getting sending_after getting_after → IsPair sending_after getting_after
renewed-pair sending getting sending_after getting_after pair renews = record {
  one = ap (λ (s : Sending). s.table) renews.sending_is ∙ pair.one ∙ sym (ap (λ (g : Getting). g.table) renews.getting_is);
  same_samples = ap (λ (s : Sending). s.samples) renews.sending_is ∙ pair.same_samples ∙ sym (ap (λ (g : Getting). g.samples) renews.getting_is);
  same_most = ap (λ (s : Sending). s.most) renews.sending_is ∙ pair.same_most ∙ sym (ap (λ (g : Getting). g.most) renews.getting_is);
}

-- where blocks went from the ring to the file
pub given-may : (most : ℕ) (before after : Reel) → GivesUp most before after → MayWrite after.getting after.tape
given-may most before after gives = renewed-may gives.ring_met gives.written after.tape after.ring after.getting gives.drains.writes.may gives.second

-- and its ends are still one ring's
pub given-pair : (most : ℕ) (before after : Reel) → IsPair before.ring before.getting → GivesUp most before after → IsPair after.ring after.getting
given-pair most before after pair gives =
    let met : IsPair gives.ring_met gives.got_met = renewed-pair before.ring before.getting gives.ring_met gives.got_met pair gives.first in
    let same = gives.drains.writes.same in
    renewed-pair gives.ring_met gives.written after.ring after.getting
    (record { one = met.one ∙ sym same.table; same_samples = met.same_samples ∙ sym same.room; same_most = met.same_most ∙ sym same.most }) gives.second
