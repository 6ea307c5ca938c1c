use Rattle.std.proofs.Common.{map, refl}
use Rattle.std.specs.Prelude.{[], ◌∷◌, codes, string_bytes, if◌then◌else◌, ◌==◌}
use Rattle.grammar_laws.specs.session_model.specs.Grammar.{body_slots, event_slots, number_slots, recorder_slots, required_lines}
use Rattle.script_text.specs.Printing.{first_lists}
use Rattle.script_text.proofs.PrintingLemmas.{all-printed}
use Rattle.script_text.proofs.script.printed.Goals as goal

pub returns : goal.returns
returns c =
    all-printed (record { header = c.args.header.now; events = map (λ list. list.items) c.args.events.now; lines = c.args.lines.now })
    (required_lines c.args.header.now)
    (number_slots (codes "ring") c.args.header.now.ring ∷ [])
    (number_slots (codes "drain") c.args.header.now.drain ∷ [])
    (if c.args.header.now.version == 3 then number_slots (codes "fill") c.args.header.now.fill ∷ [] else [])
    (map recorder_slots c.args.header.now.recorders)
    (map (number_slots (codes "disk")) c.args.header.now.disks)
    (map event_slots (first_lists (map (λ list. list.items) c.args.events.now) 16))
    (map body_slots c.args.lines.now)
    (string_bytes c.put_required.new.text) (string_bytes c.put_ring.new.text) (string_bytes c.put_drain.new.text) (string_bytes c.put_fill.new.text) (string_bytes c.put_recorders.new.text) (string_bytes c.put_disks.new.text) (string_bytes c.put_events.new.text) (string_bytes c.put_bodies.new.text)
    refl
    (rw c.new-text.ensures.bytes at c.in_ok-put_required.ensures)
    c.in_ok-put_ring.ensures
    c.in_ok-put_drain.ensures
    c.in_ok-put_fill.ensures
    (rw c.as_slice.ensures.value at c.in_ok-put_recorders.ensures)
    (rw c.as_slice-2.ensures.value at c.in_ok-put_disks.ensures)
    c.in_ok-put_events.ensures
    c.in_ok-put_bodies.ensures
