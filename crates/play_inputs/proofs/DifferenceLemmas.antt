-- What it says that nothing differs.
use Rattle.std.proofs.Common.{◌≡◌, ◌≤◌, ℕ, arith, length, refl}
use Rattle.std.specs.Prelude.{◌==◌, Bool, None, Some, true, false, nat_lt, not, if◌then◌else◌}
use Rattle.jack_types.specs.declared.files.Format.{Format}
use Rattle.jack_types.specs.declared.scripts.Header.{Header}
use Rattle.session_model.specs.Scripts.{Script}
use Rattle.script_needs.specs.task_laws.specs.Calls.{guests_needed}
use Rattle.play_inputs.specs.declared.status.Difference.{Difference}
use Rattle.play_inputs.specs.declared.status.What.TheVariants.{Channels, Disks, Guests, Rate, Records}
use Rattle.play_inputs.specs.Inputs.{difference_in, first_difference}

same_of : (a b : ℕ) → (a == b) ≡ true → a ≡ b
same_of a b e = grind arith

least_of : (a b : ℕ) → nat_lt a b ≡ false → b ≤ a
least_of a b e = grind arith

both_hold : (a b : Bool) (x y : Difference) → (if not a then Some x else if not b then Some y else None) ≡ None → (a ≡ true) × (b ≡ true)
both_hold true true x y e = (refl, refl)
both_hold true false x y e = cc
both_hold false b x y e = cc

all_hold : (a b c : Bool) (x y z : Difference) → (if a then Some x else if not b then Some y else if not c then Some z else None) ≡ None → (a ≡ false) × (b ≡ true) × (c ≡ true)
all_hold true b c x y z e = cc
all_hold false b c x y z e = let rest = both_hold b c y z e in (refl, rest.0, rest.1)

-- there are as many guests as are needed, and a name for each recorder and each disk file
pub all_fit : (script : Script) (guests records disks : ℕ) → first_difference script guests records disks ≡ None
    → (guests_needed script ≤ guests) × (length script.header.recorders ≡ records) × (length script.header.disks ≡ disks)
all_fit script guests records disks e =
    let header = script.header in
    let recorders : ℕ = length header.recorders in
    let files : ℕ = length header.disks in
    let are = all_hold (nat_lt guests (guests_needed script)) (recorders == records) (files == disks)
    (record { what = Guests; script = guests_needed script; given = guests }) (record { what = Records; script = recorders; given = records })
    (record { what = Disks; script = files; given = disks }) e in
    (least_of guests (guests_needed script) are.0, same_of recorders records are.1, same_of files disks are.2)

-- the rate and the channels are the script's
pub format_fits : (header : Header) (format : Format) → difference_in header format ≡ None → (header.rate ≡ format.rate) × (header.capture ≡ format.channels)
format_fits header format e =
    let are = both_hold (header.rate == format.rate) (header.capture == format.channels)
    (record { what = Rate; script = header.rate; given = format.rate }) (record { what = Channels; script = header.capture; given = format.channels }) e in
    (same_of header.rate format.rate are.0, same_of header.capture format.channels are.1)
