-- Why a play failed.
--     ok-known, ok-behind, err-behind, err-any      what is known of a result
--     rose-handed, rose-source      a fault of the capture, or of a source, which was handed back
--     faults-one, faults-none      a disk file's faults among those of all
--     rose-written      a fault of a file
use Rattle.std.proofs.Common.{◌≡◌, ℕ, zero, suc, ◌≤◌, ◌⊎◌, inl, inr, Bool, false, List, [], ◌∷◌, Some, Result, Ok, Err, is_ok, OnErr, OnOk, ap, refl, slice_get, sym, ◌∙◌, arith, true≢false}
use Rattle.std.specs.Prelude.{IsOk}
use Rattle.std.proofs.lemmas.List.Sums.{sum_by-cons}
use Rattle.std.proofs.lemmas.Option.{none-some, same_Some}
use Rattle.jack_host.specs.Causes.{Adds, Rose}
use Rattle.recorder_files.specs.Recorders.{Stored}
use Rattle.session_run.specs.Seen.{OfCapture, OfDisk, Parts, Playing, SourceRose}
use Rattle.session_run.proofs.PassedLemmas.{rose-mono}
use Rattle.jack_control.specs.Files.{AreRaised, OneFailed}
use Rattle.jack_control.specs.Openings.{AreFaultless, faults_in}

pub ok-known : {T E : Type 0} (r : Result T E) (P : Type 0) → IsOk r → OnOk r P → P
ok-known (Ok x) P is held = held
ok-known (Err e) P is held = absurd (true≢false (sym is))

pub ok-behind : {T E : Type 0} (r : Result T E) {P Q : Type 0} → (P → Q) → OnOk r P → OnOk r Q
ok-behind (Ok x) f held = f held
ok-behind (Err e) f held = tt

pub err-behind : {T E : Type 0} (r : Result T E) {P Q : Type 0} → (P → Q) → OnErr r P → OnErr r Q
err-behind (Ok x) f held = tt
err-behind (Err e) f held = f held

pub err-any : {T E : Type 0} (r : Result T E) {P : Type 0} → P → OnErr r P
err-any (Ok x) held = tt
err-any (Err e) held = held

-- the capture's count rose, and the host took it up
pub rose-handed : (was now before more after earlier : ℕ) → Rose was now → now ≡ more → Adds before more after → before ≡ earlier → Rose earlier after
rose-handed was now before more after earlier rose same adds is =
    let taken = adds.taken_up in
    omega (arith, rose, same, taken, is)

-- a disk file's faults are among those of all
pub faults-one : (players : List Playing) (disk : ℕ) (player : Playing) → slice_get players disk ≡ Some player → player.faults ≤ faults_in players
faults-one [] disk player is = absurd (none-some player is)
faults-one (p ∷ ps) zero player is =
    let one : p.faults ≡ player.faults = ap (λ (q : Playing). q.faults) (same_Some p player is) in
    let all = sum_by-cons (λ (q : Playing). q.faults) p ps in
    omega (arith, one, all)
faults-one (p ∷ ps) (suc disk) player is =
    let rest = faults-one ps disk player is in
    let all = sum_by-cons (λ (q : Playing). q.faults) p ps in
    omega (arith, rest, all)

pub faults-none : (players : List Playing) → AreFaultless players → faults_in players ≡ 0
faults-none [] none = refl
faults-none (p ∷ ps) none =
    let one = none 0 p refl in
    let rest = faults-none ps (λ disk player is. none (suc disk) player is) in
    let all = sum_by-cons (λ (q : Playing). q.faults) p ps in
    omega (arith, one, rest, all)

-- the count of a source rose, and the host took up those of the disks and that of the capture
pub rose-source : (before after : Parts) (players : List Playing) (more start first last : ℕ) → SourceRose before after → players ≡ after.players → more ≡ after.gear.capture.reading.faults
    → Adds start (faults_in players) first → Adds first more last → Rose start last
rose-source before after players more start first last (OfCapture rose) are same disks capture =
    let one = disks.later in
    let two = capture.taken_up in
    omega (arith, rose, same, one, two)
rose-source before after players more start first last (OfDisk disk old new was is rose) are same disks capture =
    let one = faults-one players disk new (ap (λ (ps : List Playing). slice_get ps disk) are ∙ is) in
    let two = disks.taken_up in
    let three = capture.later in
    omega (arith, rose, one, two, three)

failed-rose : {T E : Type 0} (r : Result T E) (before now : ℕ) → OnErr r (Rose before now) → is_ok r ≡ false → Rose before now
failed-rose (Ok x) before now failed is = absurd (true≢false is)
failed-rose (Err e) before now failed is = failed

-- a count rose when the files were made, a store of one had counted a fault, or one could not be handed back
pub rose-written : {T E : Type 0} (r : Result T E) (stores : List Stored) (told : Bool) (old made done new sink sink_after : ℕ) (performed : Type 0) → told ≡ is_ok r → old ≤ made → made ≤ done → OnErr r (Rose made done) → AreRaised stores made done → new ≡ done
    → (performed → Rose old made ⊎ OneFailed stores) → performed ⊎ (told ≡ false) ⊎ Rose sink sink_after → Rose old new ⊎ Rose sink sink_after
rose-written r stores told old made done new sink sink_after performed told_is first last failed raised same wrote fault = go fault
  where
    late : Rose made done → Rose old new
    late rose = rose-mono old made done new first rose (omega (arith, same))

    early : Rose old made ⊎ OneFailed stores → Rose old new
    early (inl rose) = rose-mono old old made new (omega arith) rose (omega (arith, last, same))
    early (inr one) = late (raised one.0 one.1 one.2 one.3)

    go : performed ⊎ (told ≡ false) ⊎ Rose sink sink_after → Rose old new ⊎ Rose sink sink_after
    go (inl is) = inl (early (wrote is))
    go (inr (inl is)) = inl (late (failed-rose r made done failed (sym told_is ∙ is)))
    go (inr (inr rose)) = inr rose
