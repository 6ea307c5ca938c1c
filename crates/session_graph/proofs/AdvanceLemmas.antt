-- From place to place, up to a cycle.
--     advance      what a line's place says of the next one
use Rattle.std.proofs.Common.{◌≡◌, ◌≢◌, ℕ, ◌+◌, ◌<◌, ◌≤◌, Bool, true, false, cond, ◌==◌, ◌&&◌, nat_lt, [], ◌∷◌, length, Some, None, refl, sym, ◌∙◌, ap, subst, arith, ne_eqb, eqb-true}
use Rattle.std.proofs.lemmas.Bool.Decides.{nat_tests}
use Rattle.session_laws.proofs.ListLemmas.{slice-some}
use Rattle.check_laws.proofs.PlaceLists.{none-some}
use Rattle.report_reader.specs.declared.rows.CycleLine.{CycleLine}
use Rattle.report_reader.specs.declared.rows.Line.{Line}
use Rattle.report_reader.specs.declared.rows.Line.TheVariants.{Report, Call, Cycle, Meter, Midi, Recorder, Overrun, Disk, Underrun, End}
use Rattle.report_laws.specs.Places.{in_meters, next}
use Rattle.report_laws.specs.declared.places.Limits.{Limits}
use Rattle.report_laws.specs.declared.places.Place.{Place}
use Rattle.report_laws.specs.declared.places.Place.TheVariants.{Start, Calls, Cycles, Meters, Events, Recorders, Disks, Done}
use Rattle.session_graph.specs.Fronts.{IsBefore, calls_in}
use Rattle.session_graph.specs.Readings.{IsNear}

-- where a cycle is still to come, no line of a later kind may
closed : (limits : Limits) (cycles : ℕ) (line : Line) → cycles < limits.cycles → cond (cycles == limits.cycles) (in_meters limits 0 line) None ≡ None
closed limits cycles line few = ap (λ b. cond b (in_meters limits 0 line) None) (ne_eqb cycles limits.cycles (λ e. omega (arith, few, e)))

-- behind a call, behind the line of a cycle, or behind the first line
abbrev pub Advances : Limits → ℕ → ℕ → ℕ → Place → Line → Type 0
Advances limits cycle number count behind Report = IsBefore cycle behind × IsNear limits behind (number + 1) count
Advances limits cycle number count behind (Call call) = IsBefore cycle behind × IsNear limits behind (number + 1) (count + 1)
Advances limits cycle number count behind (Cycle told) = (behind ≡ Cycles told.cycle) × (told.cycle ≢ cycle → IsBefore cycle behind) × IsNear limits behind (number + 1) count
Advances limits cycle number count behind (Meter meter) = ⊥
Advances limits cycle number count behind (Midi event) = ⊥
Advances limits cycle number count behind (Recorder lines) = ⊥
Advances limits cycle number count behind (Overrun loss) = ⊥
Advances limits cycle number count behind (Disk lines) = ⊥
Advances limits cycle number count behind (Underrun loss) = ⊥
Advances limits cycle number count behind End = ⊥

module _ (limits : Limits) (cycle number count : ℕ) (lo : 1 ≤ cycle) (hi : cycle ≤ limits.cycles) (behind : Place) where
  from-start : (line : Line) → (number ≡ 0) × (count ≡ 0) → next limits Start line ≡ Some behind → Advances limits cycle number count behind line
  from-start Report near h =
      subst (λ (p : Place). IsBefore cycle p × IsNear limits p (number + 1) count) (slice-some (Calls 0) behind h)
      (tt, (omega (arith, near.0), near.1, omega arith))
  from-start (Call call) near h = absurd (none-some behind h)
  from-start (Cycle told) near h = absurd (none-some behind h)
  from-start (Meter meter) near h = absurd (none-some behind h)
  from-start (Midi event) near h = absurd (none-some behind h)
  from-start (Recorder lines) near h = absurd (none-some behind h)
  from-start (Overrun loss) near h = absurd (none-some behind h)
  from-start (Disk lines) near h = absurd (none-some behind h)
  from-start (Underrun loss) near h = absurd (none-some behind h)
  from-start End near h = absurd (none-some behind h)

  no-later : (k : ℕ) (line : Line) → k < limits.cycles → cond (k == limits.cycles) (in_meters limits 0 line) None ≡ Some behind → ⊥
  no-later k line few h = none-some behind (sym (closed limits k line few) ∙ h)

  one-cycle : (k : ℕ) (told : CycleLine) → k < cycle → number ≤ 1 + limits.calls + k → count ≤ limits.calls
      → cond (nat_lt k limits.cycles && (told.cycle == k + 1)) (Some (Cycles (k + 1))) None ≡ Some behind → Advances limits cycle number count behind (Cycle told)
  one-cycle k told before near few h = go (nat_lt k limits.cycles) (told.cycle == k + 1) refl h
    where
      go : (a b : Bool) → (told.cycle == k + 1) ≡ b → cond (a && b) (Some (Cycles (k + 1))) None ≡ Some behind → Advances limits cycle number count behind (Cycle told)
      go true true e g =
          let is : told.cycle ≡ k + 1 = eqb-true told.cycle (k + 1) e in
          let at : Cycles (k + 1) ≡ behind = slice-some (Cycles (k + 1)) behind g in (
            sym at ∙ ap Cycles (sym is),
            λ other. subst (IsBefore cycle) at (omega (arith, before, is, other)),
            subst (λ (p : Place). IsNear limits p (number + 1) count) at (omega (arith, near), few),
          )
      go true false e g = absurd (none-some behind g)
      go false b e g = absurd (none-some behind g)

  from-calls : (k : ℕ) (line : Line) → (number ≡ k + 1) × (count ≡ k) × (k ≤ limits.calls) → next limits (Calls k) line ≡ Some behind → Advances limits cycle number count behind line
  from-calls k Report near h = absurd (no-later 0 Report (omega (arith, lo, hi)) h)
  from-calls k (Call call) near h = go (nat_lt k limits.calls) refl h
    where
      go : (b : Bool) → nat_lt k limits.calls ≡ b → cond b (Some (Calls (k + 1))) None ≡ Some behind → Advances limits cycle number count behind (Call call)
      go true e g =
          let few : k < limits.calls = grind (arith, nat_tests) in
          subst (λ (p : Place). IsBefore cycle p × IsNear limits p (number + 1) (count + 1)) (slice-some (Calls (k + 1)) behind g)
          (tt, (omega (arith, near.0), omega (arith, near.1), omega (arith, few)))
      go false e g = absurd (none-some behind g)
  from-calls k (Cycle told) near h = one-cycle 0 told (omega (arith, lo)) (omega (arith, near.0, near.2)) (omega (arith, near.1, near.2)) h
  from-calls k (Meter meter) near h = absurd (no-later 0 (Meter meter) (omega (arith, lo, hi)) h)
  from-calls k (Midi event) near h = absurd (no-later 0 (Midi event) (omega (arith, lo, hi)) h)
  from-calls k (Recorder lines) near h = absurd (no-later 0 (Recorder lines) (omega (arith, lo, hi)) h)
  from-calls k (Overrun loss) near h = absurd (no-later 0 (Overrun loss) (omega (arith, lo, hi)) h)
  from-calls k (Disk lines) near h = absurd (no-later 0 (Disk lines) (omega (arith, lo, hi)) h)
  from-calls k (Underrun loss) near h = absurd (no-later 0 (Underrun loss) (omega (arith, lo, hi)) h)
  from-calls k End near h = absurd (no-later 0 End (omega (arith, lo, hi)) h)

  from-cycles : (k : ℕ) (line : Line) → k < cycle → (number ≤ 1 + limits.calls + k) × (count ≤ limits.calls) → next limits (Cycles k) line ≡ Some behind → Advances limits cycle number count behind line
  from-cycles k Report before near h = absurd (no-later k Report (omega (arith, before, hi)) h)
  from-cycles k (Call call) before near h = absurd (no-later k (Call call) (omega (arith, before, hi)) h)
  from-cycles k (Cycle told) before near h = one-cycle k told before near.0 near.1 h
  from-cycles k (Meter meter) before near h = absurd (no-later k (Meter meter) (omega (arith, before, hi)) h)
  from-cycles k (Midi event) before near h = absurd (no-later k (Midi event) (omega (arith, before, hi)) h)
  from-cycles k (Recorder lines) before near h = absurd (no-later k (Recorder lines) (omega (arith, before, hi)) h)
  from-cycles k (Overrun loss) before near h = absurd (no-later k (Overrun loss) (omega (arith, before, hi)) h)
  from-cycles k (Disk lines) before near h = absurd (no-later k (Disk lines) (omega (arith, before, hi)) h)
  from-cycles k (Underrun loss) before near h = absurd (no-later k (Underrun loss) (omega (arith, before, hi)) h)
  from-cycles k End before near h = absurd (no-later k End (omega (arith, before, hi)) h)

pub advance : (limits : Limits) (cycle number count : ℕ) (place behind : Place) (line : Line) → 1 ≤ cycle → cycle ≤ limits.cycles → IsBefore cycle place → IsNear limits place number count
    → next limits place line ≡ Some behind → Advances limits cycle number count behind line
advance limits cycle number count Start behind line lo hi before near h = from-start limits cycle number count lo hi behind line near h
advance limits cycle number count (Calls k) behind line lo hi before near h = from-calls limits cycle number count lo hi behind k line near h
advance limits cycle number count (Cycles k) behind line lo hi before near h = from-cycles limits cycle number count lo hi behind k line before near h
advance limits cycle number count (Meters k) behind line lo hi before near h = absurd before
advance limits cycle number count (Events k) behind line lo hi before near h = absurd before
advance limits cycle number count (Recorders k left) behind line lo hi before near h = absurd before
advance limits cycle number count (Disks k left) behind line lo hi before near h = absurd before
advance limits cycle number count Done behind line lo hi before near h = absurd before

-- behind a line that is not the cycle's
pub advance-other : (limits : Limits) (cycle number count more : ℕ) (behind : Place) (line : Line) → Advances limits cycle number count behind line → ((told : CycleLine) → line ≡ Cycle told → told.cycle ≡ cycle → ⊥)
    → more ≡ count + length (calls_in (line ∷ [])) → IsBefore cycle behind × IsNear limits behind (number + 1) more
advance-other limits cycle number count more behind Report h other e = (h.0, subst (IsNear limits behind (number + 1)) (omega (arith, e)) h.1)
advance-other limits cycle number count more behind (Call call) h other e = (h.0, subst (IsNear limits behind (number + 1)) (omega (arith, e)) h.1)
advance-other limits cycle number count more behind (Cycle told) h other e = (h.1 (other told refl), subst (IsNear limits behind (number + 1)) (omega (arith, e)) h.2)
advance-other limits cycle number count more behind (Meter meter) h other e = absurd h
advance-other limits cycle number count more behind (Midi event) h other e = absurd h
advance-other limits cycle number count more behind (Recorder lines) h other e = absurd h
advance-other limits cycle number count more behind (Overrun loss) h other e = absurd h
advance-other limits cycle number count more behind (Disk lines) h other e = absurd h
advance-other limits cycle number count more behind (Underrun loss) h other e = absurd h
advance-other limits cycle number count more behind End h other e = absurd h
