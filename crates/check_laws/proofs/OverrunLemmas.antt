-- Overruns that are right at each place.
--     lost      a recorder's overruns are then ones that can be
--     overrun-right      and the other way
use Rattle.std.proofs.Common.{◌≡◌, ℕ, zero, suc, ◌+◌, ◌-◌, ◌<◌, ◌≤◌, List, [], ◌∷◌, length, map, flat_map, take, slice_get, All, IsSome, Some, option_map, refl, sym, ◌∙◌, ap, ap₂, subst, arith}
use Rattle.std.specs.List.Sorted.{IsStrictlyIncreasing, IsNonDecreasing}
use Rattle.jack_types.specs.declared.replies.Overrun.{Overrun}
use Rattle.session_model.specs.Courses.{Course}
use Rattle.session_model.specs.Explanations.{Given, Printed, course_of, overruns_of}
use Rattle.session_model.specs.Recorders.{Lost, IsOverrun, IsAfterSegment}
use Rattle.session_model.specs.Reports.{Report, PrintedRecorder}
use Rattle.session_model.specs.Scripts.{Script}
use Rattle.grammar_laws.specs.session_laws.proofs.ListLemmas.{slice_get-map}
use Rattle.check_model.specs.Checking.{IsForm, IsOverrunRight, AllRight, IsRecorderLine, IsOverrunLine, printed_of, all_overruns}
use Rattle.check_laws.proofs.PlaceLists.{slice-inside, get-of, All-from_get, All-get, slice-map, flat-place, strictly-from, strictly-get, nondecreasing-from, nondecreasing-get, Found, flat-found}

pub slice-some : {X : Type 0} (xs : List X) (i : ℕ) → i < length xs → (x : X) × (slice_get xs i ≡ Some x)
slice-some [] i h = absurd (omega (arith, h))
slice-some (x ∷ xs) zero h = (x, refl)
slice-some (x ∷ xs) (suc i) h = slice-some xs i (omega (arith, h))

module _ (given : Given) (report : Report) (form : IsForm given.script report) where
  abbrev printed : Printed
  printed = printed_of given.script report

  abbrev course : Course
  course = course_of given printed

  abbrev script : Script
  script = given.script

  abbrev pub overruns-of : PrintedRecorder → List Overrun
  overruns-of = λ (recorder : PrintedRecorder). recorder.overruns

  pub recorder-lost : (r : ℕ) (recorder : PrintedRecorder) → slice_get report.recorders r ≡ Some recorder → overruns_of printed r ≡ recorder.overruns
  recorder-lost r recorder e = get-of (map overruns-of report.recorders) r recorder.overruns [] (slice-map overruns-of report.recorders r ∙ ap (option_map overruns-of) e)

  module _ (right : AllRight (IsOverrunRight course printed report)) where
    module _ (r : ℕ) (recorder : PrintedRecorder) (here : slice_get report.recorders r ≡ Some recorder) where
      abbrev recorder-off : ℕ
      recorder-off = length (flat_map overruns-of (take r report.recorders))

      recorder-at : (j n : ℕ) (o : Overrun) → slice_get recorder.overruns j ≡ Some o → n ≡ recorder-off + j → slice_get (all_overruns report) n ≡ Some o
      recorder-at j n o e q = ap (slice_get (all_overruns report)) q ∙ flat-place overruns-of report.recorders r j recorder o here e

      recorder-line : IsRecorderLine script r recorder
      recorder-line = form.recorder_each r recorder here

      recorder-number : (j : ℕ) (o : Overrun) → slice_get recorder.overruns j ≡ Some o → o.recorder ≡ r
      recorder-number j o e = (All-get (IsOverrunLine r) recorder.overruns j o (recorder-line).each e).recorder_is

      recorder-follows : (j : ℕ) (o p : Overrun) → slice_get recorder.overruns j ≡ Some o → slice_get recorder.overruns (suc j) ≡ Some p → (o.cycle < p.cycle) × (o.taken ≤ p.taken)
      recorder-follows j o p e f =
          let n : ℕ = suc (recorder-off + suc j) in
          ((right n (omega arith)).follows o p (omega arith) (recorder-at j (n - 2) o e (omega arith)) (recorder-at (suc j) (n - 1) p f (omega arith)))
          (recorder-number j o e ∙ sym (recorder-number (suc j) p f))

      recorder-is_one : (j : ℕ) (o : Overrun) → slice_get recorder.overruns j ≡ Some o → IsOverrun course (overruns_of printed r) r o
      recorder-is_one j o e =
          let n : ℕ = suc (recorder-off + j) in
          subst (λ k. IsOverrun course (overruns_of printed k) k o) (recorder-number j o e) ((right n (omega arith)).is_one o (recorder-at j (n - 1) o e (omega arith)))

      recorder-rises : IsStrictlyIncreasing (map (λ (o : Overrun). o.cycle) recorder.overruns)
      recorder-rises =
          strictly-from (map (λ (o : Overrun). o.cycle) recorder.overruns)
          (λ k x y p q.
          let a = slice_get-map (λ (o : Overrun). o.cycle) recorder.overruns k x p in
          let b = slice_get-map (λ (o : Overrun). o.cycle) recorder.overruns (suc k) y q in
          omega (arith, a.2, b.2, (recorder-follows k a.0 b.0 a.1 b.1).0))

      recorder-taken : IsNonDecreasing (map (λ (o : Overrun). o.taken) recorder.overruns)
      recorder-taken =
          nondecreasing-from (map (λ (o : Overrun). o.taken) recorder.overruns)
          (λ k x y p q.
          let a = slice_get-map (λ (o : Overrun). o.taken) recorder.overruns k x p in
          let b = slice_get-map (λ (o : Overrun). o.taken) recorder.overruns (suc k) y q in
          omega (arith, a.2, b.2, (recorder-follows k a.0 b.0 a.1 b.1).1))

      recorder-after : IsSome script.header.threads → (j : ℕ) (o : Overrun) → slice_get recorder.overruns j ≡ Some o → IsAfterSegment course (overruns_of printed r) r o
      recorder-after threads j o e =
          let n : ℕ = suc (recorder-off + j) in
          subst (λ k. IsAfterSegment course (overruns_of printed k) k o) (recorder-number j o e) ((right n (omega arith)).in_threads threads o (recorder-at j (n - 1) o e (omega arith)))

      lost-here : Lost course (overruns_of printed r) r
      lost-here =
          let q : recorder.overruns ≡ overruns_of printed r = sym (recorder-lost r recorder here) in
          record {
            by_cycle = subst (λ os. IsStrictlyIncreasing (map (λ (o : Overrun). o.cycle) os)) q recorder-rises;
            overruns = subst (λ os. All (IsOverrun course (overruns_of printed r) r) os) q (All-from_get (IsOverrun course (overruns_of printed r) r) recorder.overruns recorder-is_one);
            taken_rises = subst (λ os. IsNonDecreasing (map (λ (o : Overrun). o.taken) os)) q recorder-taken;
            in_threads = λ threads. subst (λ os. All (IsAfterSegment course (overruns_of printed r) r) os) q (All-from_get (IsAfterSegment course (overruns_of printed r) r) recorder.overruns (recorder-after threads));
          }

    pub lost : (r : ℕ) → r < length script.header.recorders → Lost course (overruns_of printed r) r
    lost r h = let w = slice-some report.recorders r (omega (arith, h, form.recorders)) in lost-here r w.0 w.1

  -- the other way: where each recorder's overruns are ones that can be, each is right at its place
  module _ (each : (r : ℕ) → r < length script.header.recorders → Lost course (overruns_of printed r) r) where
    record OverrunAt (n : ℕ) (o : Overrun) : Type 0 where
      pub r : ℕ
      pub j : ℕ
      pub low : r < length script.header.recorders
      pub at : slice_get (overruns_of printed r) j ≡ Some o
      pub is : IsOverrun course (overruns_of printed r) r o
      pub place : n ≡ length (flat_map overruns-of (take r report.recorders)) + j

    find : (n : ℕ) (o : Overrun) → slice_get (all_overruns report) n ≡ Some o → OverrunAt n o
    find n o q =
        let w : Found overruns-of report.recorders n o = flat-found overruns-of report.recorders n o q in
        let low : w.r < length script.header.recorders = omega (arith, slice-inside report.recorders w.r w.x w.at_x, form.recorders) in
        let at : slice_get (overruns_of printed w.r) w.j ≡ Some o = ap (λ (os : List Overrun). slice_get os w.j) (recorder-lost w.r w.x w.at_x) ∙ w.at_y in
        record { r = w.r; j = w.j; low = low; at = at; is = All-get (IsOverrun course (overruns_of printed w.r) w.r) (overruns_of printed w.r) w.j o (each w.r low).overruns at; place = w.place }

    pub overrun-right : (n : ℕ) → IsOverrunRight course printed report n
    overrun-right n = record {
      is_one = λ o q.
          let w : OverrunAt (n - 1) o = find (n - 1) o q in
          subst (λ k. IsOverrun course (overruns_of printed k) k o) (sym w.is.recorder_is) w.is;
      follows = λ o p two q s same.
          let v : OverrunAt (n - 2) o = find (n - 2) o q in
          let w : OverrunAt (n - 1) p = find (n - 1) p s in
          let both : v.r ≡ w.r = sym v.is.recorder_is ∙ same ∙ w.is.recorder_is in
          let off : length (flat_map overruns-of (take v.r report.recorders)) ≡ length (flat_map overruns-of (take w.r report.recorders)) = ap (λ r. length (flat_map overruns-of (take r report.recorders))) both in
          let next : w.j ≡ suc v.j = omega (arith, v.place, w.place, off, two) in
          let os : List Overrun = overruns_of printed v.r in
          let at_p : slice_get os (suc v.j) ≡ Some p = ap₂ (λ r j. slice_get (overruns_of printed r) j) both (sym next) ∙ w.at in
          let lost_is : Lost course os v.r = each v.r v.low in
          let cycle : Overrun → ℕ = λ (x : Overrun). x.cycle in
          let taken : Overrun → ℕ = λ (x : Overrun). x.taken in (
            strictly-get (map cycle os) v.j o.cycle p.cycle lost_is.by_cycle (slice-map cycle os v.j ∙ ap (option_map cycle) v.at) (slice-map cycle os (suc v.j) ∙ ap (option_map cycle) at_p),
            nondecreasing-get (map taken os) v.j o.taken p.taken lost_is.taken_rises (slice-map taken os v.j ∙ ap (option_map taken) v.at) (slice-map taken os (suc v.j) ∙ ap (option_map taken) at_p),
          );
      in_threads = λ threads o q.
          let w : OverrunAt (n - 1) o = find (n - 1) o q in
          subst (λ k. IsAfterSegment course (overruns_of printed k) k o) (sym w.is.recorder_is)
          (All-get (IsAfterSegment course (overruns_of printed w.r) w.r) (overruns_of printed w.r) w.j o ((each w.r w.low).in_threads threads) w.at);
    }
