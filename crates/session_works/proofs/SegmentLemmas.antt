-- The segments of a lawful script.
--     IsOfPhase script done segment, of-phase      a segment and its phase
--     place-small      the places of the phases are few
--     segment_there      the segment at a place is given
--     place_fits      so it is with its place
use Rattle.std.proofs.Common.{◌≡◌, ℕ, ◌+◌, ◌<◌, cond, count_by, List, [], ◌∷◌, length, get_or, slice_get, Some, refl, sym, ◌∙◌, ap, subst, arith}
use Rattle.std.proofs.lemmas.Option.{slice_get-get_or, slice_get_within}
use Rattle.std.proofs.lemmas.List.Sums.{sum_by-cons}
use Rattle.jack_types.specs.declared.commands.Command.{Command}
use Rattle.jack_types.specs.declared.scripts.Body.{Body}
use Rattle.jack_types.specs.declared.scripts.Body.TheVariants.{Do, Freewheel, Lane, Period, Run}
use Rattle.session_model.specs.Grammar.{IsScript, is_segment}
use Rattle.session_model.specs.Scripts.{Phase, Script, phases, phases_of, with_do}
use Rattle.script_segments.specs.Segments.{segment_of, segments}
use Rattle.script_segments.specs.declared.lines.Segment.{Segment}
use Rattle.session_works.specs.Laws.{SegmentsOfPhases}

pub record IsOfPhase (script : Script) (done : ℕ) (segment : Segment) : Type 0 where
  pub phase : Phase
  pub there : slice_get (phases script) done ≡ Some phase
  pub is : segment ≡ segment_of phase

pub of-phase : SegmentsOfPhases → (before after : Script) (done : ℕ) (segment : Segment) → after ≡ before → slice_get (segments before) done ≡ Some segment → IsOfPhase after done segment
of-phase law before after done segment same there =
    let found = law after done segment (subst (λ (s : Script). slice_get (segments s) done ≡ Some segment) (sym same) there) in
    record { phase = found.0; there = found.1; is = found.2 }

with_do-length : (command : Command) (phs : List Phase) → length (with_do command phs) ≡ length phs
with_do-length command [] = refl
with_do-length command (phase ∷ phs) = refl

phases-count : (lines : List Body) (period : ℕ) → length (phases_of period lines) ≡ count_by is_segment lines + 1
phases-count [] period = refl
phases-count (Do command ∷ lines) period =
    let sum : count_by is_segment (Do command ∷ lines) ≡ 0 + count_by is_segment lines = sum_by-cons (λ (l : Body). cond (is_segment l) 1 0) (Do command) lines in
    let rest = phases-count lines period in
    let same = with_do-length command (phases_of period lines) in
    omega (arith, sum, rest, same)
phases-count (Run cycles ∷ lines) period =
    let sum : count_by is_segment (Run cycles ∷ lines) ≡ 1 + count_by is_segment lines = sum_by-cons (λ (l : Body). cond (is_segment l) 1 0) (Run cycles) lines in
    let rest = phases-count lines period in
    omega (arith, sum, rest)
phases-count (Freewheel cycles ∷ lines) period =
    let sum : count_by is_segment (Freewheel cycles ∷ lines) ≡ 1 + count_by is_segment lines = sum_by-cons (λ (l : Body). cond (is_segment l) 1 0) (Freewheel cycles) lines in
    let rest = phases-count lines period in
    omega (arith, sum, rest)
phases-count (Lane lane begun command ∷ lines) period =
    let sum : count_by is_segment (Lane lane begun command ∷ lines) ≡ 0 + count_by is_segment lines = sum_by-cons (λ (l : Body). cond (is_segment l) 1 0) (Lane lane begun command) lines in
    let rest = phases-count lines period in
    omega (arith, sum, rest)
phases-count (Period next ∷ lines) period =
    let sum : count_by is_segment (Period next ∷ lines) ≡ 0 + count_by is_segment lines = sum_by-cons (λ (l : Body). cond (is_segment l) 1 0) (Period next) lines in
    let rest = phases-count lines next in
    omega (arith, sum, rest)

pub place-small : (script : Script) (done : ℕ) → IsScript script → done < length (phases script) → done < 257
place-small script done lawful low =
    let count = phases-count script.lines script.header.period in
    let few = lawful.few_segments in
    omega (arith, low, count, few)

-- ---- the segments that are given

module _ (law : SegmentsOfPhases) (given : List Segment) (before after : Script) (is : given ≡ segments before) (same : after ≡ before) (place : ℕ) (low : place < length given) (d : Segment) where
  pub segment_there : slice_get (segments after) place ≡ Some (get_or given place d)
  segment_there = ap (λ (xs : List Segment). slice_get xs place) (ap segments same ∙ sym is) ∙ slice_get-get_or given place d low

  pub place_fits : IsScript after → place < 257
  place_fits lawful = let found = law after place (get_or given place d) segment_there in place-small after place lawful (slice_get_within (phases after) place found.0 found.1)
