-- What was read of a report, line by line.
--     calls-none      before the first line
--     step-fault      up to a line that may not come
--     told-front, goes-on      up to the cycle's line, and past a line before it
use Rattle.std.proofs.Common.{◌≡◌, ℕ, ◌+◌, ◌≤◌, List, [], ◌∷◌, ◌++◌, length, length-append, map, take, Option, Some, None, refl, sym, ◌∙◌, ap, subst, arith}
use Rattle.std.specs.Prelude.{IfSome, ◌-◌}
use Rattle.std.proofs.lemmas.List.Elements.{filter_map-append}
use Rattle.jack_types.specs.declared.replies.Row.{Row}
use Rattle.check_model.specs.Checking.{IsWrongLine, ended_lines}
use Rattle.session_model.specs.Grammar.{IsScript}
use Rattle.session_model.specs.Scripts.{Script}
use Rattle.check_laws.proofs.PlaceLists.{length-map}
use Rattle.report_reader.specs.Forms.{line_text}
use Rattle.report_reader.specs.declared.rows.CallLine.{CallLine}
use Rattle.report_reader.specs.declared.rows.CycleLine.{CycleLine}
use Rattle.report_reader.specs.declared.rows.Line.{Line}
use Rattle.report_reader.specs.declared.rows.Line.TheVariants.{Cycle}
use Rattle.report_laws.specs.Places.{limits_of}
use Rattle.report_laws.specs.declared.places.Limits.{Limits}
use Rattle.report_laws.specs.declared.places.Place.{Place}
use Rattle.report_laws.specs.declared.places.Place.TheVariants.{Start, Cycles}
use Rattle.told_laws.proofs.StuckLemmas.{take-front}
use Rattle.told_laws.specs.Tellings.{IsStuck, call_in}
use Rattle.told_reports.proofs.ReadLemmas.{read-more, read-none, read-wrong}
use Rattle.told_reports.specs.Steps.{HasRead, Steps}
use Rattle.session_graph.specs.Fronts.{IsBefore, IsBroken, IsFront, calls_in}
use Rattle.session_graph.specs.Readings.{HasCalls, IsNear, IsOfReport, IsOfStep}
use Rattle.session_graph.specs.declared.faults.GraphFault.{GraphFault}
use Rattle.session_graph.specs.declared.faults.GraphFault.TheVariants.{NoMemory, Words, ReadFault, BadScript, WriteFault, Wrong}
use Rattle.session_graph.proofs.AdvanceLemmas.{Advances, advance, advance-other}

-- the texts of lines that stand in front
front-texts : (n : ℕ) (lines : List Line) (bytes left : List ℕ) → ended_lines bytes ≡ map line_text lines ++ ended_lines left → length lines ≡ n → take n (ended_lines bytes) ≡ map line_text lines
front-texts n lines bytes left goes size = ap (take n) goes ∙ take-front n (map line_text lines) (ended_lines left) (length-map line_text lines ∙ size)

pub calls-none : (script : Script) (start : Option (List ℕ)) (calls : List CallLine) → calls ≡ [] → HasCalls script start start Start 0 calls
calls-none script start calls e = record { lines = []; read = read-none script start; number_is = refl; calls_are = e }

module _ (script : Script) (limits : Limits) (same : limits ≡ limits_of script) (cycle : ℕ) (lo : 1 ≤ cycle) (hi : cycle ≤ limits.cycles) (start left : Option (List ℕ)) (place : Place) (number : ℕ) (calls : List CallLine)
    (has : HasCalls script start left place number calls) (before : IsBefore cycle place) where
  longer : (after : Option (List ℕ)) (line : Line) (behind : Place) → Steps limits place left after line behind → HasRead script start after behind (has.lines ++ line ∷ [])
  longer after line behind step = read-more script start left place has.lines has.read after line behind (subst (λ (l : Limits). Steps l place left after line behind) same step)

  calls-more : (after : Option (List ℕ)) (line : Line) (behind : Place) (more : List CallLine) → Steps limits place left after line behind → more ≡ calls ++ calls_in (line ∷ [])
      → HasCalls script start after behind (number + 1) more
  calls-more after line behind more step e = record {
    lines = has.lines ++ line ∷ [];
    read = longer after line behind step;
    number_is = let old = has.number_is in let size = length-append has.lines (line ∷ []) in omega (arith, old, size);
    calls_are = e ∙ ap (λ (cs : List CallLine). cs ++ calls_in (line ∷ [])) has.calls_are ∙ sym (filter_map-append call_in has.lines (line ∷ []));
  }

  front-read : (after : Option (List ℕ)) (told : CycleLine) (behind : Place) → Steps limits place left after (Cycle told) behind → behind ≡ Cycles told.cycle → IfSome start (λ bytes. IsFront script bytes calls told)
  front-read after told behind step e = go start after (longer after (Cycle told) behind step)
    where
      go : (s a : Option (List ℕ)) → HasRead script s a behind (has.lines ++ Cycle told ∷ []) → IfSome s (λ bytes. IsFront script bytes calls told)
      go None a read = tt
      go (Some xs) None read = absurd read.texts
      go (Some xs) (Some ys) read = record {
        before = has.lines;
        forms = read.forms;
        texts = front-texts (length has.lines + 1) (has.lines ++ Cycle told ∷ []) xs ys read.texts (length-append has.lines (Cycle told ∷ []));
        there = read.there ∙ ap Some e;
        calls_are = has.calls_are;
      }

  broken-at : IsScript script → IfSome left (IsStuck script place) → IfSome start (λ bytes. IsBroken script bytes cycle (number + 1))
  broken-at lawful stuck = go start left has.read (read-wrong script start left place has.lines has.read lawful stuck)
    where
      go : (s l : Option (List ℕ)) → HasRead script s l place has.lines → IfSome s (λ bytes. IsWrongLine script bytes (length has.lines + 1)) → IfSome s (λ bytes. IsBroken script bytes cycle (number + 1))
      go None l read wrong = tt
      go (Some xs) None read wrong = absurd read.texts
      go (Some xs) (Some ys) read wrong =
          let size : length has.lines ≡ (number + 1) - 1 = let old = has.number_is in omega (arith, old) in
          record {
            wrong = subst (λ n. IsWrongLine script xs (n + 1)) (sym has.number_is) wrong;
            place = place;
            read = (has.lines, read.forms, front-texts ((number + 1) - 1) has.lines xs ys read.texts size, read.there);
            before = before;
          }

  pub step-fault : IsScript script → (fault : GraphFault) → IsOfStep limits place left (number + 1) fault → IsOfReport script start cycle fault
  step-fault lawful NoMemory h = absurd h
  step-fault lawful Words h = absurd h
  step-fault lawful ReadFault h = tt
  step-fault lawful (BadScript fault) h = absurd h
  step-fault lawful WriteFault h = absurd h
  step-fault lawful (Wrong row) h = (
    ap (λ (r : Row). r.what) h.0,
    ap (λ (r : Row). r.place) h.0,
    subst (λ n. IfSome start (λ bytes. IsBroken script bytes cycle n)) (sym (ap (λ (r : Row). r.number) h.0)) (broken-at lawful (h.1 (λ done. subst (IsBefore cycle) done before) script same)),
  )

  module _ (near : IsNear limits place number (length calls)) (after : Option (List ℕ)) (line : Line) (behind : Place) (step : Steps limits place left after line behind) where
    next-there : Advances limits cycle number (length calls) behind line
    next-there = advance limits cycle number (length calls) place behind line lo hi before near step.there

    pub told-front : (told : CycleLine) → line ≡ Cycle told → IfSome start (λ bytes. IsFront script bytes calls told)
    told-front told e =
        front-read after told behind (subst (λ (l : Line). Steps limits place left after l behind) e step)
        (subst (Advances limits cycle number (length calls) behind) e next-there).0

    pub goes-on : (more : List CallLine) → ((told : CycleLine) → line ≡ Cycle told → told.cycle ≡ cycle → ⊥) → more ≡ calls ++ calls_in (line ∷ [])
        → HasCalls script start after behind (number + 1) more × IsBefore cycle behind × IsNear limits behind (number + 1) (length more)
    goes-on more other e =
        let size : length more ≡ length calls + length (calls_in (line ∷ [])) = ap (λ (cs : List CallLine). length cs) e ∙ length-append calls (calls_in (line ∷ [])) in
        let there = advance-other limits cycle number (length calls) (length more) behind line next-there other size in
        (calls-more after line behind more step e, there.0, there.1)
