-- The kinds that a lawful script opens are those that its lines open, in their order.
--     kinds-on_lines      line by line they are those of the planned calls
--     guests-on_lines      so are the guests
--     kinds-next, kept-some, kept-none      one line more
use Rattle.std.proofs.Common.{◌≡◌, ℕ, zero, suc, ◌+◌, ◌*◌, max, fold, List, [], ◌∷◌, ◌++◌, map, filter_map, take, slice_get, Option, Some, None, false, true, add-one, refl, sym, ◌∙◌, ap, subst, append-nil}
use Rattle.std.specs.List.{cons_option}
use Rattle.std.specs.Option.{option_map_or}
use Rattle.std.proofs.Math.Nat.{max-zero}
use Rattle.std.proofs.lemmas.List.Elements.{filter_map-append}
use Rattle.std.proofs.lemmas.List.Sums.{fold_push}
use Rattle.jack_types.specs.declared.commands.Command.{Command}
use Rattle.jack_types.specs.declared.kinds.Kind.{Kind}
use Rattle.jack_types.specs.declared.scripts.Body.{Body}
use Rattle.jack_types.specs.declared.scripts.Body.TheVariants.{Do, Run, Freewheel, Lane, Period}
use Rattle.jack_types.specs.declared.scripts.Header.{Header}
use Rattle.session_model.specs.Grammar.{IsScript, IsBody, open_segment, segment_after}
use Rattle.session_model.specs.Scripts.{Script, Phase, LaneCall, Planned, Uncounted, phases_of, uncounted, counted, lane_calls, with_do}
use Rattle.session_laws.proofs.SerialLawfulLemmas.{AreBodies, AreBodies-rest}
use Rattle.task_laws.specs.Calls.{guest_bound, guests_needed, kind_opened, open_kinds}
use Rattle.script_needs.specs.Lines.{kind_on, more_guests}

none-some : {X : Type 0} (x : X) → None ≡ Some x → ⊥
none-some x e = cc

-- the kinds that calls open, before and after they are counted
abbrev opened : List Uncounted → List Kind
opened calls = filter_map (λ (call : Uncounted). kind_opened call.command) calls

abbrev opened_on_lanes : List LaneCall → List Kind
opened_on_lanes calls = filter_map (λ (call : LaneCall). kind_opened call.command) calls

counted-opened : (earlier calls : List Uncounted) → filter_map (λ (plan : Planned). kind_opened plan.call.command) (counted earlier calls) ≡ opened calls
counted-opened earlier [] = refl
counted-opened earlier (call ∷ calls) = ap (cons_option (kind_opened call.command)) (counted-opened (earlier ++ call ∷ []) calls)

-- the calls of a segment's lanes
abbrev in_segment : ℕ → ℕ → LaneCall → Uncounted
in_segment index base call = record { lane = call.lane; command = call.command; stage = 2 * index + 1; asked = base + call.begun }

lanes-opened : (index base : ℕ) (calls : List LaneCall) → opened (map (in_segment index base) calls) ≡ opened_on_lanes calls
lanes-opened index base [] = refl
lanes-opened index base (call ∷ calls) = ap (cons_option (kind_opened call.command)) (lanes-opened index base calls)

cons-before : {X : Type 0} (found : Option X) (xs ys : List X) → cons_option found xs ++ ys ≡ cons_option found (xs ++ ys)
cons-before None xs ys = refl
cons-before (Some x) xs ys = refl

phases-some : (period : ℕ) (lines : List Body) → (phase : Phase) × (phs : List Phase) × (phases_of period lines ≡ phase ∷ phs)
phases-some period [] = (record { dos = []; period = period; is_freewheel = false; cycles = 0; calls = [] }, [], refl)
phases-some period (Do command ∷ lines) = let w = phases-some period lines in (record w.0 { dos = command ∷ (w.0).dos }, w.1, ap (with_do command) w.2)
phases-some period (Run cycles ∷ lines) = (record { dos = []; period = period; is_freewheel = false; cycles = cycles; calls = lane_calls lines }, phases_of period lines, refl)
phases-some period (Freewheel cycles ∷ lines) = (record { dos = []; period = period; is_freewheel = true; cycles = cycles; calls = lane_calls lines }, phases_of period lines, refl)
phases-some period (Lane _ _ _ ∷ lines) = phases-some period lines
phases-some period (Period next ∷ lines) = phases-some next lines

do-opened : (command : Command) (index base period : ℕ) (lines : List Body)
    → opened (uncounted index base (with_do command (phases_of period lines))) ≡ cons_option (kind_opened command) (opened (uncounted index base (phases_of period lines)))
do-opened command index base period lines =
    let w = phases-some period lines in
    subst (λ (phs : List Phase). opened (uncounted index base (with_do command phs)) ≡ cons_option (kind_opened command) (opened (uncounted index base phs))) (sym w.2) refl

segment-opened : (index base cycles : ℕ) (calls : List LaneCall) (phs : List Phase)
    → opened_on_lanes calls ++ opened (uncounted (index + 1) (base + cycles) phs) ≡ opened (map (in_segment index base) calls ++ uncounted (index + 1) (base + cycles) phs)
segment-opened index base cycles calls phs =
    ap (λ (kinds : List Kind). kinds ++ opened (uncounted (index + 1) (base + cycles) phs)) (sym (lanes-opened index base calls))
    ∙ sym (filter_map-append (λ (call : Uncounted). kind_opened call.command) (map (in_segment index base) calls) (uncounted (index + 1) (base + cycles) phs))

module _ (header : Header) where
  first-body : (earlier : List Body) (line : Body) (lines : List Body) → AreBodies header earlier (line ∷ lines) → IsBody header earlier line
  first-body earlier line lines h = subst (λ es. IsBody header es line) (append-nil earlier) (h 0 line refl)

  -- no `lane` line stands where no segment is open
  lane-none : (earlier lines : List Body) → AreBodies header earlier lines → open_segment earlier ≡ None → lane_calls lines ≡ []
  lane-none earlier [] h o = refl
  lane-none earlier (Do _ ∷ lines) h o = refl
  lane-none earlier (Run _ ∷ lines) h o = refl
  lane-none earlier (Freewheel _ ∷ lines) h o = refl
  lane-none earlier (Period _ ∷ lines) h o = refl
  lane-none earlier (Lane lane begun command ∷ lines) h o =
      let b : IsBody header earlier (Lane lane begun command) = first-body earlier (Lane lane begun command) lines h in
      absurd (none-some (b.1).0 (sym o ∙ (b.1).1))

  -- the `lane` lines at the front belong to the phase before
  lines-opened : (lines earlier : List Body) (period index base : ℕ) → AreBodies header earlier lines
      → filter_map kind_on lines ≡ opened_on_lanes (lane_calls lines) ++ opened (uncounted index base (phases_of period lines))
  lines-opened [] earlier period index base h = refl
  lines-opened (Do command ∷ lines) earlier period index base h =
      let later : List Body = earlier ++ Do command ∷ [] in
      let all : AreBodies header later lines = AreBodies-rest header earlier (Do command) lines h in
      let none : lane_calls lines ≡ [] = lane-none later lines all (fold_push segment_after None earlier (Do command)) in
      ap (cons_option (kind_opened command))
      (lines-opened lines later period index base all ∙ ap (λ calls. opened_on_lanes calls ++ opened (uncounted index base (phases_of period lines))) none)
      ∙ sym (do-opened command index base period lines)
  lines-opened (Run cycles ∷ lines) earlier period index base h =
      lines-opened lines (earlier ++ Run cycles ∷ []) period (index + 1) (base + cycles) (AreBodies-rest header earlier (Run cycles) lines h)
      ∙ segment-opened index base cycles (lane_calls lines) (phases_of period lines)
  lines-opened (Freewheel cycles ∷ lines) earlier period index base h =
      lines-opened lines (earlier ++ Freewheel cycles ∷ []) period (index + 1) (base + cycles) (AreBodies-rest header earlier (Freewheel cycles) lines h)
      ∙ segment-opened index base cycles (lane_calls lines) (phases_of period lines)
  lines-opened (Lane lane begun command ∷ lines) earlier period index base h =
      ap (cons_option (kind_opened command)) (lines-opened lines (earlier ++ Lane lane begun command ∷ []) period index base (AreBodies-rest header earlier (Lane lane begun command) lines h))
      ∙ sym (cons-before (kind_opened command) (opened_on_lanes (lane_calls lines)) (opened (uncounted index base (phases_of period lines))))
  lines-opened (Period next ∷ lines) earlier period index base h =
      let later : List Body = earlier ++ Period next ∷ [] in
      let all : AreBodies header later lines = AreBodies-rest header earlier (Period next) lines h in
      let none : lane_calls lines ≡ [] = lane-none later lines all (fold_push segment_after None earlier (Period next)) in
      lines-opened lines later next index base all ∙ ap (λ calls. opened_on_lanes calls ++ opened (uncounted index base (phases_of next lines))) none

pub kinds-on_lines : (script : Script) → IsScript script → filter_map kind_on script.lines ≡ open_kinds script
kinds-on_lines script is =
    lines-opened script.header script.lines [] script.header.period 0 0 is.lines
    ∙ ap (λ calls. opened_on_lanes calls ++ opened (uncounted 0 0 (phases_of script.header.period script.lines))) (lane-none script.header [] script.lines is.lines refl)
    ∙ sym (counted-opened [] (uncounted 0 0 (phases_of script.header.period script.lines)))

bounds-on_lines : (lines : List Body) (needed : ℕ) → fold more_guests needed lines ≡ fold max needed (map guest_bound (filter_map kind_on lines))
bounds-on_lines [] needed = refl
bounds-on_lines (line ∷ lines) needed = bounds-on_lines lines (more_guests needed line) ∙ go (kind_on line)
  where
    go : (found : Option Kind) → fold max (max needed (option_map_or guest_bound found 0)) (map guest_bound (filter_map kind_on lines)) ≡ fold max needed (map guest_bound (cons_option found (filter_map kind_on lines)))
    go None = ap (λ n. fold max n (map guest_bound (filter_map kind_on lines))) (max-zero needed)
    go (Some kind) = refl

pub guests-on_lines : (script : Script) → IsScript script → fold more_guests 0 script.lines ≡ guests_needed script
guests-on_lines script is = bounds-on_lines script.lines 0 ∙ ap (λ (kinds : List Kind). fold max 0 (map guest_bound kinds)) (kinds-on_lines script is)

-- ---- one line more

take-next : {X : Type 0} (xs : List X) (n : ℕ) (x : X) → slice_get xs n ≡ Some x → take n xs ++ x ∷ [] ≡ take (suc n) xs
take-next [] n x h = absurd (none-some x h)
take-next {X} (y ∷ xs) zero x h = ap (λ z. z ∷ []) (same h)
  where
    same : Some y ≡ Some x → x ≡ y
    same e = cc
take-next (y ∷ xs) (suc n) x h = ap (λ zs. y ∷ zs) (take-next xs n x h)

pub kept-some : (kind : Kind) (old new : List Kind) (found : Option Kind) → found ≡ Some kind → new ≡ old ++ kind ∷ [] → new ≡ old ++ cons_option found []
kept-some kind old new found e longer = longer ∙ ap (λ o. old ++ cons_option o []) (sym e)

pub kept-none : (old new : List Kind) (found : Option Kind) → found ≡ None → new ≡ old → new ≡ old ++ cons_option found []
kept-none old new found e same = same ∙ sym (append-nil old) ∙ ap (λ o. old ++ cons_option o []) (sym e)

pub kinds-next : (lines : List Body) (n : ℕ) (line : Body) (old new : List Kind) (found : Option Kind) → slice_get lines n ≡ Some line → old ≡ filter_map kind_on (take n lines) → found ≡ kind_on line
    → new ≡ old ++ cons_option found [] → new ≡ filter_map kind_on (take (n + 1) lines)
kinds-next lines n line old new found at so_far is here =
    here
    ∙ ap (λ (kinds : List Kind). kinds ++ cons_option found []) so_far
    ∙ ap (λ o. filter_map kind_on (take n lines) ++ cons_option o []) is
    ∙ sym (filter_map-append kind_on (take n lines) (line ∷ []))
    ∙ ap (filter_map kind_on) (take-next lines n line at ∙ ap (λ m. take m lines) (sym (add-one n)))
