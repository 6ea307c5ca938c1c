-- The rows of a driver behind one cycle more.
--     content-taken      the last content is the one that was taken
--     HasOwnRows-next      the rows are its own again
--     graph-planned      the graph of the cycle is that of the plan that was taken
use Rattle.std.proofs.Common.{◌≡◌, ℕ, suc, ◌+◌, List, [], ◌∷◌, ◌++◌, length, map, refl, sym, ◌∙◌, ap, ap₂, subst, arith, take_all}
use Rattle.std.proofs.lemmas.List.{length_push, map-append}
use Rattle.jack_types.specs.declared.commands.Change.{Change}
use Rattle.session_model.specs.Commands.{replay}
use Rattle.session_model.specs.Samples.{below}
use Rattle.session_model.specs.Scripts.{Script}
use Rattle.session_model.specs.State.{opening}
use Rattle.graph_word.specs.declared.plans.Base.{Base}
use Rattle.graph_word.specs.declared.view.TakenRow.{TakenRow}
use Rattle.graph_word.specs.Publications.{Begins, IsFront, Reading, Takes}
use Rattle.plan_transport.specs.cycle_plan.specs.Plans.{Planned, state_of_plan}
use Rattle.plan_transport.specs.driver_laws.specs.Drivers.{Driver, HasOwnRows, content_now, graph_now, last_content, run}

last-pushed : (rows : List TakenRow) (row : TakenRow) → last_content (rows ++ row ∷ []) ≡ row.changes
last-pushed [] row = refl
last-pushed (first ∷ []) row = refl
last-pushed (first ∷ next ∷ rows) row = last-pushed (next ∷ rows) row

front-whole : (changes : List Change) → IsFront changes changes
front-whole changes = sym (take_all (length changes) changes (omega arith))

module _ (driver after : Driver) (number : ℕ) (taken : Reading) (takes : Takes driver.reading number taken) (begins : Begins taken (run driver + 1) after.reading) where
  abbrev row : TakenRow
  row = record { cycle = run driver + 1; changes = taken.held }

  rows-are : after.reading.rows ≡ driver.reading.rows ++ row ∷ []
  rows-are = ap (λ (r : Reading). r.rows) begins.after_is ∙ ap (λ (rows : List TakenRow). rows ++ row ∷ []) (ap (λ (r : Reading). r.rows) takes.same)

  held-stays : after.reading.held ≡ taken.held
  held-stays = ap (λ (r : Reading). r.held) begins.after_is

  pub taken-base : taken.base ≡ driver.reading.base
  taken-base = ap (λ (r : Reading). r.base) takes.same

  base-stays : after.reading.base ≡ driver.reading.base
  base-stays = ap (λ (r : Reading). r.base) begins.after_is ∙ taken-base

  pub content-taken : content_now after ≡ taken.held
  content-taken = ap last_content rows-are ∙ last-pushed driver.reading.rows row

  module _ (own : HasOwnRows driver) (numbers : after.numbers ≡ driver.numbers ++ number ∷ []) (script : after.script ≡ driver.script) where
    cycles-next : map (λ (r : TakenRow). r.cycle) after.reading.rows ≡ map (λ i. i + 1) (below (run after))
    cycles-next =
        let size : run after ≡ run driver + 1 = ap length numbers ∙ length_push driver.numbers number in
        let more : run driver + 1 ≡ suc (run driver) = omega arith in
        ap (map (λ (r : TakenRow). r.cycle)) rows-are
        ∙ map-append (λ (r : TakenRow). r.cycle) driver.reading.rows (row ∷ [])
        ∙ ap (λ (cycles : List ℕ). cycles ++ (run driver + 1) ∷ []) own.cycles
        ∙ sym (map-append (λ i. i + 1) (below (run driver)) (run driver ∷ []))
        ∙ ap (λ n. map (λ i. i + 1) (below n)) (sym (size ∙ more))

    numbers-next : map (λ (r : TakenRow). length r.changes) after.reading.rows ≡ after.numbers
    numbers-next =
        ap (map (λ (r : TakenRow). length r.changes)) rows-are
        ∙ map-append (λ (r : TakenRow). length r.changes) driver.reading.rows (row ∷ [])
        ∙ ap₂ (λ (ns : List ℕ) n. ns ++ n ∷ []) own.numbers (sym takes.number)
        ∙ sym numbers

    -- the rows are the driver's own again
    pub HasOwnRows-next : after.content ≡ taken.held → HasOwnRows after
    HasOwnRows-next content = record {
      cycles = cycles-next;
      numbers = numbers-next;
      last = content-taken ∙ sym content;
      place = subst (λ (held : List Change). IsFront after.content held) (content ∙ sym held-stays) (front-whole after.content);
      base = base-stays ∙ own.base ∙ ap (λ (s : Script). record { capture = s.header.capture; playback = s.header.playback }) (sym script);
    }

    -- the graph of the cycle is that of the plan that was taken
    pub graph-planned : (plan : Planned) → plan.changes ≡ taken.held → plan.base ≡ taken.base → graph_now after ≡ state_of_plan plan
    graph-planned plan content base =
        ap (λ (s : Script). replay (opening s.header.capture s.header.playback) (content_now after)) script
        ∙ ap (replay (opening driver.script.header.capture driver.script.header.playback)) (content-taken ∙ sym content)
        ∙ ap (λ (b : Base). replay (opening b.capture b.playback) plan.changes) (sym (base ∙ taken-base ∙ own.base))
