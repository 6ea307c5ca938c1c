-- A cycle of the stage, from one cycle to the next.
--     goes-on      the plan goes on from the last one
--     parts-here, none-here      the parts, if there are some
--     all-seated, none-seated      each client of a plan of the script's calls has its bench
--     HearsPlan-quiet, HearsNobody-quiet      where there are no parts
use Rattle.std.proofs.Common.{◌≡◌, ℕ, ◌<◌, ◌==◌, Bool, true, false, cond, List, [], length, replicate, Option, Some, None, refl, sym, ◌∙◌, ap, subst}
use Rattle.jack_types.specs.declared.commands.Change.{Change}
use Rattle.jack_types.specs.declared.events.Logged.{Logged}
use Rattle.jack_types.specs.declared.kinds.Kind.{Kind}
use Rattle.jack_types.specs.declared.moments.Moment.{Moment}
use Rattle.graph_word.specs.declared.plans.Base.{Base}
use Rattle.graph_word.specs.Publications.{IsFront}
use Rattle.session_model.specs.Benches.{node_at}
use Rattle.session_model.specs.Scripts.{Script}
use Rattle.port_registry.specs.Registered.{open_clients}
use Rattle.midi_wiring.specs.cycle_plan.specs.Plans.{IsPlanned, Planned}
use Rattle.session_model.specs.Kinds.{Memory, MidiPlayed}
use Rattle.midi_wiring.specs.Hearings.{HearsPlan, PlaysHeard, heard_by}
use Rattle.driver_words.specs.Hearings.{Carried, listed_for}
use Rattle.midi_wiring.specs.Wirings.{midi_wired_of}
use Rattle.midi_seats.specs.declared.seating.Owned.{Owned}
use Rattle.midi_seats.specs.Owning.{AreKnown, IsShort, midi_kinds}
use Rattle.midi_seats.specs.Seating.{client_at, midi_code, owner_of}
use Rattle.midi_seats.proofs.KnownLemmas.{kind-is}
use Rattle.midi_stage.specs.Insides.{ArePartsOf, GoesOnFrom, HavePartsOf, Stands, kinds_in}
use Rattle.midi_stage.specs.Standing.{HearsNobody, quiet_heard}
use Rattle.midi_stage.specs.declared.parts.Parts.{Parts}
use Rattle.midi_stage.proofs.HeardLemmas.{quiet}
use Rattle.midi_stage.proofs.PerformLemmas.{no-midi}

nothing-some : {X : Type 0} (x : X) → None ≡ Some x → ⊥
nothing-some x e = cc

pub goes-on : (last plan : Planned) (device : Base) (changes : List Change) → last.base ≡ device → plan.base ≡ device → last.changes ≡ changes → IsFront changes plan.changes → GoesOnFrom last plan
goes-on last plan device changes base now same front = record {
  base = now ∙ sym base;
  front = subst (λ all. IsFront all plan.changes) (sym same) front;
}

pub parts-here : (script : Script) (last : Planned) (all : Option Parts) (parts : Parts) → all ≡ Some parts → HavePartsOf script last all → ArePartsOf script last parts
parts-here script last all parts e have = subst (HavePartsOf script last) e have

pub none-here : (script : Script) (last : Planned) (all : Option Parts) → all ≡ None → HavePartsOf script last all → midi_kinds script ≡ []
none-here script last all e have = subst (HavePartsOf script last) e have

module _ (script : Script) (plan : Planned) (planned : IsPlanned plan)
    (enough : (benches : List Owned) → AreKnown plan.changes (midi_kinds script) benches → IsShort (open_clients plan.nodes) benches → ⊥) (b : Bool) where
  pub all-seated : (parts : Parts) → kinds_in parts ≡ midi_kinds script → Stands plan parts → (b ≡ false → IsShort (open_clients plan.nodes) parts.owners.items) → b ≡ true
  all-seated parts kinds stands short = go b refl
    where
      go : (t : Bool) → b ≡ t → b ≡ true
      go true e = e
      go false e = absurd (enough parts.owners.items (subst (λ (all : List Kind). AreKnown plan.changes all parts.owners.items) kinds stands.known) (short e))

  -- no bench is short of none
  pub none-seated : midi_kinds script ≡ [] → (b ≡ true → IsShort (open_clients plan.nodes) []) → b ≡ false
  none-seated none short = go b refl
    where
      no-owner : (c birth : ℕ) → owner_of [] c ≡ Some birth → ⊥
      no-owner c birth e = nothing-some birth e

      known : AreKnown plan.changes [] []
      known = record {
        made = record { as_many = refl; codes = λ c. refl };
        apart = λ c d birth e. absurd (no-owner c birth e);
        opened = λ c birth e. absurd (no-owner c birth e);
      }

      go : (t : Bool) → b ≡ t → b ≡ false
      go false e = e
      go true e = absurd (enough [] (subst (λ (all : List Kind). AreKnown plan.changes all []) (sym none) known) (short e))

module _ (script : Script) (plan : Planned) (moment : Moment) (before period : ℕ) where
  nothing-kept : (t : Bool) → (let none : List Carried = [] in none) ≡ cond t [] []
  nothing-kept true = refl
  nothing-kept false = refl

  pub HearsPlan-quiet : ((n : ℕ) → n < length plan.nodes → midi_code (client_at plan.nodes n).kind ≡ None) → HearsPlan (quiet_heard script before) plan moment period (quiet_heard script period)
  HearsPlan-quiet none = record {
    lists = refl;
    period_is = refl;
    before = nothing-kept (before == period);
    plays = plays;
    past = λ n far. refl;
    carried = record { given = λ given m. refl; others = λ birth no. refl };
    others = λ birth no. refl;
  }
    where
      made : ℕ → Memory → List Logged → MidiPlayed
      made outputs memory log = record { outputs = replicate outputs []; memory = record memory { log = log } }

      plays : (n : ℕ) → n < length plan.nodes → PlaysHeard (quiet_heard script before) plan moment period (quiet_heard script period) n (node_at (open_clients plan.nodes) n)
      plays n low outputs memory e =
          quiet (listed_for script.events (node_at (open_clients plan.nodes) n).kind) (node_at (open_clients plan.nodes) n).kind memory outputs moment period (heard_by (midi_wired_of plan) (quiet_heard script period) n)
          (no-midi (node_at (open_clients plan.nodes) n).kind (ap midi_code (kind-is plan.nodes n low) ∙ none n low))
          ∙ ap (made outputs memory) e

  pub HearsNobody-quiet : HearsNobody (quiet_heard script before) period (quiet_heard script period)
  HearsNobody-quiet = record {
    lists = refl;
    period_is = refl;
    before = nothing-kept (before == period);
    played = refl;
    carried = refl;
    logs = λ birth. refl;
  }
