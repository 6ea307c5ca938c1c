-- The parts before the first cycle.
--     map-more, replicate-more      one element more
--     all-midi      kinds of MIDI clients are MIDI kinds
--     Stands-new      new parts stand
--     heard-new, parts-new      nothing was heard of them
use Rattle.std.proofs.Common.{◌≡◌, ℕ, ◌+◌, ◌<◌, Bool, true, false, List, [], ◌∷◌, ◌++◌, All, filter, get_or, length, map, nat_lt, replicate, take, Option, Some, None, is_some, unwrap_or, refl, sym, ◌∙◌, ap, ap₂, subst, true≢false, ltb-false, ltb-true}
use Rattle.std.proofs.Math.ListN.{get_or-map}
use Rattle.std.proofs.lemmas.List.{get_or_default, get_or_past, length-map, length-replicate, map-append, replicate-append-replicate, take_more}
use Rattle.std.proofs.lemmas.List.Elements.{All-from_get_or, All-get_or}
use Rattle.jack_types.specs.declared.kinds.Kind.{Kind}
use Rattle.jack_types.specs.declared.kinds.Kind.TheVariants.{Pass, Gain, Mix, Delay, Tone, Click, Meter, Tape, Guest, Midiplay, Midithru, Midilog, Disk}
use Rattle.session_laws.proofs.CycleLemmas.{filter-passes}
use Rattle.session_model.specs.Scripts.{Script}
use Rattle.midi_wiring.specs.cycle_plan.specs.Plans.{Planned}
use Rattle.midi_seats.specs.task_laws.specs.Calls.{open_kinds}
use Rattle.midi_player.specs.Standings.{IsMidi, Standing}
use Rattle.midi_seats.specs.declared.seating.Owned.{Owned}
use Rattle.midi_seats.specs.Owning.{AreKnown, IsFor, code_at, midi_kinds}
use Rattle.midi_seats.specs.Seating.{midi_code, owner_of}
use Rattle.midi_stage.specs.Insides.{HavePartsOf, Stands, heard_of, kinds_in}
use Rattle.midi_stage.specs.Openings.{AreForScript, AreNew, new_owned, new_standing}
use Rattle.midi_stage.specs.Sounding.{events_at, no_standing}
use Rattle.midi_stage.specs.Stages.{carried_by, owned_logs}
use Rattle.midi_stage.specs.Standing.{quiet_heard}
use Rattle.midi_stage.specs.declared.parts.Parts.{Parts}

nothing-some : {X : Type 0} (x : X) → None ≡ Some x → ⊥
nothing-some x e = cc

pub map-more : {X Y : Type 0} (f : X → Y) (xs : List X) (i : ℕ) (d : X) → i < length xs → map f (take (i + 1) xs) ≡ map f (take i xs) ++ f (get_or xs i d) ∷ []
map-more f xs i d h = ap (map f) (take_more xs i d h) ∙ map-append f (take i xs) (get_or xs i d ∷ [])

pub replicate-more : {X : Type 0} (n : ℕ) (x : X) → replicate (n + 1) x ≡ replicate n x ++ x ∷ []
replicate-more n x = sym (replicate-append-replicate n 1 x)

pub midi-is : (kind : Kind) → is_some (midi_code kind) ≡ true → IsMidi kind
midi-is Midithru e = tt
midi-is Midilog e = tt
midi-is (Midiplay _) e = tt
midi-is Pass e = absurd (true≢false (sym e))
midi-is (Gain _ _) e = absurd (true≢false (sym e))
midi-is Mix e = absurd (true≢false (sym e))
midi-is (Delay _) e = absurd (true≢false (sym e))
midi-is (Tone _ _) e = absurd (true≢false (sym e))
midi-is (Click _) e = absurd (true≢false (sym e))
midi-is Meter e = absurd (true≢false (sym e))
midi-is (Tape _) e = absurd (true≢false (sym e))
midi-is (Guest _) e = absurd (true≢false (sym e))
midi-is (Disk _) e = absurd (true≢false (sym e))

is-coded : (kind : Kind) → IsMidi kind → midi_code kind ≡ Some (unwrap_or (midi_code kind) 0)
is-coded Midithru m = refl
is-coded Midilog m = refl
is-coded (Midiplay _) m = refl
is-coded Pass m = absurd m
is-coded (Gain _ _) m = absurd m
is-coded Mix m = absurd m
is-coded (Delay _) m = absurd m
is-coded (Tone _ _) m = absurd m
is-coded (Click _) m = absurd m
is-coded Meter m = absurd m
is-coded (Tape _) m = absurd m
is-coded (Guest _) m = absurd m
is-coded (Disk _) m = absurd m

passed : (kinds : List Kind) → ((i : ℕ) → i < length kinds → is_some (midi_code (get_or kinds i Midithru)) ≡ true) → All IsMidi kinds
passed kinds h = All-from_get_or IsMidi kinds Midithru (λ i low. midi-is (get_or kinds i Midithru) (h i low))

pub all-midi : (kinds : List Kind) → All IsMidi (filter (λ kind. is_some (midi_code kind)) kinds)
all-midi kinds = passed (filter (λ kind. is_some (midi_code kind)) kinds) (λ i low. filter-passes (λ kind. is_some (midi_code kind)) kinds (get_or (filter (λ kind. is_some (midi_code kind)) kinds) i Midithru)
    (i, low, get_or_default (filter (λ kind. is_some (midi_code kind)) kinds) i (get_or (filter (λ kind. is_some (midi_code kind)) kinds) i Midithru) Midithru low))

module _ (script : Script) (last : Planned) (kinds : List Kind) (midi : All IsMidi kinds) (parts : Parts) (new : AreNew script kinds parts) where
  kind-is : (xs : List Kind) → map (λ (bench : Standing). bench.kind) (map new_standing xs) ≡ xs
  kind-is [] = refl
  kind-is (x ∷ xs) = ap (λ ys. x ∷ ys) (kind-is xs)

  pub kinds-new : kinds_in parts ≡ kinds
  kinds-new = ap (map (λ (bench : Standing). bench.kind)) new.benches ∙ kind-is kinds

  owner-none : (b : ℕ) → owner_of parts.owners.items b ≡ None
  owner-none b = ap (λ owners. owner_of owners b) new.owners ∙ ap (λ (bench : Owned). bench.owner) (get_or-map new_owned kinds b Midithru)

  coded : (b : ℕ) → midi_code (get_or kinds b Midithru) ≡ Some (unwrap_or (midi_code (get_or kinds b Midithru)) 0)
  coded b = go (nat_lt b (length kinds)) refl
    where
      go : (t : Bool) → nat_lt b (length kinds) ≡ t → midi_code (get_or kinds b Midithru) ≡ Some (unwrap_or (midi_code (get_or kinds b Midithru)) 0)
      go true f = is-coded (get_or kinds b Midithru) (All-get_or IsMidi kinds b Midithru (ltb-true b (length kinds) f) midi)
      go false f = is-coded (get_or kinds b Midithru) (subst IsMidi (sym (get_or_past kinds b Midithru (ltb-false b (length kinds) f))) tt)

  made : IsFor (kinds_in parts) parts.owners.items
  made = subst (λ all. IsFor all parts.owners.items) (sym kinds-new) (record {
    as_many = ap length new.owners ∙ length-map kinds new_owned;
    codes = λ b. coded b ∙ ap Some (sym (ap (λ owners. code_at owners b) new.owners ∙ ap (λ (bench : Owned). bench.code) (get_or-map new_owned kinds b Midithru)));
  })

  many : (count : ℕ) → count ≡ length kinds → count ≡ length parts.benches.items
  many count e = e ∙ sym (ap length new.benches ∙ length-map kinds new_standing)

  pub Stands-new : (IsFor (kinds_in parts) parts.owners.items → ((b : ℕ) → owner_of parts.owners.items b ≡ None) → AreKnown last.changes (kinds_in parts) parts.owners.items) → Stands last parts
  Stands-new known_first = record {
    known = known_first made owner-none;
    free = λ b e. ap (λ benches. (get_or benches b no_standing).log) new.benches ∙ ap (λ (bench : Standing). bench.log) (get_or-map new_standing kinds b Midithru);
    room = record {
      seats = new.sounds.seats.most;
      outputs = new.sounds.outputs.most;
      earlier = new.sounds.earlier.most;
      gives = many (length parts.sounds.gives.items) (ap length new.sounds.gives ∙ length-replicate (length kinds) []);
      gave = many (length parts.sounds.gave.items) (ap length new.sounds.gave ∙ length-replicate (length kinds) []);
      nothing = new.sounds.nothing;
      unlisted = new.unlisted;
    };
    turned = λ number e. absurd (nothing-some number (sym new.number ∙ e));
  }

-- ---- the stage that they make

no-logs : (kinds : List Kind) → owned_logs (map (λ (bench : Owned). bench.owner) (map new_owned kinds)) (map new_standing kinds) ≡ []
no-logs [] = refl
no-logs (kind ∷ kinds) = no-logs kinds

pub heard-new : (script : Script) (parts : Option Parts) → AreForScript script parts → heard_of script 0 parts ≡ quiet_heard script 0
heard-new script None none = refl
heard-new script (Some parts) new = λ i. record {
  lists = new.lists i;
  period = 0;
  played = ap (map (events_at parts.sounds.gives.items)) new.sounds.seats.none i;
  carried = ap (map (carried_by parts.sounds.gives.items)) new.sounds.outputs.none i;
  before = ap (map (carried_by parts.sounds.gave.items)) new.sounds.earlier.none i;
  logs = (ap₂ (λ owners benches. owned_logs (map (λ (bench : Owned). bench.owner) owners) benches) new.owners new.benches ∙ no-logs (midi_kinds script)) i;
}

pub parts-new : (script : Script) (last : Planned) (parts : Option Parts)
    → ((kinds : List Kind) (benches : List Owned) → IsFor kinds benches → ((b : ℕ) → owner_of benches b ≡ None) → AreKnown last.changes kinds benches) → AreForScript script parts → HavePartsOf script last parts
parts-new script last None known_first none = none
parts-new script last (Some parts) known_first new = record {
  stands = Stands-new script last (midi_kinds script) (all-midi (open_kinds script)) parts new (known_first (kinds_in parts) parts.owners.items);
  kinds = kinds-new script last (midi_kinds script) (all-midi (open_kinds script)) parts new;
  lists = new.lists;
}
