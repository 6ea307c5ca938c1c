-- A stage on which nobody plays.
--     fresh-cast      who is new behind a cast
--     stands-rested      the stage stands yet where its benches rest
--     recalls-rested      and each client remembers what it did
use Rattle.std.proofs.Common.{◌≡◌, ℕ, ◌<◌, List, length, min, Some, None, refl, sym, ◌∙◌, ap, subst, arith, map}
use Rattle.jack_types.specs.declared.ports.Client.{Client}
use Rattle.session_model.specs.Benches.{node_at}
use Rattle.session_model.specs.Kinds.{Memory, Sound, first}
use Rattle.session_model.specs.State.{OpenClient}
use Rattle.client_kinds.specs.Scores.{Score}
use Rattle.port_registry.specs.Registered.{open_clients}
use Rattle.cycle_plan.specs.Plans.{Planned}
use Rattle.client_kinds.specs.Standings.{Standing}
use Rattle.client_benches.specs.Seen.{Seen, cleared, rested}
use Rattle.bench_rack.specs.Racks.{Racked, bench_at}
use Rattle.client_seats.specs.Owners.{Owned}
use Rattle.client_seats.specs.Seatings.{IsRefused, IsSeating, OtherKind, NoBench, NoGuest, GuestPlays, kind_at, memory_of, standing_at}
use Rattle.client_seats.proofs.PlaceLemmas.{within_open}
use Rattle.stage_laws.specs.Known.{AreKnown}
use Rattle.stage_laws.specs.Stages.{Staged}
use Rattle.stage_laws.specs.Standing.{EnoughLinks, StandsBy}
use Rattle.stage_laws.proofs.GoingLemmas.{memory-same}
use Rattle.client_stage.specs.Resting.{AreAtRest, IsNew, Recalls}
use Rattle.client_stage.proofs.CastLemmas.{seating-same}

-- what `seat` says of who is new, as a cast says it
pub fresh-cast : (sounding : Score → Sound) (plan : Planned) (ns : List Client) → ns ≡ plan.nodes → (rack clear seated : Racked) (owned owned_after : Owned) → IsSeating rack owned → length clear.benches ≡ length rack.benches
    → ((p : ℕ) → standing_at clear p ≡ standing_at rack p)
    → ((birth : ℕ) (memory : Memory) → memory_of clear owned birth ≡ None → memory_of seated owned_after birth ≡ Some memory
    → (n : ℕ) × (n < length (open_clients ns)) × ((node_at (open_clients ns) n).birth ≡ birth) × (memory ≡ first (map sounding owned.scores) (node_at (open_clients ns) n).kind))
    → (birth : ℕ) (memory : Memory) → memory_of rack owned birth ≡ None → memory_of seated owned_after birth ≡ Some memory → IsNew plan (map sounding owned.scores) birth memory
fresh-cast sounding plan ns are rack clear seated owned owned_after seating lengths same fresh birth memory none some =
    let new = fresh birth memory (memory-same rack clear owned seating (seating-same rack clear owned seating lengths same) same birth ∙ none) some in
    record {
      n = new.0;
      node = subst (λ (xs : List Client). new.0 < length xs) are (within_open ns new.0 new.1);
      client = subst (λ (xs : List Client). (node_at (open_clients xs) new.0).birth ≡ birth) are new.2;
      first_is = subst (λ (xs : List Client). memory ≡ first (map sounding owned.scores) (node_at (open_clients xs) new.0).kind) are new.3;
    }

-- benches of the same kinds, as many
refused-same : (nodes : List OpenClient) (rack after : Racked) (owned : Owned) → length after.benches ≡ length rack.benches → ((p : ℕ) → kind_at after p ≡ kind_at rack p) → IsRefused nodes rack owned → IsRefused nodes after owned
refused-same nodes rack after owned lengths kinds (OtherKind n p low owner other) = OtherKind n p low owner (λ e. other (sym (kinds p) ∙ e))
refused-same nodes rack after owned lengths kinds (NoBench n low none all) = NoBench n low none (λ p h e. all p (omega (arith, h, lengths)) (sym (kinds p) ∙ e))
refused-same nodes rack after owned lengths kinds (NoGuest n guest low none kind most) = NoGuest n guest low none kind most
refused-same nodes rack after owned lengths kinds (GuestPlays n guest m p low none kind low_m owner is) = GuestPlays n guest m p low none kind low_m owner (kinds p ∙ is)

module _ (rack after : Racked) (rests : (p : ℕ) → bench_at after p ≡ rested (bench_at rack p)) (lengths : length after.benches ≡ length rack.benches) where
  pub standings-rested : (p : ℕ) → standing_at after p ≡ standing_at rack p
  standings-rested p = ap (λ (b : Seen). b.kept.standing) (rests p)

  pub all-rested : AreAtRest after
  all-rested p = subst (λ (b : Seen). rested b ≡ b) (sym (rests p)) refl

  pub recalls-rested : (sounding : Score → Sound) (plan : Planned) (before : Racked) (owned owned_after : Owned) → IsSeating rack owned_after → Recalls sounding plan before owned rack owned_after → Recalls sounding plan before owned after owned_after
  recalls-rested sounding plan before owned owned_after seating recalls = record {
    kept = λ birth memory e. same birth ∙ recalls.kept birth memory e;
    fresh = λ birth memory none e. recalls.fresh birth memory none (sym (same birth) ∙ e);
  }
    where
      same : (birth : ℕ) → memory_of after owned_after birth ≡ memory_of rack owned_after birth
      same = memory-same rack after owned_after seating (seating-same rack after owned_after seating lengths standings-rested) standings-rested

pub stands-rested : (staged : Staged) (plan : Planned) (after : Racked) → ((p : ℕ) → bench_at after p ≡ rested (bench_at staged.racked p)) → length after.benches ≡ length staged.racked.benches → after.links ≡ staged.racked.links
    → AreKnown plan after staged.owned → StandsBy staged plan → StandsBy (record staged { racked = after }) plan
stands-rested staged plan after rests lengths links known by = record {
  planned = by.planned;
  wiring = by.wiring;
  nodes = by.nodes;
  seating = seating-same staged.racked after staged.owned by.seating lengths same;
  known = known;
  periods = λ p h. ap (λ (s : Standing). s.period) (same p) ∙ by.periods p (omega (arith, h, lengths));
  unfed = λ p. ap (λ (s : Standing). s.memory.fed) (same p) ∙ by.unfed p;
  unused = λ p h. ap (λ (b : Seen). b.kept.turn) (rests p);
  idle = λ p h. subst (λ (b : Seen). cleared b ≡ b) (sym (rests p)) refl;
  crew = by.crew ∙ ap (λ n. min n 64) (sym lengths);
  links = subst (EnoughLinks staged.crew) (sym links) by.links;
  room = by.room;
  refused = λ e. refused-same (open_clients plan.nodes) staged.racked after staged.owned lengths (λ p. ap (λ (s : Standing). s.kind) (same p)) (by.refused e);
}
  where
    same : (p : ℕ) → standing_at after p ≡ standing_at staged.racked p
    same = standings-rested staged.racked after rests lengths
