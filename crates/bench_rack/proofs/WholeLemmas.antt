-- What stays true of a rack's fields, and what contracts see of them, where the bench at one place changes.
--     read-same      a bench that is there, whatever stands for one that is not
--     swapped benches first second, whole-swapped      two benches, each in the other's place
--     IsSlot rack benches links place slot      the bench at a place, within the fields
--     slot-among      it is there
--     slot-is, slot-within      it is the one that contracts see, at a place that is there
--     changed-there, changed-is      another bench in its place, as contracts see it
--     space-wires, space-links      its rooms can be given back
--     whole-set, whole-stays      with another bench, which has as many rooms
--     whole-fresh      of new benches
use Rattle.std.proofs.Common.{◌≡◌, ℕ, zero, suc, ◌+◌, ◌<◌, ◌≤◌, List, [], ◌∷◌, length, map, get_or, ℤ, refl, sym, ◌∙◌, ap, subst, arith}
use Rattle.std.specs.Prelude.{slice_set, vec_capacity}
use Rattle.std.specs.Global.{Vec}
use Rattle.std.proofs.lemmas.List.{get_or-set_same, get_or_default, get_or_read, length-set}
use Rattle.jack_types.specs.declared.kinds.Kind.TheVariants.{Pass}
use Rattle.jack_types.specs.declared.kinds.Kind.{Kind}
use Rattle.session_model.specs.Benches.{Signal}
use Rattle.bench_crew.specs.client_benches.specs.Seen.{Seen, new_bench, room_count}
use Rattle.bench_crew.specs.client_benches.specs.Wires.{kept_count}
use Rattle.bench_rack.specs.Insides.{IsWhole, bench_among, racked}
use Rattle.bench_rack.specs.Racks.{Racked, bench_at, link_total, wire_total, with_bench}
use Rattle.bench_rack.proofs.TotalLemmas.{links-fresh, links-most, links-set, room_count-rooms, wires-fresh, wires-most, wires-set}

pub read-same : (benches : List Seen) (i : ℕ) (slot bench : Seen) → i < length benches → bench_among benches i ≡ bench → get_or benches i slot ≡ bench
read-same benches i slot bench within is = get_or_default benches i slot (new_bench Pass 0) within ∙ is

pub record IsSlot (rack : Racked) (benches : List Seen) (links place : ℕ) (slot : Seen) : Type 0 where
  pub view : racked benches links ≡ rack
  pub within : place < length rack.benches
  pub is : slot ≡ get_or benches place slot

pub slot-among : (rack : Racked) (benches : List Seen) (links place : ℕ) → racked benches links ≡ rack → place < length rack.benches → IsSlot rack benches links place (bench_among benches place)
slot-among rack benches links place view within = record {
  view = view;
  within = within;
  is = sym (get_or_default benches place (bench_among benches place) (new_bench Pass 0) (subst (λ (r : Racked). place < length r.benches) (sym view) within));
}

set-there : {X : Type 0} (xs : List X) (i j : ℕ) (d x : X) → x ≡ get_or xs j d → get_or (slice_set xs i x) j d ≡ get_or xs j d
set-there [] i j d x is = refl
set-there (y ∷ xs) zero zero d x is = is
set-there (y ∷ xs) zero (suc j) d x is = refl
set-there (y ∷ xs) (suc i) zero d x is = refl
set-there (y ∷ xs) (suc i) (suc j) d x is = set-there xs i j d x is

abbrev pub swapped : List Seen → ℕ → ℕ → List Seen
swapped benches first second = slice_set (slice_set benches first (bench_among benches second)) second (bench_among benches first)

pub whole-swapped : (benches : List Seen) (links first second : ℕ) (spare : Vec (List ℤ)) (spare_links : Vec (List Signal)) → first < length benches → second < length benches
    → IsWhole (racked benches links) spare spare_links → IsWhole (racked (swapped benches first second) links) spare spare_links
whole-swapped benches links first second spare spare_links here there whole = record {
  wires = omega (arith, whole.wires, wires-set (racked benches links) first (bench_among benches second) here, wires-set (racked one links) second (bench_among benches first) there_now, ap (λ (bench : Seen). kept_count bench.kept.wires) stays);
  wire_space = whole.wire_space;
  links = omega (arith, whole.links, links-set (racked benches links) first (bench_among benches second) here, links-set (racked one links) second (bench_among benches first) there_now, ap room_count stays);
  link_space = whole.link_space;
}
  where
    one : List Seen
    one = slice_set benches first (bench_among benches second)

    there_now : second < length one
    there_now = omega (arith, there, length-set benches first (bench_among benches second))

    stays : bench_among one second ≡ bench_among benches second
    stays = set-there benches first second (new_bench Pass 0) (bench_among benches second) refl

module _ {rack : Racked} {benches : List Seen} {links place : ℕ} {slot : Seen} (s : IsSlot rack benches links place slot) where
  pub slot-within : place < length benches
  slot-within = subst (λ (r : Racked). place < length r.benches) (sym s.view) s.within

  slot_there : slot ≡ bench_at (racked benches links) place
  slot_there = get_or_read benches place slot slot-within s.is (new_bench Pass 0)

  pub slot-is : slot ≡ bench_at rack place
  slot-is = slot_there ∙ ap (λ (r : Racked). bench_at r place) s.view

  pub changed-there : (new : Seen) → bench_at (racked (slice_set benches place new) links) place ≡ new
  changed-there new = get_or-set_same benches place new (new_bench Pass 0) slot-within

  pub changed-is : (change : Seen → Seen) (new : Seen) → new ≡ change slot → racked (slice_set benches place new) links ≡ with_bench rack place (change (bench_at rack place))
  changed-is change new is =
      ap (λ (bench : Seen). racked (slice_set benches place bench) links) (is ∙ ap change slot-is)
      ∙ ap (λ (r : Racked). with_bench r place (change (bench_at rack place))) s.view

  pub space-wires : (spare : Vec (List ℤ)) (spare_links : Vec (List Signal)) → IsWhole (racked benches links) spare spare_links → length spare.items + kept_count slot.kept.wires ≤ vec_capacity spare
  space-wires spare spare_links whole =
      omega (arith, whole.wires, whole.wire_space, ap (λ (bench : Seen). kept_count bench.kept.wires) slot_there, wires-most (racked benches links) place slot-within)

  pub space-links : (spare : Vec (List ℤ)) (spare_links : Vec (List Signal)) → IsWhole (racked benches links) spare spare_links → length spare_links.items + room_count slot ≤ vec_capacity spare_links
  space-links spare spare_links whole = omega (arith, whole.links, whole.link_space, ap room_count slot_there, links-most (racked benches links) place slot-within)

  pub whole-set : (new : Seen) (spare spare_now : Vec (List ℤ)) (spare_links spare_links_now : Vec (List Signal))
      → length spare_now.items + kept_count new.kept.wires ≡ length spare.items + kept_count slot.kept.wires → 512 ≤ vec_capacity spare_now
      → length spare_links_now.items + room_count new ≡ length spare_links.items + room_count slot → links ≤ vec_capacity spare_links_now
      → IsWhole (racked benches links) spare spare_links → IsWhole (racked (slice_set benches place new) links) spare_now spare_links_now
  whole-set new spare spare_now spare_links spare_links_now wires wire_space rooms link_space whole = record {
    wires = omega (arith, whole.wires, wires, ap (λ (bench : Seen). kept_count bench.kept.wires) slot_there, wires-set (racked benches links) place new slot-within);
    wire_space = wire_space;
    links = omega (arith, whole.links, rooms, ap room_count slot_there, links-set (racked benches links) place new slot-within);
    link_space = link_space;
  }

  pub whole-stays : (new : Seen) (spare : Vec (List ℤ)) (spare_links : Vec (List Signal)) → kept_count new.kept.wires ≡ kept_count slot.kept.wires → new.rooms ≡ slot.rooms
      → IsWhole (racked benches links) spare spare_links → IsWhole (racked (slice_set benches place new) links) spare spare_links
  whole-stays new spare spare_links wires rooms whole =
      whole-set new spare spare spare_links spare_links (ap (λ n. length spare.items + n) wires) whole.wire_space (ap (λ n. length spare_links.items + n) (room_count-rooms new slot rooms)) whole.link_space whole

pub whole-fresh : (benches : List Seen) (kinds : List Kind) (period links : ℕ) (spare : Vec (List ℤ)) (spare_links : Vec (List Signal)) → benches ≡ map (λ kind. new_bench kind period) kinds
    → length spare.items ≡ 512 → 512 ≤ vec_capacity spare → length spare_links.items ≡ links → links ≤ vec_capacity spare_links → IsWhole (racked benches links) spare spare_links
whole-fresh benches kinds period links spare spare_links is wires wire_space rooms link_space = record {
  wires = omega (arith, wires, ap (λ (bs : List Seen). wire_total (racked bs links)) is, wires-fresh kinds period links);
  wire_space = wire_space;
  links = omega (arith, rooms, ap (λ (bs : List Seen). link_total (racked bs links)) is, links-fresh kinds period links);
  link_space = link_space;
}
