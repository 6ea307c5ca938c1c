-- Where every seat has started its share and holds nothing, the cycle has ended.
use Rattle.std.proofs.Common.{◌≡◌, ℕ, ◌%◌, ◌<◌, Bool, true, List, [], ◌∷◌, length, get_or, Option, inl, refl, sym, ◌∙◌, ap, subst, arith, true≢false, mod-lt}
use mathlib.Core.Option.{some, some-injective}
use lib.ListN.{get_elem?}
use Rattle.atomic_table.specs.Seated.{TableId}
use Rattle.session_laws.specs.jack_types.specs.declared.ports.Link.{Link}
use Rattle.session_laws.specs.session_model.specs.Activation.{Held, Left, AtHome, place_of, is_started, IsQuiet}
use Rattle.session_laws.proofs.ActivationLemmas.{AllHome-quiet, AllReleased-quiet}
use Rattle.activation.specs.declared.takens.Seat.{Seat}
use Rattle.activation.specs.declared.views.Item.{Item}
use Rattle.activation.specs.declared.views.View.{View}
use Rattle.activation.specs.Rule.{has, IsUsual, Knows, Lies, Cycle}
use Rattle.activation.specs.Contents.{IsFull, IsDone}
use Rattle.activation.specs.Seats.{Sits}
use Rattle.activation.specs.Rounds.{AreSeats, HavePlayed, Know}
use Rattle.activation.specs.Ends.{AreEnded}
use Rattle.activation.proofs.Testing.{has_here}
use Rattle.activation.proofs.Keeping.{in_cycle}
use Rattle.activation.proofs.Gathered.{number_at, long_as, sits, empty_at, looked_at}

module _ {B M Y : Type 0} (memory : B → M) (has_room : B → ℕ → Bool) (after : M → List Y → M) (gives : M → List Y → ℕ → Y) where
  pub are_ended : (id : TableId) (links : List Link) (nodes count : ℕ) (before : List B) (first : Seat B Y M) (all : List (Seat B Y M)) → 0 < count → AreSeats id links nodes count all → HavePlayed nodes count all → Know before all → AreEnded memory has_room after gives links before all
  are_ended id links nodes count before first all some_seat are played know s rule there =
      let full = IsFull memory has_room after gives in
      let done = IsDone memory has_room after gives in
      let long = long_as all count are.numbers in
      let at : ℕ → Seat B Y M = λ k. get_or all k first in
      let sit : (k : ℕ) → k < count → Sits id links nodes count k (at k).token = λ k low. sits id links nodes count all are k first low in
      let seen : (k : ℕ) → k < count → get_elem? s.views (at k).token.id ≡ some (at k).token.me.0 = λ k low. there k first (omega (arith, low, long)) in
      let v0 : View (Option (Item B Y)) B = (at 0).token.me.0 in
      let z = sit 0 some_seat in
      let same_before : v0.duty.before ≡ before = know 0 first (omega (arith, some_seat, long)) in
      let r : Cycle full done links before count s = subst (λ (x : List Link × List B × ℕ). Cycle full done x.0 x.1 x.2 s) (λ i. (z.at.same_links i, same_before i, z.same_seats i))
      (in_cycle full done s (at 0).token.id v0 rule (seen 0 some_seat) z.at.idle.live z.at.idle.off) in
      let same_nodes : length before ≡ nodes = ap length (sym same_before) ∙ z.at.same_nodes in
      let knows : (k : ℕ) → k < count → Knows links before count r.machine (at k).token.me.0.duty = λ k low. (r.each_seat (at k).token.id (at k).token.me.0 (seen k low) (sit k low).at.idle.live).1 in
      let share : (k : ℕ) → k < count → has (at k).token.me.0.duty.shares k ≡ true = λ k low. ap (λ (xs : List ℕ). has xs k) (sit k low).shares ∙ has_here k [] in
      let not_held : (n seat : ℕ) (b : Bool) → place_of r.machine n ≡ Held seat b → ⊥ = λ n seat b e.
      let u = subst (IsUsual count) e (r.usual n) in
      true≢false (sym ((knows seat u.0).all_held n seat (share seat u.0) (e ∙ ap (Held seat) u.1)) ∙ ap (λ (xs : List ℕ). has xs n) (empty_at id links nodes count all are seat first u.0)) in
      let not_left : (n : ℕ) → place_of r.machine n ≡ Left → ⊥ = λ n e.
      let k = r.left.by_some n e in
      let known = (r.each_seat k.0 k.1 k.2 k.3).1 in
      let seat : ℕ = known.some_share.0 in
      let low : seat < count = known.within seat known.some_share.1 in
      let is : k.0 ≡ (at seat).token.id = r.alone k.0 (at seat).token.id k.1 (at seat).token.me.0 seat k.2 (seen seat low) k.3 (sit seat low).at.idle.live known.some_share.1 (share seat low) in
      let same : k.1 ≡ (at seat).token.me.0 = some-injective k.1 (at seat).token.me.0 (sym k.2 ∙ (ap (get_elem? s.views) is ∙ seen seat low)) in
      true≢false (sym k.4 ∙ (ap (λ (u : View (Option (Item B Y)) B). has u.duty.left n) same ∙ ap (λ (xs : List ℕ). has xs n) (looked_at id links nodes count all are seat first low))) in
      let started : (n : ℕ) → n < length before → is_started r.machine n ≡ true = λ n low.
      let k : ℕ = n % count in
      let low' : k < count = mod-lt n some_seat in
      (knows k low').own_started n low (share k low') ∙ played k first (omega (arith, low', long)) n (omega (arith, low, same_nodes)) (sym (number_at all count k first are.numbers low')) in
      let quiet : IsQuiet r.machine = record { started = λ n h. started n (omega (arith, h, r.size)); none_held = λ n seat b h e. not_held n seat b e; none_left = λ n h e. not_left n e } in
      let home : (n : ℕ) → n < length before → place_of r.machine n ≡ AtHome = λ n low. AllHome-quiet links (length before) r.are count r.machine r.size r.consistent quiet n low in record {
        machine = r.machine;
        consistent = r.consistent;
        home = home;
        released = λ l low. AllReleased-quiet links (length before) r.are count r.machine r.size r.consistent quiet l low;
        told = r.told;
        benches = λ n low. subst (λ p. Lies full done links before s p true n n) (home n low) (r.slots n true n (inl (low, refl, refl)));
      }

  pub all_ended : (id : TableId) (links : List Link) (nodes count : ℕ) (before : List B) (all : List (Seat B Y M)) → 0 < count → AreSeats id links nodes count all → HavePlayed nodes count all → Know before all → AreEnded memory has_room after gives links before all
  all_ended id links nodes count before [] some_seat are played know = absurd (omega (arith, some_seat, long_as {B = B} {Y = Y} {M = M} [] count are.numbers))
  all_ended id links nodes count before (first ∷ rest) some_seat are played know = are_ended id links nodes count before first (first ∷ rest) some_seat are played know
