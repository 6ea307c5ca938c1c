-- A new table meets the rule of a publication.
use Rattle.std.proofs.Common.{◌≡◌, ℕ, ◌≤◌, true, false, List, [], ◌∷◌, length, sym, refl, subst, ⊎_elim, arith}
use Rattle.std.specs.Prelude.{Some, None}
use Rattle.std.specs.List.{All}
use Rattle.std.proofs.lemmas.List.Elements.{All-nil}
use mathlib.Core.Option.{some, some-ne-none}
use lib.ListN.{get_elem?}
use Rattle.atomic_table.specs.Table.{opening}
use Rattle.table_lemmas.proofs.Views.{at_snoc_last}
use Rattle.session_model.specs.jack_types.specs.declared.commands.Change.{Change}
use Rattle.session_model.specs.Publication.{SeenPair}
use Rattle.graph_word.specs.declared.plans.Base.{Base}
use Rattle.graph_word.specs.declared.view.TakenRow.{TakenRow}
use Rattle.graph_word.specs.declared.view.SeatView.{SeatView}
use Rattle.graph_word.specs.Publications.{IsFront}
use Rattle.graph_word.specs.Rule.{Stands, KnowsPublished, KnowsTaken, PublicationRule, opening_course, opening_view}
use Rattle.graph_word.proofs.Shown.{valid_of}

starts : Stands opening_course
starts = record {
  low_place = omega arith;
  low_theirs = omega arith;
  low_mine = omega arith;
  not_theirs = λ (e : 0 ≡ 1). omega arith;
  not_mine = λ (e : 0 ≡ 2). omega arith;
  apart = λ (e : 1 ≡ 2). omega arith;
  newest = refl;
  taken = All-nil (λ (row : TakenRow). IsFront row.changes []);
  seen_low = All-nil (λ (pair : SeenPair). pair.cycle ≤ 0);
  bounded = All-nil (λ (pair : SeenPair). All (λ (row : TakenRow). row.cycle ≤ pair.cycle → length row.changes ≤ pair.number) []);
}

pub begins_with : {P : Type 0} (content : P → List Change) (base_of : P → Base) (z : Base) (x : P) → content x ≡ [] → base_of x ≡ z
    → PublicationRule content base_of z (opening (0 ∷ 0 ∷ []) (Some x ∷ None ∷ None ∷ []) (opening_view z))
begins_with content base_of z x empty based =
    let only : (Q : ℕ → SeatView → Type 0) → Q 0 (opening_view z) → (j : ℕ) (u : SeatView) → get_elem? (opening_view z ∷ []) j ≡ some u → Q j u = λ Q h j u e. ⊎_elim (λ (a : get_elem? [] j ≡ some u). absurd (some-ne-none u (sym a)))
    (λ (a : (j ≡ 0) × (opening_view z ≡ u)). subst (λ (y : ℕ × SeatView). Q y.0 y.1) (λ k. (sym a.0 k, a.1 k)) h) (at_snoc_last [] (opening_view z) u j e) in
    record {
      course = opening_course;
      lent = false;
      drawn = false;
      publisher = 0;
      reader = 0;
      words_are = refl;
      small = omega arith;
      three = refl;
      stands = starts;
      valid = valid_of opening_course starts;
      holds = (x, refl, empty, based);
      not_lent = λ _. refl;
      not_drawn = λ _. refl;
      each_publisher = only (λ j u. u.is_publisher ≡ true → (j ≡ 0) × KnowsPublished z opening_course false u.publisher)
          (λ _. (refl, record { same_base = refl; all_published = refl; own_place = refl; slot_out = refl; same_pairs = refl; least_low = omega arith }));
      each_reader = only (λ j u. u.is_reader ≡ true → (j ≡ 0) × KnowsTaken z opening_course false u.reader)
          (λ _. (refl, record { same_base = refl; own_content = refl; own_place = refl; slot_out = refl; reads_low = All-nil (λ q. q ≤ 0); same_rows = refl; least_low = omega arith; behind = λ up. absurd (omega arith) }));
    }
