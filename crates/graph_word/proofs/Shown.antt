-- What stands at every moment is a valid state of the publication machine.
use Rattle.std.proofs.Common.{◌≡◌, ◌≤◌, List, [], ◌∷◌, ◌++◌, length, get_or, take, map, set, sym, refl, ◌∙◌, arith, length-set}
use Rattle.std.proofs.lemmas.List.Elements.{All-map}
use Rattle.session_model.specs.jack_types.specs.declared.commands.Change.{Change}
use Rattle.session_model.specs.Publication.{BegunRow, IsPublication, last_cycle, published}
use Rattle.graph_word.specs.declared.view.TakenRow.{TakenRow}
use Rattle.graph_word.specs.Publications.{last_row}
use Rattle.graph_word.specs.Rule.{begun_row, Course, shown, Stands}
use Rattle.graph_word.proofs.Fronts.{front_short, got_here, got_else, length-fronts, fronts_at}

pub last_begun : (rows : List TakenRow) → last_row rows ≡ last_cycle (map begun_row rows)
last_begun [] = refl
last_begun (row ∷ []) = refl
last_begun (row ∷ next ∷ rows) = last_begun (next ∷ rows)

pub last_pushed : (rows : List TakenRow) (row : TakenRow) → last_row (rows ++ row ∷ []) ≡ row.cycle
last_pushed [] row = refl
last_pushed (first ∷ []) row = refl
last_pushed (first ∷ next ∷ rows) row = last_pushed (next ∷ rows) row

pub valid_of : (c : Course) → Stands c → IsPublication (shown c)
valid_of c s =
    let long = length-fronts c.all in let newest = s.newest in let low_place = s.low_place in let low_mine = s.low_mine in
    let empty : List (List Change) = [] ∷ [] ∷ [] ∷ [] in let first : List (List Change) = set empty c.place (take c.number c.all) in
    let three : length first ≡ 3 = length-set empty c.place (take c.number c.all) in
    record {
      three = length-set first c.mine (take c.own c.all) ∙ three;
      in_word = s.low_place;
      in_reader = s.low_mine;
      in_publisher = s.low_theirs;
      word_apart = s.not_mine;
      reader_apart = λ e. s.apart (sym e);
      publisher_apart = λ e. s.not_theirs (sym e);
      opened = omega arith;
      newest = omega arith;
      word_holds = got_else first c.mine c.place (take c.own c.all) s.not_mine ∙ (got_here empty c.place (take c.number c.all) low_place ∙ sym (fronts_at c.all c.number (omega arith)));
      reader_holds = got_here first c.mine (take c.own c.all) (omega arith) ∙ sym (fronts_at c.all c.own (omega arith));
      cycle_is = last_begun c.rows;
      rows_are = All-map (λ (row : BegunRow). row.number ≤ published (shown c)) begun_row c.rows (λ k d lt. let short = front_short (get_or c.rows k d).changes c.all (s.taken k d lt) in omega arith);
      bounded = λ k d lt. All-map (λ (row : BegunRow). row.cycle ≤ (get_or c.pairs k d).cycle → row.number ≤ (get_or c.pairs k d).number) begun_row c.rows (s.bounded k d lt);
    }
