use Rattle.std.proofs.Common.{◌≡◌, ◌<◌, ◌^◌, true, take}
use Rattle.std.specs.List.{list_all}
use Rattle.session_model.specs.Grammar.{is_digit, number_value}
use Rattle.session_graph.proofs.words.number_of.Given as goal

abbrev pub invariant-loop-b : goal.invariant-loop-b
invariant-loop-b l = record {
  digits : list_all is_digit (take l.b-index l.word) ≡ true;
  value : number_value (take l.b-index l.word) ≡ l.n;
  small : l.n < 10 ^ l.b-index;
}
