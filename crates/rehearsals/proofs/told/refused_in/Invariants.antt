use Rattle.std.proofs.Common.{◌≡◌, ◌≤◌, count_by, take}
use Rattle.jack_types.specs.declared.replies.Entry.{Entry}
use Rattle.rehearsal_model.specs.Rehearsals.{is_refused}
use Rattle.rehearsals.proofs.told.refused_in.Given as goal

abbrev pub invariant-loop-entry : goal.invariant-loop-entry
invariant-loop-entry l = record {
  counted : l.count ≡ count_by (λ (entry : Entry). is_refused entry.reply) (take l.entry-index l.history);
  few : l.count ≤ l.entry-index;
}
