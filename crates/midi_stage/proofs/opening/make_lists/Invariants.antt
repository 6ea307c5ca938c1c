use Rattle.std.proofs.Common.{◌≡◌, ◌<◌, length, take}
use Rattle.midi_stage.proofs.opening.make_lists.Given as goal

-- once a list was read the script is known to be lawful
abbrev pub invariant-loop-list : goal.invariant-loop-list
invariant-loop-list l = record {
  lists : l.lists.items ≡ take l.list l.script.events;
  lawful : 0 < l.list → length l.script.events ≡ 16;
}
