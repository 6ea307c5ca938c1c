use Rattle.session_works.proofs.laws.cycles_and_blocks.Goals as goal

pub returns : goal.returns
returns c = record {
  blocks = c.blocks_leave_the_parts.ensures.sound;
  empty = c.blocks_leave_the_parts.ensures.empty;
  tells = c.blocks_leave_the_parts.ensures.tells;
  read = c.disks_leave_the_parts.ensures.read;
  still_empty = c.disks_leave_the_parts.ensures.empty;
  filled = c.disks_leave_the_parts.ensures.filled;
  cycle = c.the_driver_leaves_the_parts.ensures;
  told = c.disks_leave_the_parts.ensures.told;
  met = c.disks_leave_the_parts.ensures.tells;
  next = c.the_next_cycle_may_be_run.ensures;
}
