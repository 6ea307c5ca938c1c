-- A pass that may ask for the thing.
use Rattle.std.specs.Prelude.{◌≡◌, ◌<◌, false, true, is_some}
use Rattle.atomic_table.specs.Seated.{TableId}
use Rattle.turn_word.specs.Turns.{Handle}

-- of this turn, which is open, and it does not hold the thing
pub record IsReady {T : Type 0} (table : TableId) (pass : Handle T) : Type 0 where
  pub table_is : pass.table ≡ table
  pub live : pass.from < pass.to
  pub known : is_some pass.opened ≡ true
  pub free : pass.holds ≡ false
