-- What callers see of a transport, and of what it is stepped by.
--     Standing      where a transport stands behind a cycle
--     counted slow      the slow numbers without those that are none
--     HasTarget change, HasTempo master tempo      a locate's frame is in its range; a tempo is the master's
--     with_targets changes      the changes without the locates that are out of their range
use Rattle.std.specs.Prelude.{◌≡◌, ℕ, ◌≤◌, ⊤, Bool, true, List, filter, nat_le, nat_lt, Option, Some, None, option_map}
use Rattle.jack_types.specs.declared.commands.Change.{Change}
use Rattle.jack_types.specs.declared.commands.Command.{Command}
use Rattle.jack_types.specs.declared.commands.Command.TheVariants.{Locate}
use Rattle.jack_types.specs.declared.moments.Bbt.{Bbt}
use Rattle.session_model.specs.State.{Master}
use Rattle.session_model.specs.Tempo.{bbt}
use Rattle.session_model.specs.Transport.{Row}
use Rattle.tempo_map.specs.declared.tempos.Tempo.{Tempo}

-- the rate, the cycles so far, their frames, and the row that the next cycle goes on from
pub record Standing : Type 0 where
  pub rate : ℕ
  pub cycles : ℕ
  pub frames : ℕ
  pub row : Row

-- a slow number of 0 is none
abbrev pub counted : List ℕ → List ℕ
counted slow = filter (λ cycles. nat_lt 0 cycles) slow

-- the greatest frame that a locate may name is 2,147,483,647
abbrev pub IsTarget : Command → Type 0
IsTarget (Locate frame) = frame ≤ 2147483647
IsTarget _ = ⊤

abbrev pub HasTarget : Change → Type 0
HasTarget change = IsTarget change.command

-- whether a command is no locate, or one in its range
abbrev pub is_target : Command → Bool
is_target (Locate frame) = nat_le frame 2147483647
is_target _ = true

-- the changes without the locates that are out of their range
abbrev pub with_targets : List Change → List Change
with_targets changes = filter (λ (change : Change). is_target change.command) changes

-- the master's numbers are those of the tempo
pub record HasNumbers (master : Master) (tempo : Tempo) : Type 0 where
  pub mbpm : master.mbpm ≡ tempo.mbpm
  pub beats : master.beats ≡ tempo.beats
  pub ticks : master.ticks ≡ tempo.ticks

-- there is a tempo where there is a master
abbrev pub HasTempo : Option Master → Option Tempo → Type 0
HasTempo None None = ⊤
HasTempo (Some master) (Some tempo) = HasNumbers master tempo
HasTempo _ _ = ⊥

-- where a frame stands under a master
abbrev pub place_of : Option Master → ℕ → ℕ → Option Bbt
place_of master frame rate = option_map (λ master. bbt master.mbpm master.beats master.ticks frame rate) master
