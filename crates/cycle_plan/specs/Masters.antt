-- How a graph keeps its timebase master. No public clause cites this module.
--     master_of held      the master of the definitions
--     is_led_by name master      whether the master is the client of this name
use Rattle.std.specs.Prelude.{ℕ, Bool, false, List, Option}
use Rattle.std.specs.Option.{option_map_or}
use Rattle.std.specs.Str.{bytes_eq}
use Rattle.graph_word.specs.session_model.specs.State.{Master}
use Rattle.cycle_plan.specs.declared.masters.Mastership.{Mastership}

-- the client's name and the numbers of its tempo
abbrev pub master_of : Mastership → Master
master_of held = record { client = held.client; mbpm = held.tempo.mbpm; beats = held.tempo.beats; ticks = held.tempo.ticks }

-- whether the master is the client of this name
abbrev pub is_led_by : List ℕ → Option Master → Bool
is_led_by name master = option_map_or (λ (held : Master). bytes_eq held.client name) master false
