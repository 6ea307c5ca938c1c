-- Inside: what the lines of a script ask for, line by line. No public clause cites this module.
--     kind_on line      the kind that it opens a client of, if it is an `open` call
--     guests_on line      how many guests there have to be for it
--     cycles_on line      its cycles
--     more_guests needed line      how many for it and the earlier ones
--     past periods line      the periods behind it
--     longest periods      the longest of them
use Rattle.std.specs.Prelude.{ℕ, max, Option, None}
use Rattle.std.specs.Option.{option_map_or}
use Rattle.jack_types.specs.declared.kinds.Kind.{Kind}
use Rattle.jack_types.specs.declared.scripts.Body.{Body}
use Rattle.jack_types.specs.declared.scripts.Body.TheVariants.{Do, Run, Freewheel, Lane, Period}
use Rattle.task_laws.specs.Calls.{guest_bound, kind_opened}
use Rattle.script_needs.specs.declared.lengths.Periods.{Periods}

abbrev pub kind_on : Body → Option Kind
kind_on (Do command) = kind_opened command
kind_on (Lane _ _ command) = kind_opened command
kind_on _ = None

abbrev pub guests_on : Body → ℕ
guests_on line = option_map_or guest_bound (kind_on line) 0

abbrev pub more_guests : ℕ → Body → ℕ
more_guests needed line = max needed (guests_on line)

abbrev pub cycles_on : Body → ℕ
cycles_on (Run cycles) = cycles
cycles_on (Freewheel cycles) = cycles
cycles_on _ = 0

-- a segment has the period that is set; the one that is set last counts where no segment follows, too
abbrev pub past : Periods → Body → Periods
past periods (Run _) = record { set = periods.set; greatest = max periods.greatest periods.set }
past periods (Freewheel _) = record { set = periods.set; greatest = max periods.greatest periods.set }
past periods (Period next) = record { set = next; greatest = periods.greatest }
past periods (Do _) = periods
past periods (Lane _ _ _) = periods

-- before the first line
abbrev pub first_periods : ℕ → Periods
first_periods period = record { set = period; greatest = period }

abbrev pub longest : Periods → ℕ
longest periods = max periods.greatest periods.set
