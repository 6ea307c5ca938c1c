-- Where a body line stands: what the lines before it mean for it.
--     begun_by standing lane      the number that the lane's last call in the open segment asked for
--     lane_line_at, body_line_at      what a line says there
--     limits_at      the limits that it may pass there
--     moved      where the next line stands
--     Follows header earlier standing      the standing is that behind these lines
use Rattle.std.specs.Prelude.{◌≡◌, ℕ, ◌+◌, ◌-◌, ◌*◌, ◌≤◌, Bool, ◌&&◌, List, [], ◌∷◌, ◌++◌, codes, count_by, nat_lt, nat_le, length, slice_index, slice_set, Option, Some, None, Result, Ok, if◌then◌else◌}
use Rattle.jack_types.specs.declared.commands.Command.{Command}
use Rattle.jack_types.specs.declared.scripts.Body.{Body}
use Rattle.jack_types.specs.declared.scripts.Body.TheVariants.{Do, Run, Freewheel, Lane, Period}
use Rattle.jack_types.specs.declared.scripts.Cause.{Cause}
use Rattle.jack_types.specs.declared.scripts.Cause.TheVariants.{TooMany, TooLong}
use Rattle.jack_types.specs.declared.scripts.Header.{Header}
use Rattle.jack_types.specs.declared.scripts.Many.TheVariants.{Calls, Opens, Segments, Periods, Cycles}
use Rattle.script_commands.specs.Choosing.{Choice, found_in, or_else}
use Rattle.grammar_laws.proofs.GrammarLimits.{period_behind}
use Rattle.grammar_laws.specs.session_model.specs.Grammar.{is_call, is_open, opens, is_segment, is_period_line, open_segment, last_begun, most_channels, all_cycles, all_bytes}
use Rattle.grammar_laws.specs.session_model.specs.Reading.{◌>>=◌, Reader, by_word, made, number, any_number, fixed, begun_in, command, period, has_periods, Limit, passed_limit, unless, whole}
use Rattle.grammar_laws.specs.session_model.specs.Scripts.{phases_of}
use Rattle.script_body.specs.declared.standing.Standing.{Standing}

-- lanes are counted from 1
abbrev pub begun_by : Standing → ℕ → ℕ
begun_by standing lane = slice_index standing.begun (lane - 1)

abbrev pub lane_line_at : Header → Standing → Reader Body
lane_line_at header standing words = do
  lane ← number 1 4 words
  at ← fixed (codes "at") lane.1
  n ← any_number at.1
  begun ← begun_in standing.segment (begun_by standing lane.0) n.0
  c ← command header n.1
  Ok (Lane lane.0 begun c.0, c.1)

abbrev pub lines_at : Header → Standing → List (Choice Body)
lines_at header standing =
    (codes "do", made (command header) Do)
    ∷ (codes "run", made (number 1 1000000) Run)
    ∷ (codes "freewheel", made (number 1 1000000) Freewheel)
    ∷ (codes "lane", lane_line_at header standing)
    ∷ []

abbrev pub period_lines : List (Choice Body)
period_lines = (codes "period", made period Period) ∷ []

-- what a body line's first word chooses
abbrev pub line_at : Header → Standing → List ℕ → Option (Choice Body)
line_at header standing first = or_else (found_in (lines_at header standing) first) (if has_periods header then found_in period_lines first else None)

abbrev pub body_line_at : Header → Standing → Reader Body
body_line_at header standing = by_word (if has_periods header then lines_at header standing ++ period_lines else lines_at header standing)

-- the cycles of a segment line, and their sample bytes
abbrev pub cycles_of : Body → ℕ
cycles_of (Run cycles) = cycles
cycles_of (Freewheel cycles) = cycles
cycles_of _ = 0

abbrev pub bytes_of : Header → Standing → Body → ℕ
bytes_of header standing body = cycles_of body * standing.period * 4 * most_channels header

abbrev pub limits_at : Header → Standing → Body → List Limit
limits_at header standing body =
    record { passed = is_call body && nat_le 4096 standing.calls; cause = TooMany Calls 4096 }
    ∷ record { passed = opens body && nat_le 256 standing.opens; cause = TooMany Opens 256 }
    ∷ record { passed = is_segment body && nat_le 256 standing.segments; cause = TooMany Segments 256 }
    ∷ record { passed = is_period_line body && nat_le 256 standing.periods; cause = TooMany Periods 256 }
    ∷ record { passed = is_segment body && nat_lt 1000000 (standing.cycles + cycles_of body); cause = TooMany Cycles 1000000 }
    ∷ record { passed = is_segment body && nat_lt 2000000000 (standing.bytes + bytes_of header standing body); cause = TooLong }
    ∷ []

-- the same limits, by what a line is
abbrev pub call_limit : Standing → Command → Option Cause
call_limit standing command =
    if nat_le 4096 standing.calls then Some (TooMany Calls 4096)
    else if is_open command && nat_le 256 standing.opens then Some (TooMany Opens 256)
    else None

abbrev pub segment_limit : Header → Standing → ℕ → Option Cause
segment_limit header standing cycles =
    if nat_le 256 standing.segments then Some (TooMany Segments 256)
    else if nat_lt 1000000 (standing.cycles + cycles) then Some (TooMany Cycles 1000000)
    else if nat_lt 2000000000 (standing.bytes + cycles * standing.period * 4 * most_channels header) then Some TooLong
    else None

abbrev pub period_limit : Standing → Option Cause
period_limit standing = if nat_le 256 standing.periods then Some (TooMany Periods 256) else None

-- no lane has called
abbrev pub none_begun : List ℕ
none_begun = 0 ∷ 0 ∷ 0 ∷ 0 ∷ []

abbrev pub one_if : Bool → ℕ
one_if b = if b then 1 else 0

abbrev pub start : Header → Standing
start header = record { calls = 0; opens = 0; segments = 0; periods = 0; cycles = 0; bytes = 0; period = header.period; segment = None; begun = none_begun }

-- one call more
abbrev pub called : Standing → Command → Standing
called standing command = record standing { calls = standing.calls + 1; opens = standing.opens + one_if (is_open command) }

-- no segment is open
abbrev pub closed : Standing → Standing
closed standing = record standing { segment = None; begun = none_begun }

-- one segment more, which is open
abbrev pub opened : Header → Standing → ℕ → Standing
opened header standing cycles = record standing { segments = standing.segments + 1; cycles = standing.cycles + cycles; bytes = standing.bytes + cycles * standing.period * 4 * most_channels header; segment = Some cycles; begun = none_begun }

-- a call of a lane
abbrev pub begun : Standing → ℕ → ℕ → Standing
begun standing lane asked = record standing { begun = slice_set standing.begun (lane - 1) asked }

-- another period
abbrev pub changed : Standing → ℕ → Standing
changed standing period = record standing { periods = standing.periods + 1; period = period }

abbrev pub moved : Header → Standing → Body → Standing
moved header standing (Do command) = closed (called standing command)
moved header standing (Run cycles) = opened header standing cycles
moved header standing (Freewheel cycles) = opened header standing cycles
moved header standing (Lane lane asked command) = begun (called standing command) lane asked
moved header standing (Period next) = closed (changed standing next)

-- no count or sum has passed its limit
pub record IsWithin (standing : Standing) : Type 0 where
  pub calls : standing.calls ≤ 4096
  pub opens : standing.opens ≤ 256
  pub segments : standing.segments ≤ 256
  pub periods : standing.periods ≤ 256
  pub cycles : standing.cycles ≤ 1000000
  pub bytes : standing.bytes ≤ 2000000000
  pub period : standing.period ≤ 4096
  pub lanes : length standing.begun ≡ 4

-- a line's numbers are so small that sums with them fit
abbrev pub IsSmall : Body → Type 0
IsSmall (Do command) = Unit {0}
IsSmall (Run cycles) = cycles ≤ 1000000
IsSmall (Freewheel cycles) = cycles ≤ 1000000
IsSmall (Lane lane begun command) = (1 ≤ lane) × (lane ≤ 4)
IsSmall (Period next) = next ≤ 4096

pub record Follows (header : Header) (earlier : List Body) (standing : Standing) : Type 0 where
  pub calls : standing.calls ≡ count_by is_call earlier
  pub opens : standing.opens ≡ count_by opens earlier
  pub segments : standing.segments ≡ count_by is_segment earlier
  pub periods : standing.periods ≡ count_by is_period_line earlier
  pub cycles : standing.cycles ≡ all_cycles (phases_of header.period earlier)
  pub bytes : standing.bytes ≡ all_bytes header (phases_of header.period earlier)
  pub period : standing.period ≡ period_behind header.period earlier
  pub segment : standing.segment ≡ open_segment earlier
  pub lanes : length standing.begun ≡ 4
  pub begun : (lane : ℕ) → 1 ≤ lane → lane ≤ 4 → begun_by standing lane ≡ last_begun earlier lane

-- a whole line where it stands: its words, and then the limits
abbrev pub body_at : Header → Standing → List (List ℕ) → Result Body Cause
body_at header standing words = do
  read ← body_line_at header standing words
  body ← whole read
  unless (passed_limit (limits_at header standing body)) body
