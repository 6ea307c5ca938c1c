-- What recorders hold. No public clause cites this module.
--     stores_of recorders      their stores, in their order
use Rattle.std.specs.Prelude.{List, filter_map, map, Option}
use Rattle.recorder_files.specs.Recorders.{Recording, Stored, held_in}

abbrev pub stores_of : List Recording → List Stored
stores_of recorders = filter_map (λ (held : Option Stored). held) (map held_in recorders)
