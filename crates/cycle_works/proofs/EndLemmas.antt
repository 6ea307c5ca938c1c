-- What is read of a memory with a log.
--     log-kept      its log, where a client without a memory has none
--     peak-logged      its peak
use Rattle.std.proofs.Common.{◌≡◌, List, [], Option, Some, None, refl}
use Rattle.std.specs.Prelude.{option_map}
use Rattle.std.specs.Option.{option_map_or}
use Rattle.jack_types.specs.declared.events.Logged.{Logged}
use Rattle.session_model.specs.Kinds.{Memory}

pub log-kept : (log : List Logged) (memory : Option Memory) → (memory ≡ None → log ≡ []) → log ≡ option_map_or (λ (m : Memory). m.log) (option_map (λ (m : Memory). record m { log = log }) memory) []
log-kept log None none = none refl
log-kept log (Some m) none = refl

pub peak-logged : (log : List Logged) (memory : Option Memory) → option_map_or (λ (m : Memory). m.peak) memory 0 ≡ option_map_or (λ (m : Memory). m.peak) (option_map (λ (m : Memory). record m { log = log }) memory) 0
peak-logged log None = refl
peak-logged log (Some m) = refl
