-- What stands in a store while its file is finished: the pad byte, then the size at 4, then the size at 40. No public clause
-- cites this module.
use Rattle.std.specs.Prelude.{◌≡◌, ℕ, List, ◌++◌, drop, Option}
use Rattle.jack_types.specs.declared.files.Format.{Format}
use Rattle.jack_host.specs.Told.{BothTold}
use Rattle.driver_words.specs.session_model.specs.WaveFiles.{file_text, opening_text}
use Rattle.driver_words.specs.Tapes.{AreInOrder, IsHeaded}

-- an unfinished file, where the store tells
abbrev pub Opens : Format → List ℕ → Type 0
Opens format bytes = bytes ≡ opening_text format ++ drop 44 bytes

-- an unfinished file became the finished one of its sample bytes
abbrev pub Finished : Option (List ℕ) → Option (List ℕ) → Type 0
Finished old new = BothTold old new (λ xs ys. (format : Format) → Opens format xs → ys ≡ file_text format (drop 44 xs))

-- an unfinished file was finished in part, its sizes in their order
abbrev pub FinishedPart : Option (List ℕ) → Option (List ℕ) → Type 0
FinishedPart old new =
    BothTold old new (λ xs ys. (format : Format) → Opens format xs
    → IsHeaded (opening_text format) (file_text format (drop 44 xs)) ys × AreInOrder (opening_text format) (file_text format (drop 44 xs)) ys)
