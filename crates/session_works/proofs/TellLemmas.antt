-- What the stores of a session tell whose files are in the making.
--     told-agrees      by the tapes of its session or by the stores that it holds, it is the same
use Rattle.std.proofs.Common.{◌≡◌, ℕ, suc, List, [], ◌∷◌, map, filter_map, slice_get, Option, Some, None, refl, sym, ◌∙◌, ap, ap₂}
use Rattle.std.specs.List.{cons_option}
use Rattle.session_model.specs.Kinds.{Sound}
use Rattle.client_kinds.specs.Scores.{Score}
use Rattle.driver_words.specs.Tapes.{Tape}
use Rattle.recorder_files.specs.Recorders.{Recording, Stored, held_in, held_or}
use Rattle.serial_laws.specs.Faults.{bytes_in, told}
use Rattle.session_works.specs.Parts.{HasOpenFiles, Parts, bytes_of, session_of, told_of}

playback_tells : (file : Option Tape) → bytes_in file ≡ bytes_of (held_or None file)
playback_tells None = refl
playback_tells (Some tape) = refl

-- each recorder has its file in the making
abbrev AreOpen : List Recording → Type 0
AreOpen recordings = (i : ℕ) (r : Recording) → slice_get recordings i ≡ Some r → (tape : Tape) × (r.tape ≡ Some tape)

recorders-tell : (recordings : List Recording) → AreOpen recordings
    → map (λ (tape : Tape). tape.bytes) (filter_map (λ (r : Recording). r.tape) recordings) ≡ map (λ (r : Recording). bytes_of (held_in r)) recordings
recorders-tell [] open_files = refl
recorders-tell (one ∷ others) open_files =
    let file = open_files 0 one refl in
    let rest = recorders-tell others (λ i r e. open_files (suc i) r e) in
    let first : bytes_of (held_in one) ≡ file.0.bytes = ap (λ (t : Option Tape). bytes_of (held_or one.store t)) file.1 in
    ap (λ (t : Option Tape). map (λ (tape : Tape). tape.bytes) (cons_option t (filter_map (λ (r : Recording). r.tape) others))) file.1
    ∙ ap₂ (λ (b : Option (List ℕ)) (bs : List (Option (List ℕ))). b ∷ bs) (sym first) rest

pub told-agrees : (sounding : Score → Sound) (parts : Parts) → HasOpenFiles parts → told (session_of sounding parts) ≡ told_of sounding parts
told-agrees sounding parts files =
    ap₂ (λ (b : Option (List ℕ)) (bs : List (Option (List ℕ))). record (session_of sounding parts) { playback_file = b; record_files = bs })
    (playback_tells parts.gear.playback ∙ ap (λ (s : Option Stored). bytes_of (held_or s parts.gear.playback)) (sym files.no_playback))
    (recorders-tell parts.recorders files.tapes)
