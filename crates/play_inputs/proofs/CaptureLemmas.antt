-- What was opened of a capture, and which fault it had.
use Rattle.std.proofs.Common.{◌≡◌, ◌≢◌, ℕ, ℤ, List, None, Some, Ok, Err, refl, sym, subst}
use Rattle.std.specs.Prelude.{IfSome, Option}
use Rattle.jack_types.specs.declared.files.Format.{Format}
use Rattle.jack_types.specs.declared.files.WaveFault.{WaveFault}
use Rattle.jack_types.specs.declared.files.WaveFault.TheVariants.{NotRiff, NotWave, NoFormat, BadFormat, NoData, Ends, Read, TooManyChunks}
use Rattle.jack_types.specs.declared.scripts.Header.{Header}
use Rattle.jack_host.specs.Files.{Gives as GivesFile}
use Rattle.session_model.specs.WaveFiles.{IsWave, wave_fault}
use Rattle.session_model.specs.WaveOpening.{Opened, opened, wave_in}
use Rattle.wave_pcm.specs.Readings.{AreBytes}
use Rattle.play_inputs.specs.declared.status.Difference.{Difference}
use Rattle.play_inputs.specs.declared.status.Status.{Status}
use Rattle.play_inputs.specs.Captures.{CaptureStatus, IsOpened, status_of_wave}
use Rattle.play_inputs.specs.Inputs.{difference_in, Files, IfBytes, IsBadWave, IsDifferent}

-- what an opened file has of the bytes that its source had, where that tells them
abbrev pub IsOpenedOn : Option (List ℕ) → Format → Option (List ℤ) → Type 0
IsOpenedOn given format left = IfSome given (λ bytes. (told : Opened) × (opened bytes ≡ Ok told) × (format ≡ told.format) × (left ≡ Some (wave_in told)))

abbrev pub IsWaveOn : Option (List ℕ) → Format → Option (List ℤ) → Type 0
IsWaveOn given format left = IfSome given (λ bytes. AreBytes bytes → (samples : List ℤ) × IsWave bytes format samples × (left ≡ Some samples))

pub opened-told : (files : Option Files) (name : List ℕ) (given : Option (List ℕ)) (header : Header) (format : Format) (left : Option (List ℤ))
    → GivesFile files name given → IsOpenedOn given format left → IsWaveOn given format left → difference_in header format ≡ None → IsOpened files name header left
opened-told None name given header format left g o w fits = tt
opened-told (Some files) name None header format left g o w fits = absurd g
opened-told (Some files) name (Some bytes) header format left g o w fits =
    let told = o.0 in (
      bytes,
      g,
      (
        wave_in told,
        record {
          told = told;
          opens = o.1;
          wave = λ are.
              let is = w are in
              let one : left ≡ Some is.0 = is.2 in
              let other : left ≡ Some (wave_in told) = o.3 in
              let same : is.0 ≡ wave_in told = cc in
              subst (λ (f : Format). IsWave bytes f (wave_in told)) o.2 (subst (λ (xs : List ℤ). IsWave bytes format xs) same is.1);
          samples_are = refl;
          fits = subst (λ (f : Format). difference_in header f ≡ None) o.2 fits;
        },
        o.3,
      ),
    )

pub difference-told : (files : Option Files) (name : List ℕ) (given : Option (List ℕ)) (header : Header) (format : Format) (left : Option (List ℤ)) (difference : Difference)
    → GivesFile files name given → IsOpenedOn given format left → difference_in header format ≡ Some difference
    → IfBytes files name (λ bytes. IsDifferent bytes header difference)
difference-told None name given header format left difference g o differs = tt
difference-told (Some files) name None header format left difference g o differs = absurd g
difference-told (Some files) name (Some bytes) header format left difference g o differs =
    (bytes, g, (o.0, o.1, subst (λ (f : Format). difference_in header f ≡ Some difference) o.2 differs))

bad-told : (files : Option Files) (name : List ℕ) (left : Option (List ℕ)) (fault : WaveFault) → GivesFile files name left
    → IfSome left (λ bytes. (opened bytes ≡ Err fault) × (AreBytes bytes → wave_fault bytes ≡ Some fault)) → IfBytes files name (λ bytes. IsBadWave bytes fault)
bad-told None name left fault g h = tt
bad-told (Some files) name None fault g h = absurd g
bad-told (Some files) name (Some bytes) fault g h = (bytes, g, h)

pub wave-fault-told : (files : Option Files) (name : List ℕ) (left : Option (List ℕ)) (header : Header) (fault : WaveFault) (status : Status) → GivesFile files name left
    → (fault ≢ Read → IfSome left (λ bytes. (opened bytes ≡ Err fault) × (AreBytes bytes → wave_fault bytes ≡ Some fault))) → status ≡ status_of_wave fault
    → CaptureStatus files name header status
wave-fault-told files name left header NotRiff status g h e = subst (CaptureStatus files name header) (sym e) (bad-told files name left NotRiff g (h (λ same. cc same)))
wave-fault-told files name left header NotWave status g h e = subst (CaptureStatus files name header) (sym e) (bad-told files name left NotWave g (h (λ same. cc same)))
wave-fault-told files name left header NoFormat status g h e = subst (CaptureStatus files name header) (sym e) (bad-told files name left NoFormat g (h (λ same. cc same)))
wave-fault-told files name left header (BadFormat field value) status g h e = subst (CaptureStatus files name header) (sym e) (bad-told files name left (BadFormat field value) g (h (λ same. cc same)))
wave-fault-told files name left header NoData status g h e = subst (CaptureStatus files name header) (sym e) (bad-told files name left NoData g (h (λ same. cc same)))
wave-fault-told files name left header (Ends place) status g h e = subst (CaptureStatus files name header) (sym e) (bad-told files name left (Ends place) g (h (λ same. cc same)))
wave-fault-told files name left header Read status g h e = subst (CaptureStatus files name header) (sym e) tt
wave-fault-told files name left header TooManyChunks status g h e = subst (CaptureStatus files name header) (sym e) (bad-told files name left TooManyChunks g (h (λ same. cc same)))
