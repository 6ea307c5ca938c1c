-- Frames, read block by block.
use Rattle.std.proofs.Common.{◌≡◌, ◌⊎◌, ℕ, suc, ◌+◌, ◌-◌, ◌*◌, ◌/◌, ◌%◌, ◌<◌, ◌≤◌, min, List, [], ◌∷◌, ◌++◌, length, take, drop, Some, None, inl, inr, ⊎_elim, refl, sym, ap, subst, ◌∙◌, arith, length-append, append-nil, ℤ}
use borrow.Rule.Slice.PartMut.{put_mid}
use Rattle.std.specs.Prelude.{Err, IfOk, IfSome, Ok, Option, Result}
use Rattle.std.specs.Io.KnownBytes.{Consumes, IsAtEnd}
use Rattle.std.proofs.Math.Seq.{take-add}
use Rattle.std.proofs.lemmas.List.{drop-drop, drop_at, length-drop, length-take-le, drop-append-le, take-append-drop, take-take, take_all, take_at}
use Rattle.std.proofs.lemmas.Bool.{cases_lt}
use Rattle.std.proofs.lemmas.Nat.{div-add-mod', div-mul-add, le-div, mod_below, mul-le, mul-lt}
use Rattle.samples.specs.jack_types.specs.declared.files.Format.{Format}
use Rattle.samples.specs.jack_types.specs.declared.files.WaveFault.{WaveFault}
use Rattle.samples.specs.session_model.specs.Samples.{samples_of, width}
use Rattle.samples.specs.session_model.specs.WaveFiles.{frame_bytes, IsWave, wave_fault, whole_frames}
use Rattle.samples.specs.session_model.specs.WaveOpening.{fault_in, opened, Opened, wave_in}
use Rattle.samples.specs.wave_laws.proofs.WaveForward.{fault_in-opened, wave-opened}
use Rattle.samples.specs.wave_laws.proofs.WaveSamples.{length-samples_of, samples_of-append, width_some}
use Rattle.wave_pcm.specs.Openings.{Opens}
use Rattle.wave_pcm.specs.Readings.{AreBytes, Gave, Gives, IsReadable, left_of, SameReading, Reading}

frame_some : (format : Format) → IsReadable format → 0 < frame_bytes format
frame_some format is = mul-lt 0 0 format.channels (width format.bits) is.least_channels (width_some format.bits is.bits)

-- so many whole frames
frames_in : (g t f : ℕ) → 0 < f → (g * f + t) / f ≡ g + t / f
frames_in g t f some =
    ap (λ (n : ℕ). n / f) (omega (arith, div-add-mod' t f)) ∙ div-mul-add (g + t / f) f (t % f) (mod_below t f some)

take_past : (xs ys : List ℕ) (k : ℕ) → take (length xs + k) (xs ++ ys) ≡ xs ++ take k ys
take_past [] ys k = ap (λ (n : ℕ). take n ys) (omega arith)
take_past (x ∷ xs) ys k =
    let e : length (x ∷ xs) + k ≡ suc (length xs + k) = omega arith in
    ap (λ (n : ℕ). take n (x ∷ xs ++ ys)) e ∙ ap (λ (zs : List ℕ). x ∷ zs) (take_past xs ys k)

-- whole frames in front of the rest
whole_frames-more : (format : Format) (size g : ℕ) (front rest : List ℕ) → 0 < frame_bytes format → length front ≡ g * frame_bytes format → g * frame_bytes format ≤ size
    → whole_frames format size (front ++ rest) ≡ front ++ whole_frames format (size - g * frame_bytes format) rest
whole_frames-more format size g front rest some e le =
    ap (λ (n : ℕ). take (n / f * f) (front ++ rest)) least
    ∙ ap (λ (n : ℕ). take (n * f) (front ++ rest)) (frames_in g t f some)
    ∙ ap (λ (n : ℕ). take n (front ++ rest)) (omega (arith, e))
    ∙ take_past front rest (t / f * f)
  where
    f : ℕ
    f = frame_bytes format

    t : ℕ
    t = min (size - g * f) (length rest)

    least : min size (length (front ++ rest)) ≡ g * f + t
    least = omega (arith, length-append front rest, e, le)

whole_frames-nil : (format : Format) (size : ℕ) → whole_frames format size [] ≡ []
whole_frames-nil format size = take_all (min size 0 / frame_bytes format * frame_bytes format) [] (omega arith)

-- the samples of so many frames
length-frames : (format : Format) (g : ℕ) (bytes : List ℕ) → IsReadable format → length bytes ≡ g * frame_bytes format → length (samples_of format.bits bytes) ≡ g * format.channels
length-frames format g bytes is e =
    length-samples_of format.bits bytes ∙ ap (λ (n : ℕ). n / width format.bits) (e ∙ omega arith) ∙ div-mul-add (g * format.channels) (width format.bits) 0 (width_some format.bits is.bits)

-- what is left behind some frames
record IsLeft (format : Format) (size g : ℕ) (bytes front rest : List ℕ) : Type 0 where
  samples : samples_of format.bits (whole_frames format size bytes) ≡ samples_of format.bits front ++ samples_of format.bits (whole_frames format (size - g * frame_bytes format) rest)
  count : length (samples_of format.bits front) ≡ g * format.channels

left_behind : (format : Format) (size g : ℕ) (bytes front rest : List ℕ) → IsReadable format → length front ≡ g * frame_bytes format → g * frame_bytes format ≤ size → bytes ≡ front ++ rest → IsLeft format size g bytes front rest
left_behind format size g bytes front rest is e le split =
    let some : 0 < width format.bits = width_some format.bits is.bits in
    let long : length front ≡ g * format.channels * width format.bits = e ∙ omega arith in
    record {
      samples =
          ap (λ (b : List ℕ). samples_of format.bits (whole_frames format size b)) split
          ∙ ap (samples_of format.bits) (whole_frames-more format size g front rest (frame_some format is) e le)
          ∙ samples_of-append format.bits (g * format.channels) front (whole_frames format (size - g * frame_bytes format) rest) some long;
      count = length-frames format g front is e;
    }

-- the input ended within the block
left_at_end : (format : Format) (size g n : ℕ) (bytes : List ℕ) → IsReadable format → length bytes ≡ n → n ≤ size → g ≡ n / frame_bytes format → IsLeft format size g bytes (take (g * frame_bytes format) bytes) []
left_at_end format size g n bytes is e le count =
    let f = frame_bytes format in
    let some : 0 < f = frame_some format is in
    let least : min size (length bytes) ≡ n = omega (arith, e, le) in
    let fits : g * f ≤ n = omega (arith, ap (λ (k : ℕ). k * f) count, div-add-mod' n f) in
    let front : whole_frames format size bytes ≡ take (g * f) bytes = ap (λ (k : ℕ). take (k / f * f) bytes) least ∙ ap (λ (k : ℕ). take (k * f) bytes) (sym count) in
    let none : samples_of format.bits (whole_frames format (size - g * f) []) ≡ [] = ap (samples_of format.bits) (whole_frames-nil format (size - g * f)) ∙ none_of format.bits in
    record {
      samples =
          ap (samples_of format.bits) front ∙ sym (append-nil (samples_of format.bits (take (g * f) bytes)))
          ∙ ap (λ (xs : List ℤ). samples_of format.bits (take (g * f) bytes) ++ xs) (sym none);
      count = length-frames format g (take (g * f) bytes) is (length-take-le (g * f) bytes (omega (arith, fits, e)));
    }
  where
    none_of : (bits : ℕ) → samples_of bits [] ≡ []
    none_of bits = nil (samples_of bits []) (length-samples_of bits [] ∙ div_zero (width bits))
      where
        nil : (xs : List ℤ) → length xs ≡ 0 → xs ≡ []
        nil [] h = refl
        nil (x ∷ xs) h = absurd (omega (arith, h))

        div_zero : (w : ℕ) → 0 / w ≡ 0
        div_zero w = omega arith

-- what a block gives, where a source tells
gives_by : (left front later : List ℤ) (count asked : ℕ) (out : List ℤ) → left ≡ front ++ later → length front ≡ count → (count ≡ asked) ⊎ (later ≡ []) → count ≤ asked → take count out ≡ front
    → Gives (Some left) (Some later) count asked out
gives_by left front later count asked out is e full le same = (
  ⊎_elim (λ (h : count ≡ asked). omega (arith, h, ap length is, length-append front later, e)) (λ (h : later ≡ []). omega (arith, ap length h, ap length is, length-append front later, e, le)) full,
  same ∙ sym (ap (take count) is ∙ take_at front later count e),
  sym (ap (λ (l : List ℤ). Some (drop count l)) is ∙ ap Some (drop_at front later count e)),
)

pub block_gives : (format : Format) (size given frames got n : ℕ) (a b : Option (List ℕ)) (buffer : List ℕ) (out : List ℤ) → IsReadable format → length buffer ≡ frames * frame_bytes format → given + frames * frame_bytes format ≤ size → n ≤ length buffer
    → Consumes a b (take n buffer) → (n < length buffer → IsAtEnd b) → got ≡ n / frame_bytes format → take (got * format.channels) out ≡ samples_of format.bits (take (got * frame_bytes format) buffer)
    → Gives (left_of format (size - given) a) (left_of format (size - (given + got * frame_bytes format)) b) (got * format.channels) (frames * format.channels) out
block_gives format size given frames got n None b buffer out is long room le f end count same = tt
block_gives format size given frames got n (Some xs) None buffer out is long room le f end count same = absurd f
block_gives format size given frames got n (Some xs) (Some ys) buffer out is long room le f end count same =
    subst (λ (k : ℕ). Gives (Some (samples_of format.bits (whole_frames format s xs))) (Some (samples_of format.bits (whole_frames format k ys))) (got * format.channels) (frames * format.channels) out) (omega (arith, room))
    (⊎_elim cut whole (cases_lt n (length buffer)))
  where
    fb : ℕ
    fb = frame_bytes format

    s : ℕ
    s = size - given

    some : 0 < fb
    some = frame_some format is

    fits : got * fb ≤ n
    fits = omega (arith, ap (λ (k : ℕ). k * fb) count, div-add-mod' n fb)

    few : got ≤ frames
    few = le-from got frames (omega (arith, fits, le, long))
      where
        le-from : (g h : ℕ) → g * fb ≤ h * fb → g ≤ h
        le-from g h k =
            let e : g * fb / fb ≡ g = ap (λ (m : ℕ). m / fb) (omega arith) ∙ div-mul-add g fb 0 some in
            let i : h * fb / fb ≡ h = ap (λ (m : ℕ). m / fb) (omega arith) ∙ div-mul-add h fb 0 some in
            omega (arith, e, i, le-div g (h * fb) fb some k)

    nothing : (k : ℕ) → samples_of format.bits (whole_frames format k []) ≡ []
    nothing k = nil (samples_of format.bits (whole_frames format k [])) (length-samples_of format.bits (whole_frames format k []) ∙ ap (λ (b : List ℕ). length b / width format.bits) (whole_frames-nil format k) ∙ div_zero (width format.bits))
      where
        nil : (xs : List ℤ) → length xs ≡ 0 → xs ≡ []
        nil [] h = refl
        nil (x ∷ xs) h = absurd (omega (arith, h))

        div_zero : (w : ℕ) → 0 / w ≡ 0
        div_zero w = omega arith

    Is : Type 0
    Is = Gives (Some (samples_of format.bits (whole_frames format s xs))) (Some (samples_of format.bits (whole_frames format (s - got * fb) ys))) (got * format.channels) (frames * format.channels) out

    bound : got * format.channels ≤ frames * format.channels
    bound = mul-le got format.channels frames format.channels few (omega arith)

    whole : length buffer ≤ n → Is
    whole h =
        let all : n ≡ frames * fb = omega (arith, h, le, long) in
        let full : got ≡ frames = count ∙ ap (λ (k : ℕ). k / fb) (all ∙ omega arith) ∙ div-mul-add frames fb 0 some in
        let cut : got * fb ≡ n = ap (λ (k : ℕ). k * fb) full ∙ sym all in
        let front : length (take n buffer) ≡ got * fb = length-take-le n buffer le ∙ sym cut in
        let left = left_behind format s got xs (take n buffer) ys is front (omega (arith, front, room, ap (λ (k : ℕ). k * fb) full)) f in
        gives_by _ _ _ (got * format.channels) (frames * format.channels) out left.samples left.count (inl (ap (λ (k : ℕ). k * format.channels) full)) bound
        (same ∙ ap (λ (k : ℕ). samples_of format.bits (take k buffer)) cut)

    cut : n < length buffer → Is
    cut h =
        let none : ys ≡ [] = end h in
        let all : xs ≡ take n buffer = f ∙ ap (λ (y : List ℕ). take n buffer ++ y) none ∙ append-nil (take n buffer) in
        let front : length xs ≡ n = ap length all ∙ length-take-le n buffer le in
        let left = left_at_end format s got n xs is front (omega (arith, le, long, room)) count in
        subst (λ (y : List ℕ). Gives (Some (samples_of format.bits (whole_frames format s xs))) (Some (samples_of format.bits (whole_frames format (s - got * fb) y))) (got * format.channels) (frames * format.channels) out) (sym none)
        (gives_by _ _ _ (got * format.channels) (frames * format.channels) out left.samples left.count (inr (nothing (s - got * fb))) bound
        (same ∙ ap (samples_of format.bits) (sym (ap (take (got * fb)) all ∙ take-take (got * fb) n buffer fits))))

pub got_few : (format : Format) (frames got n : ℕ) → IsReadable format → n ≤ frames * frame_bytes format → got ≡ n / frame_bytes format → (got ≤ frames) × (got * frame_bytes format ≤ n) × (got * format.channels ≤ frames * format.channels)
got_few format frames got n is le count =
    let f = frame_bytes format in
    let some : 0 < f = frame_some format is in
    let fits : got * f ≤ n = omega (arith, ap (λ (k : ℕ). k * f) count, div-add-mod' n f) in
    let e : got * f / f ≡ got = ap (λ (m : ℕ). m / f) (omega arith) ∙ div-mul-add got f 0 some in
    let i : frames * f / f ≡ frames = ap (λ (m : ℕ). m / f) (omega arith) ∙ div-mul-add frames f 0 some in
    let few : got ≤ frames = omega (arith, i, le-div got (frames * f) f some (omega (arith, fits, le))) in
    (few, fits, mul-le got format.channels frames format.channels few (omega arith))

-- the frames that the header tells, and no more are left
pub left_at_most : (format : Format) (size told : ℕ) (a : Option (List ℕ)) → IsReadable format → told ≡ size / frame_bytes format → IfSome (left_of format size a) (λ left. length left ≤ told * format.channels)
left_at_most format size told None is e = tt
left_at_most format size told (Some xs) is e =
    let f = frame_bytes format in
    let k = min size (length xs) / f in
    let some : 0 < f = frame_some format is in
    let fits : k * f ≤ min size (length xs) = omega (arith, div-add-mod' (min size (length xs)) f) in
    let count : length (samples_of format.bits (take (k * f) xs)) ≡ k * format.channels = length-frames format k (take (k * f) xs) is (length-take-le (k * f) xs (omega (arith, fits))) in
    let few : k ≤ told = omega (arith, e, le-div k size f some (omega (arith, fits))) in
    omega (arith, count, mul-le k format.channels told format.channels few (omega arith))

-- ---- blocks, one after another

pub gave_first : (left : Option (List ℤ)) (out : List ℤ) → Gave left left 0 out
gave_first None out = tt
gave_first (Some left) out = (omega arith, refl, refl)

pub gave_more : (a b c : Option (List ℤ)) (n k asked : ℕ) (out now : List ℤ) → Gave a b n out → take n now ≡ take n out → Gives b c k asked (drop n now) → Gave a c (n + k) now
gave_more None b c n k asked out now f front g = tt
gave_more (Some xs) b c n k asked out now f front g = go b f.2 g
  where
    go : (b : Option (List ℤ)) → b ≡ Some (drop n xs) → Gives b c k asked (drop n now) → Gave (Some xs) c (n + k) now
    go None e g = absurd (clash (drop n xs) None refl e)
      where
        clash : (ys : List ℤ) (o : Option (List ℤ)) → o ≡ None → o ≡ Some ys → ⊥
        clash ys o p q = cc
    go (Some ys) e g =
        let is : ys ≡ drop n xs = cc in
        let few : k ≤ length ys = omega (arith, g.0) in (
          omega (arith, few, ap length is, length-drop n xs, f.0),
          take-add n k now ∙ ap (λ (x : List ℤ). x ++ take k (drop n now)) (front ∙ f.1) ∙ ap (λ (x : List ℤ). take n xs ++ x) (g.1 ∙ ap (take k) is) ∙ sym (take-add n k xs),
          g.2 ∙ ap (λ (x : List ℤ). Some (drop k x)) is ∙ ap Some (drop-drop k n xs),
        )

-- a block gave fewer than it was asked for, so that nothing is left
pub gives_short : (a b c : Option (List ℤ)) (n k asked more : ℕ) (out now : List ℤ) → Gave a b n out → take n now ≡ take n out → Gives b c k asked (drop n now) → k < asked → n + k ≤ more → Gives a c (n + k) more now
gives_short None b c n k asked more out now f front g short le = tt
gives_short (Some xs) b c n k asked more out now f front g short le = go (gave_more (Some xs) b c n k asked out now f front g) b f.2 g
  where
    go : Gave (Some xs) c (n + k) now → (b : Option (List ℤ)) → b ≡ Some (drop n xs) → Gives b c k asked (drop n now) → Gives (Some xs) c (n + k) more now
    go all None e g = absurd (clash (drop n xs) None refl e)
      where
        clash : (ys : List ℤ) (o : Option (List ℤ)) → o ≡ None → o ≡ Some ys → ⊥
        clash ys o p q = cc
    go all (Some ys) e g =
        let is : ys ≡ drop n xs = cc in
        (omega (arith, g.0, short, ap length is, length-drop n xs, f.0, le), all.1, all.2)

-- all that was asked for, or all that the header tells
pub gives_all : (a b : Option (List ℤ)) (n asked : ℕ) (out : List ℤ) → Gave a b n out → n ≤ asked → (n < asked → IfSome a (λ left. length left ≤ n)) → Gives a b n asked out
gives_all None b n asked out f le short = tt
gives_all (Some xs) b n asked out f le short =
    (⊎_elim (λ (h : n < asked). omega (arith, f.0, short h, h)) (λ (h : asked ≤ n). omega (arith, f.0, h, le)) (cases_lt n asked), f.1, f.2)

pub same_reading-trans : (a b c : Reading) → SameReading a b → SameReading b c → SameReading a c
same_reading-trans a b c f g = record {
  format = g.format ∙ f.format;
  size = g.size ∙ f.size;
  later = omega (arith, f.later, g.later);
  kept = λ going. let second = g.kept going in let first = f.kept second.0 in (first.0, second.1 ∙ first.1);
}

pub same_reading-refl : (a : Reading) → SameReading a a
same_reading-refl a = record { format = refl; size = refl; later = omega arith; kept = λ going. (going, refl) }

-- ---- what was opened

pub opened_as : (a b : Option (List ℕ)) (format : Format) (size : ℕ) → Opens a b format size
    → IfSome a (λ bytes. (told : Opened) × (opened bytes ≡ Ok told) × (format ≡ told.format) × (left_of format (size - 0) b ≡ Some (wave_in told)))
opened_as None b format size h = tt
opened_as (Some xs) None format size h = absurd h
opened_as (Some xs) (Some ys) format size h =
    let e : size - 0 ≡ size = omega arith in
    (record { format = format; size = size; rest = ys }, h, refl, ap (λ (n : ℕ). Some (samples_of format.bits (whole_frames format n ys))) e)

pub opened_wave : (a b : Option (List ℕ)) (format : Format) (size : ℕ) → Opens a b format size
    → IfSome a (λ bytes. AreBytes bytes → (samples : List ℤ) × IsWave bytes format samples × (left_of format (size - 0) b ≡ Some samples))
opened_wave None b format size h = tt
opened_wave (Some xs) None format size h = absurd h
opened_wave (Some xs) (Some ys) format size h = λ bytes.
    let e : size - 0 ≡ size = omega arith in
    (wave_in (record { format = format; size = size; rest = ys }), wave-opened xs (record { format = format; size = size; rest = ys }) bytes h, ap (λ (n : ℕ). Some (samples_of format.bits (whole_frames format n ys))) e)

pub opened_lawful : (a b : Option (List ℕ)) (format : Format) (size : ℕ) → Opens a b format size → IfSome a (λ bytes. AreBytes bytes → wave_fault bytes ≡ None)
opened_lawful None b format size h = tt
opened_lawful (Some xs) None format size h = absurd h
opened_lawful (Some xs) (Some ys) format size h = λ bytes. sym (fault_in-opened xs bytes) ∙ ap fault_in h

pub opened_fault : (a : Option (List ℕ)) (fault : WaveFault) → IfSome a (λ bytes. opened bytes ≡ Err fault) → IfSome a (λ bytes. (opened bytes ≡ Err fault) × (AreBytes bytes → wave_fault bytes ≡ Some fault))
opened_fault None fault h = tt
opened_fault (Some xs) fault h = (h, λ bytes. sym (fault_in-opened xs bytes) ∙ ap fault_in h)

-- a buffer that has room for more than the frames that the header tells
pub frames_all : (format : Format) (size samples asked told n : ℕ) (a : Option (List ℕ)) → IsReadable format → asked ≡ samples / format.channels → told ≡ size / frame_bytes format → n ≡ min asked told
    → IfSome (left_of format size a) (λ left. samples % format.channels ≡ 0 → n * format.channels < samples → length left ≤ n * format.channels)
frames_all format size samples asked told n None is e f g = tt
frames_all format size samples asked told n (Some xs) is e f g = λ whole few.
    ⊎_elim (λ (h : asked < told).
    absurd (omega (arith, few, ap (λ (k : ℕ). k * format.channels) (g ∙ least asked told h ∙ e), div-add-mod' samples format.channels, whole)))
    (λ (h : told ≤ asked).
    omega (arith, left_at_most format size told (Some xs) is f, ap (λ (k : ℕ). k * format.channels) (g ∙ other asked told h)))
    (cases_lt asked told)
  where
    least : (a b : ℕ) → a < b → min a b ≡ a
    least a b h = omega (arith, h)

    other : (a b : ℕ) → b ≤ a → min a b ≡ b
    other a b h = omega (arith, h)

-- ---- bounds of a reading

pub within_size : (format : Format) (given size done frames : ℕ) → done ≤ frames → given + frames * frame_bytes format ≤ size → given + done * frame_bytes format ≤ size
within_size format given size done frames le room = omega (arith, room, mul-le done (frame_bytes format) frames (frame_bytes format) le (omega arith))

pub within_buffer : (format : Format) (long done frames : ℕ) → done ≤ frames → frames * format.channels ≤ long → done * format.channels ≤ long
within_buffer format long done frames le room = omega (arith, room, mul-le done format.channels frames format.channels le (omega arith))

pub fewer_samples : (format : Format) (got count : ℕ) → 0 < format.channels → got < count → got * format.channels < count * format.channels
fewer_samples format got count some less = omega (arith, mul-le (got + 1) format.channels count format.channels (omega (arith, less)) (omega arith), some)

pub rest_more : (xs ys zs : List ℤ) (n k : ℕ) → drop (n + k) zs ≡ drop (n + k) ys → drop n ys ≡ drop n xs → drop (n + k) zs ≡ drop (n + k) xs
rest_more xs ys zs n k f g = f ∙ sym (drop-drop k n ys) ∙ ap (drop k) g ∙ drop-drop k n xs

-- a block that was written within the buffer
rest_mid : (out block : List ℤ) (a k m : ℕ) → a + k ≤ length out → length block ≡ k → m ≤ k → drop m block ≡ drop m (take k (drop a out)) → drop (a + m) (put_mid a k out block) ≡ drop (a + m) out
rest_mid out block a k m room long le same =
    let front : length (take a out) ≡ a = length-take-le a out (omega (arith, room)) in
    let inner : length (take k (drop a out)) ≡ k = length-take-le k (drop a out) (omega (arith, length-drop a out, room)) in
    sym (drop-drop m a (put_mid a k out block))
    ∙ ap (drop m) (drop_at (take a out) (block ++ drop k (drop a out)) a front)
    ∙ drop-append-le m block (drop k (drop a out)) (omega (arith, le, long))
    ∙ ap (λ (x : List ℤ). x ++ drop k (drop a out)) same
    ∙ sym (drop-append-le m (take k (drop a out)) (drop k (drop a out)) (omega (arith, le, inner)))
    ∙ ap (drop m) (take-append-drop k (drop a out))
    ∙ drop-drop m a out

pub rest_at : {E : Type 0} (r : Result ℕ E) (out block : List ℤ) (a k done frames channels : ℕ) → a ≡ done * channels → k ≡ frames * channels → a + k ≤ length out → length block ≡ k → IfOk r (λ got. got ≤ frames)
    → IfOk r (λ got. drop (got * channels) block ≡ drop (got * channels) (take k (drop a out))) → IfOk r (λ got. drop ((done + got) * channels) (put_mid a k out block) ≡ drop ((done + got) * channels) out)
rest_at (Err e) out block a k done frames channels at count room long few same = tt
rest_at (Ok got) out block a k done frames channels at count room long few same =
    let place : a + got * channels ≡ (done + got) * channels = omega (arith, at) in
    subst (λ (n : ℕ). drop n (put_mid a k out block) ≡ drop n out) place
    (rest_mid out block a k (got * channels) room long (omega (arith, count, mul-le got channels frames channels few (omega arith))) same)
