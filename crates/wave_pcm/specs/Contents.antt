-- The content of a `fmt ` chunk, and the part of it that was read.
use Rattle.std.specs.Prelude.{◌≡◌, ℕ, not, find, false, List, [], ◌∷◌, length, nat_le, nat_lt, Option, slice_range}
use Rattle.std.specs.Str.{bytes_eq}
use Rattle.samples.specs.jack_types.specs.declared.files.Field.TheVariants.{Extended, Extra, Guid}
use Rattle.samples.specs.session_model.specs.WaveFiles.{failed_test, format_of, needed, pcm_guid, Test, u16_at, u32_at}

-- the tests of an extended format alone
abbrev pub extended_test : ℕ → List ℕ → Option Test
extended_test size content =
    find (λ test. not test.passes) (
    record { field = Extended; value = size; passes = nat_le 40 size }
    ∷ record { field = Extra; value = u16_at content 16; passes = nat_le 22 (u16_at content 16) }
    ∷ record { field = Guid; value = u32_at content 24; passes = bytes_eq (slice_range content 24 40) pcm_guid }
    ∷ []
    )

-- a content is long enough for its tests, and what was read of it passes them and gives its format where it does
pub record IsTestedBy (size : ℕ) (content read : List ℕ) : Type 0 where
  pub long : nat_lt (length content) (needed size content) ≡ false
  pub tests : failed_test size content ≡ failed_test size read
  pub format : format_of content ≡ format_of read
