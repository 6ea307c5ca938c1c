-- How a piece of a sentence is written.
--     shown bytes     so that they can be seen, and steer no terminal
--     written piece   a piece
--     told pieces     pieces, one behind the other
use Rattle.std.specs.Prelude.{ℕ, ◌-◌, ◌/◌, ◌%◌, Bool, false, not, ◌&&◌, ◌||◌, ◌==◌, nat_lt, nat_le, List, [], ◌∷◌, ◌++◌, length, take, flat_map, slice_index_or, codes, decimal, if◌then◌else◌}
use Rattle.std.specs.Char.{is_ascii_alphanumeric}
use Rattle.std.specs.List.{list_all}
use Rattle.std.specs.Fmt.{signed_decimal}
use Rattle.std.specs.Str.{is_utf8}
use Rattle.reason_text.specs.declared.piece.Piece.{Piece}
use Rattle.reason_text.specs.declared.piece.Piece.TheVariants.{Text, Shown, Quoted, Front, Path, Number, Signed, Counted}

-- a byte, by two digits of sixteen
abbrev pub hex_digit : ℕ → ℕ
hex_digit n = slice_index_or (codes "0123456789abcdef") n 48

abbrev pub escaped : ℕ → List ℕ
escaped byte = codes "\\x" ++ hex_digit (byte / 16) ∷ hex_digit (byte % 16) ∷ []

-- whether a character ends here that steers a terminal, that turns the direction of a line, or that can't be seen, behind the two bytes before:
-- U+0080 to U+00A0, U+200B to U+200F, U+2028 to U+202E, U+2060 to U+206F, and U+FEFF
abbrev pub misleads : ℕ → ℕ → ℕ → Bool
misleads first second byte =
    ((second == 194) && nat_le byte 160)
    || ((first == 226) && (second == 128) && ((nat_le 139 byte && nat_le byte 143) || (nat_le 168 byte && nat_le byte 174)))
    || ((first == 226) && (second == 129) && nat_le 160 byte)
    || ((first == 239) && (second == 187) && (byte == 191))

abbrev pub misleads_behind : ℕ → ℕ → List ℕ → Bool
misleads_behind first second [] = false
misleads_behind first second (byte ∷ bytes) = misleads first second byte || misleads_behind second byte bytes

abbrev pub is_text : List ℕ → Bool
is_text bytes = is_utf8 bytes && not (misleads_behind 0 0 bytes)

-- a byte stands for itself where it is printed ASCII or, in a text, of a character beyond ASCII
abbrev pub shown_byte : Bool → ℕ → List ℕ
shown_byte text byte = if (nat_le 32 byte && nat_lt byte 127) || (text && nat_le 128 byte) then byte ∷ [] else escaped byte

abbrev pub shown : List ℕ → List ℕ
shown bytes = flat_map (shown_byte (is_text bytes)) bytes

-- whether a byte goes on with a character of UTF-8
abbrev pub goes_on : ℕ → Bool
goes_on byte = nat_le 128 byte && nat_lt byte 192

-- the place before, where a character goes on at this one
abbrev pub place_before : List ℕ → ℕ → ℕ
place_before bytes end = if goes_on (slice_index_or bytes end 0) then end - 1 else end

-- where a front ends that cuts no character of a text, which has four bytes at most
abbrev pub front_end : List ℕ → ℕ → ℕ
front_end bytes most = place_before bytes (place_before bytes (place_before bytes most))

-- the first bytes, and dots where there are more
abbrev pub shown_front : ℕ → List ℕ → List ℕ
shown_front most bytes = if nat_le (length bytes) most then shown bytes else shown (take (front_end bytes most) bytes) ++ codes "..."

abbrev pub quoted : List ℕ → List ℕ
quoted word = codes "\"" ++ shown_front 64 word ++ codes "\""

-- a byte that stands for itself in a word of a command line: a letter, a digit, or one of `./_-`
abbrev pub is_plain : ℕ → Bool
is_plain byte = is_ascii_alphanumeric byte || (byte == 46) || (byte == 47) || (byte == 95) || (byte == 45)

-- a byte within single quotes, which a quote ends: an escaped one, and a quote that begins anew
abbrev pub quoted_byte : Bool → ℕ → List ℕ
quoted_byte text byte = if byte == 39 then codes "'\\''" else shown_byte text byte

abbrev pub quoted_path : List ℕ → List ℕ
quoted_path name = codes "'" ++ flat_map (quoted_byte (is_text name)) name ++ codes "'"

abbrev pub path : List ℕ → List ℕ
path name = if list_all is_plain name then shown name else quoted_path name

abbrev pub counted : ℕ → List ℕ → List ℕ → List ℕ
counted number one more = shown (decimal number) ++ codes " " ++ shown (if number == 1 then one else more)

abbrev pub written : Piece → List ℕ
written (Text text) = shown text.now
written (Shown bytes) = shown bytes.now
written (Quoted word) = quoted word.now
written (Front line) = shown_front 120 line.now
written (Path name) = path name.now
written (Number number) = shown (decimal number)
written (Signed number) = shown (signed_decimal number)
written (Counted number one more) = counted number one.now more.now

abbrev pub told : List Piece → List ℕ
told = flat_map written
