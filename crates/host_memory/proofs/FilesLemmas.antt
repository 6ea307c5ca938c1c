-- What a file that is made, written and handed back leaves of a host's files.
use Rattle.std.proofs.Common.{◌≡◌, ℕ, List, [], Some, None, cond, true, false, refl, arith, Bool}
use Rattle.std.specs.declared.option.Option.{Option}
use Rattle.std.specs.Str.{bytes_eq}
use Rattle.std.proofs.lemmas.Slice.Eq.{bytes_eq-Decides}
use Rattle.std.proofs.lemmas.Grind.{common_steps}
use Rattle.jack_host.specs.Told.{TellsAs}
use Rattle.jack_host.specs.Files.{bytes_under, SameFiles, Replaces, IsNamedThere, Stands}
use Rattle.jack_host.specs.Bytes.{Holds, put_at}

abbrev pub Files : Type 0
Files = List (List ℕ × List ℕ)

pub bytes_eq-same : (xs : List ℕ) → bytes_eq xs xs ≡ true
bytes_eq-same xs = grind (arith, common_steps, bytes_eq-Decides)

-- a store whose file was made is among the files
pub named_there : (old made : Option Files) (name : List ℕ) (told : Option (List ℕ)) → Replaces old made name [] → TellsAs old told name → IsNamedThere made told
named_there None None name told r t = tt
named_there (Some old) (Some made) name (Some told) r t = rw (t, r name, bytes_eq-same name) refl
named_there (Some old) (Some made) name None r t = cc
named_there None (Some made) name told r t = absurd r
named_there (Some old) None name told r t = absurd r

cond_twice : {A : Type 0} (b : Bool) (x y z : A) → cond b x (cond b y z) ≡ cond b x z
cond_twice true x y z = refl
cond_twice false x y z = refl

-- a piece that is put at the beginning of an empty file is all of it
put_at_empty : (piece : List ℕ) → put_at [] 0 piece ≡ piece
put_at_empty piece = grind (arith, common_steps)

-- a file that was made, got one piece and was handed back has that piece
pub stands_there : (old made new : Option Files) (name piece : List ℕ) (told content written : Option (List ℕ))
    → Replaces old made name [] → TellsAs old told name → TellsAs old content [] → Holds content written 0 piece → Stands made new told written
    → Replaces old new name piece
stands_there None None None name piece told content written r t e h s = tt
stands_there None None (Some new) name piece told content written r t e h s = absurd s
stands_there None (Some made) new name piece told content written r t e h s = absurd r
stands_there (Some old) None new name piece told content written r t e h s = absurd r
stands_there (Some old) (Some made) None name piece told content written r t e h s = absurd s
stands_there (Some old) (Some made) (Some new) name piece None content written r t e h s = absurd s
stands_there (Some old) (Some made) (Some new) name piece (Some told) content None r t e h s = absurd s
stands_there (Some old) (Some made) (Some new) name piece (Some told) None (Some written) r t e h s = absurd h
stands_there (Some old) (Some made) (Some new) name piece (Some told) (Some content) (Some written) r t e h s = λ other.
    rw (s other, t, r other, cond_twice (bytes_eq name other) (Some written) (Some []) (bytes_under old other), h, e, put_at_empty piece) refl

-- nothing but the name is touched where the files are the same afterwards
pub after_same : (a b c : Option Files) (name bytes : List ℕ) → SameFiles a b → Replaces b c name bytes → Replaces a c name bytes
after_same None None None name bytes s r = tt
after_same None None (Some c) name bytes s r = absurd r
after_same None (Some b) c name bytes s r = absurd s
after_same (Some a) None c name bytes s r = absurd s
after_same (Some a) (Some b) None name bytes s r = absurd r
after_same (Some a) (Some b) (Some c) name bytes s r = λ other. rw (r other, s other) refl
