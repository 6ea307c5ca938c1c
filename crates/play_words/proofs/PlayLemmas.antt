-- The form of a play's words, and what is asked of its names.
--     IsPlay-formed, IsFormed-play, AreLawful-play      a play has the form and lawful names, and is what has both
--     formed_once, one_play      words have the form of one play at most, and are those of one at most
--     first_four, first_five      a list is its first four items and the rest, and its first five and the rest
use Rattle.std.proofs.Common.{◌≡◌, ℕ, ◌-◌, ◌≤◌, List, [], ◌∷◌, ◌++◌, codes, drop, get_or, length, map, take, take_all, refl, sym, ap, subst, ◌∙◌, arith}
use Rattle.play_words.specs.Lawful.{AreLawful}
use Rattle.play_words.specs.Pairs.{ArePairs, IsFormed}
use Rattle.play_words.specs.Words.{IsPlay, Play, names_of, pairs_of}
use Rattle.play_words.proofs.PairLemmas.{AreSame, pairs_name_once}

pub IsPlay-formed : (words : List (List ℕ)) (play : Play) → IsFormed words play → AreLawful (names_of play) → IsPlay words play
IsPlay-formed words play is are =
    record {
      words_are = is.words_are ∙ ap (λ (ws : List (List ℕ)). codes "play" ∷ play.script ∷ play.capture ∷ play.playback ∷ ws) is.are_pairs.pairs_are;
      few_records = is.are_pairs.few_records;
      few_disks = is.are_pairs.few_disks;
      are_names = are.are_names;
      apart = are.apart;
    }

pub IsFormed-play : (words : List (List ℕ)) (play : Play) → IsPlay words play → IsFormed words play
IsFormed-play words play is =
    record {
      pairs = pairs_of (codes "--record") play.records ++ pairs_of (codes "--disk") play.disks;
      words_are = is.words_are;
      are_pairs = record { pairs_are = refl; few_records = is.few_records; few_disks = is.few_disks };
    }

pub AreLawful-play : (words : List (List ℕ)) (play : Play) → IsPlay words play → AreLawful (names_of play)
AreLawful-play words play is = record { are_names = is.are_names; apart = is.apart }

pub formed_once : (words : List (List ℕ)) (one other : Play) → IsFormed words one → IsFormed words other → one ≡ other
formed_once words one other is also =
    let script : one.script ≡ other.script = cc (is.words_are, also.words_are) in
    let capture : one.capture ≡ other.capture = cc (is.words_are, also.words_are) in
    let playback : one.playback ≡ other.playback = cc (is.words_are, also.words_are) in
    let pairs : is.pairs ≡ also.pairs = cc (is.words_are, also.words_are) in
    let same : AreSame one.records one.disks other.records other.disks =
    pairs_name_once also.pairs one.records one.disks other.records other.disks (subst (λ (ws : List (List ℕ)). ArePairs ws one.records one.disks) pairs is.are_pairs) also.are_pairs in
    λ i. record { script = script i; capture = capture i; playback = playback i; records = same.records_are i; disks = same.disks_are i }

pub one_play : (words : List (List ℕ)) (one other : Play) → IsPlay words one → IsPlay words other → one ≡ other
one_play words one other is also = formed_once words one other (IsFormed-play words one is) (IsFormed-play words other also)

-- the texts of a list are those of its first four items and of the rest
pub first_four : {X : Type 0} (f : X → List ℕ) (xs : List X) (a b c d : X) → 4 ≤ length xs → a ≡ get_or xs 0 a → b ≡ get_or xs 1 b → c ≡ get_or xs 2 c → d ≡ get_or xs 3 d
    → map f xs ≡ f a ∷ f b ∷ f c ∷ f d ∷ map f (take (length xs - 4) (drop 4 xs))
first_four f [] a b c d many e g h i = absurd (omega (arith, many))
first_four f (v ∷ []) a b c d many e g h i = absurd (omega (arith, many))
first_four f (v ∷ w ∷ []) a b c d many e g h i = absurd (omega (arith, many))
first_four f (v ∷ w ∷ x ∷ []) a b c d many e g h i = absurd (omega (arith, many))
first_four f (v ∷ w ∷ x ∷ y ∷ xs) a b c d many e g h i =
    let rest : xs ≡ take (length (v ∷ w ∷ x ∷ y ∷ xs) - 4) xs = sym (take_all (length (v ∷ w ∷ x ∷ y ∷ xs) - 4) xs (omega arith)) in
    rw (e, g, h, i) (ap (λ (ys : List _). f v ∷ f w ∷ f x ∷ f y ∷ map f ys) rest)

pub first_five : {X : Type 0} (f : X → List ℕ) (xs : List X) (a b c d j : X) → 5 ≤ length xs → a ≡ get_or xs 0 a → b ≡ get_or xs 1 b → c ≡ get_or xs 2 c → d ≡ get_or xs 3 d → j ≡ get_or xs 4 j
    → map f xs ≡ f a ∷ f b ∷ f c ∷ f d ∷ f j ∷ map f (take (length xs - 5) (drop 5 xs))
first_five f [] a b c d j many e g h i k = absurd (omega (arith, many))
first_five f (v ∷ xs) a b c d j many e g h i k =
    let front : f a ≡ f v = ap f e in
    let rest = first_four f xs b c d j (omega (arith, many)) g h i k in
    let left : length xs - 4 ≡ length (v ∷ xs) - 5 = omega arith in
    ap (λ (ys : List _). f v ∷ ys) rest
    ∙ ap (λ (y : List ℕ). y ∷ f b ∷ f c ∷ f d ∷ f j ∷ map f (take (length xs - 4) (drop 4 xs))) (sym front)
    ∙ ap (λ (n : ℕ). f a ∷ f b ∷ f c ∷ f d ∷ f j ∷ map f (take n (drop 4 xs))) left
