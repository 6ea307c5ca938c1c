-- Words that come in pairs.
--     length-seconds, halves, pair_is_there, name_of_pair      there are half as many names as words, and where each stands
--     text_at      the text of the item at a place
--     words_in_pairs-more, words_in_pairs-other, words_in_pairs-short      a step at a place, and the two ends
--     parts_are, pairs_name_once      where the recorders' pairs end; pairs have one list of recorders' names, and one of disks'
--     HasParts-cut      a list cut there has the two parts
--     ArePairs-split      two parts that are pairs, and not too many, are pairs of both
--     disks_whole, front_few, behind_few      and of pairs of both the two parts are so
use Rattle.std.proofs.Common.{◌≡◌, ℕ, zero, suc, ◌+◌, ◌*◌, ◌/◌, ◌<◌, ◌≤◌, Bool, true, false, List, [], ◌∷◌, ◌++◌, bytes_eq, codes, drop, get_or, length, map, take, append-nil, take-append-drop, take_all, take_at, drop_at, refl, sym, ap, subst, ◌∙◌, arith}
use Rattle.std.specs.Prelude.{if◌then◌else◌}
use Rattle.std.proofs.lemmas.List.{drop-map, drop_more, get_or-map, length-map, take-map}
use Rattle.std.proofs.lemmas.Slice.Eq.{bytes_eq-Decides}
use Rattle.play_words.specs.Pairs.{ArePairs, seconds, words_in_pairs}
use Rattle.play_words.specs.Words.{pairs_of}

pub length-seconds : (words : List (List ℕ)) → length (seconds words) ≡ length words / 2
length-seconds [] = refl
length-seconds (word ∷ []) = refl
length-seconds (option ∷ name ∷ words) = let rest = length-seconds words in omega (arith, rest)

pub name_of_pair : (words : List (List ℕ)) (i : ℕ) (d : List ℕ) → i < length (seconds words) → get_or (seconds words) i d ≡ get_or words (2 * i + 1) d
name_of_pair [] i d lt = absurd (omega (arith, lt))
name_of_pair (word ∷ []) i d lt = absurd (omega (arith, lt))
name_of_pair (option ∷ name ∷ words) zero d lt = refl
name_of_pair (option ∷ name ∷ words) (suc i) d lt =
    let place : 2 * suc i + 1 ≡ suc (suc (2 * i + 1)) = omega arith in
    name_of_pair words i d (omega (arith, lt)) ∙ ap (λ (n : ℕ). get_or (option ∷ name ∷ words) n d) (sym place)

-- the text at a place
pub text_at : {X : Type 0} (f : X → List ℕ) (xs : List X) (i : ℕ) (x : X) → i < length xs → x ≡ get_or xs i x → get_or (map f xs) i [] ≡ f x
text_at f xs i x lt e = get_or-map f xs i x [] lt ∙ ap f (sym e)

pair_at : (words : List (List ℕ)) (i : ℕ) → i + 2 ≤ length words → drop i words ≡ get_or words i [] ∷ get_or words (i + 1) [] ∷ drop (i + 2) words
pair_at words i lt =
    let behind : i + 1 + 1 ≡ i + 2 = omega arith in
    drop_more words i [] (omega (arith, lt))
    ∙ ap (λ (ws : List (List ℕ)). get_or words i [] ∷ ws) (drop_more words (i + 1) [] (omega (arith, lt)))
    ∙ ap (λ (n : ℕ). get_or words i [] ∷ get_or words (i + 1) [] ∷ drop n words) behind

pub words_in_pairs-more : (option : List ℕ) (words : List (List ℕ)) (i : ℕ) → i + 2 ≤ length words → bytes_eq (get_or words i []) option ≡ true
    → words_in_pairs option (drop i words) ≡ 2 + words_in_pairs option (drop (i + 2) words)
words_in_pairs-more option words i lt e = ap (words_in_pairs option) (pair_at words i lt) ∙ ap (λ (b : Bool). if b then 2 + words_in_pairs option (drop (i + 2) words) else 0) e

pub words_in_pairs-other : (option : List ℕ) (words : List (List ℕ)) (i : ℕ) → i + 2 ≤ length words → bytes_eq (get_or words i []) option ≡ false → words_in_pairs option (drop i words) ≡ 0
words_in_pairs-other option words i lt e = ap (words_in_pairs option) (pair_at words i lt) ∙ ap (λ (b : Bool). if b then 2 + words_in_pairs option (drop (i + 2) words) else 0) e

pub words_in_pairs-short : (option : List ℕ) (words : List (List ℕ)) → length words < 2 → words_in_pairs option words ≡ 0
words_in_pairs-short option [] lt = refl
words_in_pairs-short option (word ∷ []) lt = refl
words_in_pairs-short option (word ∷ name ∷ words) lt = absurd (omega (arith, lt))

-- the words in front that are pairs of an option
front_pairs : (option : List ℕ) (words : List (List ℕ)) → take (words_in_pairs option words) words ≡ pairs_of option (seconds (take (words_in_pairs option words) words))
front_pairs option [] = refl
front_pairs option (word ∷ []) = refl
front_pairs option (word ∷ name ∷ words) = go (front_pairs option words) (bytes_eq word option) refl
  where
    go : take (words_in_pairs option words) words ≡ pairs_of option (seconds (take (words_in_pairs option words) words)) → (b : Bool) → bytes_eq word option ≡ b → take (if b then 2 + words_in_pairs option words else 0) (word ∷ name ∷ words) ≡ pairs_of option (seconds (take (if b then 2 + words_in_pairs option words else 0) (word ∷ name ∷ words)))
    go rest true e =
        let same : word ≡ option = (bytes_eq-Decides word option).0 e in
        let both : word ∷ name ∷ take (words_in_pairs option words) words ≡ option ∷ name ∷ pairs_of option (seconds (take (words_in_pairs option words) words)) = ap (λ (w : List ℕ). w ∷ name ∷ take (words_in_pairs option words) words) same ∙ ap (λ (ws : List (List ℕ)). option ∷ name ∷ ws) rest in
        let two : 2 + words_in_pairs option words ≡ suc (suc (words_in_pairs option words)) = omega arith in
        subst (λ (n : ℕ). take n (word ∷ name ∷ words) ≡ pairs_of option (seconds (take n (word ∷ name ∷ words)))) (sym two) both
    go rest false e = refl

-- words that are all pairs of an option
all_pairs : (option : List ℕ) (words : List (List ℕ)) → words_in_pairs option words ≡ length words → words ≡ pairs_of option (seconds words)
all_pairs option words e =
    let whole : take (words_in_pairs option words) words ≡ words = take_all (words_in_pairs option words) words (omega (arith, e)) in
    subst (λ (ws : List (List ℕ)). ws ≡ pairs_of option (seconds ws)) whole (front_pairs option words)

words_in_pairs-behind : (option : List ℕ) (names words : List (List ℕ)) → words_in_pairs option (pairs_of option names ++ words) ≡ 2 * length names + words_in_pairs option words
words_in_pairs-behind option [] words = omega arith
words_in_pairs-behind option (name ∷ names) words =
    let same : bytes_eq option option ≡ true = (bytes_eq-Decides option option).1 refl in
    let rest = words_in_pairs-behind option names words in
    ap (λ (b : Bool). if b then 2 + words_in_pairs option (pairs_of option names ++ words) else 0) same ∙ omega (arith, rest)

words_in_pairs-else : (option other : List ℕ) (names : List (List ℕ)) → bytes_eq other option ≡ false → words_in_pairs option (pairs_of other names) ≡ 0
words_in_pairs-else option other [] e = refl
words_in_pairs-else option other (name ∷ names) e = ap (λ (b : Bool). if b then 2 + words_in_pairs option (pairs_of other names) else 0) e

seconds-pairs : (option : List ℕ) (names : List (List ℕ)) → seconds (pairs_of option names) ≡ names
seconds-pairs option [] = refl
seconds-pairs option (name ∷ names) = ap (λ (ns : List (List ℕ)). name ∷ ns) (seconds-pairs option names)

length-pairs : (option : List ℕ) (names : List (List ℕ)) → length (pairs_of option names) ≡ 2 * length names
length-pairs option [] = refl
length-pairs option (name ∷ names) = let rest = length-pairs option names in omega (arith, rest)

pub record AreParts (words records disks : List (List ℕ)) : Type 0 where
  pub front : take (words_in_pairs (codes "--record") words) words ≡ pairs_of (codes "--record") records
  pub behind : drop (words_in_pairs (codes "--record") words) words ≡ pairs_of (codes "--disk") disks

pub parts_are : (words records disks : List (List ℕ)) → ArePairs words records disks → AreParts words records disks
parts_are words records disks are = subst (λ (ws : List (List ℕ)). AreParts ws records disks) (sym are.pairs_are) (record { front = take_at (pairs_of (codes "--record") records) (pairs_of (codes "--disk") disks) _ (sym long); behind = drop_at (pairs_of (codes "--record") records) (pairs_of (codes "--disk") disks) _ (sym long) })
  where
    long : words_in_pairs (codes "--record") (pairs_of (codes "--record") records ++ pairs_of (codes "--disk") disks) ≡ length (pairs_of (codes "--record") records)
    long =
        let in_front = words_in_pairs-behind (codes "--record") records (pairs_of (codes "--disk") disks) in
        let none : words_in_pairs (codes "--record") (pairs_of (codes "--disk") disks) ≡ 0 = words_in_pairs-else (codes "--record") (codes "--disk") disks refl in
        let double = length-pairs (codes "--record") records in
        omega (arith, in_front, none, double)

pub record AreSame (records disks others more : List (List ℕ)) : Type 0 where
  pub records_are : records ≡ others
  pub disks_are : disks ≡ more

pub pairs_name_once : (words records disks others more : List (List ℕ)) → ArePairs words records disks → ArePairs words others more → AreSame records disks others more
pairs_name_once words records disks others more one other =
    let a = parts_are words records disks one in
    let b = parts_are words others more other in
    record {
      records_are = sym (seconds-pairs (codes "--record") records) ∙ ap seconds (sym a.front ∙ b.front) ∙ seconds-pairs (codes "--record") others;
      disks_are = sym (seconds-pairs (codes "--disk") disks) ∙ ap seconds (sym a.behind ∙ b.behind) ∙ seconds-pairs (codes "--disk") more;
    }

-- what the tests of the two parts say
pub record HasParts (words front behind : List (List ℕ)) : Type 0 where
  pub front_is : front ≡ take (words_in_pairs (codes "--record") words) words
  pub behind_is : behind ≡ drop (words_in_pairs (codes "--record") words) words

pub ArePairs-split : (words front behind : List (List ℕ)) → HasParts words front behind → words_in_pairs (codes "--disk") behind ≡ length behind → length front ≤ 8 → length behind ≤ 8 → ArePairs words (seconds front) (seconds behind)
ArePairs-split words front behind has whole few_front few_behind =
    let n : ℕ = words_in_pairs (codes "--record") words in
    let front_are : front ≡ pairs_of (codes "--record") (seconds front) = subst (λ (ws : List (List ℕ)). ws ≡ pairs_of (codes "--record") (seconds ws)) (sym has.front_is) (front_pairs (codes "--record") words) in
    let behind_are : behind ≡ pairs_of (codes "--disk") (seconds behind) = all_pairs (codes "--disk") behind whole in
    let both : words ≡ front ++ behind = sym (take-append-drop n words) ∙ ap (λ (ws : List (List ℕ)). ws ++ drop n words) (sym has.front_is) ∙ ap (λ (ws : List (List ℕ)). front ++ ws) (sym has.behind_is) in
    let half_front = length-seconds front in
    let half_behind = length-seconds behind in
    record {
      pairs_are = both ∙ ap (λ (ws : List (List ℕ)). ws ++ behind) front_are ∙ ap (λ (ws : List (List ℕ)). pairs_of (codes "--record") (seconds front) ++ ws) behind_are;
      few_records = omega (arith, half_front, few_front);
      few_disks = omega (arith, half_behind, few_behind);
    }

pub disks_whole : (words front behind records disks : List (List ℕ)) → HasParts words front behind → ArePairs words records disks → words_in_pairs (codes "--disk") behind ≡ length behind
disks_whole words front behind records disks has are =
    let parts = parts_are words records disks are in
    let pairs : behind ≡ pairs_of (codes "--disk") disks = has.behind_is ∙ parts.behind in
    subst (λ (ws : List (List ℕ)). words_in_pairs (codes "--disk") ws ≡ length ws) (sym pairs) whole
  where
    whole : words_in_pairs (codes "--disk") (pairs_of (codes "--disk") disks) ≡ length (pairs_of (codes "--disk") disks)
    whole =
        let none = words_in_pairs-behind (codes "--disk") disks [] in
        let nil : pairs_of (codes "--disk") disks ++ [] ≡ pairs_of (codes "--disk") disks = append-nil (pairs_of (codes "--disk") disks) in
        let double = length-pairs (codes "--disk") disks in
        sym (ap (words_in_pairs (codes "--disk")) nil) ∙ none ∙ omega (arith, double)

pub front_few : (words front behind records disks : List (List ℕ)) → HasParts words front behind → ArePairs words records disks → length front ≤ 8
front_few words front behind records disks has are =
    let parts = parts_are words records disks are in
    let long : length front ≡ length (pairs_of (codes "--record") records) = ap length (has.front_is ∙ parts.front) in
    let double = length-pairs (codes "--record") records in
    let few = are.few_records in
    omega (arith, long, double, few)

pub behind_few : (words front behind records disks : List (List ℕ)) → HasParts words front behind → ArePairs words records disks → length behind ≤ 8
behind_few words front behind records disks has are =
    let parts = parts_are words records disks are in
    let long : length behind ≡ length (pairs_of (codes "--disk") disks) = ap length (has.behind_is ∙ parts.behind) in
    let double = length-pairs (codes "--disk") disks in
    let few = are.few_disks in
    omega (arith, long, double, few)

-- there are half as many names as words
pub halves : {X : Type 0} (f : X → List ℕ) (xs : List X) → length xs / 2 ≡ length (seconds (map f xs))
halves f xs = sym (length-seconds (map f xs) ∙ ap (λ (n : ℕ). n / 2) (length-map xs f))

pub pair_is_there : {X : Type 0} (f : X → List ℕ) (xs : List X) (i : ℕ) → i < length (seconds (map f xs)) → 2 * i + 1 < length xs
pair_is_there f xs i lt = let half = halves f xs in omega (arith, half, lt)

-- a list that was cut behind its recorders' pairs
pub HasParts-cut : {X : Type 0} (f : X → List ℕ) (xs front behind : List X) (n : ℕ) → n ≡ words_in_pairs (codes "--record") (map f xs) → front ≡ take n xs → behind ≡ drop n xs → HasParts (map f xs) (map f front) (map f behind)
HasParts-cut f xs front behind n e in_front is_behind =
    record {
      front_is = ap (map f) in_front ∙ sym (take-map f n xs) ∙ ap (λ (k : ℕ). take k (map f xs)) e;
      behind_is = ap (map f) is_behind ∙ sym (drop-map f n xs) ∙ ap (λ (k : ℕ). drop k (map f xs)) e;
    }
