-- The form of a check's words, and what is asked of its names.
--     IsCheck-formed, IsCheckFormed-check, AreLawful-check      a check has the form and lawful names, and is what has both
--     check_formed_once, one_check      words have the form of one check at most, and are those of one at most
--     no_check_of_play, no_check_of_number      words of a play or of a rehearsal are those of no check
--     AreLawful-more, AreLawful-first      a name and others are lawful where it is one, is none of them, and they are lawful
use Rattle.std.proofs.Common.{◌≡◌, ℕ, zero, suc, ◌<◌, List, ◌∷◌, ◌++◌, [], codes, get_or, length, refl, sym, ap, subst, ◌∙◌, arith}
use Rattle.std.proofs.lemmas.List.{get_or_default}
use Rattle.play_words.specs.Checks.{Check, IsCheck}
use Rattle.play_words.specs.Lawful.{AreLawful, IsNoneFrom}
use Rattle.play_words.specs.Pairs.{ArePairs, IsCheckFormed}
use Rattle.play_words.specs.Rehearsals.{IsRehearse}
use Rattle.play_words.specs.Words.{IsName, IsPlay, Play, names_of, pairs_of}
use Rattle.play_words.proofs.PairLemmas.{AreSame, pairs_name_once}

pub IsCheck-formed : (words : List (List ℕ)) (check : Check) → IsCheckFormed words check → AreLawful (check.report ∷ names_of check.play) → IsCheck words check
IsCheck-formed words check is are =
    record {
      words_are = is.words_are ∙ ap (λ (ws : List (List ℕ)). codes "check" ∷ check.play.script ∷ check.play.capture ∷ check.report ∷ check.play.playback ∷ ws) is.are_pairs.pairs_are;
      few_records = is.are_pairs.few_records;
      few_disks = is.are_pairs.few_disks;
      are_names = are.are_names;
      apart = are.apart;
    }

pub IsCheckFormed-check : (words : List (List ℕ)) (check : Check) → IsCheck words check → IsCheckFormed words check
IsCheckFormed-check words check is =
    record {
      pairs = pairs_of (codes "--record") check.play.records ++ pairs_of (codes "--disk") check.play.disks;
      words_are = is.words_are;
      are_pairs = record { pairs_are = refl; few_records = is.few_records; few_disks = is.few_disks };
    }

pub AreLawful-check : (words : List (List ℕ)) (check : Check) → IsCheck words check → AreLawful (check.report ∷ names_of check.play)
AreLawful-check words check is = record { are_names = is.are_names; apart = is.apart }

pub check_formed_once : (words : List (List ℕ)) (one other : Check) → IsCheckFormed words one → IsCheckFormed words other → one ≡ other
check_formed_once words one other is also =
    let script : one.play.script ≡ other.play.script = cc (is.words_are, also.words_are) in
    let capture : one.play.capture ≡ other.play.capture = cc (is.words_are, also.words_are) in
    let report : one.report ≡ other.report = cc (is.words_are, also.words_are) in
    let playback : one.play.playback ≡ other.play.playback = cc (is.words_are, also.words_are) in
    let pairs : is.pairs ≡ also.pairs = cc (is.words_are, also.words_are) in
    let same : AreSame one.play.records one.play.disks other.play.records other.play.disks =
    pairs_name_once also.pairs one.play.records one.play.disks other.play.records other.play.disks (subst (λ (ws : List (List ℕ)). ArePairs ws one.play.records one.play.disks) pairs is.are_pairs) also.are_pairs in
    λ i. record { play = record { script = script i; capture = capture i; playback = playback i; records = same.records_are i; disks = same.disks_are i }; report = report i }

pub one_check : (words : List (List ℕ)) (one other : Check) → IsCheck words one → IsCheck words other → one ≡ other
one_check words one other is also = check_formed_once words one other (IsCheckFormed-check words one is) (IsCheckFormed-check words other also)

pub no_check_of_play : (words : List (List ℕ)) (play : Play) (check : Check) → IsPlay words play → IsCheck words check → ⊥
no_check_of_play words play check is also = absurd (cc (is.words_are, also.words_are))

pub no_check_of_number : (words : List (List ℕ)) (n : ℕ) (check : Check) → IsRehearse words n → IsCheck words check → ⊥
no_check_of_number words n check is also = absurd (cc (is.words_are, also.words_are))

pub AreLawful-more : (name : List ℕ) (names : List (List ℕ)) → IsName name → IsNoneFrom names 0 name → AreLawful names → AreLawful (name ∷ names)
AreLawful-more name names is none are =
    record {
      are_names = each;
      apart = ((λ other there same. none there.0 (omega arith) there.1 (same ∙ sym there.2 ∙ get_or_default names there.0 other [] there.1)), are.apart);
    }
  where
    each : (k : ℕ) (d : List ℕ) → k < length (name ∷ names) → IsName (get_or (name ∷ names) k d)
    each zero d lt = is
    each (suc k) d lt = are.are_names k d (omega (arith, lt))

-- what is asked of the first name and of the others
pub record HasFirst (name : List ℕ) (names : List (List ℕ)) : Type 0 where
  pub is_name : IsName name
  pub is_none : IsNoneFrom names 0 name
  pub others : AreLawful names

pub AreLawful-first : (name : List ℕ) (names : List (List ℕ)) → AreLawful (name ∷ names) → HasFirst name names
AreLawful-first name names are =
    record {
      is_name = are.are_names zero [] (omega arith);
      is_none = λ k from lt same. are.apart.0 (get_or names k []) (k, lt, get_or_default names k (get_or names k []) [] lt) same;
      others = record { are_names = λ k d lt. are.are_names (suc k) d (omega (arith, lt)); apart = are.apart.1 };
    }
