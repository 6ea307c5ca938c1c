-- The files of a check, opened one after another.
--     on_err      of an answer that is a fault
--     lacks-before, lacks-records, lacks-named      a name that is not there, before a call that keeps the files, and among more names
--     playback-named      the playback's name is one of them
--     why-failed      why a file was not opened
--     opened-next, fresh-next, length-next      one more record was opened
--     written-opened, written-named      all files of a check were
use Rattle.std.proofs.Common.{◌≡◌, ◌∙◌, ℕ, suc, ◌+◌, ◌<◌, List, [], ◌∷◌, ◌++◌, Some, None, Ok, Err, ◌⊎◌, inl, inr, ap, arith, length, map, refl, sym, subst, take}
use Rattle.std.specs.Prelude.{All, Contains, IsSome, OnErr, Option, Result, slice_index_or}
use Rattle.std.proofs.Math.Seq.{take-suc}
use Rattle.std.proofs.lemmas.List.{length_push, map-append}
use Rattle.std.proofs.lemmas.List.Elements.{All-push, Contains-get_or}
use Rattle.jack_host.specs.Files.{Gives, IsThere, SameFiles, bytes_under}
use Rattle.file_compare.specs.Comparisons.{Compared}
use Rattle.session_check.specs.Cases.{IsUntouched, left_of}
use Rattle.play_words.specs.Checks.{Check}
use Rattle.play_words.specs.Words.{Play}
use Rattle.play_inputs.specs.Inputs.{Files}
use Rattle.play_inputs.proofs.InputLemmas.{there_after}
use Rattle.check_command.specs.Cases.{LacksOne, checked_names}
use Rattle.check_command.specs.Files.{GivesAll, GivesWritten, IsFresh, written_names}

pub there-or : (files : Option Files) (name : List ℕ) → IsThere files name ⊎ ¬ IsThere files name
there-or None name = inl tt
there-or (Some files) name = go (bytes_under files name)
  where
    go : (o : Option (List ℕ)) → IsSome o ⊎ ¬ IsSome o
    go None = inr (λ e. cc e)
    go (Some bytes) = inl refl

pub lacks-before : (a b : Option Files) (names : List (List ℕ)) → SameFiles a b → LacksOne b names → LacksOne a names
lacks-before a b names same lacks = (lacks.0, lacks.1, λ there. lacks.2 (there_after a b lacks.0 same there))

pub on_err : {T E P : Type 0} → (r : Result T E) → P → OnErr r P
on_err (Ok x) p = tt
on_err (Err x) p = p

pub playback-named : (name : List ℕ) (play : Play) → Contains (written_names name play) play.playback
playback-named name play = Contains-get_or (written_names name play) 1 [] (omega arith)

records-named : (name : List ℕ) (play : Play) (other : List ℕ) → Contains play.records other → Contains (written_names name play) other
records-named name play other (k, within, is) = (suc (suc k), omega (arith, within), is)

pub lacks-records : (a b : Option Files) (name : List ℕ) (play : Play) → SameFiles a b → LacksOne b play.records → LacksOne a (written_names name play)
lacks-records a b name play same lacks = lacks-before a b (written_names name play) same (lacks.0, records-named name play lacks.0 lacks.1, lacks.2)

-- of the names of a check, by their parts
pub lacks-named : (a b : Option Files) (check : Check) (name : List ℕ) (play : Play) → name ≡ check.report → play ≡ check.play → SameFiles a b → LacksOne b (written_names name play) → LacksOne a (checked_names check)
lacks-named a b check name play is are same lacks =
    lacks-before a b (checked_names check) same (subst (λ (p : Play). LacksOne b (written_names check.report p)) are (subst (λ (n : List ℕ). LacksOne b (written_names n play)) is lacks))

-- why a file was not opened
pub why-failed : (a b : Option Files) (name own : List ℕ) (names : List (List ℕ)) (rose : Type 0) → SameFiles a b → name ≡ own → Contains names own → (IsThere b name → rose) → rose ⊎ LacksOne a names
why-failed a b name own names rose same is among failed = go (there-or b name)
  where
    go : IsThere b name ⊎ ¬ IsThere b name → rose ⊎ LacksOne a names
    go (inl there) = inl (failed there)
    go (inr none) = inr (lacks-before a b names same (name, subst (Contains names) (sym is) among, none))

gives-next : (a b : Option Files) (names : List (List ℕ)) (place : ℕ) (lefts : List (Option (List ℕ))) (left : Option (List ℕ)) → place < length names → SameFiles a b
    → GivesAll a (take place names) lefts → Gives b (slice_index_or names place []) left → GivesAll a (take (suc place) names) (lefts ++ left ∷ [])
gives-next None None names place lefts left within same all gives = tt
gives-next None (Some b) names place lefts left within same all gives = absurd same
gives-next (Some a) None names place lefts left within same all gives = absurd same
gives-next (Some a) (Some b) names place lefts None within same all gives = absurd gives
gives-next (Some a) (Some b) names place lefts (Some bytes) within same all gives =
    let name : List ℕ = slice_index_or names place [] in
    let here : bytes_under a name ≡ Some bytes = sym (same name) ∙ gives in (
      all.0 ++ bytes ∷ [],
      ap (map (bytes_under a)) (take-suc names place [] within) ∙ map-append (bytes_under a) (take place names) (name ∷ []) ∙ ap (λ os. os ++ bytes_under a name ∷ []) all.1 ∙ ap (λ o. map Some all.0 ++ o ∷ []) here
          ∙ sym (map-append Some all.0 (bytes ∷ [])),
      ap (λ os. os ++ Some bytes ∷ []) all.2 ∙ sym (map-append Some all.0 (bytes ∷ [])),
    )

pub opened-next : (a b : Option Files) (names : List (List ℕ)) (place : ℕ) (records after : List Compared) (one : Compared) (name : List ℕ) (left : Option (List ℕ)) → place < length names → SameFiles a b
    → GivesAll a (take place names) (map left_of records) → name ≡ slice_index_or names place [] → Gives b name left → one.left ≡ left → after ≡ records ++ one ∷ []
    → GivesAll a (take (place + 1) names) (map left_of after)
opened-next a b names place records after one name left within same all is gives own more =
    subst (λ (n : ℕ). GivesAll a (take n names) (map left_of after)) (one-more place)
    (subst (λ (os : List (Option (List ℕ))). GivesAll a (take (suc place) names) os) (sym (ap (map left_of) more ∙ map-append left_of records (one ∷ []) ∙ ap (λ o. map left_of records ++ o ∷ []) own))
    (gives-next a b names place (map left_of records) left within same all (subst (λ (n : List ℕ). Gives b n left) is gives)))
  where
    one-more : (n : ℕ) → suc n ≡ n + 1
    one-more n = omega arith

abbrev pub new_file : Option (List ℕ) → ℕ → Compared
new_file left faults = record { front = []; count = 0; wrong = None; left = left; faults = faults }

pub is-fresh : (one : Compared) (left : Option (List ℕ)) (faults : ℕ) → one ≡ new_file left faults → faults ≡ 0 → IsFresh one
is-fresh one left faults is none = record {
  untouched = record { front = ap (λ (c : Compared). c.front) is; count = ap (λ (c : Compared). c.count) is; wrong = ap (λ (c : Compared). c.wrong) is };
  faults = ap (λ (c : Compared). c.faults) is ∙ none;
}

pub fresh-next : (records after : List Compared) (one : Compared) (left : Option (List ℕ)) (faults : ℕ) → one ≡ new_file left faults → faults ≡ 0 → All IsFresh records → after ≡ records ++ one ∷ [] → All IsFresh after
fresh-next records after one left faults is none fresh more = subst (All IsFresh) (sym more) (All-push IsFresh records one fresh (is-fresh one left faults is none))

pub length-next : (records after : List Compared) (one : Compared) (n : ℕ) → length records ≡ n → after ≡ records ++ one ∷ [] → length after ≡ n + 1
length-next records after one n many more = ap length more ∙ length_push records one ∙ ap (λ m. m + 1) many

-- what is untouched of fresh files
pub all-untouched : (files : List Compared) → All IsFresh files → All IsUntouched files
all-untouched files fresh = λ k d within. (fresh k d within).untouched

written-told : (a b c : Option Files) (name : List ℕ) (play : Play) (report playback : Option (List ℕ)) (records : List (Option (List ℕ))) → SameFiles a b → SameFiles b c
    → Gives a name report → Gives b play.playback playback → GivesAll c play.records records → GivesWritten a name play report playback records
written-told None b c name play report playback records s t r p all = tt
written-told (Some a) None c name play report playback records s t r p all = absurd s
written-told (Some a) (Some b) None name play report playback records s t r p all = absurd t
written-told (Some a) (Some b) (Some c) name play None playback records s t r p all = absurd r
written-told (Some a) (Some b) (Some c) name play (Some report) None records s t r p all = absurd p
written-told (Some a) (Some b) (Some c) name play (Some report) (Some playback) records s t r p all = record {
  written = record { playback = playback; records = all.0; report = report };
  report_there = r;
  playback_there = sym (s play.playback) ∙ p;
  records_there = sym (map-same play.records) ∙ all.1;
  report_is = refl;
  playback_is = refl;
  records_are = all.2;
}
  where
    map-same : (names : List (List ℕ)) → map (bytes_under c) names ≡ map (bytes_under a) names
    map-same [] = refl
    map-same (own ∷ names) = let head = t own ∙ s own in let tail = map-same names in (λ k. head k ∷ tail k)

-- by the sources as they are at hand
pub written-opened : (a b c : Option Files) (name : List ℕ) (play : Play) (own : List ℕ) (report playback told_report told_playback : Option (List ℕ)) (records : List (Option (List ℕ)))
    → own ≡ play.playback → report ≡ told_report → playback ≡ told_playback → SameFiles a b → SameFiles b c
    → Gives a name told_report → Gives b own told_playback → GivesAll c play.records records → GivesWritten a name play report playback records
written-opened a b c name play own report playback told_report told_playback records is tells_report tells_playback s t r p all =
    subst (λ (o : Option (List ℕ)). GivesWritten a name play o playback records) (sym tells_report)
    (subst (λ (o : Option (List ℕ)). GivesWritten a name play told_report o records) (sym tells_playback)
    (written-told a b c name play told_report told_playback records s t r (subst (λ (n : List ℕ). Gives b n told_playback) is p) all))

-- of a check, before a call that keeps the files
pub written-named : (a b : Option Files) (check : Check) (name : List ℕ) (play : Play) (report playback : Option (List ℕ)) (records : List (Option (List ℕ))) → name ≡ check.report → play ≡ check.play → SameFiles a b
    → GivesWritten b name play report playback records → GivesWritten a check.report check.play report playback records
written-named a b check name play report playback records is are same gives =
    before a b same
    (subst (λ (p : Play). GivesWritten b check.report p report playback records) are (subst (λ (n : List ℕ). GivesWritten b n play report playback records) is gives))
  where
    all-before : (x y : Files) → ((n : List ℕ) → bytes_under y n ≡ bytes_under x n) → (names : List (List ℕ)) → map (bytes_under y) names ≡ map (bytes_under x) names
    all-before x y s [] = refl
    all-before x y s (own ∷ names) = let head = s own in let tail = all-before x y s names in (λ k. head k ∷ tail k)

    before : (x y : Option Files) → SameFiles x y → GivesWritten y check.report check.play report playback records → GivesWritten x check.report check.play report playback records
    before None None s h = tt
    before None (Some y) s h = absurd s
    before (Some x) None s h = absurd s
    before (Some x) (Some y) s h = record {
      written = h.written;
      report_there = sym (s check.report) ∙ h.report_there;
      playback_there = sym (s check.play.playback) ∙ h.playback_there;
      records_there = sym (all-before x y s check.play.records) ∙ h.records_there;
      report_is = h.report_is;
      playback_is = h.playback_is;
      records_are = h.records_are;
    }
