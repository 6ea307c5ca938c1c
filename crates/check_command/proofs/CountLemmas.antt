-- The counts of faults of the sources of a check, which are handed back.
--     rose-told, kept-told      where one of them rose, so does the host's; where all stand, it stands
use Rattle.std.proofs.Common.{◌≡◌, ℕ, zero, suc, ◌+◌, ◌≤◌, List, [], ◌∷◌, Ok, Err, ap, arith, refl, sym, subst}
use Rattle.std.specs.Prelude.{All, OnOk, Result, slice_index_or, sum}
use Rattle.std.proofs.lemmas.List.Sums.{sum-map, sum_by-cons}
use Rattle.jack_host.specs.Causes.{Adds, Rose}
use Rattle.file_compare.specs.Comparisons.{Compared}
use Rattle.session_check.specs.Counts.{OneRose, counts_of, faults_of}
use Rattle.check_command.specs.Files.{IsFresh, faults_in, faults_in_all}

all-in : (capture report : ℕ) (playback : Compared) (records : List Compared) → sum (counts_of capture report playback records) ≡ faults_in_all capture report playback records
all-in capture report playback records =
    let one = sum_by-cons (λ (n : ℕ). n) capture (report ∷ playback.faults ∷ faults_of records) in
    let two = sum_by-cons (λ (n : ℕ). n) report (playback.faults ∷ faults_of records) in
    let three = sum_by-cons (λ (n : ℕ). n) playback.faults (faults_of records) in
    let rest = sum-map (λ (c : Compared). c.faults) records in
    omega (arith, one, two, three, rest)

fresh-none : (files : List Compared) → All IsFresh files → faults_in files ≡ 0
fresh-none [] fresh = refl
fresh-none (file ∷ files) fresh =
    let here : file.faults ≡ 0 = (fresh 0 file (omega arith)).faults in
    let rest : faults_in files ≡ 0 = fresh-none files (λ k d within. fresh (suc k) d (omega (arith, within))) in
    let both = sum_by-cons (λ (c : Compared). c.faults) file files in
    omega (arith, here, rest, both)

at-most : (xs : List ℕ) (i : ℕ) → slice_index_or xs i 0 ≤ sum xs
at-most [] i = omega arith
at-most (x ∷ xs) zero = let both = sum_by-cons (λ (n : ℕ). n) x xs in omega (arith, both)
at-most (x ∷ xs) (suc i) = let both = sum_by-cons (λ (n : ℕ). n) x xs in let rest = at-most xs i in omega (arith, both, rest)

rose-all : (before now : List ℕ) (b n : ℕ) → OneRose before now → Adds b (sum now) n → Rose b n
rose-all before now b n one adds =
    let rose = one.2 in
    let most = at-most now one.0 in
    let taken = adds.taken_up in
    omega (arith, rose, most, taken)

-- where the count of one of them rose, so does the host's
pub rose-told : (before : List ℕ) (capture report : ℕ) (playback : Compared) (records : List Compared) (b n : ℕ) → OneRose before (counts_of capture report playback records) → Adds b (faults_in_all capture report playback records) n → Rose b n
rose-told before capture report playback records b n one adds =
    let sums = all-in capture report playback records in
    rose-all before (counts_of capture report playback records) b n one (subst (λ (more : ℕ). Adds b more n) (sym sums) adds)

-- and where all stand, it stands
pub kept-told : {T E : Type 0} (result : Result T E) (capture report : ℕ) (playback : Compared) (records : List Compared) (capture_after report_after : ℕ) (playback_after : Compared) (records_after : List Compared) (b n : ℕ)
    → capture ≡ 0 → report ≡ 0 → IsFresh playback → All IsFresh records → OnOk result (counts_of capture_after report_after playback_after records_after ≡ counts_of capture report playback records)
    → Adds b (faults_in_all capture_after report_after playback_after records_after) n → n ≤ b + faults_in_all capture_after report_after playback_after records_after → OnOk result (n ≡ b)
kept-told (Err fault) capture report playback records capture_after report_after playback_after records_after b n no_capture no_report fresh all_fresh same adds few = tt
kept-told (Ok value) capture report playback records capture_after report_after playback_after records_after b n no_capture no_report fresh all_fresh same adds few =
    let before = all-in capture report playback records in
    let after = all-in capture_after report_after playback_after records_after in
    let sums = ap sum same in
    let no_playback = fresh.faults in
    let no_records = fresh-none records all_fresh in
    let later = adds.later in
    omega (arith, before, after, sums, no_capture, no_report, no_playback, no_records, later, few)
