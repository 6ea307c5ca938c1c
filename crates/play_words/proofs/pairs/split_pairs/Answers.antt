use Rattle.std.proofs.Common.{arith, string_bytes}
use Rattle.std.proofs.lemmas.List.{length-map}
use Rattle.play_words.proofs.PairLemmas.{ArePairs-split, HasParts-cut, behind_few, disks_whole, front_few}
use Rattle.play_words.proofs.pairs.split_pairs.Goals as goal

pub returns-then-words_in_pairs-disks-clause-none : goal.returns-then-words_in_pairs-disks-clause-none
returns-then-words_in_pairs-disks-clause-none c none records disks are =
    let has = HasParts-cut string_bytes c.args.words.now c.split_at.result.0.now c.split_at.result.1.now c.words_in_pairs.result c.words_in_pairs.ensures.value c.split_at.ensures.front c.split_at.ensures.back in
    let whole = disks_whole _ _ _ records disks has are in
    let long = length-map c.split_at.result.1.now string_bytes in
    let counted = c.words_in_pairs-2.ensures.value in
    omega (arith, whole, long, counted, c.if-words_in_pairs-disks.true)

pub returns-then-records-gt-MOST_RECORDS-clause-none : goal.returns-then-records-gt-MOST_RECORDS-clause-none
returns-then-records-gt-MOST_RECORDS-clause-none c none records disks are =
    let has = HasParts-cut string_bytes c.args.words.now c.split_at.result.0.now c.split_at.result.1.now c.words_in_pairs.result c.words_in_pairs.ensures.value c.split_at.ensures.front c.split_at.ensures.back in
    let few = front_few _ _ _ records disks has are in
    let long = length-map c.split_at.result.0.now string_bytes in
    omega (arith, few, long, c.if-records-gt-MOST_RECORDS.true)

pub returns-then-disks-gt-MOST_DISKS-clause-none : goal.returns-then-disks-gt-MOST_DISKS-clause-none
returns-then-disks-gt-MOST_DISKS-clause-none c none records disks are =
    let has = HasParts-cut string_bytes c.args.words.now c.split_at.result.0.now c.split_at.result.1.now c.words_in_pairs.result c.words_in_pairs.ensures.value c.split_at.ensures.front c.split_at.ensures.back in
    let few = behind_few _ _ _ records disks has are in
    let long = length-map c.split_at.result.1.now string_bytes in
    omega (arith, few, long, c.if-disks-gt-MOST_DISKS.true)

pub returns-clause-pairs : goal.returns-clause-pairs
returns-clause-pairs c =
    let has = HasParts-cut string_bytes c.args.words.now c.split_at.result.0.now c.split_at.result.1.now c.words_in_pairs.result c.words_in_pairs.ensures.value c.split_at.ensures.front c.split_at.ensures.back in
    let front_long = length-map c.split_at.result.0.now string_bytes in
    let behind_long = length-map c.split_at.result.1.now string_bytes in
    let counted = c.words_in_pairs-2.ensures.value in
    ArePairs-split _ _ _ has (omega (arith, behind_long, counted, c.if-words_in_pairs-disks.false)) (omega (arith, front_long, c.if-records-gt-MOST_RECORDS.false)) (omega (arith, behind_long, c.if-disks-gt-MOST_DISKS.false))
