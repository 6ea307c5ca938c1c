use Rattle.std.proofs.Common.{◌<◌, length, arith, length-set}
use Rattle.script_words.proofs.HexLemmas.{pair-stored}
use Rattle.script_words.proofs.hexed.spelled.Goals as goal

pub pairs-preserved : goal.pairs-preserved
pairs-preserved c =
    let room : c.pairs.len < length c.pairs.buffer = omega arith in
    let byte = c.in_ok-byte.ensures in
    let rest = c.behind_pair-rest.ensures in
    record {
      so_far = rw rest (pair-stored c.pairs.buffer c.args.word.now c.pairs.rest.now c.pairs.len c.in_ok-byte.byte room c.pairs-test.true c.pairs.invariant.so_far byte.0 byte.1);
      fits = rw length-set (omega arith);
      size = rw length-set c.pairs.invariant.size;
    }
