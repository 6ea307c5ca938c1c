use Rattle.std.proofs.Common.{◌≤◌, length, take, arith, rules}
use Rattle.report_reader.proofs.LeftLemmas.{text-ended, text-long, within-long, byte-some}
use Rattle.report_reader.proofs.lines.take_text.Goals as goal

pub returns-in-Some-eq10-last-clause-text : goal.returns-in-Some-eq10-last-clause-text
returns-in-Some-eq10-last-clause-text g c = (
  text-ended _ c.taking.bytes.left c.take-2.new.self.left c.in_ok-last.last (take c.taking.len c.taking.text) c.taking.invariant.so_far (search (rules, arith)) c.in_ok-last.ensures.byte,
  c.taking.invariant.within,
  c.taking.invariant.few,
)

pub returns-in-Some-last-clause-text : goal.returns-in-Some-last-clause-text
returns-in-Some-last-clause-text g c =
    let full : length c.taking.text ≤ c.taking.len = omega (arith, c.taking.invariant.size, c.taking-test.false) in (
      text-long _ c.taking.bytes.left c.take-2.new.self.left c.taking.text c.taking.len c.in-Some-last.other full c.taking.invariant.so_far (byte-some c.taking.bytes.left c.take-2.new.self.left c.in_ok-last.last c.in-Some-last.other c.in-Some-last.is c.in_ok-last.ensures.byte),
      within-long c.taking.text c.taking.len c.in-Some-last.other full c.taking.invariant.within (search (rules, arith)),
    )
