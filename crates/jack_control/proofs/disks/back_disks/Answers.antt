use Rattle.std.proofs.Common.{◌∙◌, ap, arith, length}
use Rattle.session_run.specs.Seen.{Parts, Playing}
use Rattle.jack_control.specs.Openings.{faults_in}
use Rattle.play_inputs.proofs.InputLemmas.{same_after}
use Rattle.std.proofs.lemmas.List.Sums.{sum_by-cons}
use Rattle.jack_control.proofs.disks.back_disks.Goals as goal

pub back-requires : goal.back-requires
back-requires g c =
    let one = ap length c.in-Some.ensures.taken.1 in
    let lent = c.handing.invariant.lent in
    let enough = c.requires.out in
    omega (arith, one, lent, enough)

pub handing-preserved : goal.handing-preserved
handing-preserved g c =
    let player : Playing = c.in-Some.ensures.taken.0 in
    let all = ap faults_in c.in-Some.ensures.taken.1 ∙ sum_by-cons (λ (one : Playing). one.faults) player c.take_disk.new.self.players in
    let faults = c.in-Some.ensures.taken.2 in
    let taken_up = c.back.ensures.reads.taken_up in
    let grown = c.back.ensures.reads.later in
    let few = c.back.ensures.no_more in
    let owed = c.handing.invariant.owed in
    let no_more = c.handing.invariant.no_more in
    let later = c.handing.invariant.later in
    let lent = c.handing.invariant.lent in
    let back = c.back.ensures.lent in
    let one = ap length c.in-Some.ensures.taken.1 in
    record {
      owed = omega (arith, all, faults, taken_up, owed);
      no_more = omega (arith, all, faults, few, no_more);
      later = omega (arith, grown, later);
      writes = c.back.ensures.writes ∙ c.handing.invariant.writes;
      files = same_after _ _ _ c.handing.invariant.files c.back.ensures.files;
      gear = ap (λ (parts : Parts). parts.gear) c.in-Some.ensures.same ∙ c.handing.invariant.gear;
      lent = omega (arith, lent, back, one);
    }
