use Rattle.check_courses.proofs.AlikeLemmas.{gives-same}
use Rattle.check_courses.proofs.RestLemmas.{played-same}
use Rattle.check_courses.proofs.laws.underruns_at_rest.Goals as goal

pub returns : goal.returns
returns c = record {
  gives = λ course underruns last is channels within rest. gives-same course underruns last is channels within rest (λ k low some. c.a_script_with_disks_keeps_its_period.ensures course.script is some k low);
  played = λ course underruns last rest disk k low. played-same course underruns last rest disk k low;
}
