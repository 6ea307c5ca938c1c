use Rattle.stage_laws.proofs.WholeLemmas.{idle-played, kinds-played, periods-played, seating-played, staffed-played, unfed-played}
use Rattle.stage_laws.proofs.stages.a_stage_stands_behind_its_cycle.Goals as goal

pub returns-clause-seating : goal.returns-clause-seating
returns-clause-seating c sounding old last plan moment period channels cast places filled disks fed crew played casts fills feeds performs = (seating-played sounding) old last plan moment period channels cast casts places filled fills disks fed feeds crew played performs

pub returns-clause-unfed : goal.returns-clause-unfed
returns-clause-unfed c sounding old last plan moment period channels cast places filled disks fed crew played casts fills feeds performs = (unfed-played sounding) old last plan moment period channels cast casts places filled fills disks fed feeds crew played performs

pub returns-clause-idle : goal.returns-clause-idle
returns-clause-idle c sounding old last plan moment period channels cast places filled disks fed crew played casts fills feeds performs = (idle-played sounding) old last plan moment period channels cast casts places filled fills disks fed feeds crew played performs

pub returns-clause-kinds : goal.returns-clause-kinds
returns-clause-kinds c sounding old last plan moment period channels cast places filled disks fed crew played casts fills feeds performs = (kinds-played sounding) old last plan moment period channels cast casts places filled fills disks fed feeds crew played performs

pub returns-clause-periods : goal.returns-clause-periods
returns-clause-periods c sounding old last plan moment period channels cast places filled disks fed crew played casts fills feeds performs = (periods-played sounding) old last plan moment period channels cast casts places filled fills disks fed feeds crew played performs

pub returns-clause-staffed : goal.returns-clause-staffed
returns-clause-staffed c sounding old last plan moment period channels cast places filled disks fed crew played casts fills feeds performs = (staffed-played sounding) old last plan moment period channels cast casts places filled fills disks fed feeds crew played performs
