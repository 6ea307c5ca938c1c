use Rattle.std.proofs.Common.{◌++◌}
use Rattle.check_courses.proofs.UntoldLemmas.{any-tape, there, writes}
use Rattle.check_courses.proofs.laws.playback_untold.Goals as goal

pub returns : goal.returns
returns c = record {
  there = λ driver format e. there driver format e;
  tape = λ driver format e samples. any-tape driver.playback format e samples;
  writes = λ driver after format e f sound. writes driver after format e f sound;
  written = λ driver after format f more in_run samples had. any-tape after.playback format f (samples ++ more);
}
