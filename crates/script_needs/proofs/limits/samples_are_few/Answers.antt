use Rattle.std.proofs.Common.{slice_index_or}
use Rattle.session_model.specs.Grammar.{most_channels}
use Rattle.task_laws.specs.driver_laws.specs.Drivers.{channels_on, frames_run, run}
use Rattle.script_needs.proofs.SampleLemmas.{capture-within, disk-within, narrow-few, playback-within, recorder-within, samples-few}
use Rattle.script_needs.proofs.limits.samples_are_few.Goals as goal

pub returns-clause-most : goal.returns-clause-most
returns-clause-most c = samples-few

pub returns-clause-run : goal.returns-clause-run
returns-clause-run c driver is = samples-few driver.script (run driver) is

pub returns-clause-recorders : goal.returns-clause-recorders
returns-clause-recorders c driver recorder is = narrow-few (frames_run driver) (channels_on driver.script recorder) (most_channels driver.script.header) (recorder-within driver.script.header recorder) (samples-few driver.script (run driver) is)

pub returns-clause-disks : goal.returns-clause-disks
returns-clause-disks c driver disk is = narrow-few (frames_run driver) (slice_index_or driver.script.header.disks disk 0) (most_channels driver.script.header) (disk-within driver.script.header disk) (samples-few driver.script (run driver) is)

pub returns-clause-capture : goal.returns-clause-capture
returns-clause-capture c driver is = narrow-few (frames_run driver) driver.script.header.capture (most_channels driver.script.header) (capture-within driver.script.header) (samples-few driver.script (run driver) is)

pub returns-clause-playback : goal.returns-clause-playback
returns-clause-playback c driver is = narrow-few (frames_run driver) driver.script.header.playback (most_channels driver.script.header) (playback-within driver.script.header) (samples-few driver.script (run driver) is)
