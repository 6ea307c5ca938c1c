-- What stands against a disk file, as a play answers it.
--     difference_of told      the same difference, among all of a play
--     status_of_against against      its status
--     DisksStatus files play header status      what a status says that ended the opening of disk files
use Rattle.std.specs.Prelude.{◌≡◌, ◌⊎◌, ℕ, Option}
use Rattle.jack_types.specs.declared.scripts.Header.{Header}
use Rattle.play_words.specs.Words.{Play}
use Rattle.disk_inputs.specs.declared.faults.Against.{Against}
use Rattle.disk_inputs.specs.declared.faults.Against.TheVariants.{Bad, Other}
use Rattle.disk_inputs.specs.declared.faults.Difference.{Difference as DiskDifference}
use Rattle.disk_inputs.specs.declared.faults.What.{What as DiskWhat}
use Rattle.disk_inputs.specs.declared.faults.What.TheVariants as disk
use Rattle.disk_inputs.specs.Openings.{Files, HasOwnFault, IsFirstUnfit}
use Rattle.play_inputs.specs.declared.status.Difference.{Difference}
use Rattle.play_inputs.specs.declared.status.Status.{Status}
use Rattle.play_inputs.specs.declared.status.Status.TheVariants.{NoMemory, ReadFault, BadWave, Differs}
use Rattle.play_inputs.specs.declared.status.What.{What}
use Rattle.play_inputs.specs.declared.status.What.TheVariants.{DiskRate, DiskChannels}

abbrev pub what_of : DiskWhat → What
what_of disk.DiskRate = DiskRate
what_of disk.DiskChannels = DiskChannels

abbrev pub difference_of : DiskDifference → Difference
difference_of told = record { what = what_of told.what; script = told.script; given = told.given }

abbrev pub status_of_against : Against → Status
status_of_against (Bad fault) = BadWave fault
status_of_against (Other told) = Differs (difference_of told)

-- no memory, a read that failed, or what stands against the first disk file that does not fit
abbrev pub DisksStatus : Option Files → Play → Header → Status → Type 0
DisksStatus files play header status =
    (status ≡ NoMemory) ⊎ ((status ≡ ReadFault)
    ⊎ ((place : ℕ) × (against : Against) × (status ≡ status_of_against against) × HasOwnFault against
    × IsFirstUnfit files play.disks header.rate header.disks place against))
