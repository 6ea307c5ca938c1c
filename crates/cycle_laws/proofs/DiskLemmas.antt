-- The disks' rings of a driver's parts.
--     disks-are      where they are the driver's own, each is made for a period of its disk's channels
--     disks-own      and so they are its own
use Rattle.std.proofs.Common.{◌≡◌, ℕ, ◌*◌, get_or, slice_get, Some, sym, ◌∙◌, ap, ap₂}
use Rattle.std.proofs.lemmas.Option.{get_or_from_slice_get, slice_get-get_or, slice_get_within}
use Rattle.driver_words.specs.Feeding.{AreForPeriods, Fed, disk_at, no_ring}
use Rattle.driver_words.specs.Rings.{Getting}
use Rattle.plan_transport.specs.driver_laws.specs.Drivers.{Driver, IsOwnDisk, greatest_period}

module _ (seen : Fed) (driver : Driver) (channels : seen.channels ≡ driver.script.header.disks) (period : seen.period ≡ greatest_period driver.script) where
  pub disks-are : ((disk : ℕ) (got : Getting) → slice_get seen.disks disk ≡ Some got → IsOwnDisk driver disk got) → AreForPeriods seen
  disks-are own disk low =
      own disk (disk_at seen disk) (slice_get-get_or seen.disks disk no_ring low)
      ∙ ap₂ (λ room counts. room * get_or counts disk 0) (sym period) (sym channels)

  pub disks-own : AreForPeriods seen → (disk : ℕ) (got : Getting) → slice_get seen.disks disk ≡ Some got → IsOwnDisk driver disk got
  disks-own periods disk got here =
      ap (λ (g : Getting). g.samples) (sym (get_or_from_slice_get seen.disks disk got no_ring here))
      ∙ periods disk (slice_get_within seen.disks disk got here)
      ∙ ap₂ (λ room counts. room * get_or counts disk 0) period channels
