-- The words of a driver, passed on to the session over it.
pub use Rattle.cycle_driver.specs.Gears.{Gear, IsServed, driver_of}
pub use Rattle.cycle_driver.specs.Openings.{playback_format}
