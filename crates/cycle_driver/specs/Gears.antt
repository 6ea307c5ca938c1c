-- What contracts see of a driver, as its laws have it, for those that use one.
--     Gear      its parts
--     driver_of sounding gear      the driver that they make, whose guests sound so by their scores
--     IsServed script      which scripts a session plays yet; it plays every lawful one
pub use Rattle.cycle_works.specs.Gears.{Gear, IsServed, driver_of}
