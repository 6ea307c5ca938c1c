-- What contracts see of a session and of its driver, passed on to the call that uses one.
pub use Rattle.session_ends.specs.Seen.{AreDisks, AreLater, AreReadLater, Gear, IsLater, IsUnread, OfCapture, OfDisk, OneRose, Parts, Playing, SourceRose, bytes_of, driver_of, playback_format, session_of, stores_in, told_of}
pub use Rattle.session_threads.specs.Running.{HasCome}
