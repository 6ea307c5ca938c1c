pub use Rattle.playback_mix.specs.client_wiring
pub use Rattle.playback_mix.specs.device_periods
pub use Rattle.playback_mix
