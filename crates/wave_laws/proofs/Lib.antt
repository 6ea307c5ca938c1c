pub mod WaveFaults
pub mod WaveFormats
pub mod WaveForward
pub mod WaveSamples
pub mod WaveWritten
