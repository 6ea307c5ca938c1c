pub use Rattle.cycle_plan
