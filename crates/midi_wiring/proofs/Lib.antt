mod KeptLemmas
mod ListLemmas
mod PlayerLemmas
mod PortLemmas
pub mod SettingLemmas
mod TaskLemmas
