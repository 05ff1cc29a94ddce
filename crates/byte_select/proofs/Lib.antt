pub mod Nth
pub mod TableRule
