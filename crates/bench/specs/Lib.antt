pub mod Rounds
pub mod Wheel
