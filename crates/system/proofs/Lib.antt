pub mod Bits
pub mod Chosen
pub mod Examples
pub mod JointMoves
pub mod ListedMoves
pub mod Scans
pub mod SeenRows
