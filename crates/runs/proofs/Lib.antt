pub mod Completeness
pub mod Expansions
pub mod LeastRests
pub mod Soundness
pub mod Stages
pub mod TrueClaims
