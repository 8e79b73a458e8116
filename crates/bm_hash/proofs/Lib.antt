pub mod Chains
pub mod Collisions
pub mod Evidence
pub mod HashSteps
pub mod HashesLemmas
pub mod Piecing
pub mod Placed
