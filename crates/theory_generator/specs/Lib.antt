pub mod Generated
pub mod GeneratedRuns
