pub mod PathSteps
