pub mod NumberAt
mod Steps
mod LabelLemmas
