pub mod Tells
pub mod Shows
pub mod Ids
pub mod SvgTells
pub mod Outcomes
