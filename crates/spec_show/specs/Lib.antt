pub mod Made
pub mod Objects
pub mod ShownDeal
pub mod ShowText
