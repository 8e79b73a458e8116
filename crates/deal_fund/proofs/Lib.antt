pub mod FundTold
