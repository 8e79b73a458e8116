pub mod DrawnTexts
