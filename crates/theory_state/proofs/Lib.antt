mod InOrder
mod Causes
mod StateAnswers
