-- No endorsement is missing exactly where a contract is endorsed, and what is found missing is the first that is, by the key plan.
use Rattle.spec_compiler.specs.Keyed.Keys.{by_plan}
use Rattle.theory_script.specs.Endorsed.{MissingIsFirst}
use Rattle.theory_script.proofs.Keyed.Missing as keyed
pub use Rattle.theory_script.proofs.Keyed.Missing.{none_unmet}

pub missing_is_first : MissingIsFirst
missing_is_first hash = keyed.missing_is_first hash by_plan
