-- A witness that is handed valid signatures and fitting secrets opens its branch, by the key plan.
use Rattle.spec_compiler.specs.Keyed.Keys.{by_plan}
use Rattle.spec_compiler.specs.Statements.{WitnessOpens}
use Rattle.theory_script.proofs.KeyPlan.{plan_keys}
use Rattle.theory_script.proofs.Keyed.Witnesses as keyed
pub use Rattle.theory_script.proofs.Keyed.Witnesses.{from_top, secrets_short, stack_short}

pub witness_opens : WitnessOpens
witness_opens hash valid s position choice i signatures strings is_hash =
    keyed.witness_opens hash by_plan valid s position choice i signatures strings (plan_keys hash is_hash)
