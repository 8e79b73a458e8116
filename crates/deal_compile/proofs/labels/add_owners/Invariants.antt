use Rattle.std.proofs.Common.{◌≡◌, ◌++◌, map, drop, true}
use Rattle.std.specs.Prelude.{is_some}
use Rattle.std.specs.List.{list_all}
use Rattle.spec_data.specs.Lists.{look_up}
use Rattle.spec_terms.specs.Precondition.{volatile}
use Rattle.spec_compiler.specs.Keyed.Transactions.{holding_or_none}
use Rattle.spec_tool.specs.Keyed.Listed.{deposit_signer}
use Rattle.deal_compile.proofs.labels.add_owners.Given as goal

-- what is there, and what is left, are the whole; each of those that are left is known
abbrev pub invariant-loop-name : goal.invariant-loop-name
invariant-loop-name l = record {
  known : list_all (λ name. is_some (look_up name (volatile l.pre))) (drop l.name-index l.names) ≡ true;
  labels : l.labels ++ map (λ name. deposit_signer (holding_or_none (look_up name (volatile l.pre))).owner) (drop l.name-index l.names)
      ≡ l.initial.labels ++ map (λ name. deposit_signer (holding_or_none (look_up name (volatile l.pre))).owner) l.names;
}
