-- One of a deal's transactions, by its name.
use Rattle.std.specs.Prelude.{◌≡◌, ℕ, List, Bool, Option, Some}
use Rattle.std.specs.List.{find}
use Rattle.spec_tool.specs.declared.which.Which.{Which}
use Rattle.spec_tool.specs.Keyed.Listed.{Listed, listed_at, same_which}
use Rattle.spec_deal.specs.declared.transaction.Transaction.{Transaction}
use Rattle.spec_deal.specs.Setting.{deal_keys, deal_instance}
use Rattle.spec_deal.specs.Transactions.{transaction}
use Rattle.bitml_deal.specs.declared.opening.Compiled.{Compiled}

abbrev pub is_named : Which → Transaction → Bool
is_named which t = same_which t.which which

abbrev pub named : Which → List Transaction → Option Transaction
named which ts = find (is_named which) ts

-- the transaction is this one of a compiled deal
pub record IsOne (hash : List ℕ → List ℕ) (c : Compiled) (t : Transaction) (l : Listed) : Type 0 where
  pub there : listed_at hash (deal_keys c.deal) (deal_instance c.contract c.deal) l.which ≡ Some l
  pub made : t ≡ transaction hash (deal_keys c.deal) c.contract l
