use Rattle.std.proofs.Common.{◌≡◌, ◌++◌, ℕ, List, map, flat_map}
use Rattle.std.specs.Prelude.{drop}
use Rattle.spec_terms.specs.Advert.{Advert}
use Rattle.spec_compiler.specs.Keyed.Keys.{Keys}
use Rattle.spec_tool.specs.Keyed.Listed.{Listed}
use Rattle.spec_deal.specs.Transactions.{transaction}
use Rattle.bitml_deal.specs.Endorsed.{endorsed_part}
use Rattle.bitml_deal.proofs.endorse.put_all_endorsed.Given as goal

-- what is written, with what the transactions that are left will be
abbrev pub invariant-loop-transaction : goal.invariant-loop-transaction
invariant-loop-transaction l =
    (hash : List ℕ → List ℕ) (keys : Keys) (advert : Advert) (ls : List Listed) → l.fn.transactions ≡ map (transaction hash keys advert) ls
    → l.out.items ++ flat_map (endorsed_part hash keys advert l.fn.party) (drop l.transaction-index ls)
    ≡ l.fn.out.items ++ flat_map (endorsed_part hash keys advert l.fn.party) ls
