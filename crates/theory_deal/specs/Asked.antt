-- What is known of all that a deal asks to be signed: its transactions, its signatures, their order, and which of them are endorsements.
use Rattle.std.specs.Prelude.{◌≡◌, ℕ, List, map, None, ◌↔◌}
use Rattle.std.specs.List.{Contains}
use Rattle.spec_compiler.specs.Keyed.Keys.{Keys}
use Rattle.spec_compiler.specs.Keyed.Instance.{Instance}
use Rattle.spec_compiler.specs.Keyed.Endorsements.{needed}
use Rattle.spec_compiler.specs.Keyed.Statements.{AreKeyDeposits}
use Rattle.spec_deal.specs.declared.signed.Signed.{Signed}
use Rattle.spec_deal.specs.Given.{has, missing, held, endorsements}
use Rattle.spec_deal.specs.Slots.{Slot, slots}
use Rattle.theory_deal.specs.Scripts.{AsksForKey}
use Rattle.theory_deal.specs.Signing.{IsAsked, need_of, IsParted}
use Rattle.theory_deal.specs.SigningOrder.{AreInOrder}
use Rattle.theory_deal.specs.Transactions.{AreTransactions}

pub record DealAsks (hash : List ℕ → List ℕ) (keys : Keys) (s : Instance) : Type 0 where
  pub transactions : AreTransactions hash keys s
  -- a signature is needed exactly where the contract asks for it
  pub exactly : (slot : Slot) → Contains (slots hash keys s) slot ↔ IsAsked hash keys s slot
  -- and the script of its input asks for its key, where it is by one
  pub keyed : (slot : Slot) → Contains (slots hash keys s) slot → slot.wallet ≡ None → AsksForKey hash keys s slot.spent.script slot.label
  -- as it is where all deposits are of keys
  pub by_keys : AreKeyDeposits keys → (slot : Slot) → Contains (slots hash keys s) slot → slot.wallet ≡ None
  pub order : AreInOrder hash keys s
  -- the endorsements are those that an honest party in a run waits for
  pub endorsed : map (need_of hash keys) (endorsements hash keys s) ≡ needed hash keys s
  -- those that are held and those that are missing are all
  pub parted : (given : List Signed)
      → IsParted (has hash keys given) (slots hash keys s) (held hash keys s given) (missing hash keys s given)

abbrev pub DealsAsk : Type 0
DealsAsk = (hash : List ℕ → List ℕ) (keys : Keys) (s : Instance) → DealAsks hash keys s
