-- What is known of the contract and the deal of a command, once they are compiled.
use Rattle.std.specs.Prelude.{◌≡◌, ℕ, List, [], true, Option}
use Rattle.std.specs.List.{list_all}
use Rattle.spec_terms.specs.Precondition.{names_of}
use Rattle.spec_compiler.specs.Keyed.Keys.{Keys}
use Rattle.spec_compiler.specs.Keyed.Instance.{Instance}
use Rattle.spec_compiler.specs.Keyed.Compilation.{scripts}
use Rattle.spec_tool.specs.Commands.{Printed}
use Rattle.spec_deal.specs.Hashed.{deal_strings}
use Rattle.spec_deal.specs.Needed.{needed_deposits}
use Rattle.spec_deal.specs.Setting.{deal_keys, deal_instance}
use Rattle.spec_deal.specs.Transactions.{transactions}
use Rattle.bm_hash.specs.Trails.{Hashed}
use Rattle.spec_tool.specs.Replies.{printed}
use Rattle.deal_compile.specs.Signable.{is_signable}
use Rattle.spec_deal.specs.Answers.{deal_refused}
use Rattle.deal_file.specs.declared.error.DealError.{DealError}
use Rattle.deal_file.specs.declared.error.DealError.TheVariants as deals
use Rattle.bitml_deal.specs.declared.opening.Compiled.{Compiled}
use Rattle.bitml_deal.specs.declared.opening.Opening.{Opening}
use Rattle.bitml_deal.specs.declared.opening.Opening.TheVariants.{Refused, Taken}

-- what is answered of a deal that is taken
abbrev pub Answer : Type 0
Answer = Keys → Instance → Printed

-- the same of one that shows addresses, by the network of the deal's file
abbrev pub ShownAnswer : Type 0
ShownAnswer = Option (List ℕ) → Answer

-- the answer, by what was compiled
abbrev pub answered : Answer → Compiled → Printed
answered answer c = answer (deal_keys c.deal) (deal_instance c.contract c.deal)

abbrev pub shown_answered : ShownAnswer → Compiled → Printed
shown_answered answer c = answered (answer c.deal.network) c

-- what was compiled is what is defined, and signers can be given each transaction
pub record IsMade (hash : List ℕ → List ℕ) (c : Compiled) : Type 0 where
  pub places : names_of c.deal.deposits ≡ needed_deposits c.contract
  pub transactions : c.made.transactions ≡ transactions hash (deal_keys c.deal) (deal_instance c.contract c.deal)
  pub signable : list_all is_signable c.made.transactions ≡ true
  pub scripts : c.made.scripts ≡ scripts hash (deal_keys c.deal) (deal_instance c.contract c.deal)

-- its strings were hashed, and none collided
abbrev pub HashedAll : (List ℕ → List ℕ) → List (List ℕ) → Compiled → Type 0
HashedAll hash messages c = Hashed hash [] messages (deal_strings hash (deal_keys c.deal) (deal_instance c.contract c.deal))

-- the files are taken: whatever is answered of them is answered of this
pub record IsTaken (hash : List ℕ → List ℕ) (judged : ShownAnswer → Printed) (messages : List (List ℕ)) (c : Compiled) : Type 0 where
  pub answer_is : (answer : ShownAnswer) → judged answer ≡ shown_answered answer c
  pub made : IsMade hash c
  pub hashed : HashedAll hash messages c

-- the files are taken, or whatever is answered of them, this is replied
abbrev pub Leads : (List ℕ → List ℕ) → (ShownAnswer → Printed) → List (List ℕ) → Opening → Type 0
Leads hash judged messages (Refused reply) = (answer : ShownAnswer) → judged answer ≡ printed reply
Leads hash judged messages (Taken c) = IsTaken hash judged messages c

-- a deal isn't taken for this, and so it is replied
abbrev pub IsRefused : DealError → Opening → Type 0
IsRefused (deals.Refused fault) (Refused reply) = printed reply ≡ deal_refused fault
IsRefused (deals.Refused fault) (Taken c) = ⊥
IsRefused deals.Memory opening = ⊥
