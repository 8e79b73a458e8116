-- What is claimed of secrets: known is what the file of secrets gives and what witnesses of the chain show; and each is revealed below the
-- first transaction that shows it.
use Rattle.std.specs.Prelude.{◌≡◌, ℕ, ◌≤◌, List, length, true, Some, ◌⊎◌, ◌↔◌}
use Rattle.std.specs.List.{Contains}
use Rattle.spec_data.specs.Lists.{is_among}
use Rattle.spec_data.specs.Ranges.{least_secret_bytes, most_item_bytes}
use Rattle.spec_terms.specs.Advert.{Advert}
use Rattle.spec_terms.specs.Faults.{IsWellFormed}
use Rattle.spec_terms.specs.Precondition.{secrets}
use Rattle.spec_bitcoin.specs.declared.tx.Tx.{Tx}
use Rattle.spec_bitcoin.specs.declared.tx.TxIn.{TxIn}
use Rattle.spec_calculus.specs.declared.step.Step.TheVariants as steps
use Rattle.spec_compiler.specs.Keyed.Keys.{Keys}
use Rattle.spec_compiler.specs.Keyed.Instance.{Instance}
use Rattle.spec_compiler.specs.Scripts.{digest_of}
use Rattle.spec_deal.specs.declared.deal.Deal.{Deal}
use Rattle.spec_deal.specs.declared.entry.Shown.{Shown}
use Rattle.spec_deal.specs.Needed.{deal_contract, needed_secrets}
use Rattle.spec_deal.specs.SecretFile.{string_for}
use Rattle.spec_deal.specs.Setting.{deal_keys, deal_instance}
use Rattle.spec_deal.specs.Transactions.{transactions}
use Rattle.spec_deal.specs.Verifier.{Verifier}
use Rattle.theory_deal.specs.Finished.{do_fit}
use Rattle.spec_chain.specs.declared.reading.Confirmed.{Confirmed}
use Rattle.spec_chain.specs.Chain.{Course, stands, follow_chain}
use Rattle.spec_chain.specs.ChainFile.{read_chain}
use Rattle.spec_chain.specs.Following.{State, happened, newly_shown, reveal_steps}
use Rattle.spec_chain.specs.Outstanding.{known}
use Rattle.theory_chain.specs.Deals.{IsDeal}
use Rattle.theory_chain.specs.Nevers.{HaveOneHash}
use Rattle.theory_chain.specs.OwnAccepted.{StandsBehind}
use Rattle.theory_chain.specs.RequirementOrder.{StandOnce}

-- a transaction, whosever it is, shows a string of a secret: an item of one of its witnesses has as many bytes as a secret may have, and the
-- hash that the deal has for it
pub record ShowsString (hash : List ℕ → List ℕ) (s : Instance) (tx : Tx) (name bytes : List ℕ) : Type 0 where
  pub input : TxIn
  pub among : Contains tx.inputs input
  pub item : Contains input.witness bytes
  pub least : least_secret_bytes ≤ length bytes
  pub most : length bytes ≤ most_item_bytes
  pub fits : hash bytes ≡ digest_of s.hashes name

-- one of these transactions shows it
pub record IsShownBy (hash : List ℕ → List ℕ) (s : Instance) (cs : List Confirmed) (name bytes : List ℕ) : Type 0 where
  pub by_which : Confirmed
  pub listed : Contains cs by_which
  pub shows : ShowsString hash s by_which.tx name bytes

-- a string of a secret of the deal is known exactly where the file of secrets gives it or the chain shows it, where no two of them have one
-- hash
abbrev pub SecretsExactly : Type 0
SecretsExactly =
    (v : Verifier) (hash : List ℕ → List ℕ) (advert : Advert) (deal : Deal) (text : List ℕ) (course : Course) (tip : ℕ) (strings : List Shown)
    (name bytes : List ℕ)
    → IsDeal v hash advert deal → follow_chain hash (deal_keys deal) (deal_instance advert deal) text ≡ stands course tip
    → do_fit hash (deal_instance advert deal) strings ≡ true → HaveOneHash hash (known course.state strings)
    → is_among name (needed_secrets advert) ≡ true
    → (string_for (known course.state strings) name ≡ Some bytes)
    ↔ ((string_for strings name ≡ Some bytes) ⊎ IsShownBy hash (deal_instance advert deal) (read_chain text).confirmed name bytes)

-- a transaction is the first to show the secret of a party
pub record IsFirst (hash : List ℕ → List ℕ) (s : Instance) (before : List Confirmed) (tx : Tx) (name party : List ℕ) : Type 0 where
  pub secret : Contains (secrets s.advert.pre) (name, party)
  pub bytes : List ℕ
  pub shows : ShowsString hash s tx name bytes
  pub none_before : (other : List ℕ) → IsShownBy hash s before name other → ⊥

-- the party reveals it below that transaction, and below no other
abbrev pub RevealedExactly : Type 0
RevealedExactly =
    (hash : List ℕ → List ℕ) (keys : Keys) (s : Instance) (text : List ℕ) (course : Course) (c : Confirmed) (name party : List ℕ)
    (there : StandsBehind hash keys s text course c)
    → Contains (happened hash s (transactions hash keys s) course.state c.height c.tx).steps (steps.Reveal deal_contract party name)
    ↔ IsFirst hash s there.before c.tx name party

-- and each of the steps of what a transaction shows stands once
abbrev pub RevealedOnce : Type 0
RevealedOnce = (hash : List ℕ → List ℕ) (s : Instance) (state : State) (tx : Tx)
    → IsWellFormed s.advert → StandOnce (reveal_steps (newly_shown hash s state tx))
