-- What is claimed of a plan's network: with any or none the plan is the same but for addresses and payees.
use Rattle.std.specs.Prelude.{◌≡◌, ◌⊎◌, ℕ, List, [], ◌∷◌, ◌++◌, map, reverse, true, is_some, Option, Some, None, codes}
use Rattle.std.specs.Fmt.{decimal}
use Rattle.std.specs.Option.{option_map_or}
use Rattle.spec_data.specs.Digits.{hex_text}
use Rattle.spec_terms.specs.Precondition.{Holding, deposits}
use Rattle.spec_bitcoin.specs.Keys.{pay_to}
use Rattle.spec_compiler.specs.Keyed.Instance.{Instance}
use Rattle.spec_compiler.specs.Keyed.Keys.{Keys, own_script, own_payee}
use Rattle.spec_compiler.specs.Keyed.Transactions.{deposit, party_script, payee_script}
use Rattle.spec_deal.specs.DealText.{PlanLine, of_deals, line_of, address_words, plan_lines, payee_lines}
use Rattle.spec_deal.specs.Used.{paid_parties}

-- no deposit and no payee has a script of a wallet's
pub record HasNoScripts (keys : Keys) : Type 0 where
  pub deposits : (name : List ℕ) → own_script keys name ≡ None
  pub payees : (party : List ℕ) → own_payee keys party ≡ None

-- a line with an output script, and behind it the address that it has in a network
abbrev pub with_address : Option (List ℕ) → List (List ℕ) × List ℕ → PlanLine
with_address network p = of_deals (line_of (p.0 ++ hex_text (p.1) ∷ address_words network (p.1)))

abbrev pub payee_words : (List ℕ → List ℕ) → Keys → List ℕ → List (List ℕ) × List ℕ
payee_words hash keys party = (codes "pay" ∷ party ∷ [], payee_script hash keys party)

-- where a deposit lies, its value, and the output script that its wallet gave or that of its owner's key
abbrev pub deposit_words : (List ℕ → List ℕ) → Keys → Instance → List ℕ × Holding → List (List ℕ) × List ℕ
deposit_words hash keys s d = (
  codes "deposit" ∷ d.0 ∷ hex_text (reverse (deposit hash keys s (d.0) (d.1)).outpoint.txid)
      ∷ decimal (deposit hash keys s (d.0) (d.1)).outpoint.vout ∷ decimal (d.1).value ∷ [],
  option_map_or (λ own. own) (own_script keys (d.0)) (pay_to (hash (party_script hash keys (d.1).owner))),
)

-- a deposit or a payee has a script of a wallet's
abbrev pub HasScripts : Keys → Type 0
HasScripts keys =
    ((name : List ℕ) × (script : List ℕ) × (own_script keys name ≡ Some script))
    ⊎ ((party : List ℕ) × (script : List ℕ) × (own_payee keys party ≡ Some script))

-- with any network or none a plan is the same but for addresses and payees
pub record AddsAddresses (hash : List ℕ → List ℕ) (keys : Keys) (s : Instance) : Type 0 where
  pub opening : List PlanLine
  pub rest : List PlanLine
  pub plans : (network : Option (List ℕ))
      → plan_lines hash network keys s
      ≡ opening ++ (map (with_address network) (map (deposit_words hash keys s) (deposits s.advert.pre)) ++ (payee_lines hash network keys s ++ rest))
  -- with a network, or with a script of a wallet's, there is a line for each party that is paid, in order, and else none
  pub payees : (network : Option (List ℕ)) → (is_some network ≡ true) ⊎ HasScripts keys
      → payee_lines hash network keys s ≡ map (with_address network) (map (payee_words hash keys) (paid_parties s.advert))
  pub nobody : HasNoScripts keys → payee_lines hash None keys s ≡ []

abbrev pub NetworksAddAddresses : Type 0
NetworksAddAddresses = (hash : List ℕ → List ℕ) (keys : Keys) (s : Instance) → AddsAddresses hash keys s
