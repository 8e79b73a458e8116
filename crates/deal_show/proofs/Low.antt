-- What is shown doesn't nest deep.
use Rattle.std.proofs.Common.{ℕ, suc, ◌+◌, ◌≤◌, List, [], ◌∷◌, map, Option, Some, None, arith}
use Rattle.std.proofs.Math.Nat.{max-le}
use Rattle.serde_json.specs.Data.{Data, depth, items_depth}
use Rattle.serde_json.specs.View.{items_of}
use Rattle.spec_address.specs.Address.{address}
use Rattle.spec_terms.specs.Advert.{Advert}
use Rattle.spec_terms.specs.Precondition.{Holding, deposits}
use Rattle.spec_bitcoin.specs.declared.label.Label.{Label}
use Rattle.spec_bitcoin.specs.declared.tx.TxOut.{TxOut}
use Rattle.spec_compiler.specs.Keyed.Keys.{Keys}
use Rattle.spec_compiler.specs.Keyed.Instance.{Instance}
use Rattle.spec_compiler.specs.Keyed.Transactions.{deposit, payee_script}
use Rattle.spec_compiler.specs.declared.unsigned.Spent.{Spent}
use Rattle.spec_tool.specs.declared.which.Which.{Which}
use Rattle.spec_tool.specs.declared.which.Which.TheVariants as names
use Rattle.spec_tool.specs.Keyed.Listed.{Listed, listed}
use Rattle.spec_deal.specs.declared.transaction.Wallet.{Wallet}
use Rattle.spec_deal.specs.Used.{paid_parties}
use Rattle.spec_deal.specs.Wallets.{input_deposit, input_wallet, wallet_of, spent_output}
use Rattle.spec_json.specs.Values.{text_value}
use Rattle.spec_show.specs.Made.{Made, goes_on, paid, made_by, revealed_by}
use Rattle.spec_show.specs.Objects.{text_or_null}
use Rattle.spec_show.specs.ShownDeal as shown

abbrev Low : ℕ → Data → Type 0
Low n d = depth d ≤ n

leaf : {n : ℕ} → 0 ≤ n
leaf = omega arith

up : {a n : ℕ} → a ≤ n → suc a ≤ suc n
up h = omega (arith, h)

-- ---- lists

abbrev AllLow : ℕ → List Data → Type 0
AllLow n ds = items_depth (items_of ds) ≤ n

each_low : {X : Type 0} (n : ℕ) (f : X → Data) → ((x : X) → Low n (f x)) → (xs : List X) → AllLow n (map f xs)
each_low n f h [] = leaf
each_low n f h (x ∷ xs) = max-le (h x) (each_low n f h xs)

-- ---- parts

optional_low : (n : ℕ) (text : Option (List ℕ)) → Low n (text_or_null text)
optional_low n None = leaf
optional_low n (Some text) = leaf

address_low : (n : ℕ) (network : Option (List ℕ)) (script : List ℕ) → Low n (shown.address_data network script)
address_low n None script = leaf
address_low n (Some hrp) script = optional_low n (address hrp script)

key_low : (n : ℕ) (hash : List ℕ → List ℕ) (keys : Keys) (wallet : Option Wallet) (label : Label)
    → Low n (shown.signing_key hash keys wallet label)
key_low n hash keys None label = leaf
key_low n hash keys (Some w) label = leaf

position_low : (n : ℕ) (which : Which) (deposit : Option (List ℕ)) → Low n (shown.spent_position which deposit)
position_low n names.Init deposit = leaf
position_low n (names.At path) None = leaf
position_low n (names.At path) (Some name) = leaf

made_party_low : (n : ℕ) (made : Made) → Low n (shown.made_party made)
made_party_low n (goes_on position) = leaf
made_party_low n (paid party) = leaf

made_position_low : (n : ℕ) (made : Made) → Low n (shown.made_position made)
made_position_low n (goes_on position) = leaf
made_position_low n (paid party) = leaf

-- ---- transactions and deposits

module _ (hash : List ℕ → List ℕ) (network : Option (List ℕ)) (keys : Keys) where
  deposit_low : (n : ℕ) (wallet : Option Wallet) (d : List ℕ × Holding) (spent : Spent) → Low (suc n) (shown.deposit_with hash network wallet d spent)
  deposit_low n wallet d spent =
      up (max-le (address_low n network (spent_output hash wallet spent).script)
      (max-le leaf (max-le leaf (max-le leaf (max-le leaf (max-le leaf (max-le leaf (max-le leaf leaf))))))))

  payee_low : (n : ℕ) (party : List ℕ) → Low (suc n) (shown.payee_data hash network keys party)
  payee_low n party = up (max-le (address_low n network (payee_script hash keys party)) (max-le leaf (max-le leaf leaf)))

  output_low : (n : ℕ) (output : TxOut) (made : Made) → Low (suc n) (shown.output_data network output made)
  output_low n output made =
      up (max-le (address_low n network output.script) (max-le (made_party_low n made) (max-le (made_position_low n made) (max-le leaf (max-le leaf leaf)))))

  outputs_low : (n : ℕ) (outputs : List TxOut) (made : List Made) → AllLow (suc n) (shown.outputs_data network outputs made)
  outputs_low n [] made = leaf
  outputs_low n (output ∷ outputs) [] = leaf
  outputs_low n (output ∷ outputs) (m ∷ made) = max-le (output_low n output m) (outputs_low n outputs made)

  module _ (advert : Advert) where
    signer_low : (which : Which) (wallet : Option Wallet) (label : Label) → Low 1 (shown.signer_data hash keys advert which wallet label)
    signer_low which wallet label = up (max-le (key_low 0 hash keys wallet label) (max-le leaf (max-le leaf (max-le leaf leaf))))

    input_low : (which : Which) (k : ℕ) (spent : Spent) (labels : List Label) → Low 3 (shown.input_data hash keys advert which k spent labels)
    input_low which k spent labels =
        let wallet = input_wallet keys advert which k in
        let signers = up (each_low 1 (shown.signer_data hash keys advert which wallet) (signer_low which wallet) labels) in
        up (max-le (optional_low 2 (input_deposit advert which k))
        (max-le (position_low 2 which (input_deposit advert which k)) (max-le signers (max-le leaf (max-le leaf (max-le leaf leaf))))))

    inputs_low : (which : Which) (k : ℕ) (spends : List Spent) (signers : List (List Label))
        → AllLow 3 (shown.inputs_data hash keys advert which k spends signers)
    inputs_low which k [] signers = leaf
    inputs_low which k (spent ∷ spends) [] = max-le (input_low which k spent []) (inputs_low which (k + 1) spends [])
    inputs_low which k (spent ∷ spends) (labels ∷ signers) = max-le (input_low which k spent labels) (inputs_low which (k + 1) spends signers)

    listed_low : (l : Listed) → Low 5 (shown.listed_data hash network keys advert l)
    listed_low l =
        let inputs = up (inputs_low l.which 0 l.pending.spends l.signers) in
        let outputs = up (outputs_low 2 l.pending.outputs (made_by advert l.which)) in
        let secrets = up (each_low 3 text_value (λ name. leaf) (revealed_by advert l.which)) in
        up (max-le leaf (max-le leaf (max-le inputs (max-le leaf (max-le leaf (max-le outputs (max-le secrets (max-le leaf (max-le leaf leaf)))))))))

  pub deal_low : (s : Instance) → depth (shown.deal_data hash network keys s) ≤ 7
  deal_low s =
      let ds = up (each_low 5 (shown.deposit_data hash network keys s)
      (λ d. deposit_low 4 (wallet_of keys (d.0)) d (deposit hash keys s (d.0) (d.1))) (deposits s.advert.pre)) in
      let ps = up (each_low 5 (shown.payee_data hash network keys) (payee_low 4) (paid_parties s.advert)) in
      let ts = up (each_low 5 (shown.listed_data hash network keys s.advert) (listed_low s.advert) (listed hash keys s)) in
      up (max-le ds (max-le (optional_low 6 network) (max-le ps (max-le ts leaf))))
