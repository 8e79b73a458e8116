-- What is shown has no float.
use Rattle.std.proofs.Common.{◌≡◌, ℕ, ◌+◌, List, [], ◌∷◌, map, false, Option, Some, None, refl}
use Rattle.std.specs.Prelude.{◌||◌}
use Rattle.serde_json.specs.Data.{Data}
use Rattle.serde_json.specs.View.{items_of}
use Rattle.serde_json.specs.Written.{has_float, items_have_float, members_have_float}
use Rattle.spec_address.specs.Address.{address}
use Rattle.spec_terms.specs.Advert.{Advert}
use Rattle.spec_terms.specs.Precondition.{Holding, deposits}
use Rattle.spec_bitcoin.specs.declared.label.Label.{Label}
use Rattle.spec_bitcoin.specs.declared.tx.TxOut.{TxOut}
use Rattle.spec_compiler.specs.Keyed.Keys.{Keys}
use Rattle.spec_compiler.specs.Keyed.Instance.{Instance}
use Rattle.spec_compiler.specs.Keyed.Transactions.{deposit, payee_script}
use Rattle.spec_compiler.specs.declared.unsigned.Spent.{Spent}
use Rattle.spec_tool.specs.declared.which.Which.{Which}
use Rattle.spec_tool.specs.declared.which.Which.TheVariants as names
use Rattle.spec_tool.specs.Keyed.Listed.{Listed, listed}
use Rattle.spec_deal.specs.declared.transaction.Wallet.{Wallet}
use Rattle.spec_deal.specs.Used.{paid_parties}
use Rattle.spec_deal.specs.Wallets.{input_deposit, input_wallet, wallet_of, spent_output}
use Rattle.spec_json.specs.Values.{text_value}
use Rattle.spec_show.specs.Made.{Made, goes_on, paid, made_by, revealed_by}
use Rattle.spec_show.specs.Objects.{text_or_null, members_of}
use Rattle.spec_show.specs.ShownDeal as shown

abbrev Flat : Data → Type 0
Flat d = has_float d ≡ false

-- ---- lists and objects

abbrev AllFlat : List Data → Type 0
AllFlat ds = items_have_float (items_of ds) ≡ false

one_more : (d : Data) (ds : List Data) → Flat d → AllFlat ds → AllFlat (d ∷ ds)
one_more d ds h k = λ j. h j || k j

each_flat : {X : Type 0} (f : X → Data) → ((x : X) → Flat (f x)) → (xs : List X) → AllFlat (map f xs)
each_flat f h [] = refl
each_flat f h (x ∷ xs) = one_more (f x) (map f xs) (h x) (each_flat f h xs)

abbrev MembersFlat : List (List ℕ × Data) → Type 0
MembersFlat ms = members_have_float (members_of ms) ≡ false

member_flat : (k : List ℕ) (d : Data) (ms : List (List ℕ × Data)) → Flat d → MembersFlat ms → MembersFlat ((k, d) ∷ ms)
member_flat k d ms h m = λ j. h j || m j

-- ---- parts

optional_flat : (text : Option (List ℕ)) → Flat (text_or_null text)
optional_flat None = refl
optional_flat (Some text) = refl

address_flat : (network : Option (List ℕ)) (script : List ℕ) → Flat (shown.address_data network script)
address_flat None script = refl
address_flat (Some hrp) script = optional_flat (address hrp script)

key_flat : (hash : List ℕ → List ℕ) (keys : Keys) (wallet : Option Wallet) (label : Label) → Flat (shown.signing_key hash keys wallet label)
key_flat hash keys None label = refl
key_flat hash keys (Some w) label = refl

position_flat : (which : Which) (deposit : Option (List ℕ)) → Flat (shown.spent_position which deposit)
position_flat names.Init deposit = refl
position_flat (names.At path) None = refl
position_flat (names.At path) (Some name) = refl

made_party_flat : (made : Made) → Flat (shown.made_party made)
made_party_flat (goes_on position) = refl
made_party_flat (paid party) = refl

made_position_flat : (made : Made) → Flat (shown.made_position made)
made_position_flat (goes_on position) = refl
made_position_flat (paid party) = refl

-- ---- transactions and deposits

module _ (hash : List ℕ → List ℕ) (network : Option (List ℕ)) (keys : Keys) where
  deposit_flat : (wallet : Option Wallet) (d : List ℕ × Holding) (spent : Spent) → Flat (shown.deposit_with hash network wallet d spent)
  deposit_flat wallet d spent = λ j. address_flat network (spent_output hash wallet spent).script j || false

  payee_flat : (party : List ℕ) → Flat (shown.payee_data hash network keys party)
  payee_flat party = λ j. address_flat network (payee_script hash keys party) j || false

  output_flat : (output : TxOut) (made : Made) → Flat (shown.output_data network output made)
  output_flat output made = λ j. address_flat network output.script j || (made_party_flat made j || (made_position_flat made j || false))

  outputs_flat : (outputs : List TxOut) (made : List Made) → AllFlat (shown.outputs_data network outputs made)
  outputs_flat [] made = refl
  outputs_flat (output ∷ outputs) [] = refl
  outputs_flat (output ∷ outputs) (m ∷ made) = λ j. output_flat output m j || outputs_flat outputs made j

  module _ (advert : Advert) where
    signer_flat : (which : Which) (wallet : Option Wallet) (label : Label) → Flat (shown.signer_data hash keys advert which wallet label)
    signer_flat which wallet label = λ j. key_flat hash keys wallet label j || false

    input_flat : (which : Which) (k : ℕ) (spent : Spent) (labels : List Label) → Flat (shown.input_data hash keys advert which k spent labels)
    input_flat which k spent labels =
        let signers = each_flat (shown.signer_data hash keys advert which (input_wallet keys advert which k))
        (signer_flat which (input_wallet keys advert which k)) labels in
        λ j. optional_flat (input_deposit advert which k) j || (position_flat which (input_deposit advert which k) j || (signers j || false))

    inputs_flat : (which : Which) (k : ℕ) (spends : List Spent) (signers : List (List Label))
        → AllFlat (shown.inputs_data hash keys advert which k spends signers)
    inputs_flat which k [] signers = refl
    inputs_flat which k (spent ∷ spends) [] = λ j. input_flat which k spent [] j || inputs_flat which (k + 1) spends [] j
    inputs_flat which k (spent ∷ spends) (labels ∷ signers) = λ j. input_flat which k spent labels j || inputs_flat which (k + 1) spends signers j

    listed_flat : (l : Listed) → Flat (shown.listed_data hash network keys advert l)
    listed_flat l =
        let inputs = inputs_flat l.which 0 l.pending.spends l.signers in
        let outputs = outputs_flat l.pending.outputs (made_by advert l.which) in
        let secrets = each_flat text_value (λ name. refl) (revealed_by advert l.which) in
        λ j. inputs j || (outputs j || (secrets j || false))

  pub deal_flat : (s : Instance) → Flat (shown.deal_data hash network keys s)
  deal_flat s =
      let ds = each_flat (shown.deposit_data hash network keys s) (λ d. deposit_flat (wallet_of keys (d.0)) d (deposit hash keys s (d.0) (d.1))) (deposits s.advert.pre) in
      let ps = each_flat (shown.payee_data hash network keys) payee_flat (paid_parties s.advert) in
      let ts = each_flat (shown.listed_data hash network keys s.advert) (listed_flat s.advert) (listed hash keys s) in
      λ j. ds j || (optional_flat network j || (ps j || (ts j || false)))
