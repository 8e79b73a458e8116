-- What is claimed of what `show` writes: its transactions are those of the plan, each with its outputs and inputs in order, and what it says
-- of an output is so: it is that of a position's script, or that where a party is paid.
use Rattle.std.specs.Prelude.{◌≡◌, ◌⊎◌, ℕ, ◌+◌, List, [], ◌∷◌, ◌++◌, reverse, is_some, Option, Some, None, codes}
use Rattle.std.specs.List.{Contains}
use Rattle.std.specs.Option.{option_map_or}
use Rattle.serde_json.specs.Data.{Data, null, boolean}
use Rattle.serde_json.specs.Find.{get}
use Rattle.spec_data.specs.Digits.{hex_text}
use Rattle.spec_terms.specs.Advert.{Advert}
use Rattle.spec_terms.specs.Precondition.{Holding, deposits}
use Rattle.spec_terms.specs.declared.path.PathStep.{PathStep}
use Rattle.spec_bitcoin.specs.Digests.{txid}
use Rattle.spec_bitcoin.specs.Keys.{label_text, path_text, pay_to}
use Rattle.spec_bitcoin.specs.declared.label.Label.{Label}
use Rattle.spec_bitcoin.specs.declared.tx.TxOut.{TxOut}
use Rattle.spec_compiler.specs.Keyed.Compilation.{scripts}
use Rattle.spec_compiler.specs.Keyed.Instance.{Instance}
use Rattle.spec_compiler.specs.Keyed.Keys.{Keys, key_in, own_script}
use Rattle.spec_compiler.specs.Keyed.Transactions.{party_script, payee_script, tx_of}
use Rattle.spec_compiler.specs.declared.unsigned.Spent.{Spent}
use Rattle.spec_json.specs.Values.{text_value, number_value, list_value}
use Rattle.spec_tool.specs.Keyed.Listed.{Listed, listed, which_text}
use Rattle.spec_tool.specs.declared.which.Which.{Which}
use Rattle.spec_deal.specs.Used.{paid_parties}
use Rattle.spec_deal.specs.Wallets.{input_wallet}
use Rattle.spec_deal.specs.declared.transaction.Wallet.{Wallet}
use Rattle.spec_show.specs.ShownDeal.{deal_data}

-- these are shown of those, one by one
abbrev pub AreShown : {X : Type 0} → (X → Data → Type 0) → List X → List Data → Type 0
AreShown R [] [] = Unit {0}
AreShown R [] (d ∷ ds) = ⊥
AreShown R (x ∷ xs) [] = ⊥
AreShown R (x ∷ xs) (d ∷ ds) = R x d × AreShown R xs ds

-- bytes under a name, in hexadecimal digits, and a txid with its bytes reversed
abbrev pub ShowsBytes : List ℕ → List ℕ → Data → Type 0
ShowsBytes name bytes data' = get name data' ≡ Some (text_value (hex_text bytes))

abbrev pub ShowsNumber : List ℕ → ℕ → Data → Type 0
ShowsNumber name n data' = get name data' ≡ Some (number_value n)

-- ---- outputs

-- the contract goes on there at a position, whose script the output is for
pub record GoesOn (hash : List ℕ → List ℕ) (keys : Keys) (s : Instance) (output : TxOut) (shown : Data) : Type 0 where
  pub position : List PathStep
  pub script : List ℕ
  pub stands : Contains (scripts hash keys s) (position, script)
  pub pays : output.script ≡ pay_to (hash script)
  pub named : get (codes "position") shown ≡ Some (text_value (path_text position))
  pub nobody : get (codes "party") shown ≡ Some null

-- a party is paid there
pub record IsPayout (hash : List ℕ → List ℕ) (keys : Keys) (output : TxOut) (shown : Data) : Type 0 where
  pub party : List ℕ
  pub pays : output.script ≡ payee_script hash keys party
  pub named : get (codes "party") shown ≡ Some (text_value party)
  pub nowhere : get (codes "position") shown ≡ Some null

pub record IsOutputShown (hash : List ℕ → List ℕ) (keys : Keys) (s : Instance) (output : TxOut) (shown : Data) : Type 0 where
  pub script : ShowsBytes (codes "script") output.script shown
  pub value : ShowsNumber (codes "value") output.value shown
  pub made : GoesOn hash keys s output shown ⊎ IsPayout hash keys output shown

-- ---- inputs

-- who signs: a wallet, whose key nobody knows, or the key of a label
abbrev pub IsSignerShown : (List ℕ → List ℕ) → Keys → Option Wallet → Label → Data → Type 0
IsSignerShown hash keys None label shown =
    (get (codes "label") shown ≡ Some (text_value (label_text label))) × ShowsBytes (codes "key") (key_in hash keys label) shown
IsSignerShown hash keys (Some w) label shown =
    (get (codes "label") shown ≡ Some (text_value (codes "W:" ++ w.deposit))) × (get (codes "key") shown ≡ Some null)

-- one after another, from input k on; where labels lack, nobody signs
abbrev pub AreInputsShown : (ℕ → Spent → List Label → Data → Type 0) → ℕ → List Spent → List (List Label) → List Data → Type 0
AreInputsShown R k [] signers [] = Unit {0}
AreInputsShown R k [] signers (d ∷ ds) = ⊥
AreInputsShown R k (spent ∷ spends) signers [] = ⊥
AreInputsShown R k (spent ∷ spends) [] (d ∷ ds) = R k spent [] d × AreInputsShown R (k + 1) spends [] ds
AreInputsShown R k (spent ∷ spends) (labels ∷ signers) (d ∷ ds) = R k spent labels d × AreInputsShown R (k + 1) spends signers ds

-- input k
pub record IsInputShown (hash : List ℕ → List ℕ) (keys : Keys) (advert : Advert) (which : Which) (k : ℕ) (spent : Spent) (labels : List Label)
    (shown : Data) : Type 0 where
  pub id : ShowsBytes (codes "txid") (reverse spent.outpoint.txid) shown
  pub vout : ShowsNumber (codes "vout") spent.outpoint.vout shown
  pub value : ShowsNumber (codes "value") spent.value shown
  pub signers : List Data
  pub is_signers : get (codes "signers") shown ≡ Some (list_value signers)
  pub each : AreShown (IsSignerShown hash keys (input_wallet keys advert which k)) labels signers

-- ---- transactions

pub record IsTransactionShown (hash : List ℕ → List ℕ) (keys : Keys) (s : Instance) (l : Listed) (shown : Data) : Type 0 where
  pub name : get (codes "name") shown ≡ Some (text_value (which_text l.which))
  pub id : ShowsBytes (codes "txid") (reverse (txid hash (tx_of l.pending))) shown
  pub lock : ShowsNumber (codes "lock") l.pending.lock shown
  -- what its outputs and its inputs are shown as
  pub made : List Data
  pub is_made : get (codes "outputs") shown ≡ Some (list_value made)
  pub outputs : AreShown (IsOutputShown hash keys s) l.pending.outputs made
  pub taken : List Data
  pub is_taken : get (codes "inputs") shown ≡ Some (list_value taken)
  pub inputs : AreInputsShown (IsInputShown hash keys s.advert l.which) 0 l.pending.spends l.signers taken

-- ---- deposits and payouts

-- a deposit by its name, its value, and the output script that its wallet gave, if one did, or that of its owner's key
pub record IsDepositBy (hash : List ℕ → List ℕ) (keys : Keys) (d : List ℕ × Holding) (own : Option (List ℕ)) (shown : Data) : Type 0 where
  pub name : get (codes "name") shown ≡ Some (text_value (d.0))
  pub owner : get (codes "party") shown ≡ Some (text_value (d.1).owner)
  pub value : ShowsNumber (codes "value") (d.1).value shown
  pub wallet : get (codes "wallet") shown ≡ Some (boolean (is_some own))
  pub script : ShowsBytes (codes "script")
      (option_map_or (λ script. script) own (pay_to (hash (party_script hash keys (d.1).owner)))) shown

abbrev pub IsDepositShown : (List ℕ → List ℕ) → Keys → List ℕ × Holding → Data → Type 0
IsDepositShown hash keys d shown = IsDepositBy hash keys d (own_script keys (d.0)) shown

pub record IsPayeeShown (hash : List ℕ → List ℕ) (keys : Keys) (party : List ℕ) (shown : Data) : Type 0 where
  pub name : get (codes "party") shown ≡ Some (text_value party)
  pub script : ShowsBytes (codes "script") (payee_script hash keys party) shown

pub record IsDealShown (hash : List ℕ → List ℕ) (keys : Keys) (s : Instance) (shown : Data) : Type 0 where
  pub each : List Data
  pub is_each : get (codes "transactions") shown ≡ Some (list_value each)
  pub transactions : AreShown (IsTransactionShown hash keys s) (listed hash keys s) each
  pub brought : List Data
  pub is_brought : get (codes "deposits") shown ≡ Some (list_value brought)
  pub deposits : AreShown (IsDepositShown hash keys) (deposits s.advert.pre) brought
  pub paid : List Data
  pub is_paid : get (codes "payouts") shown ≡ Some (list_value paid)
  pub payees : AreShown (IsPayeeShown hash keys) (paid_parties s.advert) paid

-- whatever network's addresses it shows
abbrev pub DealsAreShown : Type 0
DealsAreShown = (hash : List ℕ → List ℕ) (network : Option (List ℕ)) (keys : Keys) (s : Instance)
    → IsDealShown hash keys s (deal_data hash network keys s)
