-- The signatures that the transactions of a deal ask for, and which of them were handed in.
use Rattle.std.specs.Prelude.{ℕ, ◌+◌, List, [], ◌∷◌, ◌++◌, map, Bool, ◌&&◌, Option, Some, None, is_some}
use Rattle.std.specs.List.{find, flat_map, list_any}
use Rattle.spec_bitcoin.specs.declared.label.Label.{Label}
use Rattle.spec_tool.specs.declared.which.Which.{Which}
use Rattle.spec_deal.specs.declared.signed.Signed.{Signed}
use Rattle.spec_deal.specs.declared.transaction.Input.{Input}
use Rattle.spec_deal.specs.declared.transaction.Signer.{Signer}
use Rattle.spec_deal.specs.declared.transaction.Transaction.{Transaction}
use Rattle.spec_deal.specs.declared.transaction.Wallet.{Wallet}
use Rattle.spec_deal.specs.Slots.{is_endorsement}
use Rattle.spec_deal.specs.Transactions.{Spot, is_at}
use Rattle.theory_deal_text.specs.Signers.{ShownSigner, by_key, by_wallet, ShownSlot}

-- ---- what is asked for

pub record Asked : Type 0 where
  -- the transaction, by its name and by its bytes without witnesses
  pub which : Which
  pub tx : List ℕ
  -- the number of its input, the wallet that brings what this spends, and what its signatures are of
  pub input : ℕ
  pub wallet : Option Wallet
  pub digest : List ℕ
  pub signer : Signer

-- of input k of a transaction with this name and these bytes
abbrev pub input_asks : Which → List ℕ → ℕ → Input → List Asked
input_asks which tx k i =
    map {B = Asked} (λ x. record { which = which; tx = tx; input = k; wallet = i.wallet; digest = i.digest; signer = x }) i.signers

-- of the inputs from number k on
abbrev pub inputs_ask : Which → List ℕ → ℕ → List Input → List Asked
inputs_ask which tx k [] = []
inputs_ask which tx k (i ∷ is) = input_asks which tx k i ++ inputs_ask which tx (k + 1) is

-- of all transactions, in order
abbrev pub asked : List Transaction → List Asked
asked ts = flat_map (λ (t : Transaction). inputs_ask t.which t.bytes 0 t.inputs) ts

-- ---- as lines show it

abbrev pub shown_signer : Option Wallet → Label → ShownSigner
shown_signer None label = by_key label
shown_signer (Some w) label = by_wallet w.deposit

abbrev pub shown_slot : Asked → ShownSlot
shown_slot a = record { which = a.which; input = a.input; signer = shown_signer a.wallet a.signer.label; verb = a.signer.verb }

-- ---- what was handed in

-- where it has to be: at this input of these bytes, by this key
abbrev pub spot : Asked → Spot
spot a = record { tx = a.tx; input = a.input; key = a.signer.key }

abbrev pub handed_in : List Signed → Asked → Option Signed
handed_in given a = find (is_at (spot a)) given

abbrev pub is_there : List Signed → Asked → Bool
is_there given a = list_any (is_at (spot a)) given

-- whether it has to be there before anyone signs the initial transaction
abbrev pub is_needed_first : Asked → Bool
is_needed_first a = is_endorsement a.signer.verb

-- whether it is such a one, is there, and is a wallet's, so that nobody has verified it whole
abbrev pub is_unchecked : List Signed → Asked → Bool
is_unchecked given a = is_needed_first a && (is_some a.wallet && is_there given a)
