-- A deal as it is put together, need by need.
use Rattle.std.specs.Prelude.{◌≡◌, ℕ, List, [], ◌∷◌, ◌++◌, Bool, true, false, not, ◌&&◌, is_some, Option, Some, None, Result, Ok, Err}
use Rattle.std.specs.List.{flat_map}
use Rattle.std.specs.Option.{option_map}
use Rattle.spec_terms.specs.Advert.{Advert}
use Rattle.spec_terms.specs.Parties.{participants}
use Rattle.spec_bitcoin.specs.declared.label.Label.{Label}
use Rattle.spec_bitcoin.specs.declared.tx.OutPoint.{OutPoint}
use Rattle.spec_compiler.specs.Keyed.OwnScripts.{OwnScripts}
use Rattle.spec_compiler.specs.Keyed.Keys.{given}
use Rattle.spec_deal.specs.declared.deal.Deal.{Deal}
use Rattle.spec_deal.specs.declared.deal.Needed.{Needed}
use Rattle.spec_deal.specs.declared.deal.Needed.TheVariants.{Key, Deposit, Hash, Network, Payee}
use Rattle.spec_deal.specs.declared.entry.Entry.{Entry}
use Rattle.spec_deal.specs.declared.entry.Value.{Value}
use Rattle.spec_deal.specs.declared.entry.Value.TheVariants as values
use Rattle.spec_deal.specs.declared.fault.DealFault.{DealFault}
use Rattle.spec_deal.specs.declared.fault.DealFault.TheVariants as faults
use Rattle.spec_deal.specs.Needed.{needed_deposits}
use Rattle.spec_deal.specs.Setting.{key_at}
use Rattle.spec_deal.specs.DealFile.{value_for, key_or_none, place_or_none, hash_or_none, network_given, script_given, wallet_given}
use Rattle.spec_deal.specs.DealFile.{with_key, with_script, is_used}
use Rattle.deal_file.specs.declared.error.DealError.{DealError}
use Rattle.deal_file.specs.declared.error.DealError.TheVariants as deals

-- ---- what is given

-- the key that is given, and 33 zeros where something else is
abbrev pub key_given : Option Value → Option (List ℕ)
key_given value = option_map (λ v. key_or_none (Some v)) value

-- the place that is given, whoever brings the deposit
abbrev pub place_given : Option Value → Option OutPoint
place_given None = None
place_given (Some (values.Place outpoint)) = Some outpoint
place_given (Some (values.Wallet outpoint own)) = Some outpoint
place_given (Some _) = None

-- ---- scripts of wallets

-- a deposit with its wallet's script, if a wallet brings it
abbrev pub wallet_pair : List Entry → List ℕ → List (List ℕ × List ℕ)
wallet_pair entries name = with_script name (wallet_given (value_for entries (Deposit name)))

-- a participant with the script where it is paid, if it gave one
abbrev pub payee_pair : List Entry → List ℕ → List (List ℕ × List ℕ)
payee_pair entries party = with_script party (script_given (value_for entries (Payee party)))

-- the network and the scripts of wallets, before all that is needed
abbrev pub own_deal : Advert → List Entry → Deal
own_deal advert entries = record {
  keys = [];
  deposits = [];
  hashes = [];
  network = network_given (value_for entries Network);
  wallets = flat_map (wallet_pair entries) (needed_deposits advert);
  payees = flat_map (payee_pair entries) (participants advert);
}

-- whether a deal with these scripts of wallets uses it
abbrev pub is_used_by : OwnScripts → Advert → Needed → Bool
is_used_by own advert what = is_used (given (key_at []) own) advert what

-- ---- what is needed

abbrev pub no_deal : Deal
no_deal = record { keys = []; deposits = []; hashes = []; network = None; wallets = []; payees = [] }

-- what is given to needs, behind what a deal has
abbrev pub joined : Deal → Deal → Deal
joined a b = record {
  keys = a.keys ++ b.keys;
  deposits = a.deposits ++ b.deposits;
  hashes = a.hashes ++ b.hashes;
  network = a.network;
  wallets = a.wallets;
  payees = a.payees;
}

abbrev pub with_keys : List (Label × List ℕ) → Deal
with_keys keys = record { keys = keys; deposits = []; hashes = []; network = None; wallets = []; payees = [] }

abbrev pub with_deposits : List (List ℕ × OutPoint) → Deal
with_deposits deposits = record { keys = []; deposits = deposits; hashes = []; network = None; wallets = []; payees = [] }

abbrev pub with_hashes : List (List ℕ × List ℕ) → Deal
with_hashes hashes = record { keys = []; deposits = []; hashes = hashes; network = None; wallets = []; payees = [] }

-- the deal of one need, to which this is given
abbrev pub deal_with : Needed → Option Value → Deal
deal_with (Key label) value = with_keys (with_key label value)
deal_with (Deposit name) value = with_deposits ((name, place_or_none value) ∷ [])
deal_with (Hash name) value = with_hashes ((name, hash_or_none value) ∷ [])
deal_with Network value = no_deal
deal_with (Payee party) value = no_deal

abbrev pub given_to : List Entry → Needed → Deal
given_to entries what = deal_with what (value_for entries what)

-- what is given to these needs
abbrev pub given_to_all : List Entry → List Needed → Deal
given_to_all entries [] = no_deal
given_to_all entries (what ∷ needs) = joined (given_to entries what) (given_to_all entries needs)

-- whether nothing is given to what is used
abbrev pub is_absent : OwnScripts → Advert → Needed → Option Value → Bool
is_absent own advert what value = not (is_some value) && is_used_by own advert what

-- a deal behind what came before, unless something is missing
abbrev pub onto_deal : Deal → Result Deal DealFault → Result Deal DealFault
onto_deal prefix (Ok deal) = Ok (joined prefix deal)
onto_deal prefix (Err fault) = Err fault

abbrev pub unless_absent : Needed → Bool → Result Deal DealFault → Result Deal DealFault
unless_absent what true later = Err (faults.Missing what)
unless_absent what false later = later

-- what is given to all of these needs, or the first that is used and to which nothing is
abbrev pub whole : OwnScripts → Advert → List Entry → List Needed → Result Deal DealFault
whole own advert entries [] = Ok no_deal
whole own advert entries (what ∷ ns) =
    unless_absent what (is_absent own advert what (value_for entries what)) (onto_deal (given_to entries what) (whole own advert entries ns))

-- a need is absent where the code says so, unless memory ran out
abbrev pub IsMissing : DealError → Needed → Bool → Type 0
IsMissing (deals.Refused fault) what absent = (fault ≡ faults.Missing what) × (absent ≡ true)
IsMissing deals.Memory what absent = Unit {0}

abbrev pub IsThere : {U : Type 0} → Result U DealError → Needed → Bool → Type 0
IsThere (Ok done) what absent = absent ≡ false
IsThere (Err e) what absent = IsMissing e what absent
