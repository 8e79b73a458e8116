-- The accounts of the declared parties: their keys, and the scripts of their deposits.
use Rattle.std.specs.Prelude.{ℕ, List, [], ◌∷◌, map, Bool, is_some, if◌then◌else◌}
use Rattle.std.specs.List.{find}
use Rattle.std.specs.Str.{bytes_eq}
use Rattle.spec_bitcoin.specs.declared.label.Label.TheVariants as labels
use Rattle.spec_bitcoin.specs.Keys.{label_text, deposit_script, pay_to}
use Rattle.spec_calculus.specs.declared.step.Owner.{Owner}
use Rattle.spec_calculus.specs.declared.step.Owner.TheVariants.{Party, Outside}
use Rattle.spec_compiler.specs.Instance.{deposit_key}
use Rattle.spec_compiler.specs.Transactions.{party_script}
use Rattle.bm_world_board.specs.declared.accounts.Account.{Account}

-- the text that a party's key is made of
abbrev pub label_string : List ℕ → List ℕ
label_string party = label_text (labels.Deposit party)

-- a party with the key of its deposits
abbrev pub named_key : (List ℕ → List ℕ) → List ℕ → List ℕ × List ℕ
named_key hash party = (party, deposit_key hash party)

-- the script of a party's deposits
abbrev pub script_string : List ℕ × List ℕ → List ℕ
script_string named = deposit_script (named.1)

-- the account of a party with this key
abbrev pub account_with : (List ℕ → List ℕ) → List ℕ × List ℕ → Account
account_with hash named = record { party = named.0; key = named.1; script = script_string named; pays = pay_to (hash (script_string named)) }

-- the account of a party
abbrev pub account_of : (List ℕ → List ℕ) → List ℕ → Account
account_of hash party = account_with hash (named_key hash party)

-- whether the party has one of these accounts
abbrev pub has_account : List Account → List ℕ → Bool
has_account accounts party = is_some (find (λ (a : Account). bytes_eq a.party party) accounts)

-- what is hashed for the keys of these parties, and what for their deposits
abbrev pub opening_labels : List (List ℕ) → List (List ℕ)
opening_labels parties = map label_string parties

abbrev pub opening_scripts : (List ℕ → List ℕ) → List (List ℕ) → List (List ℕ)
opening_scripts hash parties = map (party_script hash) parties

-- the first of the parties whose deposits pay to the script
abbrev pub owner_in : List Account → List ℕ → Owner
owner_in [] script = Outside
owner_in (a ∷ rest) script = if bytes_eq a.pays script then Party a.party else owner_in rest script
