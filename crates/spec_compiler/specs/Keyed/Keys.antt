-- How labels have their keys, and which deposits and payees have output scripts of their own.
use Rattle.std.specs.Prelude.{ℕ, List, Option, None}
use Rattle.spec_data.specs.Lists.{look_up}
use Rattle.spec_bitcoin.specs.declared.label.Label.{Label}
use Rattle.spec_bitcoin.specs.Keys.{key_of}
use Rattle.spec_compiler.specs.Keyed.OwnScripts.{OwnScripts}

pub data Keys : Type 0 where
  -- by the key plan: the key of a label is byte 02 and the hash of its text, and all deposits and payees have scripts of their keys
  by_plan : Keys
  -- as they are given, with the scripts of wallets
  given : (keys : Label → List ℕ) → (own : OwnScripts) → Keys

-- the key of a label
abbrev pub key_in : (List ℕ → List ℕ) → Keys → Label → List ℕ
key_in hash by_plan label = key_of hash label
key_in hash (given keys own) label = keys label

-- the output script of the deposit of this name, where it is a wallet's
abbrev pub own_script : Keys → List ℕ → Option (List ℕ)
own_script by_plan name = None
own_script (given keys own) name = look_up name own.deposits

-- the output script of what this participant is paid, where it is a wallet's
abbrev pub own_payee : Keys → List ℕ → Option (List ℕ)
own_payee by_plan party = None
own_payee (given keys own) party = look_up party own.payees
