-- Deposits and payees without scripts of a wallet, as those of a plain deal are.
use Rattle.std.proofs.Common.{◌≡◌, ℕ, zero, suc, List, [], Option, Some, None, refl, sym, ap, ◌∙◌}
use Rattle.std.specs.Option.{option_map, option_map_or}
use Rattle.spec_data.specs.Lists.{look_up}
use Rattle.spec_terms.specs.Advert.{Advert}
use Rattle.spec_terms.specs.Precondition.{Holding}
use Rattle.spec_compiler.specs.Keyed.OwnScripts.{code_of}
use Rattle.spec_compiler.specs.Keyed.Keys.{Keys, own_script}
use Rattle.spec_compiler.specs.Keyed.Instance.{Instance}
use Rattle.spec_compiler.specs.Keyed.Transactions.{party_script, deposit}
use Rattle.spec_compiler.specs.Keyed.Statements.{AreKeyDeposits}
use Rattle.spec_text.specs.Words.{◌>>=◌}
use Rattle.spec_tool.specs.declared.which.Which.{Which}
use Rattle.spec_deal.specs.declared.deal.Deal.{Deal}
use Rattle.spec_deal.specs.declared.transaction.Wallet.{Wallet}
use Rattle.spec_deal.specs.Setting.{deal_keys}
use Rattle.spec_deal.specs.Wallets.{input_deposit, wallet_of, input_wallet}

-- the script of a deposit without a script of its own is that of its owner's key
pub own_of_key : (hash : List ℕ → List ℕ) (keys : Keys) (s : Instance) (name : List ℕ) (h : Holding) → own_script keys name ≡ None
    → (deposit hash keys s name h).script ≡ party_script hash keys h.owner
own_of_key hash keys s name h none = ap (λ (o : Option (List ℕ)). option_map_or code_of o (party_script hash keys h.owner)) none

-- as that of each is where all deposits are of keys
pub deposit_of_key : (hash : List ℕ → List ℕ) (keys : Keys) (s : Instance) (name : List ℕ) (h : Holding) → AreKeyDeposits keys
    → (deposit hash keys s name h).script ≡ party_script hash keys h.owner
deposit_of_key hash keys s name h of_keys = own_of_key hash keys s name h (of_keys name)

-- no input is a wallet's then
pub no_wallet : (keys : Keys) → AreKeyDeposits keys → (advert : Advert) (which : Which) (k : ℕ) → input_wallet keys advert which k ≡ None
no_wallet keys of_keys advert which k = by_name (input_deposit advert which k)
  where
    by_name : (o : Option (List ℕ)) → (o >>= wallet_of keys) ≡ None
    by_name None = refl
    by_name (Some name) = ap (option_map (λ script. record { deposit = name; script = script })) (of_keys name)

-- and where a deposit isn't a wallet's, it has no script of its own
pub no_own : (keys : Keys) (name : List ℕ) → wallet_of keys name ≡ None → own_script keys name ≡ None
no_own keys name e = by_script (own_script keys name) e
  where
    by_script : (o : Option (List ℕ)) → option_map {U = Wallet} (λ script. record { deposit = name; script = script }) o ≡ None → o ≡ None
    by_script None k = refl
    by_script (Some script) k = cc

-- ---- a deal

-- a deal to which no wallet brings a deposit
pub deal_of_keys : (deal : Deal) → deal.wallets ≡ [] → AreKeyDeposits (deal_keys deal)
deal_of_keys deal e name = ap (look_up name) e
