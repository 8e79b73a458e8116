-- What is claimed of the files for signers: the wallet that brings a deposit is told what its input spends and nothing else, and every other
-- input has its script and its hash type; none has a signature.
use Rattle.std.specs.Prelude.{◌≡◌, ℕ, suc, List, [], length, true, false, Some, None, slice_get}
use Rattle.spec_terms.specs.Term as term
use Rattle.spec_terms.specs.Advert.{Advert}
use Rattle.spec_terms.specs.Core.{core, puts_of}
use Rattle.spec_terms.specs.Paths.{at}
use Rattle.spec_terms.specs.Precondition.{persistent, names_of}
use Rattle.spec_compiler.specs.Keyed.Keys.{Keys, own_script}
use Rattle.spec_compiler.specs.Keyed.Transactions.{pays, tx_of}
use Rattle.spec_compiler.specs.declared.unsigned.Spent.{Spent}
use Rattle.spec_tool.specs.Keyed.Listed.{Listed}
use Rattle.spec_tool.specs.declared.psbt.PsbtInput.{PsbtInput}
use Rattle.spec_tool.specs.declared.which.Which.{Which}
use Rattle.spec_tool.specs.declared.which.Which.TheVariants as names
use Rattle.spec_deal.specs.DealText.{unsigned_psbt}

-- an input that a key of the deal signs
abbrev pub keyed_input : (List ℕ → List ℕ) → Spent → PsbtInput
keyed_input hash spent = record {
  spent = Some (pays hash spent.script spent.value);
  partial = [];
  all = true;
  script = Some spent.script;
  witness = None;
}

-- an input whose output has this script of a wallet's
abbrev pub wallet_input : List ℕ → Spent → PsbtInput
wallet_input script spent = record {
  spent = Some (record { value = spent.value; script = script });
  partial = [];
  all = false;
  script = None;
  witness = None;
}

-- input k of the transaction of this name spends the deposit of this name: of the initial one a persistent deposit, and of a branch,
-- behind its position, a deposit that it puts
abbrev pub SpendsDeposit : Advert → Which → ℕ → List ℕ → Type 0
SpendsDeposit advert names.Init k name = slice_get (names_of (persistent advert.pre)) k ≡ Some name
SpendsDeposit advert (names.At path) k name =
    (b : term.Guarded) × (j : ℕ) × (at advert.root path ≡ Some b) × (k ≡ suc j) × (slice_get (puts_of (core b)) j ≡ Some name)

-- a wallet brings, with this script, what input k spends
abbrev pub IsBrought : Keys → Advert → Which → ℕ → List ℕ → Type 0
IsBrought keys advert which k script =
    (name : List ℕ) × SpendsDeposit advert which k name × (own_script keys name ≡ Some script)

pub record IsForSigners (hash : List ℕ → List ℕ) (keys : Keys) (advert : Advert) (l : Listed) : Type 0 where
  -- it is the transaction of the plan
  pub transaction : (unsigned_psbt hash keys advert l).tx ≡ tx_of l.pending
  pub count : length (unsigned_psbt hash keys advert l).inputs ≡ length l.pending.spends
  -- a wallet is told what its input spends
  pub wallets : (k : ℕ) (spent : Spent) (script : List ℕ) → slice_get l.pending.spends k ≡ Some spent
      → IsBrought keys advert l.which k script
      → slice_get (unsigned_psbt hash keys advert l).inputs k ≡ Some (wallet_input script spent)
  -- all others have their scripts
  pub keyed : (k : ℕ) (spent : Spent) → slice_get l.pending.spends k ≡ Some spent
      → ((script : List ℕ) → IsBrought keys advert l.which k script → ⊥)
      → slice_get (unsigned_psbt hash keys advert l).inputs k ≡ Some (keyed_input hash spent)

abbrev pub ForWallets : Type 0
ForWallets = (hash : List ℕ → List ℕ) (keys : Keys) (advert : Advert) (l : Listed) → IsForSigners hash keys advert l
