-- Test vectors of the scripts of wallets, each by computation alone.
use Rattle.std.proofs.Common.{◌≡◌, ℕ, List, [], ◌∷◌, ◌++◌, length, map, refl}
use Rattle.std.specs.Prelude.{codes, replicate, drop}
use Rattle.spec_terms.specs.Term.{always, put_reveal, withdraw, split, Contract, no_branch, branch, no_part, part}
use Rattle.spec_terms.specs.Precondition.{Holding, holding}
use Rattle.spec_terms.specs.declared.path.PathStep.{PathStep}
use Rattle.spec_terms.specs.declared.pre.Pre.{Pre}
use Rattle.spec_terms.specs.declared.pre.Pre.TheVariants.{Persistent, Volatile}
use Rattle.spec_bitcoin.specs.declared.tx.OutPoint.{OutPoint}
use Rattle.spec_bitcoin.specs.declared.tx.TxOut.{TxOut}
use Rattle.spec_bitcoin.specs.declared.label.Label.{Label}
use Rattle.spec_bitcoin.specs.Keys.{pay_to, deposit_script}
use Rattle.spec_compiler.specs.declared.unsigned.Spent.{Spent}
use Rattle.spec_compiler.specs.declared.unsigned.Unsigned.{Unsigned}
use Rattle.spec_compiler.specs.Keyed.OwnScripts.{OwnScripts, no_scripts, code_of}
use Rattle.spec_compiler.specs.Keyed.Keys.{Keys, by_plan, given}
use Rattle.spec_compiler.specs.Keyed.Instance.{Instance}
use Rattle.spec_compiler.specs.Keyed.Transactions.{party_script, deposit, payee_script, initial_unsigned}
use Rattle.spec_compiler.specs.Keyed.Compilation.{path_transactions}
use Rattle.spec_compiler.specs.Keyed.Statements.{AreKeyDeposits, ArePayable}

-- ---- what is signed with

-- the example of BIP 143 for a native P2WPKH output
abbrev key_hash : List ℕ
key_hash = 0x1d ∷ 0x0f ∷ 0x17 ∷ 0x2a ∷ 0x0e ∷ 0xcb ∷ 0x48 ∷ 0xae ∷ 0xe1 ∷ 0xbe ∷ 0x1f ∷ 0x26 ∷ 0x87 ∷ 0xd2 ∷ 0x96 ∷ 0x3a ∷ 0xe3 ∷ 0x3f ∷ 0x71 ∷ 0xa1 ∷ []

code_of_key_hash : code_of (0x00 ∷ 0x14 ∷ key_hash) ≡ 0x76 ∷ 0xa9 ∷ 0x14 ∷ (key_hash ++ 0x88 ∷ 0xac ∷ [])
code_of_key_hash = refl

-- of a script's hash and of a Taproot key nothing
code_of_others : code_of (0x00 ∷ 0x20 ∷ replicate 32 7) ++ code_of (0x51 ∷ 0x20 ∷ replicate 32 7) ≡ []
code_of_others = refl

-- nor of 20 bytes of a later version, of 19 or 21 bytes, or of a push that is another
code_of_near : code_of (0x51 ∷ 0x14 ∷ key_hash)
    ++ (code_of (0x00 ∷ 0x14 ∷ replicate 19 7) ++ (code_of (0x00 ∷ 0x14 ∷ replicate 21 7) ++ code_of (0x00 ∷ 0x15 ∷ key_hash))) ≡ []
code_of_near = refl

-- ---- a contract whose first deposit and one of whose payees are a wallet's

abbrev weigh : List ℕ → List ℕ
weigh message = length message ∷ replicate 31 0

abbrev A : List ℕ
A = codes "A"

abbrev B : List ℕ
B = codes "B"

abbrev key : Label → List ℕ
key label = replicate 33 3

-- {A:! 10 @ x | B:! 5 @ y | A:? 4 @ z | B:? 6 @ w} fee 1 put z & w. split [11 -> withdraw A, 12 -> withdraw B]
abbrev root : Contract
root = branch (put_reveal (codes "z" ∷ (codes "w" ∷ [])) [] always (branch (split (part 11 (branch (withdraw A) no_branch) (part 12 (branch (withdraw B) no_branch) no_part))) no_branch)) no_branch

abbrev lies : ℕ → OutPoint
lies n = record { txid = replicate 32 n; vout = n }

abbrev instance : Instance
instance = record {
  contract = 0;
  advert = record {
    pre = Persistent A 10 (codes "x") ∷ (Persistent B 5 (codes "y") ∷ (Volatile A 4 (codes "z") ∷ (Volatile B 6 (codes "w") ∷ [])));
    fee = 1;
    root = root;
  };
  bound = (codes "x", lies 1) ∷ (codes "y", lies 2) ∷ (codes "z", lies 3) ∷ (codes "w", lies 4) ∷ [];
  hashes = [];
}

abbrev own : OwnScripts
own = record {
  deposits = (codes "x", 0x00 ∷ 0x14 ∷ key_hash) ∷ (codes "w", 0x51 ∷ 0x20 ∷ replicate 32 7) ∷ [];
  payees = (B, 0x51 ∷ 0x20 ∷ replicate 32 8) ∷ [];
}

abbrev keys : Keys
keys = given key own

abbrev made : List Unsigned
made = map {B = Unsigned} (λ p. p.1) (path_transactions weigh keys instance)

-- the script of the deposits of a key
abbrev keyed : List ℕ
keyed = deposit_script (replicate 33 3)

-- x is signed with the code of its hash, y and z with the script of their key, w with nothing
deposit_x : deposit weigh keys instance (codes "x") (holding A 10)
    ≡ record { outpoint = lies 1; script = 0x76 ∷ 0xa9 ∷ 0x14 ∷ (key_hash ++ 0x88 ∷ 0xac ∷ []); value = 10 }
deposit_x = refl

deposit_y : deposit weigh keys instance (codes "y") (holding B 5) ≡ record { outpoint = lies 2; script = keyed; value = 5 }
deposit_y = refl

deposit_w : deposit weigh keys instance (codes "w") (holding B 6) ≡ record { outpoint = lies 4; script = []; value = 6 }
deposit_w = refl

-- the initial transaction spends both persistent ones, in order
initial_spends : (initial_unsigned weigh keys instance).spends
    ≡ deposit weigh keys instance (codes "x") (holding A 10) ∷ (deposit weigh keys instance (codes "y") (holding B 5) ∷ [])
initial_spends = refl

-- behind the output of its position, the put spends the deposits that it puts, and no other transaction spends one
later_spends : map {B = List Spent} (λ d. drop 1 d.spends) made
    ≡ (record { outpoint = lies 3; script = keyed; value = 4 } ∷ (record { outpoint = lies 4; script = []; value = 6 } ∷ [])) ∷ ([] ∷ ([] ∷ ([] ∷ [])))
later_spends = refl

-- B is paid at its wallet, A at its key
paid_to_B : payee_script weigh keys B ≡ 0x51 ∷ 0x20 ∷ replicate 32 8
paid_to_B = refl

paid_to_A : payee_script weigh keys A ≡ pay_to (weigh keyed)
paid_to_A = refl

withdrawn : map {B = List TxOut} (λ d. d.outputs) (drop 2 made)
    ≡ (record { value = 10; script = pay_to (weigh keyed) } ∷ []) ∷ ((record { value = 11; script = 0x51 ∷ 0x20 ∷ replicate 32 8 } ∷ []) ∷ [])
withdrawn = refl

-- without scripts of a wallet all is of the key
paid_without : payee_script weigh (given key no_scripts) B ≡ pay_to (weigh keyed)
paid_without = refl

deposit_without : deposit weigh (given key no_scripts) instance (codes "x") (holding A 10) ≡ record { outpoint = lies 1; script = keyed; value = 10 }
deposit_without = refl

-- and so it is by the key plan, whatever is hashed
paid_by_plan : (hash : List ℕ → List ℕ) (party : List ℕ) → payee_script hash by_plan party ≡ pay_to (hash (party_script hash by_plan party))
paid_by_plan hash party = refl

deposit_by_plan : (hash : List ℕ → List ℕ) (name : List ℕ) (h : Holding) → (deposit hash by_plan instance name h).script ≡ party_script hash by_plan h.owner
deposit_by_plan hash name h = refl

-- the premises hold without scripts of a wallet
plan_of_keys : AreKeyDeposits by_plan
plan_of_keys name = refl

key_deposits : AreKeyDeposits (given key no_scripts)
key_deposits name = refl

plan_payable : ArePayable by_plan
plan_payable party script e = cc

key_payable : ArePayable (given key no_scripts)
key_payable party script e = cc
