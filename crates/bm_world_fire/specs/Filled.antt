-- Witnesses that anyone can fill in, by the hash alone.
use Rattle.std.specs.Prelude.{ℕ, List, [], ◌∷◌, map}
use Rattle.spec_terms.specs.declared.path.PathStep.{PathStep}
use Rattle.spec_terms.specs.declared.pre.Pre.{Pre}
use Rattle.spec_terms.specs.Precondition.{persistent, volatile}
use Rattle.spec_data.specs.Lists.{look_up}
use Rattle.spec_bitcoin.specs.declared.tx.Tx.{Tx}
use Rattle.spec_bitcoin.specs.Keys.{key_of, signature_of}
use Rattle.spec_compiler.specs.declared.prepared.Prepared.{Prepared}
use Rattle.spec_compiler.specs.Instance.{branch_label, deposit_key}
use Rattle.spec_compiler.specs.Transactions.{party_script, holding_or_none}
use Rattle.spec_run.specs.Firing.{with_witnesses}

-- the witness of a deposit of this owner, whose input has this digest
abbrev pub deposit_items : (List ℕ → List ℕ) → List ℕ → List ℕ → List (List ℕ)
deposit_items hash owner digest = signature_of (deposit_key hash owner) digest ∷ (party_script hash owner ∷ [])

-- those of deposits of these owners
abbrev pub deposits_items : (List ℕ → List ℕ) → List (List ℕ) → List (List ℕ) → List (List (List ℕ))
deposits_items hash [] digests = []
deposits_items hash (owner ∷ owners) [] = []
deposits_items hash (owner ∷ owners) (digest ∷ digests) = deposit_items hash owner digest ∷ deposits_items hash owners digests

-- the owners of the persistent deposits
abbrev pub owners_in : List Pre → List (List ℕ)
owners_in pre = map (λ d. (d.1).owner) (persistent pre)

-- the owner of the volatile deposit of this name
abbrev pub owner_in : List Pre → List ℕ → List ℕ
owner_in pre name = (holding_or_none (look_up name (volatile pre))).owner

-- the initial transaction with its witnesses
abbrev pub initial_with : (List ℕ → List ℕ) → List Pre → Prepared → Tx
initial_with hash pre made = with_witnesses made.tx (deposits_items hash (owners_in pre) made.digests)

-- a participant's signature of the digest by its key of the branch at a path
abbrev pub signed_by : (List ℕ → List ℕ) → ℕ → List PathStep → List ℕ → List ℕ → List ℕ
signed_by hash contract path digest party = signature_of (key_of hash (branch_label contract path party)) digest
