-- Compiled transactions with the witnesses that anyone can fill in.
use Rattle.std.specs.Prelude.{ℕ, List, [], ◌∷◌, map, Bool, not, if◌then◌else◌, Option, Some, None, is_some}
use Rattle.spec_data.specs.Lists.{first_reason}
use Rattle.spec_terms.specs.Term as term
use Rattle.spec_terms.specs.Core.{core, puts_of, reveals_of}
use Rattle.spec_terms.specs.Precondition.{persistent}
use Rattle.spec_terms.specs.declared.path.PathStep.{PathStep}
use Rattle.spec_bitcoin.specs.declared.tx.TxIn.{TxIn}
use Rattle.spec_bitcoin.specs.declared.tx.Tx.{Tx}
use Rattle.spec_bitcoin.specs.Keys.{signature_of}
use Rattle.spec_compiler.specs.declared.prepared.Prepared.{Prepared}
use Rattle.spec_compiler.specs.Instance.{Instance, branch_keys, position_script}
use Rattle.spec_compiler.specs.Scripts.{digest_of}
use Rattle.spec_compiler.specs.Transactions.{prepared, initial_unsigned}
use Rattle.spec_compiler.specs.Endorsements.{put_owner}
use Rattle.spec_compiler.specs.Witness.{witness_of}
use Rattle.spec_run.specs.declared.outcome.Reason.{Reason}
use Rattle.spec_run.specs.declared.outcome.Reason.TheVariants as reason
use Rattle.spec_run.specs.Setup.{Setup, has_contract, contract_at, bytes_or_none}
use Rattle.spec_run.specs.World.{ContractPosition, World, live_position_at}
use Rattle.spec_run.specs.Compiled.{compiled_instance}
use Rattle.spec_run.specs.Revealing.{fitting}
use Rattle.spec_run.specs.Ledger.{reaches, position_path, contract_in, count_of}
use Rattle.spec_run.specs.Signing.{branch_if_live, first_digest, prepared_if_compiled}
use Rattle.spec_run.specs.Giving.{deposit_witness}
use Rattle.spec_run.specs.Pending.{Pending, refused, unless}

-- ---- witnesses

-- the inputs with these witnesses, one by one
abbrev pub witnessed : List TxIn → List (List (List ℕ)) → List TxIn
witnessed [] witnesses = []
witnessed (i ∷ is) [] = i ∷ is
witnessed (i ∷ is) (witness ∷ witnesses) = record i { witness = witness } ∷ witnessed is witnesses

abbrev pub with_witnesses : Tx → List (List (List ℕ)) → Tx
with_witnesses tx witnesses = record tx { inputs = witnessed tx.inputs witnesses }

-- the witnesses of deposits of these owners, with the digests of their inputs
abbrev pub deposit_witnesses : Setup → List (List ℕ) → List (List ℕ) → List (List (List ℕ))
deposit_witnesses s [] digests = []
deposit_witnesses s (owner ∷ owners) [] = []
deposit_witnesses s (owner ∷ owners) (digest ∷ digests) = deposit_witness s owner digest ∷ deposit_witnesses s owners digests

-- ---- the initial transaction

abbrev pub initial_witnesses : Setup → Instance → Prepared → List (List (List ℕ))
initial_witnesses s instance made = deposit_witnesses s (map (λ d. (d.1).owner) (persistent instance.advert.pre)) made.digests

-- the initial transaction with its witnesses
abbrev pub initial_transaction : Setup → Instance → Tx
initial_transaction s instance =
    with_witnesses (prepared s.hash (initial_unsigned s.hash instance)).tx
    (initial_witnesses s instance (prepared s.hash (initial_unsigned s.hash instance)))

-- `fire init K`: the contract is there, and it is compiled
abbrev pub fire_init_row : Setup → World → ℕ → List (Bool × Reason)
fire_init_row s w contract =
    (not (has_contract s contract), reason.NoContract)
    ∷ (not (is_some (compiled_instance s w contract)), reason.NotCompiled)
    ∷ []

-- the transaction, where there is one, reaches the ledger
abbrev pub reaches_if : Setup → World → Option Tx → Pending
reaches_if s w None = refused w [] reason.NotCompiled
reaches_if s w (Some tx) = reaches s w w tx

abbrev pub initial_by : Setup → Option Instance → Option Tx
initial_by s None = None
initial_by s (Some instance) = Some (initial_transaction s instance)

abbrev pub fire_init_pending : Setup → World → ℕ → Pending
fire_init_pending s w contract =
    unless (first_reason (fire_init_row s w contract)) w [] (reaches_if s w (initial_by s (compiled_instance s w contract)))

-- ---- the transaction of a branch

-- the names of the secrets that a branch reveals
abbrev pub revealed_by : Option term.Guarded → List (List ℕ)
revealed_by None = []
revealed_by (Some b) = reveals_of (core b)

-- the posted string that fits a committed secret
abbrev pub shown_string : Setup → World → Instance → List ℕ → Option (List ℕ)
shown_string s w instance name = fitting s w.posted (digest_of instance.hashes name)

-- the first of the names for which no fitting string is posted
abbrev pub first_unshown : Setup → World → Instance → List (List ℕ) → Option (List ℕ)
first_unshown s w instance [] = None
first_unshown s w instance (name ∷ names) = if is_some (shown_string s w instance name) then first_unshown s w instance names else Some name

-- the first secret of a branch that isn't known, where its contract is compiled
abbrev pub unknown_secret : Setup → World → Option Instance → Option term.Guarded → Option (List ℕ)
unknown_secret s w None b = None
unknown_secret s w (Some instance) b = first_unshown s w instance (revealed_by b)

-- what the contract of a held position is compiled with
abbrev pub position_instance : Setup → World → Option ContractPosition → Option Instance
position_instance s w None = None
position_instance s w (Some held) = compiled_instance s w held.contract

-- the first secret that isn't known of this branch of what is held
abbrev pub unknown_at : Setup → World → ℕ → ℕ → Option (List ℕ)
unknown_at s w output branch =
    unknown_secret s w (position_instance s w (live_position_at w output)) (branch_if_live s (live_position_at w output) branch)

-- `fire #n i`: there is an active contract of this number, it has the branch, and the branch's secrets are known
abbrev pub fire_row : Setup → World → ℕ → ℕ → List (Bool × Reason)
fire_row s w output branch =
    (not (is_some (live_position_at w output)), reason.NotActive)
    ∷ (not (is_some (branch_if_live s (live_position_at w output) branch)), reason.NoBranch)
    ∷ (is_some (unknown_at s w output branch), reason.SecretUnknown (bytes_or_none (unknown_at s w output branch)))
    ∷ []

-- the participants' signatures of a digest by their keys of a branch
abbrev pub branch_signatures : Setup → Instance → List PathStep → List ℕ → List (List ℕ)
branch_signatures s instance path digest = map (λ key. signature_of key digest) (branch_keys s.hash instance path)

-- the posted strings of these secrets
abbrev pub shown_strings : Setup → World → Instance → List (List ℕ) → List (List ℕ)
shown_strings s w instance names = map (λ name. bytes_or_none (shown_string s w instance name)) names

-- the script of the position that is held
abbrev pub script_of_position : Setup → Instance → ContractPosition → term.Contract → List ℕ
script_of_position s instance held choice = position_script s.hash instance held.position choice

-- the witness that takes a branch of what is held
abbrev pub branch_witness : Setup → World → Instance → ContractPosition → ℕ → term.Contract → term.Guarded → List ℕ → List (List ℕ)
branch_witness s w instance held branch choice b digest =
    witness_of (branch_signatures s instance (position_path held branch) digest)
    (shown_strings s w instance (reveals_of (core b))) branch (count_of (Some choice)) (script_of_position s instance held choice)

-- the digests but the first
abbrev pub other_digests : List (List ℕ) → List (List ℕ)
other_digests [] = []
other_digests (digest ∷ digests) = digests

-- the witness of the position's output, and those of the deposits that are put
abbrev pub taking_witnesses : Setup → World → Instance → ContractPosition → ℕ → term.Contract → term.Guarded → Prepared
    → List (List (List ℕ))
taking_witnesses s w instance held branch choice b made =
    branch_witness s w instance held branch choice b (first_digest made)
    ∷ deposit_witnesses s (map (put_owner instance.advert) (puts_of (core b))) (other_digests made.digests)

abbrev pub taking_transaction : Setup → World → Instance → ContractPosition → ℕ → term.Contract → term.Guarded → Prepared → Tx
taking_transaction s w instance held branch choice b made = with_witnesses made.tx (taking_witnesses s w instance held branch choice b made)

-- the transaction of a branch of what is held, where there is all that it needs
abbrev pub taking_of_parts : Setup → World → ContractPosition → ℕ → Option Instance → Option term.Contract → Option term.Guarded
    → Option Prepared → Option Tx
taking_of_parts s w held branch (Some instance) (Some choice) (Some b) (Some made) =
    Some (taking_transaction s w instance held branch choice b made)
taking_of_parts s w held branch None choice b made = None
taking_of_parts s w held branch (Some instance) None b made = None
taking_of_parts s w held branch (Some instance) (Some choice) None made = None
taking_of_parts s w held branch (Some instance) (Some choice) (Some b) None = None

-- the transaction of this branch of what is held, with its witnesses
abbrev pub taking_of_position : Setup → World → Option ContractPosition → ℕ → Option Tx
taking_of_position s w None branch = None
taking_of_position s w (Some held) branch =
    taking_of_parts s w held branch (compiled_instance s w held.contract) (contract_in (contract_at s held.contract) held.position)
    (branch_if_live s (Some held) branch)
    (prepared_if_compiled s (compiled_instance s w held.contract) (position_path held branch))

abbrev pub fire_pending : Setup → World → ℕ → ℕ → Pending
fire_pending s w output branch =
    unless (first_reason (fire_row s w output branch)) w [] (reaches_if s w (taking_of_position s w (live_position_at w output) branch))
