-- The transactions of a BitML contract, before they are put in order: Bitcoin's, with segregated witnesses (BIP 141). The keys are any.
use Rattle.std.specs.Prelude.{ℕ, ◌+◌, ◌-◌, List, [], ◌∷◌, ◌++◌, map, Option, Some, None}
use Rattle.std.specs.Option.{option_map_or}
use Rattle.spec_data.specs.Lists.{look_up}
use Rattle.spec_terms.specs.Term as term
use Rattle.spec_terms.specs.Term.{Contract, auth, after, put_reveal, withdraw, split, Parts, no_part, part}
use Rattle.spec_terms.specs.Core.{core, lock, puts_of}
use Rattle.spec_terms.specs.Precondition.{Holding, holding, persistent, volatile, total_of, value_of_puts}
use Rattle.spec_terms.specs.declared.path.PathStep.{PathStep}
use Rattle.spec_terms.specs.declared.path.PathStep.TheVariants.{Part as Into}
use Rattle.spec_bitcoin.specs.declared.tx.OutPoint.{OutPoint}
use Rattle.spec_bitcoin.specs.declared.tx.TxIn.{TxIn}
use Rattle.spec_bitcoin.specs.declared.tx.TxOut.{TxOut}
use Rattle.spec_bitcoin.specs.declared.tx.Tx.{Tx}
use Rattle.spec_bitcoin.specs.Digests.{txid, digest}
use Rattle.spec_bitcoin.specs.Keys.{pay_to, deposit_script}
use Rattle.spec_compiler.specs.Keyed.OwnScripts.{code_of}
use Rattle.spec_compiler.specs.Keyed.Keys.{Keys, own_script, own_payee}
use Rattle.spec_compiler.specs.declared.prepared.Prepared.{Prepared}
use Rattle.spec_compiler.specs.declared.unsigned.Spent.{Spent}
use Rattle.spec_compiler.specs.declared.unsigned.Unsigned.{Unsigned}
use Rattle.spec_compiler.specs.Keyed.Instance.{Instance, branch_path, deposit_key, position_script}

-- ---- transactions and what they spend

-- an input with a sequence under which the lock binds
abbrev pub input_of : Spent → TxIn
input_of spent = record { prev = spent.outpoint; script_sig = []; sequence = 0xfffffffe; witness = [] }

abbrev pub tx_of : Unsigned → Tx
tx_of d = record { version = 2; inputs = map input_of d.spends; outputs = d.outputs; lock = d.lock }

-- the digest of the input that spends this
abbrev pub digest_of_spent : (List ℕ → List ℕ) → Tx → Spent → List ℕ
digest_of_spent hash tx spent = digest hash tx (input_of spent) spent.script spent.value

-- the transaction with its txid and the digest of each input
abbrev pub prepared : (List ℕ → List ℕ) → Unsigned → Prepared
prepared hash d = record { tx = tx_of d; txid = txid hash (tx_of d); digests = map (digest_of_spent hash (tx_of d)) d.spends }

-- where output k of the transaction lies
abbrev pub output_outpoint : (List ℕ → List ℕ) → Unsigned → ℕ → OutPoint
output_outpoint hash d k = record { txid = txid hash (tx_of d); vout = k }

-- an output for whoever shows this script and what it asks for
abbrev pub pays : (List ℕ → List ℕ) → List ℕ → ℕ → TxOut
pays hash script value = record { value = value; script = pay_to (hash script) }

-- ---- deposits and payees

-- the script of a party's deposits, where they are of its key
abbrev pub party_script : (List ℕ → List ℕ) → Keys → List ℕ → List ℕ
party_script hash keys party = deposit_script (deposit_key hash keys party)

-- the output script of what a party is paid: its own, or that of its deposits' key
abbrev pub payee_script : (List ℕ → List ℕ) → Keys → List ℕ → List ℕ
payee_script hash keys party = option_map_or (λ own. own) (own_payee keys party) (pay_to (hash (party_script hash keys party)))

-- an output for a party
abbrev pub pays_party : (List ℕ → List ℕ) → Keys → List ℕ → ℕ → TxOut
pays_party hash keys party value = record { value = value; script = payee_script hash keys party }

-- the script that signatures of the owner of the deposit of this name are made with: by its own output script, or that of its key
abbrev pub deposit_code : (List ℕ → List ℕ) → Keys → List ℕ → List ℕ → List ℕ
deposit_code hash keys name owner = option_map_or code_of (own_script keys name) (party_script hash keys owner)

-- where a deposit that was looked up lies
abbrev pub outpoint_or_none : Option OutPoint → OutPoint
outpoint_or_none None = record { txid = []; vout = 0 }
outpoint_or_none (Some outpoint) = outpoint

-- the output of a bound deposit
abbrev pub deposit : (List ℕ → List ℕ) → Keys → Instance → List ℕ → Holding → Spent
deposit hash keys s name h =
    record { outpoint = outpoint_or_none (look_up name s.bound); script = deposit_code hash keys name h.owner; value = h.value }

-- a deposit that was looked up
abbrev pub holding_or_none : Option Holding → Holding
holding_or_none None = holding [] 0
holding_or_none (Some h) = h

-- the outputs of the volatile deposits of these names
abbrev pub put_deposits : (List ℕ → List ℕ) → Keys → Instance → List (List ℕ) → List Spent
put_deposits hash keys s puts = map (λ name. deposit hash keys s name (holding_or_none (look_up name (volatile s.advert.pre)))) puts

-- the outputs of the persistent deposits
abbrev pub persistent_deposits : (List ℕ → List ℕ) → Keys → Instance → List Spent
persistent_deposits hash keys s = map (λ d. deposit hash keys s d.0 d.1) (persistent s.advert.pre)

-- ---- positions, and what the transaction of a branch does

-- a position, and the output that stands there
pub record Standing : Type 0 where
  pub position : List PathStep
  pub output : Spent

-- what a put's continuation is worth
abbrev pub continued_value : Instance → ℕ → List (List ℕ) → ℕ
continued_value s balance puts = balance + value_of_puts (volatile s.advert.pre) puts - s.advert.fee

-- the position of part k of a split
abbrev pub part_position : List PathStep → ℕ → List PathStep
part_position path k = path ++ Into k ∷ []

-- the outputs of the parts from number k on of the split at a path
abbrev pub part_outputs : (List ℕ → List ℕ) → Keys → Instance → List PathStep → ℕ → Parts → List TxOut
part_outputs hash keys s path k no_part = []
part_outputs hash keys s path k (part v c ps) =
    pays hash (position_script hash keys s (part_position path k) c) v ∷ part_outputs hash keys s path (k + 1) ps

-- the outputs of a core's transaction, where the branch has this path and its position this balance
abbrev pub core_outputs : (List ℕ → List ℕ) → Keys → Instance → List PathStep → ℕ → term.Guarded → List TxOut
core_outputs hash keys s path balance (put_reveal puts reveals test next) =
    pays hash (position_script hash keys s path next) (continued_value s balance puts) ∷ []
core_outputs hash keys s path balance (withdraw party) = pays_party hash keys party (balance - s.advert.fee) ∷ []
core_outputs hash keys s path balance (split parts) = part_outputs hash keys s path 0 parts
core_outputs hash keys s path balance (auth party body) = []
core_outputs hash keys s path balance (after height body) = []

-- the transaction of branch i of a position, by its lock and its core: the output of the position, and then the deposits that are put
abbrev pub core_unsigned : (List ℕ → List ℕ) → Keys → Instance → Standing → ℕ → ℕ → term.Guarded → Unsigned
core_unsigned hash keys s here i height b = record {
  spends = here.output ∷ put_deposits hash keys s (puts_of b);
  outputs = core_outputs hash keys s (branch_path here.position i) here.output.value b;
  lock = height;
}

-- the transaction of branch i of a position
abbrev pub branch_unsigned : (List ℕ → List ℕ) → Keys → Instance → Standing → ℕ → term.Guarded → Unsigned
branch_unsigned hash keys s here i b = core_unsigned hash keys s here i (lock b) (core b)

-- the position at which a put goes on, at the path of its branch
abbrev pub continued : (List ℕ → List ℕ) → Keys → Instance → List PathStep → Unsigned → ℕ → Contract → Standing
continued hash keys s path made value next = record {
  position = path;
  output = record { outpoint = output_outpoint hash made 0; script = position_script hash keys s path next; value = value };
}

-- the position of part k of the split at a path
abbrev pub part_standing : (List ℕ → List ℕ) → Keys → Instance → List PathStep → Unsigned → ℕ → ℕ → Contract → Standing
part_standing hash keys s path made k value next = record {
  position = part_position path k;
  output = record {
    outpoint = output_outpoint hash made k;
    script = position_script hash keys s (part_position path k) next;
    value = value;
  };
}

-- ---- the initial transaction

-- what the root is worth
abbrev pub root_value : Instance → ℕ
root_value s = total_of (persistent s.advert.pre) - s.advert.fee

abbrev pub initial_unsigned : (List ℕ → List ℕ) → Keys → Instance → Unsigned
initial_unsigned hash keys s = record {
  spends = persistent_deposits hash keys s;
  outputs = pays hash (position_script hash keys s [] s.advert.root) (root_value s) ∷ [];
  lock = 0;
}

-- the root
abbrev pub root_standing : (List ℕ → List ℕ) → Keys → Instance → Standing
root_standing hash keys s = record {
  position = [];
  output =
      record {
        outpoint =
            output_outpoint hash (initial_unsigned hash keys s) 0;
        script = position_script hash keys s [] s.advert.root;
        value = root_value s;
      };
}
