-- How a deal goes on by confirmed transactions: which of its own one is, what it makes, takes and shows, and the steps of the calculus
-- that it stands for.
use Rattle.std.specs.Prelude.{ℕ, ◌+◌, List, [], ◌∷◌, ◌++◌, length, filter, map, Bool, not, ◌&&◌, ◌||◌, ◌==◌, Option, Some, None, is_some}
use Rattle.std.specs.List.{find, flat_map}
use Rattle.std.specs.Option.{option_map, option_map_or}
use Rattle.std.specs.Str.{bytes_eq}
use Rattle.spec_data.specs.Lists.{look_up}
use Rattle.spec_terms.specs.Term as term
use Rattle.spec_terms.specs.Core.{core, is_asked}
use Rattle.spec_terms.specs.Paths.{at}
use Rattle.spec_terms.specs.Precondition.{persistent, secrets}
use Rattle.spec_terms.specs.declared.path.PathStep.{PathStep}
use Rattle.spec_bitcoin.specs.declared.tx.OutPoint.{OutPoint}
use Rattle.spec_bitcoin.specs.declared.tx.TxIn.{TxIn}
use Rattle.spec_bitcoin.specs.declared.tx.Tx.{Tx}
use Rattle.spec_bitcoin.specs.Digests.{txid}
use Rattle.spec_bitcoin.specs.Spelling.{stripped}
use Rattle.spec_calculus.specs.declared.step.Step.{Step}
use Rattle.spec_calculus.specs.declared.step.Step.TheVariants as steps
use Rattle.spec_compiler.specs.Keyed.Instance.{Instance, people, branch_path}
use Rattle.spec_compiler.specs.Scripts.{digest_of}
use Rattle.spec_compiler.specs.Witness.{chosen_by}
use Rattle.spec_run.specs.Ledger.{first_witness}
use Rattle.spec_run.specs.Steps.{auth_inits, auth_branch, core_step}
use Rattle.spec_tool.specs.declared.which.Which.{Which}
use Rattle.spec_tool.specs.declared.which.Which.TheVariants as names
use Rattle.spec_deal.specs.declared.transaction.Transaction.{Transaction}
use Rattle.spec_deal.specs.Finished.{bytes_or_none, choices_at}
use Rattle.spec_deal.specs.Needed.{deal_contract}
use Rattle.spec_deal.specs.SecretFile.{has_length}
use Rattle.spec_deal.specs.SignatureFile.{has_bytes}
use Rattle.spec_chain.specs.declared.output.Held.TheVariants.{Deposit, Position, Payout}
use Rattle.spec_chain.specs.declared.output.Output.{Output}
use Rattle.spec_chain.specs.declared.happened.Happened.{Happened}
use Rattle.spec_chain.specs.Outputs.{is_position, output_there, without_all, deposit_outputs, made_by, transaction_named, position_of}

-- where a deal stands: its live outputs, which are deposits and positions; the number that the next output gets; the outputs that its
-- transactions made; and the strings of secrets that were shown, each under its name
pub record State : Type 0 where
  pub live : List Output
  pub next : ℕ
  pub made : List Output
  pub shown : List (List ℕ × List ℕ)

-- before any transaction the deposits are live
abbrev pub opening_state : Instance → State
opening_state s = record { live = deposit_outputs s; next = length (deposit_outputs s); made = []; shown = [] }

-- ---- which transaction it is

-- the first transaction of the deal that has these bytes without witnesses
abbrev pub own_transaction : List Transaction → Tx → Option Transaction
own_transaction ts tx = find (has_bytes (stripped tx)) ts

-- the branch that the first witness selects, at the position of a path
abbrev pub selected : Instance → Tx → List PathStep → ℕ
selected s tx path = chosen_by (choices_at s (position_of path)) (first_witness tx.inputs)

-- two branches of a position may have one transaction: the witness says which it is
abbrev pub which_shown : Instance → Tx → Which → Which
which_shown s tx names.Init = names.Init
which_shown s tx (names.At path) = names.At (branch_path (position_of path) (selected s tx path))

-- which transaction of the deal it is
abbrev pub which_of : Instance → List Transaction → Tx → Option Which
which_of s ts tx = option_map (λ (t : Transaction). which_shown s tx t.which) (own_transaction ts tx)

-- ---- what it shows

-- the items of its witnesses, input by input
abbrev pub items_in : Tx → List (List ℕ)
items_in tx = flat_map (λ (i : TxIn). i.witness) tx.inputs

-- whether an item is the string of a secret that has this hash
abbrev pub is_string_of : (List ℕ → List ℕ) → List ℕ → List ℕ → Bool
is_string_of hash digest item = has_length item && bytes_eq (hash item) digest

-- the string of a secret that the transaction shows, whosever it is
abbrev pub string_shown : (List ℕ → List ℕ) → Instance → Tx → List ℕ → Option (List ℕ)
string_shown hash s tx name = find (is_string_of hash (digest_of s.hashes name)) (items_in tx)

-- whether a secret is shown for the first time
abbrev pub is_newly_shown : (List ℕ → List ℕ) → Instance → State → Tx → List ℕ → Bool
is_newly_shown hash s state tx name = not (is_some (look_up name state.shown)) && is_some (string_shown hash s tx name)

-- the secrets that it is the first to show, in the precondition's order, each with whose it is
abbrev pub newly_shown : (List ℕ → List ℕ) → Instance → State → Tx → List (List ℕ × List ℕ)
newly_shown hash s state tx = filter (λ p. is_newly_shown hash s state tx (p.0)) (secrets s.advert.pre)

-- their strings
abbrev pub strings_shown : (List ℕ → List ℕ) → Instance → State → Tx → List (List ℕ × List ℕ)
strings_shown hash s state tx = map (λ p. (p.0, bytes_or_none (string_shown hash s tx (p.0)))) (newly_shown hash s state tx)

-- ---- what it makes and takes

abbrev pub outputs_of : Instance → ℕ → Option Transaction → List Output
outputs_of s n None = []
outputs_of s n (Some t) = made_by s.advert n t

abbrev pub outputs_named : Instance → List Transaction → ℕ → Option Which → List Output
outputs_named s ts n None = []
outputs_named s ts n (Some which) = outputs_of s n (transaction_named ts which)

-- the outputs of the deal that it makes
abbrev pub outputs_made : Instance → List Transaction → State → Tx → List Output
outputs_made s ts state tx = outputs_named s ts state.next (which_of s ts tx)

-- what its inputs spend
abbrev pub places_spent : Tx → List OutPoint
places_spent tx = map (λ (i : TxIn). i.prev) tx.inputs

-- where the deal stands after a transaction
abbrev pub after_transaction : (List ℕ → List ℕ) → Instance → List Transaction → State → Tx → State
after_transaction hash s ts state tx = record {
  live = without_all state.live (places_spent tx) ++ filter is_position (outputs_made s ts state tx);
  next = state.next + length (outputs_made s ts state tx);
  made = state.made ++ outputs_made s ts state tx;
  shown = state.shown ++ strings_shown hash s state tx;
}

-- ---- the steps that it stands for

-- whoever holds a secret that is shown reveals it
abbrev pub reveal_steps : List (List ℕ × List ℕ) → List Step
reveal_steps shown = map (λ p. steps.Reveal deal_contract (p.1) (p.0)) shown

-- each owner lets the contract take its persistent deposits, and the contract begins
abbrev pub begin_steps : Instance → List Step
begin_steps s = auth_inits deal_contract (persistent s.advert.pre) ++ steps.Init deal_contract ∷ []

-- the participants whom a branch asks agree to it, and it is taken
abbrev pub branch_steps : Instance → ℕ → ℕ → Option term.Guarded → List Step
branch_steps s n i None = []
branch_steps s n i (Some b) = map (auth_branch n i) (filter (is_asked b) (people s)) ++ core_step n i (core b)

-- the number of the output that the first input spends
abbrev pub first_spent : State → List TxIn → ℕ
first_spent state [] = 0
first_spent state (i ∷ is) = option_map_or (λ (o : Output). o.number) (output_there state.live i.prev) 0

abbrev pub which_steps : Instance → State → Tx → Option Which → List Step
which_steps s state tx None = []
which_steps s state tx (Some names.Init) = begin_steps s
which_steps s state tx (Some (names.At path)) =
    branch_steps s (first_spent state tx.inputs) (selected s tx path) (at s.advert.root path)

-- the steps of a transaction: what it shows is revealed first
abbrev pub steps_of : (List ℕ → List ℕ) → Instance → List Transaction → State → Tx → List Step
steps_of hash s ts state tx = reveal_steps (newly_shown hash s state tx) ++ which_steps s state tx (which_of s ts tx)

-- ---- what it took from the deal

abbrev pub deposit_name : Option Output → List (List ℕ)
deposit_name None = []
deposit_name (Some o) = elim o.held [
  | Deposit name ↦ name ∷ []
  | Position path ↦ []
  | Payout party ↦ []
]

-- the deposits that it spends, by input
abbrev pub deposits_spent : State → Tx → List (List ℕ)
deposits_spent state tx = flat_map (λ place. deposit_name (output_there state.live place)) (places_spent tx)

-- what another transaction than the deal's spends is gone
abbrev pub gone_by : State → Tx → Option Which → List (List ℕ)
gone_by state tx None = deposits_spent state tx
gone_by state tx (Some which) = []

-- ---- the history

-- what a transaction of a block of this height did
abbrev pub happened : (List ℕ → List ℕ) → Instance → List Transaction → State → ℕ → Tx → Happened
happened hash s ts state height tx = record {
  which = which_of s ts tx;
  txid = txid hash tx;
  height = height;
  steps = steps_of hash s ts state tx;
  made = map (λ (o : Output). o.number) (outputs_made s ts state tx);
  gone = gone_by state tx (which_of s ts tx);
}

-- whether it has to do with the deal: it is the deal's, shows a secret, or spends a deposit
abbrev pub matters : Happened → Bool
matters h = is_some h.which || (not (length h.steps == 0) || not (length h.gone == 0))
