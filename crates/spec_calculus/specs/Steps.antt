-- The twelve steps of the calculus: the premises of each by number, the first that fails, the effect, and legal runs from the opening on.
use Rattle.std.specs.Prelude.{◌≡◌, ℕ, ◌+◌, ◌-◌, Bool, ◌&&◌, not, List, [], ◌∷◌, ◌++◌, Option, is_some, length, map, nat_le, cond}
use Rattle.spec_data.specs.Lists.{first_false, is_among, look_up}
use Rattle.spec_data.specs.Ranges.{last_height}
use Rattle.spec_terms.specs.Advert.{Advert}
use Rattle.spec_terms.specs.Term.{Guarded}
use Rattle.spec_terms.specs.Value.{holds}
use Rattle.spec_terms.specs.declared.path.PathStep.TheVariants.{Branch as To}
use Rattle.spec_calculus.specs.declared.step.Owner.{Owner}
use Rattle.spec_calculus.specs.declared.step.Owner.TheVariants.{Party}
use Rattle.spec_calculus.specs.declared.step.Move.{Move}
use Rattle.spec_calculus.specs.declared.step.Step.{Step}
use Rattle.spec_calculus.specs.declared.step.Step.TheVariants as steps
use Rattle.spec_calculus.specs.declared.parts.Deposit.{Deposit}
use Rattle.spec_calculus.specs.declared.parts.ActiveContract.{ActiveContract}
use Rattle.spec_calculus.specs.declared.parts.MoveAuthorisation.{MoveAuthorisation}
use Rattle.spec_calculus.specs.declared.parts.InitAuthorisation.{InitAuthorisation}
use Rattle.spec_calculus.specs.declared.parts.BranchAuthorisation.{BranchAuthorisation}
use Rattle.spec_calculus.specs.Configuration.{Configuration}
use Rattle.spec_calculus.specs.Moves.{spends_live, owns_one, pays, all_agree, kept, made, with_authorisation, without_move}
use Rattle.spec_calculus.specs.Beginning.{contract_at, pre_of, participants_of, fee_of, is_advertised, binds, is_any_honest, has_committed}
use Rattle.spec_calculus.specs.Beginning.{have_committed, lists_secrets, is_told, bindings_of, is_there, are_there, numbers_of}
use Rattle.spec_calculus.specs.Beginning.{persistent_names, has_persistent, is_init_authorised, are_init_authorised}
use Rattle.spec_calculus.specs.Branches.{length_at, is_known, is_revealed, are_revealed, secret_lengths, active_at, contract_number}
use Rattle.spec_calculus.specs.Branches.{position_of, balance_of, advert_of, branch_of, asks_of, lock_of, has_branch_authorised}
use Rattle.spec_calculus.specs.Branches.{have_branch_authorised, is_put, is_withdraw, is_split, puts_of_taken, reveals_of_taken}
use Rattle.spec_calculus.specs.Branches.{test_of_taken, payee_of, values_of, gone, total_value, others, parts_made}

-- ---- premises, for each kind of step in their order

-- Delay: blocks pass
abbrev pub delay_premises : ℕ → ℕ → List Bool
delay_premises time blocks =
    -- 1 there is at least one
    nat_le 1 blocks
    -- 2 time and blocks sum to at most the last height
    ∷ nat_le (time + blocks) last_height
    ∷ []

-- AuthMove: a party agrees to a move
abbrev pub auth_move_premises : List Deposit → List ℕ → Move → List Bool
auth_move_premises deposits party action =
    -- 1 the move has inputs, all distinct live deposits
    spends_live deposits action.inputs
    -- 2 the party owns one of them
    ∷ owns_one deposits action.inputs party
    ∷ []

-- Move: a move is made
abbrev pub move_premises : List Deposit → List MoveAuthorisation → Move → List Bool
move_premises deposits authorised action =
    -- 1 it has inputs, all distinct live deposits
    spends_live deposits action.inputs
    -- 2 it has an output, and the outputs sum to at most the inputs
    ∷ pays deposits action
    -- 3 each party that owns an input has authorised it
    ∷ all_agree deposits authorised action
    ∷ []

-- Advertise: a contract is advertised
abbrev pub advertise_premises : Configuration → ℕ → List (List ℕ × ℕ) → Option Advert → List Bool
advertise_premises g contract bindings advert =
    -- 1 it exists and isn't advertised
    (is_some advert && not (is_advertised g.advertised contract))
    -- 2 each deposit of its precondition, in order, is bound to a live deposit with its owner and value, all different
    ∷ binds g.deposits (pre_of advert) bindings
    -- 3 a participant is honest
    ∷ is_any_honest (participants_of advert) g.honest
    ∷ []

-- Commit: a party commits to its secrets
abbrev pub commit_premises : Configuration → ℕ → List ℕ → List (List ℕ × Option ℕ) → Option Advert → List Bool
commit_premises g contract party lengths advert =
    -- 1 the contract is advertised
    is_advertised g.advertised contract
    -- 2 the party participates and hasn't committed
    ∷ (is_among party (participants_of advert) && not (has_committed g.committed contract party))
    -- 3 the lengths are of its secrets in the precondition's order, each from 0 to 504 or none
    ∷ lists_secrets party (pre_of advert) lengths
    -- 4 no length is none where the party is honest
    ∷ is_told g.honest party lengths
    ∷ []

-- whether the contract exists and all its participants have committed
abbrev pub is_committed : Configuration → ℕ → Option Advert → Bool
is_committed g contract advert = is_some advert && have_committed g.committed contract (participants_of advert)

-- AuthInit: a party lets the contract take its deposit
abbrev pub auth_init_premises : Configuration → ℕ → List ℕ → List ℕ → Option Advert → List Bool
auth_init_premises g contract party deposit advert =
    -- 1 the contract exists and all its participants have committed
    is_committed g contract advert
    -- 2 the deposit is a persistent deposit of the party in it
    ∷ has_persistent (pre_of advert) party deposit
    -- 3 its bound deposit is live
    ∷ is_there g.deposits (look_up deposit (bindings_of g.advertised contract))
    ∷ []

-- Init: a contract begins
abbrev pub init_premises : Configuration → ℕ → Option Advert → List Bool
init_premises g contract advert =
    -- 1 it exists and all its participants have committed
    is_committed g contract advert
    -- 2 all bound persistent deposits are live
    ∷ are_there g.deposits (bindings_of g.advertised contract) (persistent_names (pre_of advert))
    -- 3 each is authorised
    ∷ are_init_authorised g.init_authorised contract (persistent_names (pre_of advert))
    ∷ []

-- Reveal: a secret is revealed
abbrev pub reveal_premises : Configuration → ℕ → List ℕ → List ℕ → List Bool
reveal_premises g contract party secret =
    -- 1 the party has committed it in the contract
    is_some (length_at g.committed contract party secret)
    -- 2 its length isn't none
    ∷ is_known (length_at g.committed contract party secret)
    -- 3 it isn't revealed
    ∷ not (is_revealed g.revealed contract party secret)
    ∷ []

-- AuthBranch: a party agrees to a branch
abbrev pub auth_branch_premises : List ℕ → Option ActiveContract → Option Guarded → List Bool
auth_branch_premises party active taken =
    -- 1 the contract is active
    is_some active
    -- 2 it has the branch
    ∷ is_some taken
    -- 3 the branch asks the party
    ∷ is_among party (asks_of taken)
    ∷ []

-- PutReveal: a branch that puts deposits in or reveals secrets is taken
abbrev pub put_reveal_premises : Configuration → ℕ → ℕ → Option ActiveContract → Option Guarded → List Bool
put_reveal_premises g output branch active taken =
    -- 1 the contract is active
    is_some active
    -- 2 the branch exists and its core is a put or reveal
    ∷ is_put taken
    -- 3 time is at least its lock
    ∷ nat_le (lock_of taken) g.time
    -- 4 all whom it asks have authorised it
    ∷ have_branch_authorised g.branch_authorised output branch (asks_of taken)
    -- 5 the bound deposits of its puts are live
    ∷ are_there g.deposits (bindings_of g.advertised (contract_number active)) (puts_of_taken taken)
    -- 6 its secrets are revealed
    ∷ are_revealed g.revealed (contract_number active) (pre_of (advert_of g.contracts active)) (reveals_of_taken taken)
    -- 7 its predicate is true of their lengths
    ∷ holds (secret_lengths g.committed (contract_number active) (pre_of (advert_of g.contracts active)) (reveals_of_taken taken))
    (test_of_taken taken)
    ∷ []

-- Withdraw: a branch that pays a party is taken
abbrev pub withdraw_premises : Configuration → ℕ → ℕ → Option ActiveContract → Option Guarded → List Bool
withdraw_premises g output branch active taken =
    -- 1 the contract is active
    is_some active
    -- 2 the branch exists and its core is a withdraw
    ∷ is_withdraw taken
    -- 3 time is at least its lock
    ∷ nat_le (lock_of taken) g.time
    -- 4 all whom it asks have authorised it
    ∷ have_branch_authorised g.branch_authorised output branch (asks_of taken)
    ∷ []

-- Split: a branch that divides the balance is taken
abbrev pub split_premises : Configuration → ℕ → ℕ → Option ActiveContract → Option Guarded → List Bool
split_premises g output branch active taken =
    -- 1 the contract is active
    is_some active
    -- 2 the branch exists and its core is a split
    ∷ is_split taken
    -- 3 time is at least its lock
    ∷ nat_le (lock_of taken) g.time
    -- 4 all whom it asks have authorised it
    ∷ have_branch_authorised g.branch_authorised output branch (asks_of taken)
    ∷ []

-- the branch of this number of the active contract of this number
abbrev pub branch_at : Configuration → ℕ → ℕ → Option Guarded
branch_at g output branch = branch_of g.contracts (active_at g.active output) branch

-- the premises of a step
abbrev pub premises : Configuration → Step → List Bool
premises g (steps.Delay blocks) = delay_premises g.time blocks
premises g (steps.AuthMove party action) = auth_move_premises g.deposits party action
premises g (steps.Move action) = move_premises g.deposits g.move_authorised action
premises g (steps.Advertise contract bindings) = advertise_premises g contract bindings (contract_at g.contracts contract)
premises g (steps.Commit contract party lengths) = commit_premises g contract party lengths (contract_at g.contracts contract)
premises g (steps.AuthInit contract party deposit) = auth_init_premises g contract party deposit (contract_at g.contracts contract)
premises g (steps.Init contract) = init_premises g contract (contract_at g.contracts contract)
premises g (steps.Reveal contract party secret) = reveal_premises g contract party secret
premises g (steps.AuthBranch party output branch) = auth_branch_premises party (active_at g.active output) (branch_at g output branch)
premises g (steps.PutReveal output branch) = put_reveal_premises g output branch (active_at g.active output) (branch_at g output branch)
premises g (steps.Withdraw output branch) = withdraw_premises g output branch (active_at g.active output) (branch_at g output branch)
premises g (steps.Split output branch) = split_premises g output branch (active_at g.active output) (branch_at g output branch)

-- the number of the first premise that fails, counted from 1, and 0 where none fails
abbrev pub fails : Configuration → Step → ℕ
fails g step = first_false 1 (premises g step)

-- ---- effects; where a fee is taken off, the check of a contract has seen that the difference isn't negative, and ◌-◌ stops at 0

-- the persistent deposits go, and a contract at the root comes with their sum less the fee
abbrev pub begun : Configuration → ℕ → Option Advert → List ℕ → Configuration
begun g contract advert numbers = record g {
  next = g.next + 1;
  deposits = kept g.deposits numbers;
  active = g.active ++ record {
    number = g.next;
    contract = contract;
    position = [];
    balance = total_value (gone g.deposits numbers) - fee_of advert;
  } ∷ [];
}

-- the contract and the deposits put in go, and the continuation comes with their sum less the fee
abbrev pub continued : Configuration → ℕ → ℕ → Option ActiveContract → List ℕ → Configuration
continued g output branch active numbers = record g {
  next = g.next + 1;
  deposits = kept g.deposits numbers;
  active = others g.active output ++ record {
    number = g.next;
    contract = contract_number active;
    position = position_of active ++ To branch ∷ [];
    balance = balance_of active + total_value (gone g.deposits numbers) - fee_of (advert_of g.contracts active);
  } ∷ [];
}

-- the contract goes, and a deposit of the party with the balance less the fee comes
abbrev pub withdrawn : Configuration → ℕ → Option ActiveContract → List ℕ → Configuration
withdrawn g output active party = record g {
  next = g.next + 1;
  deposits = g.deposits ++ record {
    number = g.next;
    owner = Party party;
    value = balance_of active - fee_of (advert_of g.contracts active);
  } ∷ [];
  active = others g.active output;
}

-- the contract goes, and one for each part comes, in order, with the part's value
abbrev pub divided : Configuration → ℕ → ℕ → Option ActiveContract → List ℕ → Configuration
divided g output branch active values = record g {
  next = g.next + length values;
  active = others g.active output ++ parts_made g.next (contract_number active) (position_of active ++ To branch ∷ []) 0 values;
}

-- inputs go, a deposit for each output comes, and the authorisations of the move go
abbrev pub moved : Configuration → Move → Configuration
moved g action = record g {
  next = g.next + length action.outputs;
  deposits = kept g.deposits action.inputs ++ made g.next action.outputs;
  move_authorised = without_move g.move_authorised action;
}

-- the authorisations of deposits, among which this one stands once
abbrev pub with_init : List InitAuthorisation → ℕ → List ℕ → List InitAuthorisation
with_init authorised contract deposit =
    cond (is_init_authorised authorised contract deposit) authorised (authorised ++ record { contract = contract; deposit = deposit } ∷ [])

-- the authorisations of branches, among which this one stands once
abbrev pub with_branch : List BranchAuthorisation → List ℕ → ℕ → ℕ → List BranchAuthorisation
with_branch authorised party output branch =
    cond (has_branch_authorised authorised output branch party) authorised
    (authorised ++ record { party = party; output = output; branch = branch } ∷ [])

-- what a step makes of a configuration
abbrev pub effect : Configuration → Step → Configuration
effect g (steps.Delay blocks) = record g { time = g.time + blocks }
effect g (steps.AuthMove party action) = record g { move_authorised = with_authorisation g.move_authorised party action }
effect g (steps.Move action) = moved g action
effect g (steps.Advertise contract bindings) =
    record g { advertised = g.advertised ++ record { contract = contract; bindings = bindings } ∷ [] }
effect g (steps.Commit contract party lengths) =
    record g { committed = g.committed ++ record { contract = contract; party = party; lengths = lengths } ∷ [] }
effect g (steps.AuthInit contract party deposit) = record g { init_authorised = with_init g.init_authorised contract deposit }
effect g (steps.Init contract) =
    begun g contract (contract_at g.contracts contract)
    (numbers_of (bindings_of g.advertised contract) (persistent_names (pre_of (contract_at g.contracts contract))))
effect g (steps.Reveal contract party secret) =
    record g { revealed = g.revealed ++ record { contract = contract; party = party; secret = secret } ∷ [] }
effect g (steps.AuthBranch party output branch) = record g { branch_authorised = with_branch g.branch_authorised party output branch }
effect g (steps.PutReveal output branch) =
    continued g output branch (active_at g.active output)
    (numbers_of (bindings_of g.advertised (contract_number (active_at g.active output))) (puts_of_taken (branch_at g output branch)))
effect g (steps.Withdraw output branch) = withdrawn g output (active_at g.active output) (payee_of (branch_at g output branch))
effect g (steps.Split output branch) = divided g output branch (active_at g.active output) (values_of (branch_at g output branch))

-- how many deposits and contracts a step makes
abbrev pub names_made : Configuration → Step → ℕ
names_made g (steps.Delay blocks) = 0
names_made g (steps.AuthMove party action) = 0
names_made g (steps.Move action) = length action.outputs
names_made g (steps.Advertise contract bindings) = 0
names_made g (steps.Commit contract party lengths) = 0
names_made g (steps.AuthInit contract party deposit) = 0
names_made g (steps.Init contract) = 1
names_made g (steps.Reveal contract party secret) = 0
names_made g (steps.AuthBranch party output branch) = 0
names_made g (steps.PutReveal output branch) = 1
names_made g (steps.Withdraw output branch) = 1
names_made g (steps.Split output branch) = length (values_of (branch_at g output branch))

-- ---- runs

-- what the steps make of a configuration, one after another
abbrev pub after_steps : Configuration → List Step → Configuration
after_steps g [] = g
after_steps g (step ∷ rest) = after_steps (effect g step) rest

-- one step from g to h: none of its premises fails, and h is its effect
pub record IsStep (g : Configuration) (step : Step) (h : Configuration) : Type 0 where
  pub enabled : fails g step ≡ 0
  pub leads : h ≡ effect g step

-- a legal run of these steps from g to h: each is a step from where those before it led to
abbrev pub IsLegalRun : Configuration → List Step → Configuration → Type 0
IsLegalRun g [] h = h ≡ g
IsLegalRun g (step ∷ rest) h = (between : Configuration) × IsStep g step between × IsLegalRun between rest h

-- the same as a recursion on the steps: no premise of any of them fails, where each is taken after those before it
abbrev pub Legal : Configuration → List Step → Type 0
Legal g [] = Unit {0}
Legal g (step ∷ rest) = (fails g step ≡ 0) × Legal (effect g step) rest

-- the deposits of a header, as outputs
abbrev pub owned : List (List ℕ × ℕ) → List (Owner × ℕ)
owned deposits = map (λ d. (Party (d.0), d.1)) deposits

-- the configuration before any step: deposit i is named i
abbrev pub opening : List (List ℕ) → List (List ℕ) → List (List ℕ × ℕ) → List Advert → Configuration
opening parties honest deposits contracts = record {
  time = 0;
  next = length deposits;
  deposits = made 0 (owned deposits);
  active = [];
  advertised = [];
  committed = [];
  revealed = [];
  init_authorised = [];
  branch_authorised = [];
  move_authorised = [];
  parties = parties;
  honest = honest;
  contracts = contracts;
}
