-- What may come next and what is missing for it, by what is known of the contract and the transactions.
use Rattle.std.specs.Prelude.{ℕ, List, [], ◌∷◌, ◌++◌, filter, map, Bool, true, false, not, ◌||◌, if◌then◌else◌}
use Rattle.std.specs.Prelude.{Option, Some, None, is_some}
use Rattle.std.specs.List.{list_any, flat_map}
use Rattle.std.specs.Option.{option_map_or}
use Rattle.spec_data.specs.Lists.{look_up}
use Rattle.spec_terms.specs.Advert.{Advert}
use Rattle.spec_terms.specs.Parties.{participants}
use Rattle.spec_terms.specs.Paths.{contract_under}
use Rattle.spec_terms.specs.Precondition.{persistent, secrets, names_of}
use Rattle.spec_terms.specs.Term as term
use Rattle.spec_terms.specs.Term.{Contract, branches}
use Rattle.spec_terms.specs.declared.path.PathStep.{PathStep}
use Rattle.spec_terms.specs.declared.pre.Pre.{Pre}
use Rattle.spec_run.specs.Firing.{revealed_by}
use Rattle.spec_tool.specs.declared.which.Which.{Which}
use Rattle.spec_tool.specs.declared.which.Which.TheVariants as names
use Rattle.spec_tool.specs.Keyed.Listed.{same_which}
use Rattle.spec_deal.specs.declared.entry.Shown.{Shown}
use Rattle.spec_deal.specs.declared.finish.Verb.{Verb}
use Rattle.spec_deal.specs.declared.signed.Signed.{Signed}
use Rattle.spec_deal.specs.declared.transaction.Signer.{Signer}
use Rattle.spec_deal.specs.declared.transaction.Transaction.{Transaction}
use Rattle.spec_deal.specs.declared.transaction.Wallet.{Wallet}
use Rattle.spec_deal.specs.Finished.{bytes_or_none, label_party}
use Rattle.spec_deal.specs.SecretFile.{string_for}
use Rattle.spec_deal.specs.Slots.{is_endorsement}
use Rattle.spec_chain.specs.declared.output.Held.TheVariants.{Deposit, Position, Payout}
use Rattle.spec_chain.specs.declared.output.Output.{Output}
use Rattle.spec_chain.specs.declared.requirement.Requirement.{Requirement}
use Rattle.spec_chain.specs.declared.requirement.Requirement.TheVariants as requirements
use Rattle.spec_chain.specs.Chain.{Course}
use Rattle.spec_chain.specs.Following.{State}
use Rattle.spec_chain.specs.Outputs.{is_deposit}
use Rattle.spec_chain.specs.StateText.{string_line, height_line, waits_line, past_text}
use Rattle.spec_chain.specs.Outstanding.{branches_from, known, height_requirements, puts_by, gone_requirements, is_false, waits_for}
use Rattle.deal_finish.specs.Filled.{branch_of}
use Rattle.deal_missing.specs.Required.{Required, required, is_there}
use Rattle.deal_state.specs.declared.signatures.Unverified.{Unverified}
use Rattle.deal_state.specs.declared.text.Prospect.{Prospect}
use Rattle.deal_state.specs.Lines.{prospect_text}

-- ---- what may come

-- the branches of the position at a path, by what stands there
abbrev pub branches_beneath : List PathStep → Option Contract → List Which
branches_beneath path choice = option_map_or (λ contract. branches_from path 0 (branches contract)) choice []

abbrev pub branches_under : Advert → List PathStep → List Which
branches_under advert path = branches_beneath path (contract_under advert.root path)

abbrev pub branches_in : Advert → Output → List Which
branches_in advert o = elim o.held [
  | Deposit name ↦ []
  | Position path ↦ branches_under advert path
  | Payout party ↦ []
]

-- the initial transaction, if nothing was made
abbrev pub initial_if : List Output → List Which
initial_if [] = names.Init ∷ []
initial_if (o ∷ os) = []

abbrev pub asked_by : Advert → State → List Which
asked_by advert state = initial_if state.made ++ flat_map (branches_in advert) state.live

-- ---- signatures

-- whether a transaction needs a signature, by whether it is of the transaction itself, and by what it is for
abbrev pub is_needed_by : Which → Bool → Verb → Bool
is_needed_by names.Init is_own verb = is_own || is_endorsement verb
is_needed_by (names.At path) is_own verb = is_own

-- whether the transaction of this name needs it
abbrev pub is_wanted : Which → Required → Bool
is_wanted which w = is_needed_by which (same_which w.which which) w.signer.verb

-- by the key of a label, or by a wallet
abbrev pub requirement_by : Which → ℕ → Signer → Option Wallet → Requirement
requirement_by which input s None = requirements.Signature which input s.label s.verb
requirement_by which input s (Some wallet) = requirements.Wallet which input wallet.deposit (label_party s.label) s.verb

abbrev pub requirement_of : Required → Requirement
requirement_of w = requirement_by w.which w.input w.signer w.wallet

abbrev pub requirement_unless : Bool → Requirement → List Requirement
requirement_unless true r = []
requirement_unless false r = r ∷ []

abbrev pub requirement_if_missing : List Signed → Required → List Requirement
requirement_if_missing given w = requirement_unless (is_there given w) (requirement_of w)

abbrev pub requirement_if_needed : List Signed → Which → Required → List Requirement
requirement_if_needed given which w = if is_wanted which w then requirement_if_missing given w else []

-- those that the transaction of this name needs and that aren't there
abbrev pub signatures_by : List Signed → Which → List Required → List Requirement
signatures_by given which ws = flat_map (requirement_if_needed given which) ws

-- ---- witnesses of wallets

abbrev pub unverified_if : Bool → Unverified → List Unverified
unverified_if true u = u ∷ []
unverified_if false u = []

abbrev pub unverified_of : Required → Wallet → Unverified
unverified_of w wallet = record { which = w.which; input = w.input; deposit = wallet.deposit; verb = w.signer.verb }

-- by whether it is there, and the wallet
abbrev pub unverified_when : Bool → Required → Option Wallet → List Unverified
unverified_when there w None = []
unverified_when there w (Some wallet) = unverified_if there (unverified_of w wallet)

abbrev pub unverified_if_there : List Signed → Required → List Unverified
unverified_if_there given w = unverified_when (is_there given w) w w.wallet

abbrev pub unverified_if_needed : List Signed → Which → Required → List Unverified
unverified_if_needed given which w = if is_wanted which w then unverified_if_there given w else []

-- those that the transaction of this name needs and that are there
abbrev pub unverified_by : List Signed → Which → List Required → List Unverified
unverified_by given which ws = flat_map (unverified_if_needed given which) ws

-- ---- deposits and secrets

-- those of these deposits that aren't live
abbrev pub gone_in : List Output → List (List ℕ) → List (List ℕ)
gone_in live deposits = filter (λ x. not (list_any (is_deposit x) live)) deposits

-- the deposits that a transaction spends
abbrev pub needed_by : Advert → Which → Option term.Guarded → List (List ℕ)
needed_by advert names.Init b = names_of (persistent advert.pre)
needed_by advert (names.At path) b = puts_by b

abbrev pub secret_requirement_in : List Pre → List ℕ → Requirement
secret_requirement_in pre a = requirements.Secret a (bytes_or_none (look_up a (secrets pre)))

-- the secrets of these that nobody knows
abbrev pub hidden_in : List Shown → List (List ℕ) → List (List ℕ)
hidden_in strings secrets = filter (λ a. not (is_some (string_for strings a))) secrets

abbrev pub predicate_if : Bool → List Requirement
predicate_if true = requirements.PredicateFalse ∷ []
predicate_if false = []

-- by the deposits that are gone, the secrets that nobody knows, and whether the predicate is false
abbrev pub parts_in : List Pre → List (List ℕ) → List (List ℕ) → Bool → List Requirement
parts_in pre gone hidden predicate_is_false =
    map requirements.Deposit gone
    ++ (map (secret_requirement_in pre) hidden ++ (gone_requirements gone ++ predicate_if predicate_is_false))

-- of a transaction that takes this branch, by the secrets that nobody knows
abbrev pub parts_of : Advert → List Shown → List Output → Which → Option term.Guarded → List (List ℕ) → List Requirement
parts_of advert strings live which b hidden =
    parts_in advert.pre (gone_in live (needed_by advert which b)) hidden (is_false strings hidden b)

abbrev pub parts_by : Advert → List Shown → List Output → Which → List Requirement
parts_by advert strings live which =
    parts_of advert strings live which (branch_of advert which) (hidden_in strings (revealed_by (branch_of advert which)))

-- ---- all that is missing

abbrev pub outstanding_by : Advert → List Transaction → List Required → List Signed → List Shown → State → ℕ → Which → List Requirement
outstanding_by advert ts ws given strings state tip which =
    height_requirements ts tip which ++ (signatures_by given which ws ++ parts_by advert strings state.live which)

-- a transaction that may come, the witnesses that it counts on, and what is missing for it
pub record Chance : Type 0 where
  pub which : Which
  pub unverified : List Unverified
  pub requirements : List Requirement

abbrev pub chance_of : Advert → List Transaction → List Required → List Signed → List Shown → State → ℕ → Which → Chance
chance_of advert ts ws given strings state tip which = record {
  which = which;
  unverified = unverified_by given which ws;
  requirements = outstanding_by advert ts ws given strings state tip which;
}

-- each of these transactions
abbrev pub prospects_by : Advert → List Transaction → List Required → List Signed → List Shown → State → ℕ → List Which → List Chance
prospects_by advert ts ws given strings state tip asked = map (chance_of advert ts ws given strings state tip) asked

-- ---- the text

-- as the code has it
abbrev pub prospect_in : Prospect → Chance
prospect_in p = record { which = p.which; unverified = p.unverified.items; requirements = p.requirements.items }

abbrev pub chance_text : Chance → List ℕ
chance_text c = prospect_text c.which c.unverified c.requirements

-- whether one of these waits for the party
abbrev pub is_awaited_by : List Chance → List ℕ → Bool
is_awaited_by cs party = list_any (λ (c : Chance). waits_for party c.requirements) cs

-- the line of a party, if it is awaited
abbrev pub waits_if : Bool → List ℕ → List ℕ
waits_if true party = waits_line party
waits_if false party = []

abbrev pub future_text : List (List ℕ) → List Chance → List ℕ
future_text people prospects =
    flat_map chance_text prospects
    ++ flat_map waits_line (filter (is_awaited_by prospects) people)

abbrev pub state_by : Advert → List (List ℕ) → Course → ℕ → List Shown → List Chance → List ℕ
state_by advert people course tip strings prospects =
    past_text course
    ++ (flat_map (λ name. string_line name (string_for strings name)) (names_of (secrets advert.pre))
    ++ (height_line tip ++ future_text people prospects))

-- where a deal stands, by its transactions
abbrev pub text_by : Advert → List Transaction → Course → ℕ → List Signed → List Shown → List ℕ
text_by advert ts course tip given strings =
    state_by advert (participants advert) course tip (known course.state strings)
    (prospects_by advert ts (required ts) given (known course.state strings) course.state tip (asked_by advert course.state))
