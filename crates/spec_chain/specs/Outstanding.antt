-- What may come next of a deal, what is missing for it, and on whom it waits.
use Rattle.std.specs.Prelude.{ℕ, ◌+◌, List, [], ◌∷◌, ◌++◌, length, filter, map, Bool, true, false, not, ◌&&◌, ◌||◌, ◌==◌, nat_lt}
use Rattle.std.specs.Prelude.{if◌then◌else◌, Option, Some, None, is_some}
use Rattle.std.specs.List.{list_any, flat_map}
use Rattle.std.specs.Option.{option_map_or}
use Rattle.std.specs.Str.{bytes_eq}
use Rattle.spec_data.specs.Lists.{look_up}
use Rattle.spec_terms.specs.Term as term
use Rattle.spec_terms.specs.Term.{branches}
use Rattle.spec_terms.specs.Core.{core, puts_of}
use Rattle.spec_terms.specs.Paths.{contract_under}
use Rattle.spec_terms.specs.Precondition.{persistent, secrets, names_of}
use Rattle.spec_terms.specs.declared.path.PathStep.{PathStep}
use Rattle.spec_compiler.specs.Keyed.Keys.{Keys}
use Rattle.spec_compiler.specs.Keyed.Instance.{Instance, people, branch_path}
use Rattle.spec_run.specs.Firing.{revealed_by}
use Rattle.spec_tool.specs.declared.which.Which.{Which}
use Rattle.spec_tool.specs.declared.which.Which.TheVariants as names
use Rattle.spec_tool.specs.Keyed.Listed.{same_which}
use Rattle.spec_deal.specs.declared.entry.Shown.{Shown}
use Rattle.spec_deal.specs.declared.signed.Signed.{Signed}
use Rattle.spec_deal.specs.declared.transaction.Transaction.{Transaction}
use Rattle.spec_deal.specs.Finished.{bytes_or_none, label_party, which_branch, predicate_holds}
use Rattle.spec_deal.specs.Given.{missing, is_unverified}
use Rattle.spec_deal.specs.SecretFile.{string_for}
use Rattle.spec_deal.specs.Slots.{Slot, slots, is_endorsement}
use Rattle.spec_deal.specs.Transactions.{transactions}
use Rattle.spec_chain.specs.declared.output.Held.TheVariants.{Deposit, Position, Payout}
use Rattle.spec_chain.specs.declared.output.Output.{Output}
use Rattle.spec_chain.specs.declared.requirement.Requirement.{Requirement}
use Rattle.spec_chain.specs.declared.requirement.Requirement.TheVariants as requirements
use Rattle.spec_chain.specs.Outputs.{is_deposit, transaction_named}
use Rattle.spec_chain.specs.Following.{State}

-- ---- what may come

-- whether the initial transaction has come
abbrev pub has_begun : State → Bool
has_begun state = not (length state.made == 0)

-- the branches of the position at a path, from number i on
abbrev pub branches_from : List PathStep → ℕ → List term.Guarded → List Which
branches_from path i [] = []
branches_from path i (b ∷ bs) = names.At (branch_path path i) ∷ branches_from path (i + 1) bs

abbrev pub branches_at : Instance → List PathStep → List Which
branches_at s path = option_map_or (λ contract. branches_from path 0 (branches contract)) (contract_under s.advert.root path) []

-- the branches of a live position
abbrev pub branches_of : Instance → Output → List Which
branches_of s o = elim o.held [
  | Deposit name ↦ []
  | Position path ↦ branches_at s path
  | Payout party ↦ []
]

-- the initial transaction, until it has come, and each branch of each live position
abbrev pub asked : Instance → State → List Which
asked s state = (if has_begun state then [] else names.Init ∷ []) ++ flat_map (branches_of s) state.live

-- ---- secrets

-- the strings that were shown and those that were given
abbrev pub known : State → List Shown → List Shown
known state strings = map (λ p. record { line = 0; name = p.0; bytes = p.1 }) state.shown ++ strings

-- ---- what is missing, each kind by itself

abbrev pub lock_of : Option Transaction → ℕ
lock_of None = 0
lock_of (Some t) = t.tx.lock

abbrev pub height_requirements : List Transaction → ℕ → Which → List Requirement
height_requirements ts tip which =
    if nat_lt tip (lock_of (transaction_named ts which)) then requirements.Height (lock_of (transaction_named ts which)) ∷ [] else []

-- the initial transaction needs all endorsements besides its own signatures
abbrev pub is_needed_for : Which → Slot → Bool
is_needed_for names.Init slot = same_which slot.which names.Init || is_endorsement slot.verb
is_needed_for (names.At path) slot = same_which slot.which (names.At path)

abbrev pub signature_requirement : Slot → Requirement
signature_requirement slot = elim slot.wallet [
  | None ↦ requirements.Signature slot.which slot.input slot.label slot.verb
  | Some w ↦ requirements.Wallet slot.which slot.input w.deposit (label_party slot.label) slot.verb
]

abbrev pub signature_requirements : (List ℕ → List ℕ) → Keys → Instance → List Signed → Which → List Requirement
signature_requirements hash keys s given which = map signature_requirement (filter (is_needed_for which) (missing hash keys s given))

-- the witnesses of wallets among those that are there
abbrev pub unverified_for : (List ℕ → List ℕ) → Keys → Instance → List Signed → Which → List Slot
unverified_for hash keys s given which =
    filter (λ slot. is_needed_for which slot && is_unverified hash keys given slot) (slots hash keys s)

abbrev pub puts_by : Option term.Guarded → List (List ℕ)
puts_by None = []
puts_by (Some b) = puts_of (core b)

-- the deposits that a transaction spends, by input
abbrev pub deposits_needed : Instance → Which → List (List ℕ)
deposits_needed s names.Init = names_of (persistent s.advert.pre)
deposits_needed s (names.At path) = puts_by (which_branch s (names.At path))

-- those of them that aren't live
abbrev pub deposits_outstanding : Instance → State → Which → List (List ℕ)
deposits_outstanding s state which = filter (λ x. not (list_any (is_deposit x) state.live)) (deposits_needed s which)

-- the secrets that a branch reveals and nobody knows
abbrev pub secrets_outstanding : Instance → List Shown → Which → List (List ℕ)
secrets_outstanding s strings which = filter (λ a. not (is_some (string_for strings a))) (revealed_by (which_branch s which))

abbrev pub secret_requirement : Instance → List ℕ → Requirement
secret_requirement s a = requirements.Secret a (bytes_or_none (look_up a (secrets s.advert.pre)))

-- a deposit that isn't live never is again
abbrev pub gone_requirements : List (List ℕ) → List Requirement
gone_requirements [] = []
gone_requirements (x ∷ xs) = requirements.DepositGone ∷ []

-- whether all that a branch reveals is known, and its predicate is false of it
abbrev pub is_false : List Shown → List (List ℕ) → Option term.Guarded → Bool
is_false strings outstanding None = false
is_false strings outstanding (Some b) =
    not (length (revealed_by (Some b)) == 0) && (length outstanding == 0 && not (predicate_holds strings b))

abbrev pub predicate_requirements : Instance → List Shown → Which → List Requirement
predicate_requirements s strings which =
    if is_false strings (secrets_outstanding s strings which) (which_branch s which) then requirements.PredicateFalse ∷ [] else []

-- ---- all that is missing, in order

-- where these strings are known
abbrev pub outstanding : (List ℕ → List ℕ) → Keys → Instance → List Signed → List Shown → State → ℕ → Which → List Requirement
outstanding hash keys s given strings state tip which =
    height_requirements (transactions hash keys s) tip which
    ++ (signature_requirements hash keys s given which
    ++ (map requirements.Deposit (deposits_outstanding s state which)
    ++ (map (secret_requirement s) (secrets_outstanding s strings which)
    ++ (gone_requirements (deposits_outstanding s state which) ++ predicate_requirements s strings which))))

-- ---- on whom it waits

abbrev pub is_never : Requirement → Bool
is_never (requirements.Height height) = false
is_never (requirements.Signature which input label verb) = false
is_never (requirements.Wallet which input deposit owner verb) = false
is_never (requirements.Deposit name) = false
is_never (requirements.Secret name party) = false
is_never requirements.DepositGone = true
is_never requirements.PredicateFalse = true

-- whether it is a signature or a secret of this party
abbrev pub is_of : List ℕ → Requirement → Bool
is_of party (requirements.Height height) = false
is_of party (requirements.Signature which input label verb) = bytes_eq (label_party label) party
is_of party (requirements.Wallet which input deposit owner verb) = bytes_eq owner party
is_of party (requirements.Deposit name) = false
is_of party (requirements.Secret name holder) = bytes_eq holder party
is_of party requirements.DepositGone = false
is_of party requirements.PredicateFalse = false

-- whether a transaction that these are missing for, and that may still come, waits for the party
abbrev pub waits_for : List ℕ → List Requirement → Bool
waits_for party ws = not (list_any is_never ws) && list_any (is_of party) ws

-- the participants on whom a transaction waits, in order
abbrev pub awaited : Instance → List (List Requirement) → List (List ℕ)
awaited s all_outstanding = filter (λ party. list_any (waits_for party) all_outstanding) (people s)
