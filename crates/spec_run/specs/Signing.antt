-- What parties sign: endorsements, deposits of an initial transaction, branches that ask them, and what a dishonest party likes.
use Rattle.std.specs.Prelude.{ℕ, List, [], ◌∷◌, ◌++◌, Bool, not, if◌then◌else◌, Option, Some, None, is_some}
use Rattle.std.specs.Str.{bytes_eq}
use Rattle.spec_data.specs.Lists.{is_among, first_reason}
use Rattle.spec_terms.specs.Core.{asks}
use Rattle.spec_terms.specs.Term as term
use Rattle.spec_terms.specs.Precondition.{Holding, persistent}
use Rattle.spec_terms.specs.declared.path.PathStep.{PathStep}
use Rattle.spec_bitcoin.specs.declared.label.Label.{Label}
use Rattle.spec_bitcoin.specs.declared.label.Label.TheVariants as labels
use Rattle.spec_bitcoin.specs.Keys.{Pair, key_of, label_text, has_signed}
use Rattle.spec_compiler.specs.declared.prepared.Prepared.{Prepared}
use Rattle.spec_compiler.specs.Instance.{Instance, branch_label, deposit_key}
use Rattle.spec_compiler.specs.Compilation.{compilation}
use Rattle.spec_compiler.specs.ByPath.{prepared_at}
use Rattle.spec_compiler.specs.Endorsements.{Need, needed, missing_endorsement}
use Rattle.spec_run.specs.declared.outcome.Reason.{Reason}
use Rattle.spec_run.specs.declared.outcome.Reason.TheVariants as reason
use Rattle.spec_run.specs.Setup.{Setup, has_contract, takes_part, is_honest}
use Rattle.spec_run.specs.World.{ContractPosition, World, live_position_at}
use Rattle.spec_run.specs.Compiled.{compiled_instance}
use Rattle.spec_run.specs.Ledger.{position_path, position_branch}
use Rattle.spec_run.specs.Pending.{Pending, done, unless}

-- ---- the book

-- the book with a pair that is signed; one that is there isn't added
abbrev pub signed : List Pair → Pair → List Pair
signed book pair = if has_signed book (pair.0) (pair.1) then book else book ++ pair ∷ []

-- the book after these pairs are signed in turn
abbrev pub signed_all : List Pair → List Pair → List Pair
signed_all book [] = book
signed_all book (p ∷ ps) = signed_all (signed book p) ps

abbrev pub with_pairs : World → List Pair → World
with_pairs w pairs = record w { book = signed_all w.book pairs }

-- ---- endorsing

-- the signatures that a compiled contract needs, by path in the order of the text
abbrev pub needs_at : Setup → Instance → List Need
needs_at s instance = needed s.hash instance

-- the pairs of those of these needs that are the party's
abbrev pub pairs_of_party : List ℕ → List Need → List Pair
pairs_of_party party [] = []
pairs_of_party party (need ∷ rest) =
    if bytes_eq need.party party then (need.key, need.digest) ∷ pairs_of_party party rest else pairs_of_party party rest

-- what a party signs to endorse a contract, where it is compiled
abbrev pub endorsing_pairs : Setup → List ℕ → Option Instance → List Pair
endorsing_pairs s party None = []
endorsing_pairs s party (Some instance) = pairs_of_party party (needs_at s instance)

-- `endorse K A`: the contract is there, the party takes part, and all have committed
abbrev pub endorse_row : Setup → World → ℕ → List ℕ → List (Bool × Reason)
endorse_row s w contract party =
    (not (has_contract s contract), reason.NoContract)
    ∷ (not (takes_part s contract party), reason.NotParticipant)
    ∷ (not (is_some (compiled_instance s w contract)), reason.NotAllCommitted)
    ∷ []

abbrev pub endorse_pending : Setup → World → ℕ → List ℕ → Pending
endorse_pending s w contract party =
    unless (first_reason (endorse_row s w contract party)) w []
    (done (with_pairs w (endorsing_pairs s party (compiled_instance s w contract))) [])

-- ---- signing the initial transaction

-- the pairs of a party's deposits among these, with the digests of their inputs
abbrev pub pairs_of_deposits : Setup → List ℕ → List (List ℕ × Holding) → List (List ℕ) → List Pair
pairs_of_deposits s party [] digests = []
pairs_of_deposits s party (d ∷ ds) [] = []
pairs_of_deposits s party (d ∷ ds) (digest ∷ digests) =
    if bytes_eq (d.1).owner party then (deposit_key s.hash party, digest) ∷ pairs_of_deposits s party ds digests
    else pairs_of_deposits s party ds digests

-- what a party signs of the initial transaction, where the contract is compiled
abbrev pub initial_pairs : Setup → List ℕ → Option Instance → List Pair
initial_pairs s party None = []
initial_pairs s party (Some instance) =
    pairs_of_deposits s party (persistent instance.advert.pre) (compilation s.hash instance).init.digests

-- the first endorsement that is missing, where the contract is compiled
abbrev pub missing_need : Setup → World → Option Instance → Option Need
missing_need s w None = None
missing_need s w (Some instance) = missing_endorsement s.hash instance w.book

-- the first endorsement that an honest party misses
abbrev pub missed_need : Setup → World → ℕ → List ℕ → Option Need
missed_need s w contract party = if is_honest s party then missing_need s w (compiled_instance s w contract) else None

-- a missing endorsement as a reason, by its path and its party
abbrev pub not_endorsed : Option Need → Reason
not_endorsed None = reason.NotEndorsed [] []
not_endorsed (Some need) = reason.NotEndorsed need.path need.party

-- `init K A`: as for an endorsement, and an honest party waits for all of them
abbrev pub init_row : Setup → World → ℕ → List ℕ → List (Bool × Reason)
init_row s w contract party =
    (not (has_contract s contract), reason.NoContract)
    ∷ (not (takes_part s contract party), reason.NotParticipant)
    ∷ (not (is_some (compiled_instance s w contract)), reason.NotAllCommitted)
    ∷ (is_some (missed_need s w contract party), not_endorsed (missed_need s w contract party))
    ∷ []

abbrev pub init_pending : Setup → World → ℕ → List ℕ → Pending
init_pending s w contract party =
    unless (first_reason (init_row s w contract party)) w []
    (done (with_pairs w (initial_pairs s party (compiled_instance s w contract))) [])

-- ---- authorising a branch

-- the parties whom a branch asks, nobody without one
abbrev pub asked_by : Option term.Guarded → List (List ℕ)
asked_by None = []
asked_by (Some b) = asks b

-- the branch of this number of what is held
abbrev pub branch_if_live : Setup → Option ContractPosition → ℕ → Option term.Guarded
branch_if_live s None branch = None
branch_if_live s (Some held) branch = position_branch s held branch

-- `authorise A #n i`: there is an active contract of this number, it has the branch, and the branch asks the party
abbrev pub authorise_row : Setup → World → List ℕ → ℕ → ℕ → List (Bool × Reason)
authorise_row s w party output branch =
    (not (is_some (live_position_at w output)), reason.NotActive)
    ∷ (not (is_some (branch_if_live s (live_position_at w output) branch)), reason.NoBranch)
    ∷ (not (is_among party (asked_by (branch_if_live s (live_position_at w output) branch))), reason.NotAsked)
    ∷ []

-- the first of the digests, none without one
abbrev pub first_of : List (List ℕ) → List ℕ
first_of [] = []
first_of (digest ∷ digests) = digest

-- the digest of a transaction's first input
abbrev pub first_digest : Prepared → List ℕ
first_digest made = first_of made.digests

-- the pair of a party's key of a branch and the digest of the branch's transaction
abbrev pub branch_pair : Setup → List ℕ → ℕ → List PathStep → Option Prepared → List Pair
branch_pair s party contract path None = []
branch_pair s party contract path (Some made) = (key_of s.hash (branch_label contract path party), first_digest made) ∷ []

-- the transaction of a path, where the contract is compiled
abbrev pub prepared_if_compiled : Setup → Option Instance → List PathStep → Option Prepared
prepared_if_compiled s None path = None
prepared_if_compiled s (Some instance) path = prepared_at s.hash instance path

-- what a party signs to authorise a branch of what is held
abbrev pub authorising_pairs : Setup → World → List ℕ → Option ContractPosition → ℕ → List Pair
authorising_pairs s w party None branch = []
authorising_pairs s w party (Some held) branch =
    branch_pair s party held.contract (position_path held branch)
    (prepared_if_compiled s (compiled_instance s w held.contract) (position_path held branch))

abbrev pub authorise_pending : Setup → World → List ℕ → ℕ → ℕ → Pending
authorise_pending s w party output branch =
    unless (first_reason (authorise_row s w party output branch)) w []
    (done (with_pairs w (authorising_pairs s w party (live_position_at w output) branch)) [])

-- ---- signing at will

-- the party of a label
abbrev pub label_party : Label → List ℕ
label_party (labels.Deposit party) = party
label_party (labels.Branch contract path party) = party

-- `sign B LABEL HEX64`: the party isn't honest, and the label is its own
abbrev pub sign_row : Setup → List ℕ → Label → List (Bool × Reason)
sign_row s party label =
    (is_honest s party, reason.Honest)
    ∷ (not (bytes_eq (label_party label) party), reason.NotOwner)
    ∷ []

abbrev pub sign_pending : Setup → World → List ℕ → Label → List ℕ → Pending
sign_pending s w party label digest =
    unless (first_reason (sign_row s party label)) w []
    (done (with_pairs w ((key_of s.hash label, digest) ∷ [])) (label_text label ∷ []))
