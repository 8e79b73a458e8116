-- The transactions of a contract under their names, read off the lists of what it is compiled to.
use Rattle.std.specs.Prelude.{ℕ, ◌+◌, List, [], ◌∷◌, ◌++◌, map, filter, not, Bool, if◌then◌else◌, Option, Some, None}
use Rattle.std.specs.List.{flat_map}
use Rattle.std.specs.Option.{option_map_or}
use Rattle.spec_terms.specs.Advert.{Advert}
use Rattle.spec_terms.specs.Paths.{at}
use Rattle.spec_terms.specs.declared.path.PathStep.{PathStep}
use Rattle.spec_bitcoin.specs.declared.label.Label.{Label}
use Rattle.spec_bitcoin.specs.declared.tx.Tx.{Tx}
use Rattle.spec_bitcoin.specs.Keys.{Pair, key_of, has_signed}
use Rattle.spec_compiler.specs.declared.prepared.Prepared.{Prepared}
use Rattle.spec_compiler.specs.Endorsements.{put_owner}
use Rattle.spec_compiler.specs.Transactions.{tx_of}
use Rattle.spec_run.specs.Ledger.{same_bare}
use Rattle.spec_tool.specs.declared.which.Which.{Which}
use Rattle.spec_tool.specs.declared.which.Which.TheVariants as names
use Rattle.spec_tool.specs.declared.finding.Finding.{Finding}
use Rattle.spec_tool.specs.Listed.{Listed, deposit_signer, initial_signers, branch_signers}
use Rattle.spec_tool.specs.Audit.{Missing, is_named}
use Rattle.bm_compile.specs.Numbered.{Numbered}
use Rattle.bm_audit_listed.specs.declared.entries.Candidate.{Candidate}

-- ---- the transactions

abbrev pub path_candidate : List PathStep × Prepared → Candidate
path_candidate p = record { which = names.At (p.0); tx = p.1.tx }

-- of what a contract is compiled to: the initial one, and then those of the paths
abbrev pub candidates_of : Numbered → List Candidate
candidates_of c = record { which = names.Init; tx = c.init.tx } ∷ map path_candidate c.paths

-- none where it isn't compiled
abbrev pub candidates_by : Option Numbered → List Candidate
candidates_by None = []
candidates_by (Some c) = candidates_of c

-- a transaction of the definitions without what it spends and who signs it
abbrev pub as_candidate : Listed → Candidate
as_candidate l = record { which = l.which; tx = tx_of l.pending }

-- ---- which of them a transaction is

-- the names of all of these that the transaction is without its witnesses
abbrev pub names_of : List Candidate → Tx → List Which
names_of cs tx = map (λ (c : Candidate). c.which) (filter (λ (c : Candidate). same_bare tx c.tx) cs)

-- ---- which of them no finding names

abbrev pub absent_among : List Candidate → List Finding → List Which
absent_among cs findings = filter (λ which. not (is_named findings which)) (map (λ (c : Candidate). c.which) cs)

-- ---- who signs

abbrev pub put_signer : Advert → List ℕ → List Label
put_signer advert name = deposit_signer (put_owner advert name)

abbrev pub path_signers : ℕ → Advert → List PathStep → List (List Label)
path_signers contract advert path = option_map_or (branch_signers contract advert path) (at advert.root path) []

-- ---- which signatures are missing

-- the label, where its key hasn't signed the digest of this input
abbrev pub missing_label : (List ℕ → List ℕ) → List Pair → Which → ℕ → List ℕ → Label → List Missing
missing_label hash book which k digest label = if has_signed book (key_of hash label) digest then [] else (which, k, label) ∷ []

-- of the inputs from number k on, by who signs them and their digests
abbrev pub missing_by : (List ℕ → List ℕ) → List Pair → Which → ℕ → List (List Label) → List (List ℕ) → List Missing
missing_by hash book which k [] digests = []
missing_by hash book which k (labels ∷ signers) [] = []
missing_by hash book which k (labels ∷ signers) (digest ∷ digests) =
    flat_map (missing_label hash book which k digest) labels ++ missing_by hash book which (k + 1) signers digests

abbrev pub path_missing : (List ℕ → List ℕ) → List Pair → ℕ → Advert → List PathStep × Prepared → List Missing
path_missing hash book contract advert p = missing_by hash book (names.At (p.0)) 0 (path_signers contract advert (p.0)) p.1.digests

-- of a contract of this number that is compiled so
abbrev pub missing_in : (List ℕ → List ℕ) → List Pair → ℕ → Advert → Numbered → List Missing
missing_in hash book contract advert c =
    missing_by hash book names.Init 0 (initial_signers advert) c.init.digests ++ flat_map (path_missing hash book contract advert) c.paths
