-- The transactions of a compiled contract, each with what it spends and the labels whose keys sign its inputs, input by input. The keys
-- are any.
use Rattle.std.specs.Prelude.{ℕ, List, [], ◌∷◌, map, Bool, true, false, Option, Some, codes}
use Rattle.std.specs.Option.{option_map, option_map_or}
use Rattle.spec_terms.specs.Term as term
use Rattle.spec_terms.specs.Advert.{Advert}
use Rattle.spec_terms.specs.Core.{core, puts_of}
use Rattle.spec_terms.specs.Parties.{participants}
use Rattle.spec_terms.specs.Paths.{at, path_eq}
use Rattle.spec_terms.specs.Precondition.{persistent}
use Rattle.spec_terms.specs.declared.path.PathStep.{PathStep}
use Rattle.spec_bitcoin.specs.declared.label.Label.{Label}
use Rattle.spec_bitcoin.specs.declared.label.Label.TheVariants as labels
use Rattle.spec_bitcoin.specs.Keys.{path_text}
use Rattle.spec_compiler.specs.Keyed.Keys.{Keys}
use Rattle.spec_compiler.specs.Keyed.Instance.{Instance, branch_label}
use Rattle.spec_compiler.specs.declared.unsigned.Unsigned.{Unsigned}
use Rattle.spec_compiler.specs.Keyed.Transactions.{initial_unsigned}
use Rattle.spec_compiler.specs.Keyed.Compilation.{path_transactions}
use Rattle.spec_compiler.specs.Keyed.ByPath.{unsigned_at}
use Rattle.spec_compiler.specs.Keyed.Endorsements.{put_owner}
use Rattle.spec_tool.specs.declared.which.Which.{Which}
use Rattle.spec_tool.specs.declared.which.Which.TheVariants as names

-- a transaction by its name, what it does, and for each of its inputs the labels whose keys sign it
pub record Listed : Type 0 where
  pub which : Which
  pub pending : Unsigned
  pub signers : List (List Label)

-- ---- who signs

-- a party's key of its deposits signs alone
abbrev pub deposit_signer : List ℕ → List Label
deposit_signer party = labels.Deposit party ∷ []

-- of the initial transaction, the owners of the persistent deposits in order
abbrev pub initial_signers : Advert → List (List Label)
initial_signers advert = map (λ d. deposit_signer (d.1).owner) (persistent advert.pre)

-- of a branch, all participants for the position's output, and then the owners of the deposits that are put
abbrev pub branch_signers : ℕ → Advert → List PathStep → term.Guarded → List (List Label)
branch_signers contract advert path b =
    map (branch_label contract path) (participants advert) ∷ map (λ name. deposit_signer (put_owner advert name)) (puts_of (core b))

-- of the branch at a path, nobody where there is none
abbrev pub path_signers : Instance → List PathStep → List (List Label)
path_signers instance path = option_map_or (branch_signers instance.contract instance.advert path) (at instance.advert.root path) []

-- ---- the transactions

abbrev pub initial_listed : (List ℕ → List ℕ) → Keys → Instance → Listed
initial_listed hash keys instance =
    record { which = names.Init; pending = initial_unsigned hash keys instance; signers = initial_signers instance.advert }

abbrev pub path_listed : Instance → List PathStep → Unsigned → Listed
path_listed instance path pending = record { which = names.At path; pending = pending; signers = path_signers instance path }

-- all of them: the initial one, and then those of the paths in the order of the text
abbrev pub listed : (List ℕ → List ℕ) → Keys → Instance → List Listed
listed hash keys instance =
    initial_listed hash keys instance ∷ map (λ p. path_listed instance (p.0) (p.1)) (path_transactions hash keys instance)

-- the one of this name
abbrev pub listed_at : (List ℕ → List ℕ) → Keys → Instance → Which → Option Listed
listed_at hash keys instance names.Init = Some (initial_listed hash keys instance)
listed_at hash keys instance (names.At path) = option_map (path_listed instance path) (unsigned_at hash keys instance path)

-- ---- names

-- `init` or the path
abbrev pub which_text : Which → List ℕ
which_text names.Init = codes "init"
which_text (names.At path) = path_text path

abbrev pub same_which : Which → Which → Bool
same_which names.Init names.Init = true
same_which names.Init (names.At path) = false
same_which (names.At path) names.Init = false
same_which (names.At path) (names.At other) = path_eq path other
