-- A contract's transactions as partially signed ones, by what the contract is compiled to.
use Rattle.std.specs.Prelude.{◌≡◌, ℕ, suc, ◌-◌, List, [], ◌∷◌, length, map, true, if◌then◌else◌}
use Rattle.std.specs.Prelude.{Option, Some, None, IfSome, slice_get}
use Rattle.std.specs.Option.{option_map_or}
use Rattle.spec_terms.specs.Term as term
use Rattle.spec_terms.specs.Advert.{Advert}
use Rattle.spec_terms.specs.Core.{core, puts_of}
use Rattle.spec_terms.specs.Paths.{at}
use Rattle.spec_terms.specs.Parties.{participants}
use Rattle.spec_terms.specs.Precondition.{Holding, persistent, volatile}
use Rattle.spec_terms.specs.declared.pre.Pre.{Pre}
use Rattle.spec_terms.specs.declared.path.PathStep.{PathStep}
use Rattle.spec_terms.specs.declared.path.PathStep.TheVariants.{Branch as To, Part as Into}
use Rattle.spec_data.specs.Lists.{look_up}
use Rattle.spec_bitcoin.specs.declared.tx.TxOut.{TxOut}
use Rattle.spec_bitcoin.specs.Keys.{Pair, key_of, signature_of, has_signed}
use Rattle.spec_compiler.specs.declared.prepared.Prepared.{Prepared}
use Rattle.spec_compiler.specs.Instance.{deposit_key, branch_label}
use Rattle.spec_compiler.specs.Transactions.{pays, party_script, holding_or_none}
use Rattle.spec_tool.specs.declared.psbt.PsbtInput.{PsbtInput}
use Rattle.spec_tool.specs.Psbt.{Psbt, Pairing, is_before, insert_signature, is_psbt}
use Rattle.spec_tool.specs.PsbtText.{psbt_line, has_transaction, no_path_line, not_compiled_line}
use Rattle.spec_tool.specs.declared.which.Which.{Which}
use Rattle.spec_tool.specs.declared.which.Which.TheVariants as names
use Rattle.spec_tool.specs.Weights.{position_of}
use Rattle.theory_script.specs.Listed.{at_path}
use Rattle.bm_compile.specs.Numbered.{Numbered}

-- ---- signatures

-- how many signatures stand before a key's place
abbrev pub place_of : List ℕ → List Pairing → ℕ
place_of key [] = 0
place_of key (s ∷ ss) = if is_before key (s.0) then 0 else suc (place_of key ss)

-- the signatures of a digest by those of these keys whose pairs the book has, in ascending order of the keys
abbrev pub signed_by : List Pair → List (List ℕ) → List ℕ → List Pairing
signed_by book [] digest = []
signed_by book (key ∷ keys) digest =
    if has_signed book key digest then insert_signature (key, signature_of key digest) (signed_by book keys digest)
    else signed_by book keys digest

-- ---- inputs

-- an input that spends this output by this script, with the signatures that are there
abbrev pub input_with : List Pair → TxOut → List ℕ → List (List ℕ) → List ℕ → PsbtInput
input_with book output script keys digest =
    record { spent = Some output; partial = signed_by book keys digest; all = true; script = Some script; witness = None }

-- of a party's deposit
abbrev pub deposit_input : (List ℕ → List ℕ) → List Pair → Holding → List ℕ → PsbtInput
deposit_input hash book h digest =
    input_with book (pays hash (party_script hash h.owner) h.value) (party_script hash h.owner) (deposit_key hash h.owner ∷ []) digest

-- of the deposits of a precondition, by the digests of their inputs
abbrev pub persistent_inputs : (List ℕ → List ℕ) → List Pair → List (List ℕ × Holding) → List (List ℕ) → List PsbtInput
persistent_inputs hash book [] digests = []
persistent_inputs hash book (d ∷ ds) [] = []
persistent_inputs hash book (d ∷ ds) (digest ∷ digests) =
    deposit_input hash book (d.1) digest ∷ persistent_inputs hash book ds digests

-- the volatile deposit of this name
abbrev pub put_holding : List Pre → List ℕ → Holding
put_holding pre name = holding_or_none (look_up name (volatile pre))

-- of the deposits that are put
abbrev pub put_inputs : (List ℕ → List ℕ) → List Pair → List Pre → List (List ℕ) → List (List ℕ) → List PsbtInput
put_inputs hash book pre [] digests = []
put_inputs hash book pre (name ∷ names) [] = []
put_inputs hash book pre (name ∷ names) (digest ∷ digests) =
    deposit_input hash book (put_holding pre name) digest ∷ put_inputs hash book pre names digests

-- the keys of a branch, of all participants in order
abbrev pub branch_keys : (List ℕ → List ℕ) → ℕ → List PathStep → List (List ℕ) → List (List ℕ)
branch_keys hash contract path people = map (key_of hash) (map (branch_label contract path) people)

-- of a branch's transaction: the position's output, by its script, and then the deposits that are put
abbrev pub path_inputs : (List ℕ → List ℕ) → List Pair → ℕ → Advert → List PathStep → TxOut → List ℕ → List (List ℕ) → List (List ℕ)
    → List PsbtInput
path_inputs hash book contract advert path output script puts [] = []
path_inputs hash book contract advert path output script puts (digest ∷ digests) =
    input_with book output script (branch_keys hash contract path (participants advert)) digest
    ∷ put_inputs hash book advert.pre puts digests

-- ---- the outputs of positions

abbrev pub last_of : List PathStep → Option PathStep
last_of path = slice_get path (length path - 1)

abbrev pub output_of : Option Prepared → ℕ → Option TxOut
output_of None k = None
output_of (Some p) k = slice_get p.tx.outputs k

-- the output at a position that is reached by this last step
abbrev pub output_by : Option PathStep → List PathStep → Numbered → Option TxOut
output_by None position c = output_of (Some c.init) 0
output_by (Some (To i)) position c = output_of (at_path position c.paths) 0
output_by (Some (Into k)) position c = output_of (at_path (position_of position) c.paths) k

-- the output at a position
abbrev pub output_at : List PathStep → Numbered → Option TxOut
output_at position c = output_by (last_of position) position c

-- ---- the transactions

-- the initial one
abbrev pub init_psbt : (List ℕ → List ℕ) → List Pair → Advert → Numbered → Psbt
init_psbt hash book advert c =
    record { tx = c.init.tx; inputs = persistent_inputs hash book (persistent advert.pre) c.init.digests }

-- that of a branch, by what is found of it: its transaction, its position's output and script, and the branch
abbrev pub found_psbt : (List ℕ → List ℕ) → List Pair → ℕ → Advert → List PathStep → Option Prepared → Option TxOut → Option (List ℕ)
    → Option term.Guarded → Option Psbt
found_psbt hash book contract advert path (Some p) (Some output) (Some script) (Some b) =
    Some (record { tx = p.tx; inputs = path_inputs hash book contract advert path output script (puts_of (core b)) p.digests })
found_psbt hash book contract advert path _ _ _ _ = None

-- that of the branch at a path
abbrev pub path_psbt : (List ℕ → List ℕ) → List Pair → ℕ → Advert → List PathStep → Numbered → Option Psbt
path_psbt hash book contract advert path c =
    found_psbt hash book contract advert path (at_path path c.paths) (output_at (position_of path) c) (at_path (position_of path) c.scripts)
    (at advert.root path)

-- the one of this name, if there is one
abbrev pub named_psbt : (List ℕ → List ℕ) → List Pair → ℕ → Advert → Numbered → Which → Option Psbt
named_psbt hash book contract advert c names.Init = Some (init_psbt hash book advert c)
named_psbt hash book contract advert c (names.At path) = path_psbt hash book contract advert path c

-- what is there is a partially signed transaction
abbrev pub IsOne : Option Psbt → Type 0
IsOne o = IfSome o (λ p. is_psbt p ≡ true)

-- ---- what is printed

-- of a compiled contract of this number
abbrev pub set_told : (List ℕ → List ℕ) → List Pair → ℕ → Advert → Numbered → Which → List ℕ
set_told hash book contract advert c names.Init = psbt_line (init_psbt hash book advert c)
set_told hash book contract advert c (names.At path) =
    option_map_or psbt_line (path_psbt hash book contract advert path c) (no_path_line (names.At path))

abbrev pub compiled_told : (List ℕ → List ℕ) → List Pair → Advert → Option Numbered → Which → List ℕ
compiled_told hash book advert None which = not_compiled_line
compiled_told hash book advert (Some c) which = set_told hash book 0 advert c which

-- of a run's contract, compiled or not
abbrev pub psbt_told : (List ℕ → List ℕ) → List Pair → Advert → Option Numbered → Which → List ℕ
psbt_told hash book advert c which =
    if has_transaction (Some advert) which then compiled_told hash book advert c which else no_path_line which
