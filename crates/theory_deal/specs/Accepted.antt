-- The ledger's verdict on a transaction, with any oracle of signatures in the place of the book of ideal ones; and what is claimed of it:
-- it accepts each finished transaction where the spent outputs are live and the lock is reached.
use Rattle.std.specs.Prelude.{◌≡◌, ℕ, ◌+◌, ◌<◌, ◌≤◌, List, [], ◌∷◌, length, map, Bool, true, false, not, ◌&&◌, ◌==◌, Option, Some, None, is_some, Ok, slice_get}
use Rattle.std.specs.List.{Contains, list_any}
use Rattle.std.specs.Option.{option_map, option_map_or, option_and_then}
use Rattle.std.specs.Str.{bytes_eq}
use Rattle.spec_data.specs.Hashes.{IsHash}
use Rattle.spec_data.specs.Lists.{first_reason, or_else}
use Rattle.spec_terms.specs.Advert.{Advert}
use Rattle.spec_terms.specs.Faults.{IsWellFormed}
use Rattle.spec_bitcoin.specs.declared.tx.OutPoint.{OutPoint}
use Rattle.spec_bitcoin.specs.declared.tx.TxIn.{TxIn}
use Rattle.spec_bitcoin.specs.declared.tx.TxOut.{TxOut}
use Rattle.spec_bitcoin.specs.declared.tx.Tx.{Tx}
use Rattle.spec_bitcoin.specs.declared.verdict.Refusal.{Refusal}
use Rattle.spec_bitcoin.specs.declared.verdict.Refusal.TheVariants.{ScriptSigNotEmpty, NotWitnessScript, ScriptMismatch, ItemTooLong}
use Rattle.spec_bitcoin.specs.declared.verdict.Refusal.TheVariants.{ScriptFalse, NotFinal}
use Rattle.spec_bitcoin.specs.declared.verdict.Verdict.{Verdict}
use Rattle.spec_bitcoin.specs.declared.verdict.Verdict.TheVariants.{Accepted, Refused}
use Rattle.spec_bitcoin.specs.Digests.{digest}
use Rattle.spec_bitcoin.specs.Keys.{Pair, is_valid}
use Rattle.spec_bitcoin.specs.Live.{Entry, Chain, at_place}
use Rattle.spec_bitcoin.specs.Meaning.{script_meaning}
use Rattle.spec_bitcoin.specs.Spelling.{is_filled}
use Rattle.spec_bitcoin.specs.Verdict.{whole_row, pays_to_script, program_of, script_of, items_of, is_long}
use Rattle.spec_bitcoin.specs.Verdict.{spent_value, spent_number, numbers_from, verdict_for, verdict}
use Rattle.spec_compiler.specs.Keyed.Keys.{Keys}
use Rattle.spec_compiler.specs.Keyed.Instance.{Instance}
use Rattle.spec_compiler.specs.declared.unsigned.Spent.{Spent}
use Rattle.spec_compiler.specs.Keyed.Statements.{AreKeyDeposits}
use Rattle.spec_compiler.specs.Keyed.Transactions.{pays}
use Rattle.spec_tool.specs.declared.which.Which.{Which}
use Rattle.spec_tool.specs.Keyed.Listed.{Listed, listed_at}
use Rattle.spec_deal.specs.declared.deal.Deal.{Deal}
use Rattle.spec_deal.specs.declared.entry.Shown.{Shown}
use Rattle.spec_deal.specs.declared.signed.Signed.{Signed}
use Rattle.spec_deal.specs.Answers.{circular}
use Rattle.spec_deal.specs.DealFile.{read_deal}
use Rattle.spec_deal.specs.Finished.{finished, finish_refusal}
use Rattle.spec_deal.specs.Setting.{deal_keys, deal_instance}
use Rattle.spec_deal.specs.SignatureFile.{read_signatures}
use Rattle.spec_deal.specs.Verifier.{Verifier}
use Rattle.spec_deal.specs.declared.transaction.Wallet.{Wallet}
use Rattle.spec_deal.specs.Wallets.{input_wallet, spent_output}
use Rattle.theory_deal.specs.Finished.{Oracle, accepts, Agrees, KeysAgree}
use Rattle.theory_deal.specs.Whole.{AreRead}

-- ---- a verdict by an oracle

-- the conditions on input k, which spends this output, in their order; its script asks the oracle
abbrev pub judged_row : (List ℕ → List ℕ) → Oracle → ℕ → TxIn → TxOut → List (Bool × Refusal)
judged_row hash oracle k input output =
    (not (length input.script_sig == 0), ScriptSigNotEmpty k)
    ∷ (not (pays_to_script output.script && is_filled input.witness), NotWitnessScript k)
    ∷ (not (bytes_eq (hash (script_of input.witness)) (program_of output.script)), ScriptMismatch k)
    ∷ (list_any is_long (items_of input.witness), ItemTooLong k)
    ∷ (not (script_meaning hash (oracle k) (script_of input.witness) (items_of input.witness)), ScriptFalse k)
    ∷ []

-- the refusal of input k; none where its output isn't live
abbrev pub judged_input : (List ℕ → List ℕ) → Oracle → List Entry → ℕ → TxIn → Option Refusal
judged_input hash oracle live k input =
    option_and_then (λ p. first_reason (judged_row hash oracle k input p.1)) (at_place live input.prev)

-- the first refusal of an input, counted from k
abbrev pub judged_inputs : (List ℕ → List ℕ) → Oracle → List Entry → ℕ → List TxIn → Option Refusal
judged_inputs hash oracle live k [] = None
judged_inputs hash oracle live k (i ∷ is) = or_else (judged_input hash oracle live k i) (judged_inputs hash oracle live (k + 1) is)

-- the first refusal that holds
abbrev pub judged_refusal : (List ℕ → List ℕ) → Oracle → ℕ → List Entry → Tx → Option Refusal
judged_refusal hash oracle tip live tx =
    or_else (first_reason (whole_row tip live tx)) (judged_inputs hash oracle live 0 tx.inputs)

abbrev pub judged_verdict : (List ℕ → List ℕ) → Oracle → Chain → Tx → Verdict
judged_verdict hash oracle chain tx = verdict_for chain tx (judged_refusal hash oracle chain.tip chain.live tx)

-- ---- oracles by digest

-- what a ledger asks a signature of input k to be of, by the output that the input spends and the script that its witness shows
abbrev pub digest_on : (List ℕ → List ℕ) → List Entry → Tx → ℕ → List ℕ
digest_on hash live tx k =
    option_map_or (λ input. digest hash tx input (script_of input.witness) (spent_value live input)) (slice_get tx.inputs k) []

-- the oracle of a ledger on which these signatures and keys are valid for a digest
abbrev pub oracle_on : (List ℕ → List ℕ → List ℕ → Bool) → (List ℕ → List ℕ) → List Entry → Tx → Oracle
oracle_on valid hash live tx = λ k signature key. valid (digest_on hash live tx k) signature key

-- by the book of ideal signatures this is the verdict of the ledger
abbrev pub VerdictByBook : Type 0
VerdictByBook =
    (hash : List ℕ → List ℕ) (book : List Pair) (chain : Chain) (tx : Tx)
    → judged_verdict hash (oracle_on (is_valid book) hash chain.live tx) chain tx ≡ verdict hash book chain tx

-- the verdict of a ledger whose signatures a verifier finds good: for secp256k1 that of Bitcoin's consensus, as far as it is defined here
abbrev pub verdict_by : Verifier → (List ℕ → List ℕ) → Chain → Tx → Verdict
verdict_by v hash chain tx =
    judged_verdict hash (oracle_on (λ digest signature key. v.is_signature key digest signature) hash chain.live tx) chain tx

-- the output that is live at a place
abbrev pub output_at : List Entry → OutPoint → Option TxOut
output_at live place = option_map (λ p. p.1) (at_place live place)

-- ---- with the inputs of wallets

-- whether consensus takes the witness of the input of this number, of a transaction whose inputs spend these outputs
abbrev pub Consensus : Type 0
Consensus = Tx → List (Option TxOut) → ℕ → Bool

abbrev pub spent_outputs : List Entry → Tx → List (Option TxOut)
spent_outputs live tx = map (λ (input : TxIn). output_at live input.prev) tx.inputs

-- what checks the inputs of a transaction: of signatures by keys of a deal an oracle, of the inputs that wallets sign consensus
pub record InputCheck : Type 0 where
  pub oracle : Oracle
  pub takes : Consensus
  pub of_wallet : ℕ → Bool

-- the conditions on input k, which a wallet signs, in their order: nothing is known of its script
abbrev pub wallet_row : Bool → ℕ → TxIn → List (Bool × Refusal)
wallet_row taken k input = (not (length input.script_sig == 0), ScriptSigNotEmpty k) ∷ (not taken, ScriptFalse k) ∷ []

abbrev pub row_by : (List ℕ → List ℕ) → InputCheck → List Entry → Tx → Bool → ℕ → TxIn → TxOut → List (Bool × Refusal)
row_by hash input_check live tx false k input output = judged_row hash input_check.oracle k input output
row_by hash input_check live tx true k input output = wallet_row (input_check.takes tx (spent_outputs live tx) k) k input

-- the refusal of input k; none where its output isn't live
abbrev pub input_by : (List ℕ → List ℕ) → InputCheck → List Entry → Tx → ℕ → TxIn → Option Refusal
input_by hash input_check live tx k input =
    option_and_then (λ p. first_reason (row_by hash input_check live tx (input_check.of_wallet k) k input p.1)) (at_place live input.prev)

-- the first refusal of an input, counted from k
abbrev pub inputs_by : (List ℕ → List ℕ) → InputCheck → List Entry → Tx → ℕ → List TxIn → Option Refusal
inputs_by hash input_check live tx k [] = None
inputs_by hash input_check live tx k (i ∷ is) = or_else (input_by hash input_check live tx k i) (inputs_by hash input_check live tx (k + 1) is)

-- the verdict of these checks
abbrev pub verdict_of : (List ℕ → List ℕ) → InputCheck → Chain → Tx → Verdict
verdict_of hash input_check chain tx =
    verdict_for chain tx
    (or_else (first_reason (whole_row chain.tip chain.live tx)) (inputs_by hash input_check chain.live tx 0 tx.inputs))

-- ---- finished transactions

-- accepted, with the birth numbers of what is spent and of what is made
abbrev pub accepted_on : Chain → Tx → Verdict
accepted_on chain tx = Accepted (map (spent_number chain.live) tx.inputs) (numbers_from chain.births tx.outputs)

-- the wallets that sign the inputs of a transaction of a deal
abbrev pub wallets_of : Keys → Instance → Listed → ℕ → Option Wallet
wallets_of keys s l k = input_wallet keys s.advert l.which k

abbrev pub input_checks : Keys → Instance → Listed → Oracle → Consensus → InputCheck
input_checks keys s l oracle takes =
    record { oracle = oracle; takes = takes; of_wallet = λ k. is_some (wallets_of keys s l k) }

-- where each of its inputs spends, what lies is the plan's: this value, at the wallet's script, or for whoever shows this script
abbrev pub AllLive : (List ℕ → List ℕ) → List Entry → (ℕ → Option Wallet) → List Spent → Type 0
AllLive hash live wallet spends = (k : ℕ) (x : Spent) → slice_get spends k ≡ Some x
    → output_at live x.outpoint ≡ Some (spent_output hash (wallet k) x)

-- consensus takes the witness of each input that a wallet signs
abbrev pub AllTaken : Consensus → (ℕ → Option Wallet) → List Entry → Tx → Type 0
AllTaken takes wallet live tx = (k : ℕ) (w : Wallet) → wallet k ≡ Some w → takes tx (spent_outputs live tx) k ≡ true

-- what such checks say of a finished transaction, on each ledger on which what it spends is live
pub record IsJudged (v : Verifier) (hash : List ℕ → List ℕ) (keys : Keys) (s : Instance) (given : List Signed) (strings : List Shown)
    (l : Listed) : Type 0 where
  -- from its lock on they accept it, where the oracle accepts the given signatures and consensus takes the witnesses of wallets
  pub judged : (oracle : Oracle) (takes : Consensus) (chain : Chain) → accepts hash keys s given oracle l ≡ true
      → AllLive hash chain.live (wallets_of keys s l) l.pending.spends
      → AllTaken takes (wallets_of keys s l) chain.live (finished hash keys s given strings l) → l.pending.lock ≤ chain.tip
      → verdict_of hash (input_checks keys s l oracle takes) chain (finished hash keys s given strings l)
      ≡ accepted_on chain (finished hash keys s given strings l)
  -- and where the oracle agrees with the verifier at the inputs that keys of the deal sign
  pub agreed : (oracle : Oracle) (takes : Consensus) (chain : Chain) → KeysAgree v hash keys s l oracle
      → AllLive hash chain.live (wallets_of keys s l) l.pending.spends
      → AllTaken takes (wallets_of keys s l) chain.live (finished hash keys s given strings l) → l.pending.lock ≤ chain.tip
      → verdict_of hash (input_checks keys s l oracle takes) chain (finished hash keys s given strings l)
      ≡ accepted_on chain (finished hash keys s given strings l)
  -- as the verifier itself does, of the digests that the ledger asks for
  pub verified : (takes : Consensus) (chain : Chain)
      → AllLive hash chain.live (wallets_of keys s l) l.pending.spends
      → AllTaken takes (wallets_of keys s l) chain.live (finished hash keys s given strings l) → l.pending.lock ≤ chain.tip
      → verdict_of hash
      (input_checks keys s l
      (oracle_on (λ digest signature key. v.is_signature key digest signature) hash chain.live (finished hash keys s given strings l)) takes)
      chain (finished hash keys s given strings l)
      ≡ accepted_on chain (finished hash keys s given strings l)
  -- there is such a ledger at each height
  pub possible : (tip : ℕ) → (chain : Chain) × (chain.tip ≡ tip) × AllLive hash chain.live (wallets_of keys s l) l.pending.spends
  -- before its lock none accepts it
  pub early : (oracle : Oracle) (takes : Consensus) (chain : Chain) → AllLive hash chain.live (wallets_of keys s l) l.pending.spends
      → chain.tip < l.pending.lock
      → verdict_of hash (input_checks keys s l oracle takes) chain (finished hash keys s given strings l) ≡ Refused NotFinal

-- where each of these is spent, what lies is the plan's: this value, for whoever shows this script
abbrev pub AreLive : (List ℕ → List ℕ) → List Entry → List Spent → Type 0
AreLive hash live spends = (x : Spent) → Contains spends x → output_at live x.outpoint ≡ Some (pays hash x.script x.value)

-- where all deposits are of keys: on each ledger on which what it spends is live, and at each height from its lock on, the verdict accepts it
pub record IsAccepted (v : Verifier) (hash : List ℕ → List ℕ) (keys : Keys) (s : Instance) (given : List Signed) (strings : List Shown)
    (l : Listed) : Type 0 where
  -- by checks of the inputs that keys of the deal sign, and of those of wallets
  pub by_input_checks : IsJudged v hash keys s given strings l
  -- this verdict is the ledger's, with an oracle in the place of the book of ideal signatures
  pub by_book : (book : List Pair) (chain : Chain)
      → judged_verdict hash (oracle_on (is_valid book) hash chain.live (finished hash keys s given strings l)) chain
      (finished hash keys s given strings l)
      ≡ verdict hash book chain (finished hash keys s given strings l)
  -- by every oracle that accepts the given signatures
  pub judged : AreKeyDeposits keys → (oracle : Oracle) (chain : Chain) → accepts hash keys s given oracle l ≡ true → AreLive hash chain.live l.pending.spends
      → l.pending.lock ≤ chain.tip
      → judged_verdict hash oracle chain (finished hash keys s given strings l) ≡ accepted_on chain (finished hash keys s given strings l)
  -- by every oracle that agrees with the verifier
  pub agreed : AreKeyDeposits keys → (oracle : Oracle) (chain : Chain) → Agrees v hash l oracle → AreLive hash chain.live l.pending.spends → l.pending.lock ≤ chain.tip
      → judged_verdict hash oracle chain (finished hash keys s given strings l) ≡ accepted_on chain (finished hash keys s given strings l)
  -- by the verifier itself, of the digests that the ledger asks for, with nothing asked of it
  pub verified : AreKeyDeposits keys → (chain : Chain) → AreLive hash chain.live l.pending.spends → l.pending.lock ≤ chain.tip
      → verdict_by v hash chain (finished hash keys s given strings l) ≡ accepted_on chain (finished hash keys s given strings l)
  -- there is such a ledger at each height
  pub possible : (tip : ℕ) → (chain : Chain) × (chain.tip ≡ tip) × AreLive hash chain.live l.pending.spends
  -- and before its lock none accepts it
  pub early : (oracle : Oracle) (chain : Chain) → AreLive hash chain.live l.pending.spends → chain.tip < l.pending.lock
      → judged_verdict hash oracle chain (finished hash keys s given strings l) ≡ Refused NotFinal

-- of every well-formed contract and all files that are taken, where none of its deposits is made by the contract itself
abbrev pub AcceptedTheorem : Type 0
AcceptedTheorem =
    (v : Verifier) (hash : List ℕ → List ℕ) (advert : Advert) (deal_text : List ℕ) (deal : Deal) (file : List ℕ) (given : List Signed)
    (strings : List Shown) (which : Which) (l : Listed)
    → IsHash hash → IsWellFormed advert → read_deal v advert deal_text ≡ Ok deal
    → circular hash (deal_keys deal) (deal_instance advert deal) ≡ None
    → read_signatures v hash (deal_keys deal) (deal_instance advert deal) file ≡ Ok given
    → AreRead hash (deal_keys deal) (deal_instance advert deal) strings
    → listed_at hash (deal_keys deal) (deal_instance advert deal) which ≡ Some l
    → finish_refusal hash (deal_keys deal) (deal_instance advert deal) given strings l ≡ None
    → IsAccepted v hash (deal_keys deal) (deal_instance advert deal) given strings l
