-- What the program for deals promises, from its words to its status.
use Rattle.std.specs.Prelude.{◌≡◌, ℕ, List, [], ◌++◌, map, filter, Bool, true, ◌⊎◌, ◌↔◌, ◌&&◌, ◌||◌, Option, Some, None, is_some, option_map, is_err, Ok}
use Rattle.std.specs.List.{list_all, Contains}
use Rattle.spec_terms.specs.Advert.{Advert}
use Rattle.spec_terms.specs.Paths.{contract_under}
use Rattle.spec_terms.specs.Term.{Contract}
use Rattle.spec_terms.specs.declared.path.PathStep.{PathStep}
use Rattle.spec_compiler.specs.Keyed.Hashed.{compiled_strings}
use Rattle.spec_compiler.specs.Keyed.Instance.{people}
use Rattle.spec_compiler.specs.Keyed.Statements.{is_short, OpensExactly}
use Rattle.spec_compiler.specs.Keyed.Transactions.{party_script}
use Rattle.spec_text.specs.Refusals.{contract_of}
use Rattle.spec_tool.specs.Answers.{contract_in}
use Rattle.spec_tool.specs.Commands.{Printed}
use Rattle.spec_tool.specs.declared.which.Which.{Which}
use Rattle.spec_tool.specs.Keyed.Listed.{Listed, listed_at}
use Rattle.spec_tool.specs.Reads.{Read, Text, text_at, texts_read}
use Rattle.spec_deal.specs.declared.deal.Deal.{Deal}
use Rattle.spec_deal.specs.declared.entry.Shown.{Shown}
use Rattle.spec_deal.specs.declared.signed.Signed.{Signed}
use Rattle.spec_deal.specs.Commands.{DealCommand}
use Rattle.spec_chain.specs.Answers.{chain_answer}
use Rattle.spec_chain.specs.Commands as chains
use Rattle.spec_chain.specs.Commands.{ChainCommand, on_deal, chain_files}
use Rattle.spec_deal.specs.DealFile.{read_deal}
use Rattle.spec_deal.specs.Finished.{finish_refusal}
use Rattle.spec_deal.specs.Hashed.{deal_strings}
use Rattle.spec_deal.specs.Setting.{deal_keys, deal_instance}
use Rattle.spec_deal.specs.SignatureFile.{read_signatures}
use Rattle.spec_deal.specs.Slots.{Slot}
use Rattle.spec_deal.specs.Used.{uses_key}
use Rattle.spec_deal.specs.Verifier.{secp256k1}
use Rattle.theory_deal.specs.Asked.{DealAsks}
use Rattle.theory_deal.specs.Circles.{NoneIsCircular}
use Rattle.theory_deal.specs.Causes.{reads_deal, reads_part, is_deal_refused, is_part_refused, causes, first_status}
use Rattle.theory_deal.specs.DealLines.{DealFilesAreRead, PartsAreRead}
use Rattle.theory_deal.specs.Ecdsa.{IsEcdsa}
use Rattle.theory_deal.specs.Files.{GivesAll, IsSized, HasScripts, are_points, is_witness, AreGiven, AreVerified, IsWalletWitness}
use Rattle.theory_deal.specs.FinishAnswers.{finishes, IsFinishedText}
use Rattle.theory_deal.specs.Finished.{NoOtherWay}
use Rattle.theory_deal.specs.ForSigners.{IsTaken, GivesSigners}
use Rattle.theory_deal.specs.NothingTwice.{GivesOnce}
use Rattle.theory_deal.specs.Plain.{PlainDeals}
use Rattle.theory_deal.specs.Plan.{IsPlanOfRuns}
use Rattle.theory_deal.specs.SecretLines.{SecretFilesAreRead}
use Rattle.theory_deal.specs.SignatureLines.{SignatureFilesAreRead}
use Rattle.theory_deal.specs.Signatures.{ListsExactly, StartsExactly}
use Rattle.theory_deal.specs.Used.{KeysAreUsed}
use Rattle.theory_deal.specs.Weights.{AreLight}
use Rattle.theory_deal.specs.Whole.{AreRead, IsComplete, IsFinished}
use Rattle.theory_deal_text.specs.Filled.{FilledKeysAreTaken}
use Rattle.theory_deal_text.specs.Statements.{Says}
use Rattle.theory_chain.specs.Aside.{AsideAnywhere}
use Rattle.theory_chain.specs.Files.{ChainsAreSpelled, ChainsAreRefused}
use Rattle.theory_chain.specs.Follows.{FollowedExactly, RefusedExactly}
use Rattle.theory_chain.specs.GoingOn.{WhatCanGoesOn}
use Rattle.theory_chain.specs.OwnAccepted.{OwnIsAccepted}
use Rattle.theory_chain.specs.Reasons.{BadExactly}
use Rattle.theory_chain.specs.Refused.{AcceptedExactly, CannotIsRefused, NotAskedIsSpent}
use Rattle.theory_chain.specs.RequirementOrder.{RequirementsInOrder, WaitsExactly}
use Rattle.theory_chain.specs.Revealed.{RevealedExactly, RevealedOnce, SecretsExactly}
use Rattle.theory_follow.specs.ChainLines.{ChainsCome}
use Rattle.theory_follow.specs.LeftOut.{AsidesLeftOut}
use Rattle.theory_follow.specs.LiveMaps.{LedgersFollow}
use Rattle.theory_follow.specs.Taken.{TakenStands}
use Rattle.theory_state.specs.Causes.{causes as chain_causes}
use Rattle.theory_state.specs.StateAnswers.{IfStands}
use Rattle.theory_state_text.specs.Secrets.{IfTells}
use Rattle.theory_wallets.specs.Addresses.{AddressesOfDeals}
use Rattle.theory_wallets.specs.Dust.{WarnsOfValues}
use Rattle.theory_wallets.specs.ForWallets.{ForWallets}
use Rattle.theory_wallets.specs.Networks.{NetworksAddAddresses}
use Rattle.theory_wallets.specs.Ready.{PartiesEndorse, ReadyAndMissing}
use Rattle.theory_wallets.specs.Shown.{DealsAreShown}
use Rattle.bm_io.specs.Counts.{RoseBy}
use Rattle.tool_shell.specs.Around.{Around}
use Rattle.tool_shell.specs.Answered.{AnswersBy, AnswersByOrGivesUp, GivesUp}
use Rattle.deal_command.specs.Seen.{command}
use Rattle.bitml_deal.specs.declared.tool.DealCall.{DealCall}

-- ---- the call

-- the command that is served
abbrev pub seen : DealCall → ChainCommand
seen call = command call.command

-- ---- answers

-- the answers are those of the definition
abbrev pub Answers : (List ℕ → List ℕ) → Option ChainCommand → Around → Around → ℕ → Type 0
Answers hash command before now status = AnswersBy (chain_answer secp256k1 hash command) (option_map chain_files command) before now status

-- the same, or out of memory
abbrev pub AnswersOrGivesUp : (List ℕ → List ℕ) → Option ChainCommand → Around → Around → ℕ → Type 0
AnswersOrGivesUp hash command before now status =
    AnswersByOrGivesUp (chain_answer secp256k1 hash command) (option_map chain_files command) before now status

-- ---- causes

-- each status of a command's answer to the texts of its files comes exactly by its cause
pub record HasCauses (hash : List ℕ → List ℕ) (command : DealCommand) (texts : List Text) (status : ℕ) : Type 0 where
  -- the contract is refused
  pub contract_refused : (status ≡ 1) ↔ (is_err (contract_in (text_at texts 0)) ≡ true)
  -- the deal file is refused, or it gives a deposit that the deal itself makes or pays to one of its positions; one that may lack lines is
  -- refused for its lines alone
  pub deal_refused : (status ≡ 13)
      ↔ (((reads_deal command && is_deal_refused secp256k1 hash (contract_in (text_at texts 0)) (text_at texts 1))
      || (reads_part command && is_part_refused secp256k1 (contract_in (text_at texts 0)) (text_at texts 1))) ≡ true)
  -- the status is that of the first cause in their order, and 0 where there is none
  pub in_order : status ≡ first_status (causes secp256k1 hash command texts)

-- the same of a command on a chain
abbrev pub HasCausesOf : (List ℕ → List ℕ) → ChainCommand → List Text → ℕ → Type 0
HasCausesOf hash (on_deal command) texts status = HasCauses hash command texts status
HasCausesOf hash (chains.show contract deal) texts status = status ≡ first_status (chain_causes secp256k1 hash (chains.show contract deal) texts)
HasCausesOf hash (chains.state contract deal chain signatures) texts status =
    status ≡ first_status (chain_causes secp256k1 hash (chains.state contract deal chain signatures) texts)
HasCausesOf hash (chains.state_with contract deal chain signatures secrets) texts status =
    status ≡ first_status (chain_causes secp256k1 hash (chains.state_with contract deal chain signatures secrets) texts)

-- of what was read; a read that failed is answered by 3 and nothing
abbrev pub CausedByTexts : (List ℕ → List ℕ) → ChainCommand → Option (List Text) → Printed → Type 0
CausedByTexts hash command None printed = (printed.status ≡ 3) × (printed.text ≡ [])
CausedByTexts hash command (Some texts) printed = HasCausesOf hash command texts printed.status

-- of reads; words that are no command are answered by 2
abbrev pub Caused : (List ℕ → List ℕ) → Option ChainCommand → List Read → Printed → Type 0
Caused hash None reads printed = printed.status ≡ 2
Caused hash (Some command) reads printed = CausedByTexts hash command (texts_read reads) printed

-- ---- what is known of a deal that is taken

-- what `finish` prints of these signatures and secrets: it refuses exactly where something is missing, and its transaction has witnesses
-- that make all its scripts true
pub record Finishes (hash : List ℕ → List ℕ) (advert : Advert) (deal : Deal) (given : List Signed) (strings : List Shown) (l : Listed)
    : Type 0 where
  pub exactly : (finish_refusal hash (deal_keys deal) (deal_instance advert deal) given strings l ≡ None)
      ↔ IsComplete hash (deal_keys deal) (deal_instance advert deal) given strings l
  pub finished : finish_refusal hash (deal_keys deal) (deal_instance advert deal) given strings l ≡ None
      → IsFinished secp256k1 hash (deal_keys deal) (deal_instance advert deal) given strings l

-- of files that are taken and a transaction that there is
abbrev pub FinishesTaken : (List ℕ → List ℕ) → Advert → Deal → Type 0
FinishesTaken hash advert deal =
    (file : List ℕ) (given : List Signed) (strings : List Shown) (which : Which) (l : Listed)
    → read_signatures secp256k1 hash (deal_keys deal) (deal_instance advert deal) file ≡ Ok given
    → AreRead hash (deal_keys deal) (deal_instance advert deal) strings
    → listed_at hash (deal_keys deal) (deal_instance advert deal) which ≡ Some l
    → Finishes hash advert deal given strings l

-- the theorems on deals, for this one
pub record Keeps (hash : List ℕ → List ℕ) (advert : Advert) (deal : Deal) : Type 0 where
  pub gives_all : GivesAll advert deal
  pub sized : IsSized hash advert deal
  pub points : are_points secp256k1 deal ≡ true
  -- each output script that was given is of a kind that its wallet can spend, or be paid at
  pub scripts : HasScripts secp256k1 deal
  -- each key that signs was given
  pub given : AreGiven hash (deal_keys deal) (deal_instance advert deal)
  pub verified : (file : List ℕ) (given : List Signed)
      → read_signatures secp256k1 hash (deal_keys deal) (deal_instance advert deal) file ≡ Ok given
      → AreVerified secp256k1 hash (deal_keys deal) (deal_instance advert deal) given
  pub witnesses : (file : List ℕ) (given : List Signed)
      → read_signatures secp256k1 hash (deal_keys deal) (deal_instance advert deal) file ≡ Ok given
      → (g : Signed) → Contains given g → is_witness g ≡ true
      → IsWalletWitness secp256k1 hash (deal_keys deal) (deal_instance advert deal) g
  pub planned : IsPlanOfRuns hash deal.network (deal_keys deal) (deal_instance advert deal)
  pub asks : DealAsks hash (deal_keys deal) (deal_instance advert deal)
  -- what is hashed to compile it
  pub hashes : deal_strings hash (deal_keys deal) (deal_instance advert deal)
      ≡ map (party_script hash (deal_keys deal)) (filter (uses_key (deal_keys deal) advert) (people (deal_instance advert deal)))
      ++ compiled_strings hash (deal_keys deal) (deal_instance advert deal)
  pub lists : (given : List Signed) (slot : Slot) → ListsExactly hash (deal_keys deal) (deal_instance advert deal) given slot
  pub starts : (given : List Signed) → StartsExactly hash (deal_keys deal) (deal_instance advert deal) given
  pub finishes : FinishesTaken hash advert deal
  -- whatever judges signatures, the script of a position is true on exactly the stacks that open one of its branches: by the selectors,
  -- the secrets and every participant's signature of that branch
  pub opens : (valid : List ℕ → List ℕ → Bool) (position : List PathStep) (contract : Contract) (stack : List (List ℕ))
      → contract_under advert.root position ≡ Some contract → list_all is_short stack ≡ true
      → OpensExactly hash (deal_keys deal) valid (deal_instance advert deal) position contract stack
  pub no_other_way : (valid : List ℕ → List ℕ → Bool) → NoOtherWay hash (deal_keys deal) valid

-- where a contract and its deal are taken, whose file gives nothing twice
abbrev pub KeepsTaken : (List ℕ → List ℕ) → List Text → Type 0
KeepsTaken hash texts =
    (contract_text deal_text : List ℕ) (advert : Advert) (deal : Deal)
    → text_at texts 0 ≡ Some contract_text → text_at texts 1 ≡ Some deal_text
    → contract_of contract_text ≡ Ok advert → read_deal secp256k1 advert deal_text ≡ Ok deal
    → Keeps hash advert deal × GivesOnce deal_text

abbrev pub KeepsTexts : (List ℕ → List ℕ) → Option (List Text) → Type 0
KeepsTexts hash None = Unit {0}
KeepsTexts hash (Some texts) = KeepsTaken hash texts

-- ---- finished transactions

-- where `finish` answers 0, its text is one transaction, which is the plan's, and which ledgers accept
abbrev pub IfFinishedBy : (List ℕ → List ℕ) → ChainCommand → List Text → Printed → Type 0
IfFinishedBy hash (on_deal command) texts printed =
    (which : Which) → finishes command ≡ Some which → printed.status ≡ 0 → IsFinishedText secp256k1 hash texts which printed.text
IfFinishedBy hash (chains.show contract deal) texts printed = Unit {0}
IfFinishedBy hash (chains.state contract deal chain signatures) texts printed = Unit {0}
IfFinishedBy hash (chains.state_with contract deal chain signatures secrets) texts printed = Unit {0}

abbrev pub IfFinished : (List ℕ → List ℕ) → Option ChainCommand → Option (List Text) → Printed → Type 0
IfFinished hash None texts printed = Unit {0}
IfFinished hash (Some command) None printed = Unit {0}
IfFinished hash (Some command) (Some texts) printed = IfFinishedBy hash command texts printed

-- where `state` answers 0, its text says where the deal stands after its chain, and that is so
abbrev pub IfStandsRead : (List ℕ → List ℕ) → Option ChainCommand → Option (List Text) → Printed → Type 0
IfStandsRead hash None texts printed = Unit {0}
IfStandsRead hash (Some command) None printed = Unit {0}
IfStandsRead hash (Some command) (Some texts) printed = IfStands secp256k1 hash command texts printed

-- and that text is a file of secrets, which gives just what is known
abbrev pub IfTellsRead : (List ℕ → List ℕ) → Option ChainCommand → Option (List Text) → Printed → Type 0
IfTellsRead hash None texts printed = Unit {0}
IfTellsRead hash (Some command) None printed = Unit {0}
IfTellsRead hash (Some command) (Some texts) printed = IfTells secp256k1 hash command texts printed

-- ---- texts

-- what is needed, planned, given to signers, missing and held is read back from the text that says so
abbrev pub IfSaysBy : (List ℕ → List ℕ) → ChainCommand → List Text → Printed → Type 0
IfSaysBy hash (on_deal command) texts printed = Says secp256k1 hash command texts printed.text
IfSaysBy hash (chains.show contract deal) texts printed = Unit {0}
IfSaysBy hash (chains.state contract deal chain signatures) texts printed = Unit {0}
IfSaysBy hash (chains.state_with contract deal chain signatures secrets) texts printed = Unit {0}

abbrev pub IfSays : (List ℕ → List ℕ) → Option ChainCommand → Option (List Text) → Printed → Type 0
IfSays hash None texts printed = Unit {0}
IfSays hash (Some command) None printed = Unit {0}
IfSays hash (Some command) (Some texts) printed = IfSaysBy hash command texts printed

-- what signers are given of a deal that is taken
abbrev pub SignersTexts : (List ℕ → List ℕ) → Option (List Text) → Type 0
SignersTexts hash None = Unit {0}
SignersTexts hash (Some texts) =
    (advert : Advert) (deal : Deal) (contract_file deal_file : List ℕ) → IsTaken secp256k1 hash texts advert deal
    → GivesSigners secp256k1 hash texts advert deal contract_file deal_file

-- ---- files

-- each file is what its lines say, or is refused at the first bad one, by its first reason
pub record ReadsFiles : Type 0 where
  pub deals : DealFilesAreRead
  -- also a deal file that may lack lines
  pub parts : PartsAreRead
  -- and the text of `keys` with its blanks filled in
  pub filled : FilledKeysAreTaken
  pub signatures : SignatureFilesAreRead
  pub secrets : SecretFilesAreRead
  pub chains : ChainsAreSpelled
  pub bad_chains : ChainsAreRefused

-- ---- chains

-- a chain is followed to its tip exactly where its file is taken and no transaction is bad, and refused exactly at the first bad line
pub record FollowsChains : Type 0 where
  pub followed : FollowedExactly
  pub refused : RefusedExactly
  -- by the first of the reasons that holds, each in words of its own
  pub bad : BadExactly
  -- so a chain file comes to what its lines come to
  pub lines : ChainsCome
  -- each transaction of the deal is one that the ledger accepts where it stands, if every signature is good
  pub own : OwnIsAccepted
  -- secrets are known and revealed exactly where the chain or the file of secrets shows them
  pub secrets : SecretsExactly
  pub revealed : RevealedExactly
  pub once : RevealedOnce
  -- what has nothing to do with the deal may stand anywhere in the chain or be left out
  pub aside : AsideAnywhere
  -- any of it may be left out, or come in where then no two strings collide
  pub asides : AsidesLeftOut
  -- what ledgers have of the deal is what is live, transaction by transaction, and a chain whose transactions they take stands
  pub ledgers : LedgersFollow
  pub taken : TakenStands

-- what may come next: what is missing stands in order and once, and names those who can give it
pub record ForeseesChains : Type 0 where
  pub in_order : RequirementsInOrder
  pub waits : WaitsExactly
  -- what is asked and finished can come exactly where a ledger that has what is live accepts it at the tip
  pub accepted : AcceptedExactly
  pub refused : CannotIsRefused
  pub not_asked : NotAskedIsSpent
  -- and is then the next transaction of the longer chain
  pub goes_on : WhatCanGoesOn

-- ---- wallets

-- what deals with the coins of wallets show, and what stays as it is without them
pub record KnowsWallets : Type 0 where
  -- a plain deal prints what deals of keys print
  pub plain : PlainDeals
  -- a party's key is needed exactly where a deposit or a payout is by it
  pub used : KeysAreUsed
  -- a network adds addresses, which are read as the scripts that they are shown of
  pub networks : NetworksAddAddresses
  pub addresses : AddressesOfDeals
  -- a wallet is told what its input spends, and keys of the deal what they sign
  pub signers : ForWallets
  -- a deal is circular exactly where it makes one of its deposits or pays to one of its positions
  pub circles : NoneIsCircular
  -- the start may be signed exactly where `ready` and `missing` say so in their last line
  pub ready : ReadyAndMissing
  pub endorse : PartiesEndorse
  -- JSON shows the transactions, each with its inputs and outputs, and what each output is
  pub shown : DealsAreShown
  -- small outputs and low fees are warned of, and no transaction is too heavy for nodes
  pub values : WarnsOfValues
  pub light : AreLight

-- ---- the headline

-- an answer with what is known of it
pub record Serves (hash : List ℕ → List ℕ) (command : Option ChainCommand) (before now : Around) (status : ℕ) : Type 0 where
  pub answers : Answers hash command before now status
  -- the answer's status comes exactly by its cause
  pub caused : Caused hash command answers.reads (chain_answer secp256k1 hash command answers.reads)
  -- what it shows of a deal that is taken is as the theorems say
  pub keeps : KeepsTexts hash (texts_read answers.reads)
  -- and a transaction that it finishes
  pub finished : IfFinished hash command (texts_read answers.reads) (chain_answer secp256k1 hash command answers.reads)
  -- and where a deal stands
  pub stands : IfStandsRead hash command (texts_read answers.reads) (chain_answer secp256k1 hash command answers.reads)
  -- and its text is a file of secrets that gives just what is known there
  pub tells : IfTellsRead hash command (texts_read answers.reads) (chain_answer secp256k1 hash command answers.reads)
  -- and its text says it all
  pub says : IfSays hash command (texts_read answers.reads) (chain_answer secp256k1 hash command answers.reads)
  -- and the transactions for signers are those of its contract, each under its name
  pub signers : SignersTexts hash (texts_read answers.reads)
  -- signatures are judged by the curve
  pub verifier : IsEcdsa
  -- and each file is read by its lines
  pub files : ReadsFiles
  -- and each chain is followed exactly
  pub follows : FollowsChains
  -- and what may come next is foreseen
  pub foresees : ForeseesChains
  -- and the coins of wallets are told as they are
  pub wallets : KnowsWallets

-- what a call with this command does to what stands around it, and its status
pub record Headline (hash : List ℕ → List ℕ) (command : Option ChainCommand) (before now : Around) (status : ℕ) : Type 0 where
  pub serves : Serves hash command before now status ⊎ GivesUp (option_map chain_files command) before now status
  -- the usage answers nothing but words that are no command
  pub usage : status ≡ 2 → command ≡ None
  -- a fault of the files is answered only where their count rose
  pub unread : status ≡ 3 → RoseBy 1 before.read_faults now.read_faults
  -- a fault of the sink is answered only where its count rose
  pub unwritten : status ≡ 4 → RoseBy 1 before.write_faults now.write_faults
  -- memory never runs out where the words are no command
  pub memory : status ≡ 5 → is_some command ≡ true
