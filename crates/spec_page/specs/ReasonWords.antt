-- Why an event of a run is refused, in a few words.
use Rattle.std.specs.Prelude.{ℕ, List, ◌++◌, codes}
use Rattle.spec_bitcoin.specs.declared.verdict.Refusal.{Refusal}
use Rattle.spec_bitcoin.specs.declared.verdict.Refusal.TheVariants as refusal
use Rattle.spec_run.specs.declared.outcome.Reason.{Reason}
use Rattle.spec_run.specs.declared.outcome.Reason.TheVariants as reason
use Rattle.spec_text.specs.OutcomeText.{reason_text}

abbrev pub refusal_words : Refusal → List ℕ
refusal_words refusal.NoInput = codes "it spends nothing"
refusal_words refusal.NoOutput = codes "it makes nothing"
refusal_words refusal.InputRepeated = codes "it spends an output twice"
refusal_words (refusal.MissingInput k) = codes "what it spends is not there"
refusal_words refusal.ValueLimit = codes "more money than there is"
refusal_words refusal.InsufficientIn = codes "it makes more than it spends"
refusal_words refusal.NotFinal = codes "too early"
refusal_words (refusal.ScriptSigNotEmpty k) = codes "a witness in the wrong place"
refusal_words (refusal.NotWitnessScript k) = codes "what it spends has no witness script"
refusal_words (refusal.ScriptMismatch k) = codes "another script"
refusal_words (refusal.ItemTooLong k) = codes "a witness too long"
refusal_words (refusal.ScriptFalse k) = codes "a signature or a secret is missing"

abbrev pub reason_words : Reason → List ℕ
reason_words reason.NoContract = codes "no such contract"
reason_words reason.AdvertFull = codes "advertised before"
reason_words reason.WrongNames = codes "the names are others"
reason_words (reason.DepositRepeated x) = codes "a deposit twice"
reason_words (reason.NotLive x) = codes "spent, or no deposit"
reason_words (reason.WrongDeposit x) = codes "another owner or value"
reason_words reason.NoHonest = codes "nobody who takes part is honest"
reason_words reason.NotAdvertised = codes "not advertised"
reason_words reason.NotParticipant = codes "takes no part"
reason_words reason.AlreadyCommitted = codes "committed before"
reason_words (reason.NoSecret a) = codes "the secret is not held"
reason_words (reason.BadSecretLength a) = codes "too short or too long"
reason_words (reason.HashRepeated a) = codes "the digest was used before"
reason_words reason.NotAllCommitted = codes "not all have committed"
reason_words (reason.NotEndorsed path party) = codes "an endorsement is missing"
reason_words reason.NotActive = codes "not there, or gone"
reason_words reason.NoBranch = codes "no such branch"
reason_words reason.NotAsked = codes "not asked for"
reason_words reason.NotHonest = codes "only for the honest"
reason_words reason.NotCommitted = codes "not committed"
reason_words reason.NotBegun = codes "the contract has not begun"
reason_words reason.AlreadyRevealed = codes "shown before"
reason_words reason.Honest = codes "not for the honest"
reason_words reason.NotOwner = codes "not its owner"
reason_words (reason.NotLiveOutput n) = codes "spent, or no deposit"
reason_words (reason.NotOwnerOutput n) = codes "not its owner"
reason_words (reason.BadTx place) = codes "no transaction"
reason_words reason.NotCompiled = codes "not all have committed"
reason_words (reason.SecretUnknown a) = codes "a secret is not shown"
reason_words reason.TimeLimit = codes "more blocks than can be"
reason_words (reason.Ledger r) = refusal_words r

-- the reason as `play` prints it, and the words
abbrev pub refused_text : Reason → List ℕ
refused_text r = codes "refused, " ++ (reason_text r ++ (codes ": " ++ reason_words r))
