-- What each line of a played run's text says, read from its words: the grammar of these lines.
use Rattle.std.specs.Prelude.{ℕ, ◌+◌, ◌-◌, ◌*◌, List, [], ◌∷◌, Bool, true, false, if◌then◌else◌, ◌==◌, Option, Some, None, codes}
use Rattle.std.specs.Str.{bytes_eq}
use Rattle.spec_data.specs.Lists.{look_up}
use Rattle.spec_data.specs.Digits.{is_digit, read_decimal, onto}
use Rattle.spec_calculus.specs.declared.parts.Deposit.{Deposit}
use Rattle.spec_calculus.specs.declared.parts.ActiveContract.{ActiveContract}
use Rattle.spec_calculus.specs.declared.step.Owner.{Owner}
use Rattle.spec_calculus.specs.declared.step.Owner.TheVariants.{Party, Outside}
use Rattle.spec_calculus.specs.declared.step.Move.{Move}
use Rattle.spec_calculus.specs.declared.step.Step.{Step}
use Rattle.spec_calculus.specs.declared.step.Step.TheVariants as steps
use Rattle.spec_bitcoin.specs.declared.verdict.Refusal.TheVariants as refusal
use Rattle.spec_run.specs.declared.event.Event.{Event}
use Rattle.spec_run.specs.declared.event.Event.TheVariants as events
use Rattle.spec_run.specs.declared.outcome.Outcome.{Outcome}
use Rattle.spec_run.specs.declared.outcome.Outcome.TheVariants.{Done, Accepted, Refused}
use Rattle.spec_run.specs.declared.outcome.Reason.{Reason}
use Rattle.spec_run.specs.declared.outcome.Reason.TheVariants as reason
use Rattle.spec_text.specs.Canonical.{joined}
use Rattle.spec_text.specs.Lines.{parts_of, words_of}
use Rattle.spec_text.specs.Words.{◌>>=◌, given, a_name, named, all_of, path}
use Rattle.spec_text.specs.EventLines.{before_arrow, event_of}

-- ---- what a line says

-- a secret of a contract: its length, where it is known, and whether it is revealed
pub record ShownSecret : Type 0 where
  pub contract : ℕ
  pub party : List ℕ
  pub name : List ℕ
  pub length : Option ℕ
  pub revealed : Bool

pub data Said : Type 0 where
  -- `start #n A v`
  start : (number : ℕ) → (owner : List ℕ) → (value : ℕ) → Said
  -- `event I LINE`
  event : (number : ℕ) → (event : Event) → Said
  outcome : (outcome : Outcome) → Said
  -- `step ..`, with the outputs behind the arrow of a step that makes contracts or pays
  step : (step : Step) → (made : List ℕ) → Said
  -- `end`
  ending : Said
  tip : (height : ℕ) → Said
  live : (output : ℕ × ℕ) → Said
  time : (height : ℕ) → Said
  deposit : (deposit : Deposit) → Said
  contract : (active : ActiveContract) → Said
  secret : (secret : ShownSecret) → Said
  offer : (event : Event) → Said
  guessed : (party : List ℕ) → (secret : List ℕ) → Said
  collided : (earlier : List ℕ) → (later : List ℕ) → Said

abbrev pub Words : Type 0
Words = List (List ℕ)

-- ---- words

-- a number below 2^64
abbrev pub number : List ℕ → Option ℕ
number word = read_decimal word

-- an output: `#` and its number
abbrev pub an_output : List ℕ → Option ℕ
an_output [] = None
an_output (b ∷ bytes) = if b == 35 then number bytes else None

abbrev pub begins_number : List ℕ → Bool
begins_number [] = false
begins_number (b ∷ bytes) = is_digit b

-- a party, or `Outside`
abbrev pub an_owner : List ℕ → Option Owner
an_owner word = if bytes_eq word (codes "Outside") then Some Outside else (a_name word >>= λ a. Some (Party a))

-- a number, or `none`
abbrev pub a_length : List ℕ → Option (Option ℕ)
a_length word = if bytes_eq word (codes "none") then Some None else (number word >>= λ n. Some (Some n))

abbrev pub one_number : Words → Option ℕ
one_number (word ∷ []) = number word
one_number _ = None

-- a party, or nobody
abbrev pub a_party : List ℕ → Option (List ℕ)
a_party [] = Some []
a_party (b ∷ bytes) = a_name (b ∷ bytes)

-- two words at a time
abbrev pub pairs_of : {A B : Type 0} → (List ℕ → Option A) → (List ℕ → Option B) → Words → Option (List (A × B))
pairs_of first second [] = Some []
pairs_of first second (word ∷ []) = None
pairs_of first second (word ∷ next ∷ words) = onto (first word >>= λ a. second next >>= λ b. Some (a, b)) (pairs_of first second words)

-- the words before this one, and those behind it
abbrev pub cut_at : List ℕ → Words → Option (Words × Words)
cut_at mark [] = None
cut_at mark (word ∷ words) = before_arrow (bytes_eq word mark) word words (cut_at mark words)

-- the value of a hexadecimal digit in lower case, and of a letter behind `f` what would be its value if there were more digits
abbrev pub digit_value : ℕ → ℕ
digit_value c = if is_digit c then c - 48 else c - 87

-- the numbers of two digits each
abbrev pub by_digits : List ℕ → Option (List ℕ)
by_digits [] = Some []
by_digits (c ∷ []) = None
by_digits (c ∷ d ∷ cs) = onto (Some (digit_value c * 16 + digit_value d)) (by_digits cs)

-- ---- reasons

abbrev pub plain_reasons : List (List ℕ × Reason)
plain_reasons =
    (codes "NoContract", reason.NoContract) ∷ (codes "AdvertFull", reason.AdvertFull) ∷ (codes "WrongNames", reason.WrongNames)
    ∷ (codes "NoHonest", reason.NoHonest) ∷ (codes "NotAdvertised", reason.NotAdvertised)
    ∷ (codes "NotParticipant", reason.NotParticipant) ∷ (codes "AlreadyCommitted", reason.AlreadyCommitted)
    ∷ (codes "NotAllCommitted", reason.NotAllCommitted) ∷ (codes "NotActive", reason.NotActive) ∷ (codes "NoBranch", reason.NoBranch)
    ∷ (codes "NotAsked", reason.NotAsked) ∷ (codes "NotHonest", reason.NotHonest) ∷ (codes "NotCommitted", reason.NotCommitted)
    ∷ (codes "NotBegun", reason.NotBegun) ∷ (codes "AlreadyRevealed", reason.AlreadyRevealed) ∷ (codes "Honest", reason.Honest)
    ∷ (codes "NotOwner", reason.NotOwner) ∷ (codes "NotCompiled", reason.NotCompiled) ∷ (codes "TimeLimit", reason.TimeLimit)
    ∷ (codes "NoInput", reason.Ledger refusal.NoInput) ∷ (codes "NoOutput", reason.Ledger refusal.NoOutput) ∷ (codes "InputRepeated", reason.Ledger refusal.InputRepeated)
    ∷ (codes "ValueLimit", reason.Ledger refusal.ValueLimit) ∷ (codes "InsufficientIn", reason.Ledger refusal.InsufficientIn) ∷ (codes "NotFinal", reason.Ledger refusal.NotFinal)
    ∷ []

-- with a name behind them
abbrev pub named_reasons : List (List ℕ × (List ℕ → Reason))
named_reasons =
    (codes "DepositRepeated", λ x. reason.DepositRepeated x) ∷ (codes "NotLive", λ x. reason.NotLive x)
    ∷ (codes "WrongDeposit", λ x. reason.WrongDeposit x) ∷ (codes "NoSecret", λ a. reason.NoSecret a)
    ∷ (codes "BadSecretLength", λ a. reason.BadSecretLength a) ∷ (codes "HashRepeated", λ a. reason.HashRepeated a)
    ∷ (codes "SecretUnknown", λ a. reason.SecretUnknown a) ∷ []

-- with a number behind them
abbrev pub numbered_reasons : List (List ℕ × (ℕ → Reason))
numbered_reasons =
    (codes "NotLive", λ n. reason.NotLiveOutput n) ∷ (codes "NotOwner", λ n. reason.NotOwnerOutput n)
    ∷ (codes "BadTx", λ n. reason.BadTx n) ∷ (codes "MissingInput", λ n. reason.Ledger (refusal.MissingInput n))
    ∷ (codes "ScriptSigNotEmpty", λ n. reason.Ledger (refusal.ScriptSigNotEmpty n)) ∷ (codes "NotWitnessScript", λ n. reason.Ledger (refusal.NotWitnessScript n))
    ∷ (codes "ScriptMismatch", λ n. reason.Ledger (refusal.ScriptMismatch n)) ∷ (codes "ItemTooLong", λ n. reason.Ledger (refusal.ItemTooLong n))
    ∷ (codes "ScriptFalse", λ n. reason.Ledger (refusal.ScriptFalse n)) ∷ []

abbrev pub reason_of : Words → Option Reason
reason_of (word ∷ []) = look_up word plain_reasons
reason_of (word ∷ shown ∷ []) =
    if begins_number shown then (look_up word numbered_reasons >>= λ make. number shown >>= λ n. Some (make n))
    else (look_up word named_reasons >>= λ make. a_name shown >>= λ x. Some (make x))
reason_of (word ∷ place ∷ party ∷ []) =
    if bytes_eq word (codes "NotEndorsed") then (path place >>= λ q. a_party party >>= λ a. Some (reason.NotEndorsed q a)) else None
reason_of _ = None

-- ---- outcomes

-- `spends #a #b makes #c v #d w lock L`
abbrev pub accepted_of : Words → Option Outcome
accepted_of (word ∷ words) =
    if bytes_eq word (codes "spends")
    then (cut_at (codes "makes") words >>= λ p. all_of an_output (p.0) >>= λ spent.
    cut_at (codes "lock") (p.1) >>= λ q. pairs_of an_output number (q.0) >>= λ made.
    one_number (q.1) >>= λ lock. Some (Accepted spent made lock))
    else None
accepted_of [] = None

-- ---- steps

abbrev pub no_move : Move
no_move = record { inputs = []; outputs = [] }

-- a step, and the outputs behind its arrow
abbrev pub Stepped : Type 0
Stepped = Step × List ℕ

abbrev pub alone : Step → Option Stepped
alone s = Some (s, [])

-- `-> #m ..`
abbrev pub made_of : Words → Option (List ℕ)
made_of (word ∷ words) = if bytes_eq word (codes "->") then all_of an_output words else None
made_of [] = None

abbrev pub delay_of : Words → Option Stepped
delay_of words = one_number words >>= λ n. alone (steps.Delay n)

-- a move that is authorised isn't shown
abbrev pub auth_move_of : Words → Option Stepped
auth_move_of (party ∷ []) = a_name party >>= λ a. alone (steps.AuthMove a no_move)
auth_move_of _ = None

abbrev pub move_of : Words → Option Stepped
move_of words = cut_at (codes "->") words >>= λ p. all_of an_output (p.0) >>= λ inputs. pairs_of an_owner number (p.1) >>= λ outputs.
    alone (steps.Move (record { inputs = inputs; outputs = outputs }))

abbrev pub advertise_of : Words → Option Stepped
advertise_of (word ∷ bindings) = number word >>= λ k. all_of (named an_output) bindings >>= λ bs. alone (steps.Advertise k bs)
advertise_of [] = None

abbrev pub commit_of : Words → Option Stepped
commit_of (word ∷ party ∷ lengths) =
    number word >>= λ k. a_name party >>= λ a. all_of (named a_length) lengths >>= λ ls. alone (steps.Commit k a ls)
commit_of _ = None

-- a contract, a party and a name
abbrev pub three_of : (ℕ → List ℕ → List ℕ → Step) → Words → Option Stepped
three_of make (word ∷ party ∷ name ∷ []) = number word >>= λ k. a_name party >>= λ a. a_name name >>= λ x. alone (make k a x)
three_of make _ = None

abbrev pub init_of : Words → Option Stepped
init_of (word ∷ words) = number word >>= λ k. made_of words >>= λ made. Some (steps.Init k, made)
init_of [] = None

abbrev pub auth_branch_of : Words → Option Stepped
auth_branch_of (party ∷ output ∷ branch ∷ []) =
    a_name party >>= λ a. an_output output >>= λ n. number branch >>= λ i. alone (steps.AuthBranch a n i)
auth_branch_of _ = None

-- a branch of an output, and what it made
abbrev pub branch_of : (ℕ → ℕ → Step) → Words → Option Stepped
branch_of make (output ∷ branch ∷ words) =
    an_output output >>= λ n. number branch >>= λ i. made_of words >>= λ made. Some (make n i, made)
branch_of make _ = None

-- a step by its first word
abbrev pub step_of : Words → Option Stepped
step_of [] = None
step_of (word ∷ words) =
    if bytes_eq word (codes "delay") then delay_of words
    else if bytes_eq word (codes "authmove") then auth_move_of words
    else if bytes_eq word (codes "move") then move_of words
    else if bytes_eq word (codes "advertise") then advertise_of words
    else if bytes_eq word (codes "commit") then commit_of words
    else if bytes_eq word (codes "authinit") then three_of steps.AuthInit words
    else if bytes_eq word (codes "init") then init_of words
    else if bytes_eq word (codes "reveal") then three_of steps.Reveal words
    else if bytes_eq word (codes "authbranch") then auth_branch_of words
    else if bytes_eq word (codes "putreveal") then branch_of steps.PutReveal words
    else if bytes_eq word (codes "withdraw") then branch_of steps.Withdraw words
    else if bytes_eq word (codes "split") then branch_of steps.Split words
    else None

-- ---- the lines

abbrev pub start_said : Words → Option Said
start_said (output ∷ owner ∷ value ∷ []) = an_output output >>= λ n. a_name owner >>= λ a. number value >>= λ v. Some (start n a v)
start_said _ = None

-- the event that its line spells for those who are declared, behind its number
abbrev pub event_said : List (List ℕ) → Words → Option Said
event_said parties (word ∷ words) =
    number word >>= λ i. event_of parties (words_of (joined (codes " ") words)) >>= λ e. Some (event i e)
event_said parties [] = None

abbrev pub done_said : Words → Option Said
done_said [] = Some (outcome Done)
done_said (word ∷ words) = None

abbrev pub live_said : Words → Option Said
live_said (output ∷ value ∷ []) = an_output output >>= λ n. number value >>= λ v. Some (live (n, v))
live_said _ = None

abbrev pub end_said : Words → Option Said
end_said [] = Some ending
end_said (word ∷ words) = None

abbrev pub deposit_said : Words → Option Said
deposit_said (output ∷ owner ∷ value ∷ []) = an_output output >>= λ n. an_owner owner >>= λ o. number value >>= λ v.
    Some (deposit (record { number = n; owner = o; value = v }))
deposit_said _ = None

abbrev pub contract_said : Words → Option Said
contract_said (output ∷ place ∷ position ∷ balance ∷ []) =
    an_output output >>= λ n. number place >>= λ k. path position >>= λ q. number balance >>= λ v.
    Some (contract (record { number = n; contract = k; position = q; balance = v }))
contract_said _ = None

abbrev pub is_shown : List ℕ → Option Bool
is_shown word = if bytes_eq word (codes "revealed") then Some true else given (bytes_eq word (codes "hidden")) false

abbrev pub secret_said : Words → Option Said
secret_said (place ∷ party ∷ name ∷ size ∷ word ∷ []) =
    number place >>= λ k. a_name party >>= λ a. a_name name >>= λ x. a_length size >>= λ n. is_shown word >>= λ b.
    Some (secret (record { contract = k; party = a; name = x; length = n; revealed = b }))
secret_said _ = None

-- `fire init K` or `fire #n i`
abbrev pub offered : Words → Option Event
offered (fire ∷ what ∷ word ∷ []) =
    if bytes_eq fire (codes "fire") then
    (if bytes_eq what (codes "init") then (number word >>= λ k. Some (events.FireInit k))
    else (an_output what >>= λ n. number word >>= λ i. Some (events.Fire n i)))
    else None
offered _ = None

abbrev pub guessed_said : Words → Option Said
guessed_said (party ∷ name ∷ []) = a_name party >>= λ a. a_name name >>= λ x. Some (guessed a x)
guessed_said _ = None

abbrev pub collided_said : Words → Option Said
collided_said (earlier ∷ later ∷ []) = by_digits earlier >>= λ x. by_digits later >>= λ y. Some (collided x y)
collided_said _ = None

-- a line by its first word
abbrev pub said : List (List ℕ) → Words → Option Said
said parties [] = None
said parties (word ∷ words) =
    if bytes_eq word (codes "start") then start_said words
    else if bytes_eq word (codes "event") then event_said parties words
    else if bytes_eq word (codes "done") then done_said words
    else if bytes_eq word (codes "accepted") then (accepted_of words >>= λ o. Some (outcome o))
    else if bytes_eq word (codes "refused") then (reason_of words >>= λ r. Some (outcome (Refused r)))
    else if bytes_eq word (codes "step") then (step_of words >>= λ p. Some (step (p.0) (p.1)))
    else if bytes_eq word (codes "end") then end_said words
    else if bytes_eq word (codes "tip") then (one_number words >>= λ n. Some (tip n))
    else if bytes_eq word (codes "live") then live_said words
    else if bytes_eq word (codes "time") then (one_number words >>= λ n. Some (time n))
    else if bytes_eq word (codes "deposit") then deposit_said words
    else if bytes_eq word (codes "contract") then contract_said words
    else if bytes_eq word (codes "secret") then secret_said words
    else if bytes_eq word (codes "offer") then (offered words >>= λ e. Some (offer e))
    else if bytes_eq word (codes "guessed") then guessed_said words
    else if bytes_eq word (codes "collided") then collided_said words
    else None

-- what a line says to those who are declared: its words stand between single spaces
abbrev pub said_by : List (List ℕ) → List ℕ → Option Said
said_by parties line = said parties (parts_of (λ b. b == 32) line)
