-- By which cause each status comes: what the command's files hold, why one is refused, and how the run ends that they make.
use Rattle.std.specs.Prelude.{◌≡◌, ℕ, List, [], ◌∷◌, ◌⊎◌, ◌↔◌, drop, None}
use Rattle.spec_terms.specs.Advert.{Advert}
use Rattle.spec_run.specs.declared.event.Run.{Run}
use Rattle.spec_text.specs.Generator.{generated_run}
use Rattle.spec_tool.specs.declared.rule.Rule.{Rule}
use Rattle.spec_tool.specs.Answers.{text_answer, size_of}
use Rattle.spec_tool.specs.Commands.{Command, check, play, plan, make, psbt_of, psbt_shown, psbt_joined, weigh, audit, auto, setup_of}
use Rattle.spec_tool.specs.Psbt.{Psbt}
use Rattle.spec_tool.specs.Reads.{Text, text_at}
use Rattle.theory_psbt.specs.Joined.{FirstApart, IsJoined}
use Rattle.theory_tool.specs.Runs.{IsGuessing, IsColliding, IsUnhalted}
use Rattle.theory_tool.specs.Statuses.{OfRun, Audits, AuditCollides, AuditIsCalm, TurnsCollide, TurnsGuess, TurnsEnd}
use Rattle.theory_commands.specs.ContractFiles.{HoldsContract, Refusal, IsRefusedContract}
use Rattle.theory_commands.specs.PsbtFiles.{HoldsPsbt, PsbtRefusal, IsRefusedPsbt}
use Rattle.theory_commands.specs.RunFiles.{HoldsRun, RunRefusal, IsRefusedRun}
use Rattle.theory_commands.specs.Strategies.{HoldsRules, StrategyRefusal, IsRefusedStrategy}
use Rattle.theory_commands.specs.Shown.Make.{generated_setup}

-- ---- contract files

-- each file holds one of these contracts, in order
abbrev pub HoldAll : List Text → List Advert → Type 0
HoldAll [] adverts = adverts ≡ []
HoldAll (text ∷ texts) adverts =
    (first : Advert) × (later : List Advert) × (adverts ≡ first ∷ later) × HoldsContract text first × HoldAll texts later

-- one of the files is refused
abbrev pub IsOneRefused : List Text → Type 0
IsOneRefused [] = ⊥
IsOneRefused (text ∷ texts) = ((why : Refusal) × IsRefusedContract text why) ⊎ IsOneRefused texts

-- ---- runs

-- the first file holds a run and these hold contracts, and this is so of the run with the contracts
abbrev pub RunsHeld : (List ℕ → List ℕ) → OfRun → Text → List Text → Type 0
RunsHeld hash claim run_text contract_texts =
    (run : Run) × (adverts : List Advert) × HoldsRun run_text run × HoldAll contract_texts adverts
    × claim (setup_of hash run adverts) run.events

-- the command plays a run, and this is so of it
abbrev pub PlaysHeld : (List ℕ → List ℕ) → OfRun → Command → List Text → Type 0
PlaysHeld hash claim (check contract) texts = ⊥
PlaysHeld hash claim (play run contracts) texts = RunsHeld hash claim (text_at texts 0) (drop 1 texts)
PlaysHeld hash claim (plan run contract) texts = RunsHeld hash claim (text_at texts 0) (text_at texts 1 ∷ [])
PlaysHeld hash claim (make number size) texts = claim (generated_setup hash number size) (generated_run number size).events
PlaysHeld hash claim (psbt_of run contract which) texts = RunsHeld hash claim (text_at texts 0) (text_at texts 1 ∷ [])
PlaysHeld hash claim (psbt_shown file) texts = ⊥
PlaysHeld hash claim (psbt_joined first second) texts = ⊥
PlaysHeld hash claim (weigh run contract) texts = RunsHeld hash claim (text_at texts 0) (text_at texts 1 ∷ [])
PlaysHeld hash claim (audit run contract file) texts = RunsHeld hash claim (text_at texts 0) (text_at texts 1 ∷ [])
PlaysHeld hash claim (auto run contract strategy) texts = RunsHeld hash claim (text_at texts 0) (text_at texts 1 ∷ [])

-- ---- refusals

-- of 6: the run file is refused
abbrev pub RunRefused : Command → List Text → Type 0
RunRefused (check contract) texts = ⊥
RunRefused (make number size) texts = ⊥
RunRefused (psbt_shown file) texts = ⊥
RunRefused (psbt_joined first second) texts = ⊥
RunRefused _ texts = (why : RunRefusal) × IsRefusedRun (text_at texts 0) why

-- the run file isn't, and one of these contract files is
abbrev pub RefusedAfter : Text → List Text → Type 0
RefusedAfter run_text contract_texts = ((run : Run) × HoldsRun run_text run) × IsOneRefused contract_texts

-- of 1: a contract file is refused, and no run file is
abbrev pub ContractRefused : Command → List Text → Type 0
ContractRefused (check contract) texts = (why : Refusal) × IsRefusedContract (text_at texts 0) why
ContractRefused (play run contracts) texts = RefusedAfter (text_at texts 0) (drop 1 texts)
ContractRefused (make number size) texts = ⊥
ContractRefused (psbt_shown file) texts = ⊥
ContractRefused (psbt_joined first second) texts = ⊥
ContractRefused _ texts = RefusedAfter (text_at texts 0) (text_at texts 1 ∷ [])

-- two that can't be combined: they are of different transactions, or in conflict at an input
abbrev pub AreUnjoined : Psbt → Psbt → Type 0
AreUnjoined p q = (p.tx ≡ q.tx → ⊥) ⊎ ((k : ℕ) × (p.tx ≡ q.tx) × FirstApart k p.inputs q.inputs)

-- both files hold partially signed transactions of which this is so
abbrev pub BothHold : Text → Text → (Psbt → Psbt → Type 0) → Type 0
BothHold first second claim = (p : Psbt) × (q : Psbt) × HoldsPsbt first p × HoldsPsbt second q × claim p q

-- of 9: a file with a partially signed transaction is refused, the first before the second, or two can't be combined
abbrev pub PsbtRefused : Command → List Text → Type 0
PsbtRefused (psbt_shown file) texts = (why : PsbtRefusal) × IsRefusedPsbt (text_at texts 0) why
PsbtRefused (psbt_joined first second) texts =
    ((why : PsbtRefusal) × IsRefusedPsbt (text_at texts 0) why)
    ⊎ ((((p : Psbt) × HoldsPsbt (text_at texts 0) p) × ((why : PsbtRefusal) × IsRefusedPsbt (text_at texts 1) why))
    ⊎ BothHold (text_at texts 0) (text_at texts 1) AreUnjoined)
PsbtRefused _ texts = ⊥

-- of 10: the file of an audit is too long
abbrev pub AuditFileRefused : Command → List Text → OfRun
AuditFileRefused (audit run contract file) texts s es = text_at texts 2 ≡ None
AuditFileRefused _ texts s es = ⊥

-- of 11: the strategy file is refused
abbrev pub StrategyFileRefused : Command → List Text → OfRun
StrategyFileRefused (auto run contract strategy) texts s es =
    (why : StrategyRefusal) × IsRefusedStrategy (size_of (text_at texts 0)) s.header es (text_at texts 2) why
StrategyFileRefused _ texts s es = ⊥

-- ---- halts

-- the strategy file holds rules of which this is so
abbrev pub FollowsHeld : List Text → (List Rule → Type 0) → OfRun
FollowsHeld texts claim s es =
    (rules : List Rule) × HoldsRules (size_of (text_at texts 0)) s.header es (text_at texts 2) rules × claim rules

-- of 7: an event guesses, or after a run without a halt an event that is tried
abbrev pub GuessHeld : Command → List Text → OfRun
GuessHeld (audit run contract file) texts s es = Audits texts (λ text. IsGuessing s es)
GuessHeld (auto run contract strategy) texts s es =
    FollowsHeld texts (λ rules. IsGuessing s es ⊎ (IsUnhalted s es × TurnsGuess s es rules)) s es
GuessHeld _ texts s es = IsGuessing s es

-- of 8: the opening or an event collides, or after a run without a halt what is judged or tried
abbrev pub CollisionHeld : Command → List Text → OfRun
CollisionHeld (audit run contract file) texts s es =
    Audits texts (λ text. IsColliding s es ⊎ (IsUnhalted s es × AuditCollides s es text))
CollisionHeld (auto run contract strategy) texts s es =
    FollowsHeld texts (λ rules. IsColliding s es ⊎ (IsUnhalted s es × TurnsCollide s es rules)) s es
CollisionHeld _ texts s es = IsColliding s es

-- of 0 after a run: nothing halts, neither in the run nor after it
abbrev pub NoHaltHeld : Command → List Text → OfRun
NoHaltHeld (audit run contract file) texts s es = Audits texts (λ text. IsUnhalted s es × AuditIsCalm s es text)
NoHaltHeld (auto run contract strategy) texts s es = FollowsHeld texts (λ rules. IsUnhalted s es × TurnsEnd s es rules) s es
NoHaltHeld _ texts s es = IsUnhalted s es

-- of 0: every file holds what it should, and nothing halts
abbrev pub AllIsHeld : (List ℕ → List ℕ) → Command → List Text → Type 0
AllIsHeld hash (check contract) texts = (advert : Advert) × HoldsContract (text_at texts 0) advert
AllIsHeld hash (psbt_shown file) texts = (p : Psbt) × HoldsPsbt (text_at texts 0) p
AllIsHeld hash (psbt_joined first second) texts =
    BothHold (text_at texts 0) (text_at texts 1) (λ p q. (joined : Psbt) × IsJoined p q joined)
AllIsHeld hash command texts = PlaysHeld hash (NoHaltHeld command texts) command texts

-- ---- all statuses

-- each status of a command's answer to the texts of its files comes exactly by its cause
pub record HasCausesInFiles (hash : List ℕ → List ℕ) (command : Command) (texts : List Text) (status : ℕ) : Type 0 where
  pub whole : (status ≡ 0) ↔ AllIsHeld hash command texts
  pub contract_refused : (status ≡ 1) ↔ ContractRefused command texts
  pub run_refused : (status ≡ 6) ↔ RunRefused command texts
  pub guessed : (status ≡ 7) ↔ PlaysHeld hash (GuessHeld command texts) command texts
  pub collided : (status ≡ 8) ↔ PlaysHeld hash (CollisionHeld command texts) command texts
  pub psbt_refused : (status ≡ 9) ↔ PsbtRefused command texts
  pub audit_refused : (status ≡ 10) ↔ PlaysHeld hash (AuditFileRefused command texts) command texts
  pub strategy_refused : (status ≡ 11) ↔ PlaysHeld hash (StrategyFileRefused command texts) command texts

-- of every hash, every command and the texts of its files
abbrev pub CausesInFiles : Type 0
CausesInFiles = (hash : List ℕ → List ℕ) (command : Command) (texts : List Text)
    → HasCausesInFiles hash command texts (text_answer hash command texts).status
