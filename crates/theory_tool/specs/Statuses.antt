-- What is claimed of the statuses that a played run and a further file give: each comes exactly by its cause.
use Rattle.std.specs.Prelude.{◌≡◌, ℕ, ◌+◌, ◌*◌, ◌≤◌, ◌<◌, List, [], ◌∷◌, ◌++◌, ◌⊎◌, ◌↔◌, length, false, Some, None, Ok, Err, is_err}
use Rattle.spec_data.specs.Lists.{look_up}
use Rattle.spec_terms.specs.Advert.{Advert}
use Rattle.spec_run.specs.declared.event.Event.{Event}
use Rattle.spec_run.specs.declared.event.Run.{Run}
use Rattle.spec_run.specs.declared.header.Header.{Header}
use Rattle.spec_run.specs.Setup.{Setup}
use Rattle.spec_run.specs.Pending.{Collided, Guessed}
use Rattle.spec_run.specs.Halting.{AreApart, Collides}
use Rattle.spec_run.specs.Translation.{last_world}
use Rattle.spec_text.specs.Generator.{generated_contract, generated_run}
use Rattle.spec_text.specs.Limits.{most_run_bytes, most_events}
use Rattle.spec_text.specs.Refusals.{Judged, run_of}
use Rattle.spec_tool.specs.declared.rule.Rule.{Rule}
use Rattle.spec_tool.specs.declared.rule.StrategyFault.{StrategyFault}
use Rattle.spec_tool.specs.Sizes.{most_audit_bytes, rule_line_bytes}
use Rattle.spec_tool.specs.Reads.{Text, text_at}
use Rattle.spec_tool.specs.Commands.{Command, check, play, plan, make, psbt_of, psbt_shown, psbt_joined, weigh, audit, auto}
use Rattle.spec_tool.specs.Commands.{JudgedAll, contracts_from, setup_of}
use Rattle.spec_tool.specs.PsbtText.{psbt_in}
use Rattle.spec_tool.specs.Audit.{audit_strings}
use Rattle.spec_tool.specs.Strategy.{read_strategy}
use Rattle.spec_tool.specs.Turns.{Progress, extended}
use Rattle.spec_tool.specs.AutoText.{strategy_in}
use Rattle.spec_tool.specs.Answers.{text_answer, contract_in, run_in, size_of}
use Rattle.spec_tool.specs.Causes.{contracts_of, are_refused}
use Rattle.spec_tool.specs.Reading.{Files, answer_there}
use Rattle.theory_tool.specs.Runs.{IsGuessing, IsColliding, IsUnhalted}

-- ---- what is played

-- what may hold of a setup and of the events that are played in it
abbrev pub OfRun : Type 1
OfRun = Setup → List Event → Type 0

-- run and contracts are taken, and this holds of what they play
abbrev pub PlaysFiles : (List ℕ → List ℕ) → OfRun → Judged Run → JudgedAll → Type 0
PlaysFiles hash claim (Err why) contracts = ⊥
PlaysFiles hash claim (Ok run) (Err refusal) = ⊥
PlaysFiles hash claim (Ok run) (Ok adverts) = claim (setup_of hash run adverts) run.events

-- the command plays a run, neither run nor contracts are refused, and this holds of what it plays
abbrev pub Plays : (List ℕ → List ℕ) → OfRun → Command → List Text → Type 0
Plays hash claim (check contract) texts = ⊥
Plays hash claim (make number size) texts =
    claim (setup_of hash (generated_run number size) (generated_contract number size ∷ [])) ((generated_run number size).events)
Plays hash claim (psbt_shown file) texts = ⊥
Plays hash claim (psbt_joined first second) texts = ⊥
Plays hash claim (play run contracts) texts =
    PlaysFiles hash claim (run_in (text_at texts 0)) (contracts_of (play run contracts) texts)
Plays hash claim (plan run contract) texts = PlaysFiles hash claim (run_in (text_at texts 0)) (contracts_of (plan run contract) texts)
Plays hash claim (psbt_of run contract which) texts =
    PlaysFiles hash claim (run_in (text_at texts 0)) (contracts_of (psbt_of run contract which) texts)
Plays hash claim (weigh run contract) texts = PlaysFiles hash claim (run_in (text_at texts 0)) (contracts_of (weigh run contract) texts)
Plays hash claim (audit run contract file) texts =
    PlaysFiles hash claim (run_in (text_at texts 0)) (contracts_of (audit run contract file) texts)
Plays hash claim (auto run contract strategy) texts =
    PlaysFiles hash claim (run_in (text_at texts 0)) (contracts_of (auto run contract strategy) texts)

-- ---- further files

-- the file has no more bytes than it may have, and this holds of them
abbrev pub HasBytes : Text → (List ℕ → Type 0) → Type 0
HasBytes None claim = ⊥
HasBytes (Some text) claim = claim text

-- the strategy is taken, and this holds of its rules
abbrev pub HasRules : Judged (List Rule) → (List Rule → Type 0) → Type 0
HasRules (Err why) claim = ⊥
HasRules (Ok rules) claim = claim rules

-- the rules would make the run longer than a run file may be, in events or in bytes
abbrev pub IsTooMuch : ℕ → List Event → List Rule → Type 0
IsTooMuch run_bytes es rules =
    (most_events < length es + length rules) ⊎ (most_run_bytes ≤ run_bytes + rule_line_bytes * length rules)

-- the strategy file has more bytes than it may have, or a line that is bad or one rule too many, or its rules are too much
abbrev pub IsRefused : ℕ → Header → List Event → Text → Type 0
IsRefused run_bytes h es None = Unit {0}
IsRefused run_bytes h es (Some text) =
    ((fault : StrategyFault) × (read_strategy h text ≡ Err fault))
    ⊎ ((rules : List Rule) × (read_strategy h text ≡ Ok rules) × IsTooMuch run_bytes es rules)

-- ---- what is judged or tried after a run

-- strings of the audited transactions collide with those of the run or with one another
abbrev pub AuditCollides : Setup → List Event → List ℕ → Type 0
AuditCollides s es text =
    (earlier : List ℕ) × (later : List ℕ)
    × Collides s.hash (last_world s es).hashed (audit_strings s (last_world s es) text) earlier later

abbrev pub AuditIsCalm : Setup → List Event → List ℕ → Type 0
AuditIsCalm s es text = AreApart s.hash ((last_world s es).hashed ++ audit_strings s (last_world s es) text)

-- the event of a rule that is tried collides, guesses, or none does
abbrev pub TurnsCollide : Setup → List Event → List Rule → Type 0
TurnsCollide s es rules =
    (earlier : List ℕ) × (later : List ℕ) × (extended s (last_world s es) rules ≡ Err (Collided earlier later))

abbrev pub TurnsGuess : Setup → List Event → List Rule → Type 0
TurnsGuess s es rules = (party : List ℕ) × (name : List ℕ) × (extended s (last_world s es) rules ≡ Err (Guessed party name))

abbrev pub TurnsEnd : Setup → List Event → List Rule → Type 0
TurnsEnd s es rules = (progress : Progress) × (extended s (last_world s es) rules ≡ Ok progress)

-- ---- causes

-- the file of an audit, the strategy of a command beside its run
abbrev pub Audits : List Text → (List ℕ → Type 0) → Type 0
Audits texts claim = HasBytes (text_at texts 2) claim

abbrev pub Follows : List Text → (List Rule → Type 0) → OfRun
Follows texts claim s es = HasRules (strategy_in (size_of (text_at texts 0)) s.header es (text_at texts 2)) claim

-- of 7: an event guesses, or after a run without a halt an event that is tried
abbrev pub Guess : Command → List Text → OfRun
Guess (audit run contract file) texts s es = Audits texts (λ text. IsGuessing s es)
Guess (auto run contract strategy) texts s es =
    Follows texts (λ rules. IsGuessing s es ⊎ (IsUnhalted s es × TurnsGuess s es rules)) s es
Guess _ texts s es = IsGuessing s es

-- of 8: the opening or an event collides, or after a run without a halt what is judged or tried
abbrev pub Collision : Command → List Text → OfRun
Collision (audit run contract file) texts s es =
    Audits texts (λ text. IsColliding s es ⊎ (IsUnhalted s es × AuditCollides s es text))
Collision (auto run contract strategy) texts s es =
    Follows texts (λ rules. IsColliding s es ⊎ (IsUnhalted s es × TurnsCollide s es rules)) s es
Collision _ texts s es = IsColliding s es

-- of 0 after a run: nothing halts, neither in the run nor after it
abbrev pub NoHalt : Command → List Text → OfRun
NoHalt (audit run contract file) texts s es = Audits texts (λ text. IsUnhalted s es × AuditIsCalm s es text)
NoHalt (auto run contract strategy) texts s es = Follows texts (λ rules. IsUnhalted s es × TurnsEnd s es rules) s es
NoHalt _ texts s es = IsUnhalted s es

-- of 10: the file of an audit has more bytes than it may have
abbrev pub AuditRefused : Command → List Text → OfRun
AuditRefused (audit run contract file) texts s es = text_at texts 2 ≡ None
AuditRefused _ texts s es = ⊥

-- of 11: the strategy is refused
abbrev pub StrategyRefused : Command → List Text → OfRun
StrategyRefused (auto run contract strategy) texts s es =
    IsRefused (size_of (text_at texts 0)) s.header es (text_at texts 2)
StrategyRefused _ texts s es = ⊥

-- of 0: nothing is refused and nothing halts
abbrev pub AllIsWell : (List ℕ → List ℕ) → Command → List Text → Type 0
AllIsWell hash (check contract) texts = is_err (contract_in (text_at texts 0)) ≡ false
AllIsWell hash (psbt_shown file) texts = is_err (psbt_in (text_at texts 0)) ≡ false
AllIsWell hash (psbt_joined first second) texts = are_refused (psbt_in (text_at texts 0)) (psbt_in (text_at texts 1)) ≡ false
AllIsWell hash command texts = Plays hash (NoHalt command texts) command texts

-- of every hash, every command and the texts of its files
pub record StatusesTheorem : Type 0 where
  pub whole : (hash : List ℕ → List ℕ) (command : Command) (texts : List Text)
      → ((text_answer hash command texts).status ≡ 0) ↔ AllIsWell hash command texts
  pub guessed : (hash : List ℕ → List ℕ) (command : Command) (texts : List Text)
      → ((text_answer hash command texts).status ≡ 7) ↔ Plays hash (Guess command texts) command texts
  pub collided : (hash : List ℕ → List ℕ) (command : Command) (texts : List Text)
      → ((text_answer hash command texts).status ≡ 8) ↔ Plays hash (Collision command texts) command texts
  pub audit_refused : (hash : List ℕ → List ℕ) (command : Command) (texts : List Text)
      → ((text_answer hash command texts).status ≡ 10) ↔ Plays hash (AuditRefused command texts) command texts
  -- so where the files are there, the run is valid and the contract well-formed, by the size of the file
  pub audit_too_long : (hash : List ℕ → List ℕ) (there : Files) (run run_text contract text file file_text : List ℕ) (r : Run)
      (adverts : List Advert)
      → look_up run there ≡ Some run_text → look_up contract there ≡ Some text → look_up file there ≡ Some file_text
      → run_of run_text ≡ Ok r → contracts_from 0 (text ∷ []) ≡ Ok adverts
      → ((answer_there hash there (audit run contract file)).status ≡ 10) ↔ (most_audit_bytes < length file_text)
  pub strategy_refused : (hash : List ℕ → List ℕ) (command : Command) (texts : List Text)
      → ((text_answer hash command texts).status ≡ 11) ↔ Plays hash (StrategyRefused command texts) command texts
