-- Each status comes by its cause in the files: the theorems on statuses, with what files hold in place of how they are read.
use Rattle.std.proofs.Common.{◌≡◌, ℕ, ◌+◌, Bool, true, false, List, [], ◌∷◌, length, drop, Some, None, Ok, Err}
use Rattle.std.proofs.Common.{zero, suc, refl, sym, ap, subst, ◌∙◌, inl, inr}
use Rattle.std.specs.Prelude.{◌⊎◌, ◌↔◌, Result, is_err, nat_le}
use Rattle.spec_terms.specs.Advert.{Advert}
use Rattle.spec_run.specs.declared.event.Event.{Event}
use Rattle.spec_run.specs.declared.event.Run.{Run}
use Rattle.spec_run.specs.declared.header.Header.{Header}
use Rattle.spec_run.specs.Setup.{Setup}
use Rattle.spec_text.specs.Limits.{most_events}
use Rattle.spec_text.specs.Lines.{lines_of}
use Rattle.spec_text.specs.Refusals.{Judged}
use Rattle.spec_tool.specs.declared.psbt.PsbtInput.{PsbtInput}
use Rattle.spec_tool.specs.declared.rule.Rule.{Rule}
use Rattle.spec_tool.specs.Answers.{contract_in, run_in, contracts_in, size_of}
use Rattle.spec_tool.specs.AutoText.{strategy_in}
use Rattle.spec_tool.specs.Causes.{is_run_refused, is_contract_refused, is_psbt_refused, are_refused}
use Rattle.spec_tool.specs.Commands.{Command, check, play, plan, make, psbt_of, psbt_shown, psbt_joined, weigh, audit, auto}
use Rattle.spec_tool.specs.Commands.{JudgedAll, onto_judged, setup_of}
use Rattle.spec_tool.specs.Psbt.{Psbt}
use Rattle.spec_tool.specs.PsbtBytes.{Discord, other_tx, conflict, combined}
use Rattle.spec_tool.specs.PsbtText.{psbt_in}
use Rattle.spec_tool.specs.Reads.{Text, text_at}
use Rattle.theory_psbt.specs.Fitting.{IsFitting}
use Rattle.theory_psbt.specs.Joined.{FirstApart, NoneApart, IsJoined}
use Rattle.theory_psbt.proofs.Combining.{combined_is_joined, other_tx_exactly, conflict_exactly}
use Rattle.theory_tool.specs.Statuses.{OfRun, PlaysFiles, Plays, HasRules, IsTooMuch, IsRefused, Guess, Collision, NoHalt}
use Rattle.theory_tool.specs.Runs.{IsGuessing, IsColliding, IsUnhalted}
use Rattle.theory_tool.specs.Statuses.{AuditRefused, StrategyRefused, AllIsWell, TurnsCollide, TurnsGuess, TurnsEnd}
use Rattle.theory_commands.specs.Strategies.{SpellStrategy}
use Rattle.theory_tool.proofs.Outcomes.{exact_causes}
use Rattle.theory_tool.proofs.Statuses.{causes}
use Rattle.theory_commands.proofs.RuleLines.{rules_read, fault_read}
use Rattle.theory_commands.specs.Causes.{HoldAll, IsOneRefused, RunsHeld, PlaysHeld, RunRefused, RefusedAfter, ContractRefused, AreUnjoined}
use Rattle.theory_commands.specs.Causes.{BothHold, PsbtRefused, AuditFileRefused, StrategyFileRefused, GuessHeld, CollisionHeld}
use Rattle.theory_commands.specs.Causes.{NoHaltHeld, AllIsHeld, CausesInFiles}
use Rattle.theory_commands.specs.ContractFiles.{HoldsContract, Refusal, IsRefusedContract, refusal_text}
use Rattle.theory_commands.specs.PsbtFiles.{HoldsPsbt, PsbtRefusal, IsRefusedPsbt, psbt_refusal_text}
use Rattle.theory_commands.specs.RunFiles.{HoldsRun, RunRefusal, IsRefusedRun, run_refusal_text}
use Rattle.theory_commands.specs.Strategies as strategy
use Rattle.theory_commands.specs.Strategies.{HoldsRules, StrategyRefusal, too_long, too_many, too_much, IsRefusedStrategy}
use Rattle.theory_commands.proofs.ContractFiles.{contracts_read}
use Rattle.theory_commands.proofs.PsbtFiles.{psbt_files_read}
use Rattle.theory_commands.proofs.RunFiles.{run_files_read}
use Rattle.theory_commands.proofs.ShownFiles.{fits}
use Rattle.theory_commands.proofs.Strategies.{le_is, gt_is, strategy_files_read}

-- ---- equivalences

both : {A B C : Type 0} → A ↔ B → B ↔ C → A ↔ C
both f g = (λ a. g.0 (f.0 a), λ c. f.1 (g.1 c))

same : {A : Type 0} → A ↔ A
same = (λ a. a, λ a. a)

-- neither holds
neither : {A B : Type 0} → (A → ⊥) → (B → ⊥) → A ↔ B
neither f g = (λ a. absurd (f a), λ b. absurd (g b))

-- ---- one judged file

module _ {A R : Type 0} (judged : Judged A) (holds : A → Type 0) (refuses : R → Type 0) (text : R → List ℕ)
    (read : (a : A) → (judged ≡ Ok a) ↔ holds a)
    (refused : (why : List ℕ) → (judged ≡ Err why) ↔ ((r : R) × refuses r × (why ≡ text r))) where
  err_by : (j : Judged A) → judged ≡ j → is_err j ≡ true → (r : R) × refuses r
  err_by (Ok a) e h = absurd (cc)
  err_by (Err why) e h = let x = (refused why).0 e in (x.0, x.1)

  ok_by : (j : Judged A) → judged ≡ j → is_err j ≡ false → (a : A) × holds a
  ok_by (Ok a) e h = (a, (read a).0 e)
  ok_by (Err why) e h = absurd (cc)

  err_is : (is_err judged ≡ true) ↔ ((r : R) × refuses r)
  err_is = (err_by judged refl, λ x. ap (is_err {T = A} {E = List ℕ}) ((refused (text (x.0))).1 (x.0, x.1, refl)))

  ok_is : (is_err judged ≡ false) ↔ ((a : A) × holds a)
  ok_is = (ok_by judged refl, λ x. ap (is_err {T = A} {E = List ℕ}) ((read (x.0)).1 (x.1)))

pub run_err : (text : Text) → (is_err (run_in text) ≡ true) ↔ ((r : RunRefusal) × IsRefusedRun text r)
run_err text =
    err_is (run_in text) (HoldsRun text) (IsRefusedRun text) run_refusal_text (run_files_read.read text) (run_files_read.refused text)

pub run_ok : (text : Text) → (is_err (run_in text) ≡ false) ↔ ((run : Run) × HoldsRun text run)
run_ok text =
    ok_is (run_in text) (HoldsRun text) (IsRefusedRun text) run_refusal_text (run_files_read.read text) (run_files_read.refused text)

pub contract_err : (text : Text) → (is_err (contract_in text) ≡ true) ↔ ((r : Refusal) × IsRefusedContract text r)
contract_err text =
    err_is (contract_in text) (HoldsContract text) (IsRefusedContract text) refusal_text (contracts_read.read text)
    (contracts_read.refused text)

pub contract_ok : (text : Text) → (is_err (contract_in text) ≡ false) ↔ ((advert : Advert) × HoldsContract text advert)
contract_ok text =
    ok_is (contract_in text) (HoldsContract text) (IsRefusedContract text) refusal_text (contracts_read.read text)
    (contracts_read.refused text)

psbt_err : (text : Text) → (is_err (psbt_in text) ≡ true) ↔ ((r : PsbtRefusal) × IsRefusedPsbt text r)
psbt_err text =
    err_is (psbt_in text) (HoldsPsbt text) (IsRefusedPsbt text) psbt_refusal_text (psbt_files_read.read text) (psbt_files_read.refused text)

psbt_ok : (text : Text) → (is_err (psbt_in text) ≡ false) ↔ ((p : Psbt) × HoldsPsbt text p)
psbt_ok text =
    ok_is (psbt_in text) (HoldsPsbt text) (IsRefusedPsbt text) psbt_refusal_text (psbt_files_read.read text) (psbt_files_read.refused text)

-- ---- contract files

abbrev all_ok : List Advert → JudgedAll
all_ok adverts = Ok adverts

pub held : (texts : List Text) (k : ℕ) (adverts : List Advert) → contracts_in k texts ≡ all_ok adverts → HoldAll texts adverts
held [] k adverts e = let none : [] ≡ adverts = cc in sym none
held (text ∷ texts) k adverts e = by_first (contract_in text) refl (contracts_in (k + 1) texts) refl e (held texts (k + 1))
  where
    by_first : (j : Judged Advert) → contract_in text ≡ j → (later : JudgedAll) → contracts_in (k + 1) texts ≡ later
        → onto_judged k j later ≡ all_ok adverts → ((rest : List Advert) → contracts_in (k + 1) texts ≡ all_ok rest → HoldAll texts rest)
        → HoldAll (text ∷ texts) adverts
    by_first (Err why) c later l f rest = absurd (cc)
    by_first (Ok first) c (Err refusal) l f rest = absurd (cc)
    by_first (Ok first) c (Ok others) l f rest =
        let is : first ∷ others ≡ adverts = cc in
        (first, others, sym is, (contracts_read.read text first).0 c, rest others l)

pub hold : (texts : List Text) (k : ℕ) (adverts : List Advert) → HoldAll texts adverts → contracts_in k texts ≡ all_ok adverts
hold [] k adverts e = ap all_ok (sym e)
hold (text ∷ texts) k adverts h =
    (λ i. onto_judged k ((contracts_read.read text (h.0)).1 (h.3) i) (hold texts (k + 1) (h.1) (h.4) i)) ∙ ap all_ok (sym (h.2))

one_refused : (texts : List Text) (k : ℕ) → is_err (contracts_in k texts) ≡ true → IsOneRefused texts
one_refused [] k e = absurd (cc)
one_refused (text ∷ texts) k e = by_first (contract_in text) refl (contracts_in (k + 1) texts) refl e (one_refused texts (k + 1))
  where
    by_first : (j : Judged Advert) → contract_in text ≡ j → (later : JudgedAll) → contracts_in (k + 1) texts ≡ later
        → is_err (onto_judged k j later) ≡ true → (is_err (contracts_in (k + 1) texts) ≡ true → IsOneRefused texts)
        → IsOneRefused (text ∷ texts)
    by_first (Err why) c later l f rest = let x = (contracts_read.refused text why).0 c in inl (x.0, x.1)
    by_first (Ok advert) c (Err refusal) l f rest = inr (rest (ap (is_err {T = List Advert} {E = ℕ × List ℕ}) l))
    by_first (Ok advert) c (Ok others) l f rest = absurd (cc)

first_err : (k : ℕ) (j : Judged Advert) (later : JudgedAll) → is_err j ≡ true → is_err (onto_judged k j later) ≡ true
first_err k (Err why) later e = refl
first_err k (Ok advert) later e = absurd (cc)

later_err : (k : ℕ) (j : Judged Advert) (later : JudgedAll) → is_err later ≡ true → is_err (onto_judged k j later) ≡ true
later_err k (Err why) later e = refl
later_err k (Ok advert) (Err refusal) e = refl
later_err k (Ok advert) (Ok adverts) e = absurd (cc)

refuse_one : (texts : List Text) (k : ℕ) → IsOneRefused texts → is_err (contracts_in k texts) ≡ true
refuse_one [] k h = absurd h
refuse_one (text ∷ texts) k (inl h) = first_err k (contract_in text) (contracts_in (k + 1) texts) ((contract_err text).1 h)
refuse_one (text ∷ texts) k (inr h) = later_err k (contract_in text) (contracts_in (k + 1) texts) (refuse_one texts (k + 1) h)

pub contracts_err : (texts : List Text) → (is_err (contracts_in 0 texts) ≡ true) ↔ IsOneRefused texts
contracts_err texts = (one_refused texts 0, refuse_one texts 0)

-- one alone
alone_err : (text : Text) → (is_err (contracts_in 0 (text ∷ [])) ≡ true) ↔ ((r : Refusal) × IsRefusedContract text r)
alone_err text = both (contracts_err (text ∷ [])) (of_one, λ r. inl r)
  where
    of_one : ((r : Refusal) × IsRefusedContract text r) ⊎ ⊥ → (r : Refusal) × IsRefusedContract text r
    of_one (inl r) = r
    of_one (inr n) = absurd n

-- ---- what is played

module _ (hash : List ℕ → List ℕ) (claim other : OfRun) (iff : (s : Setup) (es : List Event) → claim s es ↔ other s es) where
  module _ (text : Text) (texts : List Text) where
    by_contracts : (run : Run) → run_in text ≡ Ok run → (j : JudgedAll) → contracts_in 0 texts ≡ j → PlaysFiles hash claim (Ok run) j
        → RunsHeld hash other text texts
    by_contracts run e (Err refusal) c p = absurd p
    by_contracts run e (Ok adverts) c p =
        (run, adverts, (run_files_read.read text run).0 e, held texts 0 adverts c, (iff (setup_of hash run adverts) run.events).0 p)

    by_run : (j : Judged Run) → run_in text ≡ j → PlaysFiles hash claim j (contracts_in 0 texts) → RunsHeld hash other text texts
    by_run (Err why) e p = absurd p
    by_run (Ok run) e p = by_contracts run e (contracts_in 0 texts) refl p

    plays_by : RunsHeld hash other text texts → PlaysFiles hash claim (run_in text) (contracts_in 0 texts)
    plays_by h =
        subst (λ (j : Judged Run). PlaysFiles hash claim j (contracts_in 0 texts)) (sym ((run_files_read.read text (h.0)).1 (h.2)))
        (subst (λ (j : JudgedAll). PlaysFiles hash claim (Ok (h.0)) j) (sym (hold texts 0 (h.1) (h.3)))
        ((iff (setup_of hash (h.0) (h.1)) (h.0.events)).1 (h.4)))

    pub files : PlaysFiles hash claim (run_in text) (contracts_in 0 texts) ↔ RunsHeld hash other text texts
    files = (by_run (run_in text) refl, plays_by)

  plays : (command : Command) (texts : List Text) → Plays hash claim command texts ↔ PlaysHeld hash other command texts
  plays (check contract) texts = same
  plays (play run contracts) texts = files (text_at texts 0) (drop 1 texts)
  plays (plan run contract) texts = files (text_at texts 0) (text_at texts 1 ∷ [])
  plays (make number size) texts = iff _ _
  plays (psbt_of run contract which) texts = files (text_at texts 0) (text_at texts 1 ∷ [])
  plays (psbt_shown file) texts = same
  plays (psbt_joined first second) texts = same
  plays (weigh run contract) texts = files (text_at texts 0) (text_at texts 1 ∷ [])
  plays (audit run contract file) texts = files (text_at texts 0) (text_at texts 1 ∷ [])
  plays (auto run contract rules) texts = files (text_at texts 0) (text_at texts 1 ∷ [])

-- ---- strategies

module _ (run_bytes : ℕ) (h : Header) (es : List Event) (text : Text) (claim : List Rule → Type 0) where
  by_rules : (j : Judged (List Rule)) → strategy_in run_bytes h es text ≡ j → HasRules j claim
      → (rules : List Rule) × HoldsRules run_bytes h es text rules × claim rules
  by_rules (Err why) e p = absurd p
  by_rules (Ok rules) e p = (rules, (strategy_files_read.read run_bytes h es text rules).0 e, p)

  follows : HasRules (strategy_in run_bytes h es text) claim ↔ ((rules : List Rule) × HoldsRules run_bytes h es text rules × claim rules)
  follows = (
    by_rules (strategy_in run_bytes h es text) refl,
    λ x. subst (λ (j : Judged (List Rule)). HasRules j claim) (sym ((strategy_files_read.read run_bytes h es text (x.0)).1 (x.1))) (x.2),
  )

module _ (run_bytes : ℕ) (h : Header) (es : List Event) where
  by_amount : (text : List ℕ) (rules : List Rule) → SpellStrategy h (lines_of text) rules → IsTooMuch run_bytes es rules → (b : Bool)
      → nat_le (length es + length rules) most_events ≡ b → (r : StrategyRefusal) × IsRefusedStrategy run_bytes h es (Some text) r
  by_amount text rules s (inl many) b e = (too_many, (rules, s, many))
  by_amount text rules s (inr bytes) true e = (too_much, (rules, s, le_is _ _ true e refl, bytes))
  by_amount text rules s (inr bytes) false e = (too_many, (rules, s, gt_is _ _ false e refl))

  refused_is : (text : Text) → IsRefused run_bytes h es text → (r : StrategyRefusal) × IsRefusedStrategy run_bytes h es text r
  refused_is None x = (too_long, tt)
  refused_is (Some text) (inl x) = (strategy.first (x.0), (fault_read h text (x.0)).0 (x.1))
  refused_is (Some text) (inr x) = by_amount text (x.0) ((rules_read h text (x.0)).0 (x.1)) (x.2) _ refl

  is_refused_for : (text : Text) (r : StrategyRefusal) → IsRefusedStrategy run_bytes h es text r → IsRefused run_bytes h es text
  is_refused_for None r x = tt
  is_refused_for (Some text) too_long x = absurd x
  is_refused_for (Some text) (strategy.first fault) x = inl (fault, (fault_read h text fault).1 x)
  is_refused_for (Some text) too_many x = inr (x.0, (rules_read h text (x.0)).1 (x.1), inl (x.2))
  is_refused_for (Some text) too_much x = inr (x.0, (rules_read h text (x.0)).1 (x.1), inr (x.3))

  strategy_err : (text : Text) → IsRefused run_bytes h es text ↔ ((r : StrategyRefusal) × IsRefusedStrategy run_bytes h es text r)
  strategy_err text = (refused_is text, λ x. is_refused_for text (x.0) (x.1))

-- ---- what is claimed of what is played

guess_iff : (command : Command) (texts : List Text) (s : Setup) (es : List Event) → Guess command texts s es ↔ GuessHeld command texts s es
guess_iff (check contract) texts s es = same
guess_iff (play run contracts) texts s es = same
guess_iff (plan run contract) texts s es = same
guess_iff (make number size) texts s es = same
guess_iff (psbt_of run contract which) texts s es = same
guess_iff (psbt_shown file) texts s es = same
guess_iff (psbt_joined first second) texts s es = same
guess_iff (weigh run contract) texts s es = same
guess_iff (audit run contract file) texts s es = same
guess_iff (auto run contract rules) texts s es =
    follows (size_of (text_at texts 0)) s.header es (text_at texts 2) (λ rules. IsGuessing s es ⊎ (IsUnhalted s es × TurnsGuess s es rules))

collision_iff : (command : Command) (texts : List Text) (s : Setup) (es : List Event)
    → Collision command texts s es ↔ CollisionHeld command texts s es
collision_iff (check contract) texts s es = same
collision_iff (play run contracts) texts s es = same
collision_iff (plan run contract) texts s es = same
collision_iff (make number size) texts s es = same
collision_iff (psbt_of run contract which) texts s es = same
collision_iff (psbt_shown file) texts s es = same
collision_iff (psbt_joined first second) texts s es = same
collision_iff (weigh run contract) texts s es = same
collision_iff (audit run contract file) texts s es = same
collision_iff (auto run contract rules) texts s es =
    follows (size_of (text_at texts 0)) s.header es (text_at texts 2)
    (λ rules. IsColliding s es ⊎ (IsUnhalted s es × TurnsCollide s es rules))

no_halt_iff : (command : Command) (texts : List Text) (s : Setup) (es : List Event)
    → NoHalt command texts s es ↔ NoHaltHeld command texts s es
no_halt_iff (check contract) texts s es = same
no_halt_iff (play run contracts) texts s es = same
no_halt_iff (plan run contract) texts s es = same
no_halt_iff (make number size) texts s es = same
no_halt_iff (psbt_of run contract which) texts s es = same
no_halt_iff (psbt_shown file) texts s es = same
no_halt_iff (psbt_joined first second) texts s es = same
no_halt_iff (weigh run contract) texts s es = same
no_halt_iff (audit run contract file) texts s es = same
no_halt_iff (auto run contract rules) texts s es =
    follows (size_of (text_at texts 0)) s.header es (text_at texts 2) (λ rules. IsUnhalted s es × TurnsEnd s es rules)

audit_iff : (command : Command) (texts : List Text) (s : Setup) (es : List Event)
    → AuditRefused command texts s es ↔ AuditFileRefused command texts s es
audit_iff (check contract) texts s es = same
audit_iff (play run contracts) texts s es = same
audit_iff (plan run contract) texts s es = same
audit_iff (make number size) texts s es = same
audit_iff (psbt_of run contract which) texts s es = same
audit_iff (psbt_shown file) texts s es = same
audit_iff (psbt_joined first second) texts s es = same
audit_iff (weigh run contract) texts s es = same
audit_iff (audit run contract file) texts s es = same
audit_iff (auto run contract rules) texts s es = same

strategy_iff : (command : Command) (texts : List Text) (s : Setup) (es : List Event)
    → StrategyRefused command texts s es ↔ StrategyFileRefused command texts s es
strategy_iff (check contract) texts s es = same
strategy_iff (play run contracts) texts s es = same
strategy_iff (plan run contract) texts s es = same
strategy_iff (make number size) texts s es = same
strategy_iff (psbt_of run contract which) texts s es = same
strategy_iff (psbt_shown file) texts s es = same
strategy_iff (psbt_joined first second) texts s es = same
strategy_iff (weigh run contract) texts s es = same
strategy_iff (audit run contract file) texts s es = same
strategy_iff (auto run contract rules) texts s es = strategy_err (size_of (text_at texts 0)) s.header es (text_at texts 2)

-- ---- two partially signed transactions

none_first : (k : ℕ) (as' bs : List PsbtInput) → NoneApart as' bs → FirstApart k as' bs → ⊥
none_first k [] bs n f = f
none_first k (a ∷ as') [] n f = f
none_first zero (a ∷ as') (b ∷ bs) n f = n.0 f
none_first (suc k) (a ∷ as') (b ∷ bs) n f = none_first k as' bs (n.1) (f.1)

abbrev err_of : Result Psbt Discord → Bool
err_of x = is_err x

module _ (p q : Psbt) (fp : IsFitting p) (fq : IsFitting q) where
  unjoined : (x : Result Psbt Discord) → combined p q ≡ x → is_err x ≡ true → AreUnjoined p q
  unjoined (Ok joined) c e = absurd (cc)
  unjoined (Err other_tx) c e = inl ((other_tx_exactly p q fp.is fq.is).0 c)
  unjoined (Err (conflict n)) c e = let x = (conflict_exactly p q n fp fq).0 c in inr (n, x.0, x.1)

  not_joined : AreUnjoined p q → is_err (combined p q) ≡ true
  not_joined (inl d) = ap err_of ((other_tx_exactly p q fp.is fq.is).1 d)
  not_joined (inr x) = ap err_of ((conflict_exactly p q (x.0) fp fq).1 (x.1, x.2))

  joined_by : (x : Result Psbt Discord) → combined p q ≡ x → is_err x ≡ false → (joined : Psbt) × IsJoined p q joined
  joined_by (Ok joined) c e = (joined, combined_is_joined p q joined fp fq c)
  joined_by (Err why) c e = absurd (cc)

  is_joined : (x : Result Psbt Discord) → combined p q ≡ x → (joined : Psbt) → IsJoined p q joined → is_err x ≡ false
  is_joined (Ok other) c joined j = refl
  is_joined (Err other_tx) c joined j = absurd ((other_tx_exactly p q fp.is fq.is).0 c (sym j.first ∙ j.second))
  is_joined (Err (conflict n)) c joined j =
      absurd (none_first n p.inputs q.inputs j.calm ((conflict_exactly p q n fp fq).0 c).1)

module _ (a b : Text) where
  abbrev AreRefused : Type 0
  AreRefused =
      ((why : PsbtRefusal) × IsRefusedPsbt a why)
      ⊎ ((((p : Psbt) × HoldsPsbt a p) × ((why : PsbtRefusal) × IsRefusedPsbt b why)) ⊎ BothHold a b AreUnjoined)

  refused_by : (j k : Judged Psbt) → psbt_in a ≡ j → psbt_in b ≡ k → are_refused j k ≡ true → AreRefused
  refused_by (Err why) k e f h = let x = (psbt_files_read.refused a why).0 e in inl (x.0, x.1)
  refused_by (Ok p) (Err why) e f h =
      let x = (psbt_files_read.refused b why).0 f in inr (inl ((p, (psbt_files_read.read a p).0 e), (x.0, x.1)))
  refused_by (Ok p) (Ok q) e f h =
      let hp = (psbt_files_read.read a p).0 e in
      let hq = (psbt_files_read.read b q).0 f in
      inr (inr (p, q, hp, hq, unjoined p q (fits a p hp) (fits b q hq) (combined p q) refl h))

  refused_back : AreRefused → are_refused (psbt_in a) (psbt_in b) ≡ true
  refused_back (inl x) =
      ap (λ (j : Judged Psbt). are_refused j (psbt_in b)) ((psbt_files_read.refused a (psbt_refusal_text (x.0))).1 (x.0, x.1, refl))
  refused_back (inr (inl x)) =
      let e = (psbt_files_read.read a (x.0.0)).1 (x.0.1) in
      let f = (psbt_files_read.refused b (psbt_refusal_text (x.1.0))).1 (x.1.0, x.1.1, refl) in
      λ i. are_refused (e i) (f i)
  refused_back (inr (inr x)) =
      let e = (psbt_files_read.read a (x.0)).1 (x.2) in
      let f = (psbt_files_read.read b (x.1)).1 (x.3) in
      (λ i. are_refused (e i) (f i)) ∙ not_joined (x.0) (x.1) (fits a (x.0) (x.2)) (fits b (x.1) (x.3)) (x.4)

  joined_err : (are_refused (psbt_in a) (psbt_in b) ≡ true) ↔ AreRefused
  joined_err = (refused_by (psbt_in a) (psbt_in b) refl refl, refused_back)

  abbrev AreJoined : Type 0
  AreJoined = BothHold a b (λ p q. (joined : Psbt) × IsJoined p q joined)

  taken_by : (j k : Judged Psbt) → psbt_in a ≡ j → psbt_in b ≡ k → are_refused j k ≡ false → AreJoined
  taken_by (Err why) k e f h = absurd (cc)
  taken_by (Ok p) (Err why) e f h = absurd (cc)
  taken_by (Ok p) (Ok q) e f h =
      let hp = (psbt_files_read.read a p).0 e in
      let hq = (psbt_files_read.read b q).0 f in
      (p, q, hp, hq, joined_by p q (fits a p hp) (fits b q hq) (combined p q) refl h)

  taken_back : AreJoined → are_refused (psbt_in a) (psbt_in b) ≡ false
  taken_back x =
      let e = (psbt_files_read.read a (x.0)).1 (x.2) in
      let f = (psbt_files_read.read b (x.1)).1 (x.3) in
      (λ i. are_refused (e i) (f i))
      ∙ is_joined (x.0) (x.1) (fits a (x.0) (x.2)) (fits b (x.1) (x.3)) (combined (x.0) (x.1)) refl (x.4.0) (x.4.1)

  joined_ok : (are_refused (psbt_in a) (psbt_in b) ≡ false) ↔ AreJoined
  joined_ok = (taken_by (psbt_in a) (psbt_in b) refl refl, taken_back)

-- ---- refusals by command

not_both : false ≡ true → ⊥
not_both e = cc

run_refused : (command : Command) (texts : List Text) → (is_run_refused command texts ≡ true) ↔ RunRefused command texts
run_refused (check contract) texts = neither not_both (λ x. x)
run_refused (play run contracts) texts = run_err (text_at texts 0)
run_refused (plan run contract) texts = run_err (text_at texts 0)
run_refused (make number size) texts = neither not_both (λ x. x)
run_refused (psbt_of run contract which) texts = run_err (text_at texts 0)
run_refused (psbt_shown file) texts = neither not_both (λ x. x)
run_refused (psbt_joined first second) texts = neither not_both (λ x. x)
run_refused (weigh run contract) texts = run_err (text_at texts 0)
run_refused (audit run contract file) texts = run_err (text_at texts 0)
run_refused (auto run contract rules) texts = run_err (text_at texts 0)

-- no run file is refused, and one of these contract files is
after_run : (text : Text) (texts : List Text)
    → ((is_err (run_in text) ≡ false) × (is_err (contracts_in 0 texts) ≡ true)) ↔ RefusedAfter text texts
after_run text texts = (
  λ x. ((run_ok text).0 (x.0), (contracts_err texts).0 (x.1)),
  λ x. ((run_ok text).1 (x.0), (contracts_err texts).1 (x.1)),
)

contract_refused : (command : Command) (texts : List Text)
    → ((is_run_refused command texts ≡ false) × (is_contract_refused command texts ≡ true)) ↔ ContractRefused command texts
contract_refused (check contract) texts =
    (λ x. (alone_err (text_at texts 0)).0 (x.1), λ r. (refl, (alone_err (text_at texts 0)).1 r))
contract_refused (play run contracts) texts = after_run (text_at texts 0) (drop 1 texts)
contract_refused (plan run contract) texts = after_run (text_at texts 0) (text_at texts 1 ∷ [])
contract_refused (make number size) texts = neither (λ x. not_both (x.1)) (λ x. x)
contract_refused (psbt_of run contract which) texts = after_run (text_at texts 0) (text_at texts 1 ∷ [])
contract_refused (psbt_shown file) texts = neither (λ x. not_both (x.1)) (λ x. x)
contract_refused (psbt_joined first second) texts = neither (λ x. not_both (x.1)) (λ x. x)
contract_refused (weigh run contract) texts = after_run (text_at texts 0) (text_at texts 1 ∷ [])
contract_refused (audit run contract file) texts = after_run (text_at texts 0) (text_at texts 1 ∷ [])
contract_refused (auto run contract rules) texts = after_run (text_at texts 0) (text_at texts 1 ∷ [])

psbt_refused : (command : Command) (texts : List Text) → (is_psbt_refused command texts ≡ true) ↔ PsbtRefused command texts
psbt_refused (check contract) texts = neither not_both (λ x. x)
psbt_refused (play run contracts) texts = neither not_both (λ x. x)
psbt_refused (plan run contract) texts = neither not_both (λ x. x)
psbt_refused (make number size) texts = neither not_both (λ x. x)
psbt_refused (psbt_of run contract which) texts = neither not_both (λ x. x)
psbt_refused (psbt_shown file) texts = psbt_err (text_at texts 0)
psbt_refused (psbt_joined first second) texts = joined_err (text_at texts 0) (text_at texts 1)
psbt_refused (weigh run contract) texts = neither not_both (λ x. x)
psbt_refused (audit run contract file) texts = neither not_both (λ x. x)
psbt_refused (auto run contract rules) texts = neither not_both (λ x. x)

-- ---- all is well

module _ (hash : List ℕ → List ℕ) where
  nothing_halts : (command : Command) (texts : List Text)
      → Plays hash (NoHalt command texts) command texts ↔ PlaysHeld hash (NoHaltHeld command texts) command texts
  nothing_halts command texts = plays hash (NoHalt command texts) (NoHaltHeld command texts) (no_halt_iff command texts) command texts

  all_is_held : (command : Command) (texts : List Text) → AllIsWell hash command texts ↔ AllIsHeld hash command texts
  all_is_held (check contract) texts = contract_ok (text_at texts 0)
  all_is_held (play run contracts) texts = nothing_halts (play run contracts) texts
  all_is_held (plan run contract) texts = nothing_halts (plan run contract) texts
  all_is_held (make number size) texts = nothing_halts (make number size) texts
  all_is_held (psbt_of run contract which) texts = nothing_halts (psbt_of run contract which) texts
  all_is_held (psbt_shown file) texts = psbt_ok (text_at texts 0)
  all_is_held (psbt_joined first second) texts = joined_ok (text_at texts 0) (text_at texts 1)
  all_is_held (weigh run contract) texts = nothing_halts (weigh run contract) texts
  all_is_held (audit run contract file) texts = nothing_halts (audit run contract file) texts
  all_is_held (auto run contract rules) texts = nothing_halts (auto run contract rules) texts

pub causes_in_files : CausesInFiles
causes_in_files hash command texts = record {
  whole = both (exact_causes.whole hash command texts) (all_is_held hash command texts);
  contract_refused = both (causes.contract_refused hash command texts) (contract_refused command texts);
  run_refused = both (causes.run_refused hash command texts) (run_refused command texts);
  guessed = both (exact_causes.guessed hash command texts)
      (plays hash (Guess command texts) (GuessHeld command texts) (guess_iff command texts) command texts);
  collided = both (exact_causes.collided hash command texts)
      (plays hash (Collision command texts) (CollisionHeld command texts) (collision_iff command texts) command texts);
  psbt_refused = both (causes.psbt_refused hash command texts) (psbt_refused command texts);
  audit_refused = both (exact_causes.audit_refused hash command texts)
      (plays hash (AuditRefused command texts) (AuditFileRefused command texts) (audit_iff command texts) command texts);
  strategy_refused = both (exact_causes.strategy_refused hash command texts)
      (plays hash (StrategyRefused command texts) (StrategyFileRefused command texts) (strategy_iff command texts) command texts);
}
