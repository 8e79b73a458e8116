-- Valid texts make runs of which the theorems on runs speak, and so `play` shows a faithful run.
use Rattle.std.proofs.Common.{◌≡◌, ℕ, suc, ◌+◌, Bool, true, false, List, [], ◌∷◌, length, map, Option, Some, None, Ok, Err, refl, sym, ap}
use Rattle.std.proofs.Common.{subst, ◌∙◌, arith}
use Rattle.std.specs.Prelude.{if◌then◌else◌, nat_lt, Result}
use Rattle.std.specs.List.{AllByRecursion}
use Rattle.spec_terms.specs.Advert.{Advert}
use Rattle.spec_terms.specs.Faults.{first_fault, first_limit, IsWellFormed}
use Rattle.spec_terms.specs.declared.limit.Limit.{Limit}
use Rattle.spec_terms.specs.declared.place.Place.{Place}
use Rattle.spec_calculus.specs.declared.step.Step.{Step}
use Rattle.spec_calculus.specs.Steps.{Legal, after_steps}
use Rattle.spec_run.specs.declared.event.Event.{Event}
use Rattle.spec_run.specs.declared.event.Run.{Run}
use Rattle.spec_run.specs.Pending.{Halt, Collided, Guessed}
use Rattle.spec_run.specs.Event.{opening_collision}
use Rattle.spec_run.specs.Translation.{Turn, opening_configuration, course, last_world, last_configuration, first_halt, in_order}
use Rattle.spec_run.specs.Statements.{Simulates}
use Rattle.spec_run.specs.Setup.{Setup}
use Rattle.spec_text.specs.declared.stop.TextFault.{TextFault}
use Rattle.spec_text.specs.Limits.{most_text_bytes}
use Rattle.spec_text.specs.ReadAdvert.{read_answer}
use Rattle.spec_text.specs.Refusals.{Judged, judged_limit, judged_fault, judged_answer, contract_of, run_of}
use Rattle.spec_text.specs.Played.{entry_of, entries, ending_from, ending, play_text}
use Rattle.spec_text.specs.declared.entry.Entry.{Entry}
use Rattle.spec_text.specs.PlayText.{report_text}
use Rattle.spec_tool.specs.Commands.{Printed, JudgedAll, onto_judged, contracts_from, setup_of, run_answer, with_contracts, with_run}
use Rattle.spec_tool.specs.Statements.{ValidRunTheorem}
use Rattle.theory_text.proofs.Within.Adverts.{read_is_readable}
use Rattle.theory_text.proofs.Lines.ValidRuns.{run_file_is}
use Rattle.spec_tool.specs.Headline.{AreEntriesOf, EndsRun, IsShown, HeadlineTheorem}
use Rattle.theory_run.proofs.Simulated.{simulation}
use Rattle.theory_run.proofs.Honest.Throughout.{licence}
use Rattle.theory_run.proofs.Halting.HaltsRightly.{halts}
use Rattle.theory_offers.proofs.Throughout.{kept_throughout_offers}
use Rattle.theory_offers.proofs.WholeRun.{kept_offers}
use Rattle.theory_offers.proofs.Complete.{complete}

-- ---- one contract

abbrev accepted : Advert → Judged Advert
accepted a = Ok a

accepted_eq : (a b : Advert) → accepted a ≡ accepted b → a ≡ b
accepted_eq a b h = cc

refused_accepted : (why : List ℕ) (b : Advert) → Err why ≡ accepted b → ⊥
refused_accepted why b h = cc

record Limited (a b : Advert) (q : Option (Limit × Place)) : Type 0 where
  none : q ≡ None
  same : a ≡ b

limited : (a b : Advert) (q : Option (Limit × Place)) → judged_limit a q ≡ accepted b → Limited a b q
limited a b None h = record { none = refl; same = accepted_eq a b h }
limited a b (Some p) h = absurd (refused_accepted _ b h)

record Faultless (a b : Advert) (o : Option (ℕ × Place)) : Type 0 where
  none : o ≡ None
  limits : Limited a b (first_limit a)

faultless : (a b : Advert) (o : Option (ℕ × Place)) → judged_fault a o ≡ accepted b → Faultless a b o
faultless a b None h = record { none = refl; limits = limited a b (first_limit a) h }
faultless a b (Some p) h = absurd (refused_accepted _ b h)

abbrev an_answer : Advert → Result Advert TextFault
an_answer a = Ok a

-- what is accepted was read, and has neither fault nor limit
record Accepted (answer : Result Advert TextFault) (b : Advert) : Type 0 where
  read : answer ≡ an_answer b
  fault : first_fault b ≡ None
  limit : first_limit b ≡ None

answer_is : (answer : Result Advert TextFault) (b : Advert) → judged_answer answer ≡ accepted b → Accepted answer b
answer_is (Err fault) b h = absurd (refused_accepted _ b h)
answer_is (Ok a) b h =
    let f = faultless a b (first_fault a) h in
    let same = f.limits.same in
    record {
      read = ap an_answer same;
      fault = subst (λ (x : Advert). first_fault x ≡ None) same f.none;
      limit = subst (λ (x : Advert). first_limit x ≡ None) same f.limits.none;
    }

not_long : (t : Bool) (why : List ℕ) (judged : Judged Advert) (b : Advert)
    → (if t then Err why else judged) ≡ accepted b → judged ≡ accepted b
not_long true why judged b h = absurd (refused_accepted why b h)
not_long false why judged b h = h

contract_is : (text : List ℕ) (b : Advert) → contract_of text ≡ accepted b → IsWellFormed b
contract_is text b h =
    let a = answer_is (read_answer text) b (not_long (nat_lt most_text_bytes (length text)) _ (judged_answer (read_answer text)) b h) in
    record { readable = read_is_readable text b a.read; faultless = a.fault; limited = a.limit }

-- ---- all contracts

abbrev all_accepted : List Advert → JudgedAll
all_accepted as' = Ok as'

all_eq : (as' bs : List Advert) → all_accepted as' ≡ all_accepted bs → as' ≡ bs
all_eq as' bs h = cc

none_accepted : (refusal : ℕ × List ℕ) (bs : List Advert) → Err refusal ≡ all_accepted bs → ⊥
none_accepted refusal bs h = cc

record AreWellFormed (n : ℕ) (adverts : List Advert) : Type 0 where
  all : AllByRecursion IsWellFormed adverts
  size : length adverts ≡ n

onto_is : (k n : ℕ) (judged : Judged Advert) (later : JudgedAll) (bs : List Advert)
    → ((a : Advert) → judged ≡ accepted a → IsWellFormed a)
    → ((as' : List Advert) → later ≡ all_accepted as' → AreWellFormed n as')
    → onto_judged k judged later ≡ all_accepted bs → AreWellFormed (suc n) bs
onto_is k n (Err why) later bs f g h = absurd (none_accepted _ bs h)
onto_is k n (Ok a) (Ok as') bs f g h =
    let t = g as' refl in
    subst (AreWellFormed (suc n)) (all_eq (a ∷ as') bs h) (record { all = (f a refl, t.all); size = omega (arith, t.size) })
onto_is k n (Ok a) (Err refusal) bs f g h = absurd (none_accepted _ bs h)

contracts_are : (k : ℕ) (texts : List (List ℕ)) (bs : List Advert)
    → contracts_from k texts ≡ all_accepted bs → AreWellFormed (length texts) bs
contracts_are k [] bs h = subst (AreWellFormed 0) (all_eq [] bs h) (record { all = tt; size = refl })
contracts_are k (text ∷ texts) bs h =
    onto_is k (length texts) (contract_of text) (contracts_from (k + 1) texts) bs (contract_is text) (contracts_are (k + 1) texts) h

-- ---- the run

pub valid_runs_are : ValidRunTheorem
valid_runs_are hash bytes run_file contract_files run contracts r c few opens =
    let x = run_file_is run_file run r in
    let w = contracts_are 0 contract_files contracts c in
    record {
      setup = record { hash = bytes; header = x.header; few_contracts = omega (arith, w.size, few); contracts = w.all };
      opens = opens;
      events = x.events (setup_of hash run contracts) refl;
    }

-- ---- the headline

answer_of_run : (hash : List ℕ → List ℕ) (run_file : List ℕ) (contract_files : List (List ℕ)) (judged : Judged Run) (run : Run)
    → judged ≡ Ok run
    → with_run play_text hash judged contract_files ≡ with_contracts play_text hash run (contracts_from 0 contract_files)
answer_of_run hash run_file contract_files judged run h = ap (λ (j : Judged Run). with_run play_text hash j contract_files) h

answer_of_contracts : (hash : List ℕ → List ℕ) (run : Run) (judged : JudgedAll) (contracts : List Advert)
    → judged ≡ Ok contracts
    → with_contracts play_text hash run judged ≡ run_answer play_text (setup_of hash run contracts) run.events
answer_of_contracts hash run judged contracts h = ap (λ (j : JudgedAll). with_contracts play_text hash run j) h

-- an entry for each turn
entries_match : (ts : List Turn) → AreEntriesOf (map entry_of ts) ts
entries_match [] = tt
entries_match (t ∷ ts) = (record { event = refl; outcome = refl; steps = refl }, entries_match ts)

-- the steps of the entries are those of the turns
entries_steps : (ts : List Turn) → map (λ (e : Entry). e.steps) (map entry_of ts) ≡ map (λ (t : Turn). t.steps) ts
entries_steps [] = refl
entries_steps (t ∷ ts) = λ i. t.steps ∷ entries_steps ts i

-- what is printed of a run is what it came to
shown_is : (s : Setup) (es : List Event) → opening_collision s ≡ None → Simulates s es → IsShown s es (entries s es) (ending s es)
shown_is s es opens simulates =
    let ts = (course s es).turns in
    let same = entries_steps ts in
    let leads : after_steps (opening_configuration s) (in_order (map (λ (e : Entry). e.steps) (entries s es))) ≡ last_configuration s es
    = ap (λ xs. after_steps (opening_configuration s) (in_order xs)) same ∙ simulates.leads in
    record {
      turns = entries_match ts;
      legal = subst (λ xs. Legal (opening_configuration s) (in_order xs)) (sym same) simulates.legal;
      ends = by_halt (in_order (map (λ (e : Entry). e.steps) (entries s es))) leads (opening_collision s) (first_halt s es) opens refl;
    }
  where
    by_halt : (steps : List Step) → after_steps (opening_configuration s) steps ≡ last_configuration s es
        → (o : Option (List ℕ × List ℕ)) (h : Option (Event × Halt)) → o ≡ None → first_halt s es ≡ h
        → EndsRun s es steps (ending_from (last_world s es) (last_configuration s es) o h)
    by_halt steps leads (Some p) h eo eh = cc
    by_halt steps leads None None eo eh = (eh, record { leads = leads; agrees = simulates.agrees; height = refl; outputs = refl }, refl)
    by_halt steps leads None (Some (e, Collided earlier later)) eo eh = eh
    by_halt steps leads None (Some (e, Guessed party secret)) eo eh = eh

-- what is printed is the text of these entries and of this end
text_is : (s : Setup) (es : List Event) → play_text s es ≡ report_text s.header.deposits (entries s es) (ending s es)
unfolding play_text
text_is s es = refl

pub headline : HeadlineTheorem
headline hash bytes run_file contract_files run contracts r c few =
    let answer = answer_of_run hash run_file contract_files (run_of run_file) run r
    ∙ answer_of_contracts hash run (contracts_from 0 contract_files) contracts c in
    let s : Setup = setup_of hash run contracts in
    record {
      run = run;
      contracts = contracts;
      valid = r;
      well_formed = c;
      text = ap (λ (p : Printed). p.text) answer ∙ text_is s run.events;
      status = ap (λ (p : Printed). p.status) answer;
      opening = halts.opening s;
      unopened = λ pair collides.
          ap (λ (o : Option (List ℕ × List ℕ)).
          ending_from (last_world s run.events) (last_configuration s run.events) o (first_halt s run.events)) collides;
      faithful = λ opens.
          let is = valid_runs_are hash bytes run_file contract_files run contracts r c few opens in
          let simulates = simulation s run.events is in
          record {
            simulates = simulates;
            licensed = licence s run.events is;
            offers = kept_offers s run.events is;
            offers_throughout = kept_throughout_offers s run.events is;
            offers_complete = complete s run.events is;
            halts = halts.runs s run.events is;
            shown = shown_is s run.events opens simulates;
          };
    }
