-- What is printed of a played run, read from its text: the opening deposits, the events with their outcomes and steps, and the end.
use Rattle.std.specs.Prelude.{ℕ, ◌+◌, List, [], ◌∷◌, ◌++◌, map, flat_map, Bool, ◌&&◌, not, Option, Some, None, is_some}
use Rattle.spec_terms.specs.Advert.{Advert}
use Rattle.spec_terms.specs.Precondition.{secrets}
use Rattle.spec_calculus.specs.declared.parts.Deposit.{Deposit}
use Rattle.spec_calculus.specs.declared.parts.ActiveContract.{ActiveContract}
use Rattle.spec_calculus.specs.declared.step.Step.{Step}
use Rattle.spec_calculus.specs.declared.step.Step.TheVariants as steps
use Rattle.spec_calculus.specs.Configuration.{Configuration}
use Rattle.spec_calculus.specs.Branches.{length_at, is_revealed}
use Rattle.spec_run.specs.declared.event.Event.{Event}
use Rattle.spec_run.specs.declared.outcome.Outcome.{Outcome}
use Rattle.spec_text.specs.declared.entry.Entry.{Entry}
use Rattle.spec_text.specs.Lines.{lines_of}
use Rattle.spec_text.specs.Words.{◌>>=◌, given, all_of}
use Rattle.spec_text.specs.EventLines.{is_some_list}
use Rattle.spec_text.specs.PlayText.{Ending}
use Rattle.spec_text.specs.PlayText as print
use Rattle.theory_play_text.specs.Lines.{Said, ShownSecret, no_move, said_by}
use Rattle.theory_play_text.specs.Lines as line

-- ---- what is printed of a run

-- an event with its outcome and its steps; of a move that is authorised the party alone is printed
abbrev pub shown_step : Step → Step
shown_step (steps.AuthMove party action) = steps.AuthMove party no_move
shown_step s = s

abbrev pub shown_entry : Entry → Entry
shown_entry e = record { event = e.event; outcome = e.outcome; steps = map shown_step e.steps }

-- the end of a run that wasn't halted
pub record End : Type 0 where
  pub tip : ℕ
  pub live : List (ℕ × ℕ)
  pub time : ℕ
  pub deposits : List Deposit
  pub active : List ActiveContract
  pub secrets : List ShownSecret
  pub offers : List Event

pub data Ended : Type 0 where
  whole : (end : End) → Ended
  guess : (event : Event) → (party : List ℕ) → (secret : List ℕ) → Ended
  collision : (event : Option Event) → (earlier : List ℕ) → (later : List ℕ) → Ended

pub record Report : Type 0 where
  pub deposits : List (List ℕ × ℕ)
  pub entries : List Entry
  pub ended : Ended

-- a secret that is committed
abbrev pub secret_if : ℕ → List ℕ → List ℕ → Bool → Option (Option ℕ) → List ShownSecret
secret_if k a x b None = []
secret_if k a x b (Some n) = record { contract = k; party = a; name = x; length = n; revealed = b } ∷ []

abbrev pub secret_of : Configuration → ℕ → List ℕ × List ℕ → List ShownSecret
secret_of g k x = secret_if k (x.1) (x.0) (is_revealed g.revealed k (x.1) (x.0)) (length_at g.committed k (x.1) (x.0))

-- the committed secrets, by contract from number k on, and by precondition
abbrev pub secrets_from : Configuration → ℕ → List Advert → List ShownSecret
secrets_from g k [] = []
secrets_from g k (c ∷ cs) = flat_map (secret_of g k) (secrets c.pre) ++ secrets_from g (k + 1) cs

abbrev pub shown_end : ℕ → List (ℕ × ℕ) → Configuration → List Event → End
shown_end height outputs g offers = record {
  tip = height;
  live = outputs;
  time = g.time;
  deposits = g.deposits;
  active = g.active;
  secrets = secrets_from g 0 g.contracts;
  offers = offers;
}

-- what is printed; a collision of the opening is printed alone
abbrev pub shown : List (List ℕ × ℕ) → List Entry → Ending → Report
shown deposits entries (print.whole height outputs g offers) =
    record { deposits = deposits; entries = map shown_entry entries; ended = whole (shown_end height outputs g offers) }
shown deposits entries (print.guessed event party secret) =
    record { deposits = deposits; entries = map shown_entry entries; ended = guess event party secret }
shown deposits entries (print.collided None earlier later) =
    record { deposits = []; entries = []; ended = collision None earlier later }
shown deposits entries (print.collided (Some event) earlier later) =
    record { deposits = deposits; entries = map shown_entry entries; ended = collision (Some event) earlier later }

-- ---- lines that are taken one by one

-- the lines of one kind at the front, and the others
abbrev pub take_by : {A : Type 0} → Option A → Said → List Said → List A × List Said → List A × List Said
take_by None l lines later = ([], l ∷ lines)
take_by (Some x) l lines later = (x ∷ later.0, later.1)

abbrev pub taken : {A : Type 0} → (Said → Option A) → List Said → List A × List Said
taken pick [] = ([], [])
taken pick (l ∷ lines) = take_by (pick l) l lines (taken pick lines)

-- the line of a kind at the front, and the others
abbrev pub next : {A : Type 0} → (Said → Option A) → List Said → Option (A × List Said)
next pick [] = None
next pick (l ∷ lines) = pick l >>= λ x. Some (x, lines)

abbrev pub as_start : Said → Option (List ℕ × ℕ)
as_start (line.start number owner value) = Some (owner, value)
as_start _ = None

abbrev pub as_tip : Said → Option ℕ
as_tip (line.tip height) = Some height
as_tip _ = None

abbrev pub as_live : Said → Option (ℕ × ℕ)
as_live (line.live output) = Some output
as_live _ = None

abbrev pub as_time : Said → Option ℕ
as_time (line.time height) = Some height
as_time _ = None

abbrev pub as_deposit : Said → Option Deposit
as_deposit (line.deposit d) = Some d
as_deposit _ = None

abbrev pub as_contract : Said → Option ActiveContract
as_contract (line.contract a) = Some a
as_contract _ = None

abbrev pub as_secret : Said → Option ShownSecret
as_secret (line.secret x) = Some x
as_secret _ = None

abbrev pub as_offer : Said → Option Event
as_offer (line.offer e) = Some e
as_offer _ = None

-- ---- entries

-- the lines at the front: an outcome that waits for its event, steps that wait for their outcome, entries, and the other lines
pub record Prefix : Type 0 where
  pub waits : Option Outcome
  pub steps : List Step
  pub entries : List Entry
  pub rest : List Said

abbrev pub nothing_yet : List Said → Prefix
nothing_yet lines = record { waits = None; steps = []; entries = []; rest = lines }

abbrev pub event_prefix : Event → List Said → Option Outcome → Prefix → Prefix
event_prefix e lines None f = nothing_yet lines
event_prefix e lines (Some o) f =
    record { waits = None; steps = []; entries = record { event = e; outcome = o; steps = f.steps } ∷ f.entries; rest = f.rest }

-- a line before these
abbrev pub onto_prefix : Said → List Said → Prefix → Prefix
onto_prefix (line.event number e) lines f = event_prefix e (line.event number e ∷ lines) f.waits f
onto_prefix (line.outcome o) lines f = record f { waits = Some o }
onto_prefix (line.step s made) lines f = record f { steps = s ∷ f.steps }
onto_prefix l lines f = nothing_yet (l ∷ lines)

abbrev pub prefix : List Said → Prefix
prefix [] = nothing_yet []
prefix (l ∷ lines) = onto_prefix l lines (prefix lines)

-- ---- the end

-- the lines behind the time; nothing stands behind the offers
abbrev pub end_by : ℕ → List (ℕ × ℕ) → ℕ → List Said → Option Ended
end_by height outputs clock lines =
    let deposits = taken as_deposit lines in
    let active = taken as_contract (deposits.1) in
    let secrets = taken as_secret (active.1) in
    let offers = taken as_offer (secrets.1) in
    given (not (is_some_list (offers.1)))
    (whole (record {
      tip = height;
      live = outputs;
      time = clock;
      deposits = deposits.0;
      active = active.0;
      secrets = secrets.0;
      offers = offers.0;
    }))

-- the lines behind `end`
abbrev pub whole_of : List Said → Option Ended
whole_of lines = do
  height ← next as_tip lines
  clock ← next as_time ((taken as_live (height.1)).1)
  end_by (height.0) ((taken as_live (height.1)).0) (clock.0) (clock.1)

-- what stands behind an event without an outcome
abbrev pub halt_by : Event → Said → List Said → Option Ended
halt_by e (line.guessed party name) lines = given (not (is_some_list lines)) (guess e party name)
halt_by e (line.collided earlier later) lines = given (not (is_some_list lines)) (collision (Some e) earlier later)
halt_by e l lines = None

abbrev pub halt_of : Event → List Said → Option Ended
halt_of e [] = None
halt_of e (l ∷ lines) = halt_by e l lines

abbrev pub ended_by : Said → List Said → Option Ended
ended_by line.ending lines = whole_of lines
ended_by (line.event number e) lines = halt_of e lines
ended_by (line.collided earlier later) lines = given (not (is_some_list lines)) (collision None earlier later)
ended_by l lines = None

abbrev pub ended_of : List Said → Option Ended
ended_of [] = None
ended_of (l ∷ lines) = ended_by l lines

-- ---- the whole text

abbrev pub report_by : List (List ℕ × ℕ) → Prefix → Option Report
report_by deposits f = do
  ended ← ended_of f.rest
  given (not (is_some f.waits) && not (is_some_list f.steps)) (record { deposits = deposits; entries = f.entries; ended = ended })

abbrev pub report_in : List Said → Option Report
report_in lines = report_by (taken as_start lines).0 (prefix ((taken as_start lines).1))

-- what a text prints of a run, read for those who are declared
unfoldable pub report_of : List (List ℕ) → List ℕ → Option Report
report_of parties text = all_of (said_by parties) (lines_of text) >>= report_in
