-- The lines of a played run's text, as what they say, and what may be said by a line.
use Rattle.std.specs.Prelude.{◌≡◌, ℕ, ◌+◌, ◌<◌, ◌^◌, List, [], ◌∷◌, ◌++◌, map, length, true, not, ◌||◌, ◌==◌, Option, Some, None}
use Rattle.std.specs.List.{list_all, AllByRecursion}
use Rattle.spec_terms.specs.Readable.{is_name}
use Rattle.spec_bitcoin.specs.Keys.{IsStep}
use Rattle.spec_calculus.specs.declared.step.Owner.{Owner}
use Rattle.spec_calculus.specs.declared.step.Owner.TheVariants.{Party, Outside}
use Rattle.spec_calculus.specs.declared.step.Step.{Step}
use Rattle.spec_calculus.specs.declared.step.Step.TheVariants as steps
use Rattle.spec_calculus.specs.Configuration.{Configuration}
use Rattle.spec_run.specs.declared.event.Event.{Event}
use Rattle.spec_run.specs.declared.event.Event.TheVariants as events
use Rattle.spec_run.specs.declared.outcome.Outcome.{Outcome}
use Rattle.spec_run.specs.declared.outcome.Outcome.TheVariants.{Done, Accepted, Refused}
use Rattle.spec_run.specs.declared.outcome.Reason.{Reason}
use Rattle.spec_run.specs.declared.outcome.Reason.TheVariants as reason
use Rattle.spec_text.specs.declared.entry.Entry.{Entry}
use Rattle.spec_text.specs.Lines.{words_of}
use Rattle.spec_text.specs.EventLines.{event_of}
use Rattle.spec_text.specs.RunText.{event_text}
use Rattle.spec_text.specs.OutcomeText.{faulty_input}
use Rattle.spec_text.specs.StepText.{made_by}
use Rattle.spec_text.specs.PlayText.{Ending, whole, guessed, collided}
use Rattle.theory_play_text.specs.Lines.{Said, ShownSecret, no_move}
use Rattle.theory_play_text.specs.Lines as line
use Rattle.theory_play_text.specs.Report.{shown_step, secrets_from}

-- ---- the lines of a run

abbrev pub starts : ℕ → List (List ℕ × ℕ) → List Said
starts n [] = []
starts n (d ∷ ds) = line.start n (d.0) (d.1) ∷ starts (n + 1) ds

-- the outputs that stand on the line of a step
abbrev pub made_beside : List ℕ → Step → List ℕ
made_beside made (steps.Init k) = made
made_beside made (steps.PutReveal n i) = made
made_beside made (steps.Withdraw n i) = made
made_beside made (steps.Split n i) = made
made_beside made step = []

abbrev pub step_said : List ℕ → Step → Said
step_said made s = line.step (shown_step s) (made_beside made s)

abbrev pub entry_lines : ℕ → Entry → List Said
entry_lines i e = line.event i e.event ∷ line.outcome e.outcome ∷ map (step_said (made_by e.outcome)) e.steps

abbrev pub entries_lines : ℕ → List Entry → List Said
entries_lines i [] = []
entries_lines i (e ∷ es) = entry_lines i e ++ entries_lines (i + 1) es

abbrev pub end_lines : ℕ → List (ℕ × ℕ) → Configuration → List Event → List Said
end_lines tip live g offers =
    line.ending ∷ line.tip tip ∷ (map (λ o. line.live o) live
    ++ (line.time g.time ∷ (map (λ d. line.deposit d) g.deposits
    ++ (map (λ a. line.contract a) g.active
    ++ (map (λ x. line.secret x) (secrets_from g 0 g.contracts)
    ++ map (λ e. line.offer e) offers)))))

abbrev pub ending_lines : ℕ → Ending → List Said
ending_lines i (whole tip live g offers) = end_lines tip live g offers
ending_lines i (guessed event party secret) = line.event i event ∷ line.guessed party secret ∷ []
ending_lines i (collided None earlier later) = line.collided earlier later ∷ []
ending_lines i (collided (Some event) earlier later) = line.event i event ∷ line.collided earlier later ∷ []

-- the lines behind those of the opening
abbrev pub run_lines : List (List ℕ × ℕ) → List Entry → Ending → List Said
run_lines deposits entries end = starts 0 deposits ++ (entries_lines 1 entries ++ ending_lines (length entries + 1) end)

abbrev pub report_lines : List (List ℕ × ℕ) → List Entry → Ending → List Said
report_lines deposits entries (whole tip live g offers) = run_lines deposits entries (whole tip live g offers)
report_lines deposits entries (guessed event party secret) = run_lines deposits entries (guessed event party secret)
report_lines deposits entries (collided None earlier later) = ending_lines 0 (collided None earlier later)
report_lines deposits entries (collided (Some event) earlier later) = run_lines deposits entries (collided (Some event) earlier later)

-- ---- what a line may say

-- a number of eight bytes
abbrev pub IsWide : ℕ → Type 0
IsWide n = n < 2 ^ 64

abbrev pub IsNamed : List ℕ → Type 0
IsNamed name = is_name name ≡ true

-- the line of the event spells it, for those who are declared, and is one line
pub record IsSpelledEvent (parties : List (List ℕ)) (e : Event) : Type 0 where
  pub read : event_of parties (words_of (event_text e)) ≡ Some e
  pub one_line : list_all (λ b. not ((b == 10) || (b == 13))) (event_text e) ≡ true

abbrev pub IsOwner : Owner → Type 0
IsOwner (Party name) = IsNamed name
IsOwner Outside = Unit {0}

abbrev pub IsLength : Option ℕ → Type 0
IsLength None = Unit {0}
IsLength (Some n) = IsWide n

-- a party, or nobody
abbrev pub IsParty : List ℕ → Type 0
IsParty [] = Unit {0}
IsParty (b ∷ bytes) = IsNamed (b ∷ bytes)

abbrev pub IsReason : Reason → Type 0
IsReason (reason.DepositRepeated x) = IsNamed x
IsReason (reason.NotLive x) = IsNamed x
IsReason (reason.WrongDeposit x) = IsNamed x
IsReason (reason.NoSecret a) = IsNamed a
IsReason (reason.BadSecretLength a) = IsNamed a
IsReason (reason.HashRepeated a) = IsNamed a
IsReason (reason.NotEndorsed path party) = AllByRecursion IsStep path × IsParty party
IsReason (reason.NotLiveOutput n) = IsWide n
IsReason (reason.NotOwnerOutput n) = IsWide n
IsReason (reason.BadTx place) = IsWide place
IsReason (reason.SecretUnknown a) = IsNamed a
IsReason (reason.Ledger r) = IsLength (faulty_input r)
IsReason reason = Unit {0}

abbrev pub IsOutcome : Outcome → Type 0
IsOutcome Done = Unit {0}
IsOutcome (Accepted spent made lock) = AllByRecursion IsWide spent × AllByRecursion (λ m. IsWide (m.0) × IsWide (m.1)) made × IsWide lock
IsOutcome (Refused r) = IsReason r

abbrev pub IsShownStep : Step → Type 0
IsShownStep (steps.Delay n) = IsWide n
IsShownStep (steps.AuthMove a action) = IsNamed a × (action ≡ no_move)
IsShownStep (steps.Move action) = AllByRecursion IsWide action.inputs × AllByRecursion (λ o. IsOwner (o.0) × IsWide (o.1)) action.outputs
IsShownStep (steps.Advertise k bs) = IsWide k × AllByRecursion (λ b. IsNamed (b.0) × IsWide (b.1)) bs
IsShownStep (steps.Commit k a ls) = IsWide k × IsNamed a × AllByRecursion (λ l. IsNamed (l.0) × IsLength (l.1)) ls
IsShownStep (steps.AuthInit k a x) = IsWide k × IsNamed a × IsNamed x
IsShownStep (steps.Init k) = IsWide k
IsShownStep (steps.Reveal k a s) = IsWide k × IsNamed a × IsNamed s
IsShownStep (steps.AuthBranch a n i) = IsNamed a × IsWide n × IsWide i
IsShownStep (steps.PutReveal n i) = IsWide n × IsWide i
IsShownStep (steps.Withdraw n i) = IsWide n × IsWide i
IsShownStep (steps.Split n i) = IsWide n × IsWide i

abbrev pub IsSecret : ShownSecret → Type 0
IsSecret x = IsWide x.contract × IsNamed x.party × IsNamed x.name × IsLength x.length

-- an offer is the beginning of a contract, or a branch
abbrev pub IsOffered : Event → Type 0
IsOffered (events.FireInit k) = IsWide k
IsOffered (events.Fire n i) = IsWide n × IsWide i
IsOffered event = ⊥

-- numbers are within eight bytes, and names as contract text may have them
abbrev pub IsSaid : List (List ℕ) → Said → Type 0
IsSaid parties (line.start number owner value) = IsWide number × IsNamed owner × IsWide value
IsSaid parties (line.event number e) = IsWide number × IsSpelledEvent parties e
IsSaid parties (line.outcome o) = IsOutcome o
IsSaid parties (line.step s made) = IsShownStep s × (made_beside made s ≡ made) × AllByRecursion IsWide made
IsSaid parties line.ending = Unit {0}
IsSaid parties (line.tip height) = IsWide height
IsSaid parties (line.live o) = IsWide (o.0) × IsWide (o.1)
IsSaid parties (line.time height) = IsWide height
IsSaid parties (line.deposit d) = IsWide d.number × IsOwner d.owner × IsWide d.value
IsSaid parties (line.contract a) = IsWide a.number × IsWide a.contract × AllByRecursion IsStep a.position × IsWide a.balance
IsSaid parties (line.secret x) = IsSecret x
IsSaid parties (line.offer e) = IsOffered e
IsSaid parties (line.guessed party secret) = IsNamed party × IsNamed secret
IsSaid parties (line.collided earlier later) = Unit {0}

-- whatever stands on the lines of the run may be said
abbrev pub IsPrintable : List (List ℕ) → List (List ℕ × ℕ) → List Entry → Ending → Type 0
IsPrintable parties deposits entries end = AllByRecursion (IsSaid parties) (report_lines deposits entries end)
