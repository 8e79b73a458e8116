-- The lines of a run are gathered to what is printed of it.
use Rattle.std.proofs.Common.{◌≡◌, ℕ, ◌+◌, List, [], ◌∷◌, ◌++◌, map, length, Option, Some, None, refl, sym, ap, ◌∙◌, append_assoc}
use Rattle.std.proofs.Common.{append-nil}
use Rattle.spec_calculus.specs.declared.parts.Deposit.{Deposit}
use Rattle.spec_calculus.specs.declared.parts.ActiveContract.{ActiveContract}
use Rattle.spec_calculus.specs.declared.step.Step.{Step}
use Rattle.spec_calculus.specs.Configuration.{Configuration}
use Rattle.spec_run.specs.declared.event.Event.{Event}
use Rattle.spec_run.specs.declared.outcome.Outcome.{Outcome}
use Rattle.spec_text.specs.declared.entry.Entry.{Entry}
use Rattle.spec_text.specs.StepText.{made_by}
use Rattle.spec_text.specs.PlayText.{Ending, whole, guessed, collided}
use Rattle.theory_text.proofs.Options.{some}
use Rattle.theory_play_text.specs.Lines.{Said, ShownSecret}
use Rattle.theory_play_text.specs.Lines as line
use Rattle.theory_play_text.specs.Report.{shown_step, shown_entry, shown_end, secrets_from, shown, Report, Ended}
use Rattle.theory_play_text.specs.Report.{take_by, taken, as_start, as_live, as_deposit, as_contract, as_secret, as_offer}
use Rattle.theory_play_text.specs.Report.{Prefix, nothing_yet, onto_prefix, prefix, end_by, whole_of, ended_of, report_by, report_in}
use Rattle.theory_play_text.specs.Report as report
use Rattle.theory_play_text.specs.Printable.{starts, step_said, entry_lines, entries_lines, end_lines, ending_lines, report_lines}

-- ---- lines of one kind

abbrev pub NoneAtPrefix : {A : Type 0} → (Said → Option A) → List Said → Type 0
NoneAtPrefix pick lines = taken pick lines ≡ ([], lines)

module _ {A : Type 0} (pick : Said → Option A) (make : A → Said) (is : (x : A) → pick (make x) ≡ some x) where
  pub all_taken : (xs : List A) (rest : List Said) → NoneAtPrefix pick rest → taken pick (map make xs ++ rest) ≡ (xs, rest)
  all_taken [] rest h = h
  all_taken (x ∷ xs) rest h =
      ap (λ (o : Option A). take_by o (make x) (map make xs ++ rest) (taken pick (map make xs ++ rest))) (is x)
      ∙ ap (λ (p : List A × List Said). let q : List A × List Said = (x ∷ p.0, p.1) in q) (all_taken xs rest h)

-- lines of another kind stop them
pub others_stop : {A B : Type 0} (pick : Said → Option A) (make : B → Said) → ((x : B) → pick (make x) ≡ None) → (xs : List B)
    (rest : List Said) → NoneAtPrefix pick rest → NoneAtPrefix pick (map make xs ++ rest)
others_stop pick make f [] rest h = h
others_stop pick make f (x ∷ xs) rest h =
    ap (λ (o : Option _). take_by o (make x) (map make xs ++ rest) (taken pick (map make xs ++ rest))) (f x)

others_end : {A B : Type 0} (pick : Said → Option A) (make : B → Said) → ((x : B) → pick (make x) ≡ None) → (xs : List B)
    → NoneAtPrefix pick (map make xs)
others_end pick make f [] = refl
others_end pick make f (x ∷ xs) = ap (λ (o : Option _). take_by o (make x) (map make xs) (taken pick (map make xs))) (f x)

all_at_end : {A : Type 0} (pick : Said → Option A) (make : A → Said) → ((x : A) → pick (make x) ≡ some x) → (xs : List A)
    → taken pick (map make xs) ≡ (xs, [])
all_at_end pick make is xs = ap (taken pick) (sym (append-nil (map make xs))) ∙ all_taken pick make is xs [] refl

-- ---- the opening

pub starts_taken : (n : ℕ) (ds : List (List ℕ × ℕ)) (rest : List Said) → NoneAtPrefix as_start rest
    → taken as_start (starts n ds ++ rest) ≡ (ds, rest)
starts_taken n [] rest h = h
starts_taken n (d ∷ ds) rest h =
    ap (λ (p : List (List ℕ × ℕ) × List Said). let q : List (List ℕ × ℕ) × List Said = (d ∷ p.0, p.1) in q) (starts_taken (n + 1) ds rest h)

-- ---- entries

-- so much is at the front
abbrev fronted : Option Outcome → List Step → List Entry → List Said → Prefix
fronted waits ss es rest = record { waits = waits; steps = ss; entries = es; rest = rest }

steps_prefix : (made : List ℕ) (ss : List Step) (es : List Entry) (lines rest : List Said) → prefix lines ≡ fronted None [] es rest
    → prefix (map (step_said made) ss ++ lines) ≡ fronted None (map shown_step ss) es rest
steps_prefix made [] es lines rest h = h
steps_prefix made (s ∷ ss) es lines rest h =
    ap (λ (f : Prefix). let g : Prefix = record f { steps = shown_step s ∷ f.steps } in g) (steps_prefix made ss es lines rest h)

entry_prefix : (i : ℕ) (e : Entry) (es : List Entry) (lines rest : List Said) → prefix lines ≡ fronted None [] es rest
    → prefix (entry_lines i e ++ lines) ≡ fronted None [] (shown_entry e ∷ es) rest
entry_prefix i e es lines rest h =
    let later = map (step_said (made_by e.outcome)) e.steps ++ lines in
    ap (λ (f : Prefix). onto_prefix (line.event i e.event) (line.outcome e.outcome ∷ later) (onto_prefix (line.outcome e.outcome) later f))
    (steps_prefix (made_by e.outcome) e.steps es lines rest h)

pub entries_prefix : (i : ℕ) (es : List Entry) (lines : List Said) → prefix lines ≡ nothing_yet lines
    → prefix (entries_lines i es ++ lines) ≡ fronted None [] (map shown_entry es) lines
entries_prefix i [] lines h = h
entries_prefix i (e ∷ es) lines h =
    ap prefix (append_assoc (entry_lines i e) (entries_lines (i + 1) es) lines)
    ∙ entry_prefix i e (map shown_entry es) (entries_lines (i + 1) es ++ lines) lines (entries_prefix (i + 1) es lines h)

-- ---- the end

abbrev some_end : report.End → Option Ended
some_end e = some (report.whole e)

-- what stands behind the lines of a kind
abbrev lists : {A : Type 0} → List A → List Said → List A × List Said
lists xs rest = (xs, rest)

offer_lines : (es : List Event) → taken as_offer (map (λ e. line.offer e) es) ≡ lists es []
offer_lines es = all_at_end as_offer (λ e. line.offer e) (λ e. refl) es

secret_lines : (xs : List ShownSecret) (es : List Event)
    → taken as_secret (map (λ x. line.secret x) xs ++ map (λ e. line.offer e) es) ≡ lists xs (map (λ e. line.offer e) es)
secret_lines xs es =
    all_taken as_secret (λ x. line.secret x) (λ x. refl) xs (map (λ e. line.offer e) es)
    (others_end as_secret (λ (e : Event). line.offer e) (λ e. refl) es)

abbrev behind_contracts : List ShownSecret → List Event → List Said
behind_contracts xs es = map (λ x. line.secret x) xs ++ map (λ e. line.offer e) es

contract_lines : (as' : List ActiveContract) (xs : List ShownSecret) (es : List Event)
    → taken as_contract (map (λ a. line.contract a) as' ++ behind_contracts xs es) ≡ lists as' (behind_contracts xs es)
contract_lines as' xs es =
    all_taken as_contract (λ a. line.contract a) (λ a. refl) as' (behind_contracts xs es)
    (others_stop as_contract (λ (x : ShownSecret). line.secret x) (λ x. refl) xs (map (λ e. line.offer e) es)
    (others_end as_contract (λ (e : Event). line.offer e) (λ e. refl) es))

abbrev behind_deposits : List ActiveContract → List ShownSecret → List Event → List Said
behind_deposits as' xs es = map (λ a. line.contract a) as' ++ behind_contracts xs es

deposit_lines : (ds : List Deposit) (as' : List ActiveContract) (xs : List ShownSecret) (es : List Event)
    → taken as_deposit (map (λ d. line.deposit d) ds ++ behind_deposits as' xs es) ≡ lists ds (behind_deposits as' xs es)
deposit_lines ds as' xs es =
    all_taken as_deposit (λ d. line.deposit d) (λ d. refl) ds (behind_deposits as' xs es)
    (others_stop as_deposit (λ (a : ActiveContract). line.contract a) (λ a. refl) as' (behind_contracts xs es)
    (others_stop as_deposit (λ (x : ShownSecret). line.secret x) (λ x. refl) xs (map (λ e. line.offer e) es)
    (others_end as_deposit (λ (e : Event). line.offer e) (λ e. refl) es)))

abbrev behind_time : List Deposit → List ActiveContract → List ShownSecret → List Event → List Said
behind_time ds as' xs es = map (λ d. line.deposit d) ds ++ behind_deposits as' xs es

abbrev an_end : ℕ → List (ℕ × ℕ) → ℕ → List Deposit → List ActiveContract → List ShownSecret → List Event → report.End
an_end height outputs clock ds as' xs es =
    record { tip = height; live = outputs; time = clock; deposits = ds; active = as'; secrets = xs; offers = es }

ends_by : (height : ℕ) (outputs : List (ℕ × ℕ)) (clock : ℕ) (ds : List Deposit) (as' : List ActiveContract) (xs : List ShownSecret)
    (es : List Event) → end_by height outputs clock (behind_time ds as' xs es) ≡ some_end (an_end height outputs clock ds as' xs es)
ends_by height outputs clock ds as' xs es =
    rw (deposit_lines ds as' xs es, contract_lines as' xs es, secret_lines xs es, offer_lines es) refl

live_lines : (outputs : List (ℕ × ℕ)) (clock : ℕ) (rest : List Said)
    → taken as_live (map (λ o. line.live o) outputs ++ (line.time clock ∷ rest)) ≡ lists outputs (line.time clock ∷ rest)
live_lines outputs clock rest = all_taken as_live (λ o. line.live o) (λ o. refl) outputs (line.time clock ∷ rest) refl

abbrev behind_live : ℕ → List (ℕ × ℕ) → List Said × List Said → Option Ended
behind_live height outputs p = None

whole_lines : (height : ℕ) (outputs : List (ℕ × ℕ)) (g : Configuration) (es : List Event)
    → ended_of (end_lines height outputs g es) ≡ some_end (shown_end height outputs g es)
whole_lines height outputs g es =
    let secrets = secrets_from g 0 g.contracts in
    rw (live_lines outputs g.time (behind_time g.deposits g.active secrets es))
    (ends_by height outputs g.time g.deposits g.active secrets es)

-- ---- the whole text

abbrev a_report : List (List ℕ × ℕ) → List Entry → Ended → Report
a_report ds es e = record { deposits = ds; entries = es; ended = e }

-- the opening, entries and an end
run_gathered : (deposits : List (List ℕ × ℕ)) (entries : List Entry) (lines : List Said) (e : Ended) → prefix lines ≡ nothing_yet lines
    → NoneAtPrefix as_start lines → ended_of lines ≡ some e
    → report_in (starts 0 deposits ++ (entries_lines 1 entries ++ lines)) ≡ some (a_report deposits (map shown_entry entries) e)
run_gathered deposits entries lines e h k is =
    let opening = starts_taken 0 deposits (entries_lines 1 entries ++ lines) (no_start 1 entries) in
    ap (λ (p : List (List ℕ × ℕ) × List Said). report_by p.0 (prefix p.1)) opening
    ∙ (ap (report_by deposits) (entries_prefix 1 entries lines h) ∙ rw is refl)
  where
    no_start : (i : ℕ) (es : List Entry) → NoneAtPrefix as_start (entries_lines i es ++ lines)
    no_start i [] = k
    no_start i (x ∷ xs) = refl

pub gathered : (deposits : List (List ℕ × ℕ)) (entries : List Entry) (end : Ending)
    → report_in (report_lines deposits entries end) ≡ some (shown deposits entries end)
gathered deposits entries (whole height outputs g es) =
    run_gathered deposits entries (end_lines height outputs g es) (report.whole (shown_end height outputs g es)) refl refl
    (whole_lines height outputs g es)
gathered deposits entries (guessed e party name) =
    run_gathered deposits entries (ending_lines (length entries + 1) (guessed e party name)) (report.guess e party name) refl refl refl
gathered deposits entries (collided None earlier later) = refl
gathered deposits entries (collided (Some e) earlier later) =
    run_gathered deposits entries (ending_lines (length entries + 1) (collided (Some e) earlier later))
    (report.collision (Some e) earlier later) refl refl refl
