-- What can be done at a moment of a run, and on whom something waits, by the calculus.
use Rattle.std.specs.Prelude.{ℕ, ◌+◌, ◌-◌, ◌==◌, take, List, [], ◌∷◌, ◌++◌, map, filter, flat_map, length, Bool, not, ◌&&◌, if◌then◌else◌, codes}
use Rattle.std.specs.List.{list_any}
use Rattle.spec_terms.specs.Advert.{Advert}
use Rattle.spec_terms.specs.Parties.{participants}
use Rattle.spec_terms.specs.Precondition.{deposits, persistent, secrets}
use Rattle.spec_terms.specs.Term as term
use Rattle.spec_terms.specs.declared.path.PathStep.{PathStep}
use Rattle.spec_terms.specs.declared.path.PathStep.TheVariants.{Branch as To}
use Rattle.spec_calculus.specs.declared.parts.ActiveContract.{ActiveContract}
use Rattle.spec_calculus.specs.declared.step.Step.TheVariants as steps
use Rattle.spec_calculus.specs.Configuration.{Configuration}
use Rattle.spec_calculus.specs.Beginning.{is_advertised, has_committed, have_committed}
use Rattle.spec_calculus.specs.Branches.{active_at}
use Rattle.spec_calculus.specs.Offers.{is_enabled, branches_of}
use Rattle.spec_calculus.specs.Steps.{branch_at}
use Rattle.spec_run.specs.Setup.{Setup, is_declared}
use Rattle.spec_run.specs.Steps.{is_awaited}
use Rattle.spec_next.specs.declared.requirement.Requirement.{Requirement}
use Rattle.spec_next.specs.Bindings.{bindings_for}
use Rattle.spec_next.specs.Candidates.{has_started, actives_of}
use Rattle.spec_next.specs.Prospects.{is_never, is_for}
use Rattle.spec_next.specs.Requirements.{unmet, agreed, started, asked_by_branch}
use Rattle.spec_text.specs.Canonical.{joined}
use Rattle.spec_tool.specs.declared.which.Which.TheVariants.{Init, At}
use Rattle.spec_page.specs.declared.event_row.Look.{Look}
use Rattle.spec_page.specs.declared.event_row.Look.TheVariants as looks
use Rattle.spec_page.specs.Figures.{sum_text}
use Rattle.spec_page.specs.Moments.{Move, move, Moment}
use Rattle.spec_page.specs.Statuses.{is_among_moves, offered, has_begun, is_barred}
use Rattle.spec_page.specs.Balances.{columns}
use Rattle.spec_page.specs.EventWords.{are_several, move_text, advertise_text, does_text, shows_text}

-- a transaction that is offered
abbrev pub fire_words : Bool → Moment → Move → List (List ℕ)
fire_words several m x = if is_among_moves x (offered m) then (codes "fire " ++ move_text several x) ∷ [] else []

-- ---- before a contract begins

-- it is advertised with the deposits that fit
abbrev pub advertise_words : Bool → Configuration → ℕ → Advert → List (List ℕ)
advertise_words several g k a =
    if is_enabled g (steps.Advertise k (bindings_for g.deposits (deposits a.pre))) then advertise_text several k ∷ [] else []

abbrev pub may_commit : Setup → Configuration → ℕ → List ℕ → Bool
may_commit s g k party = is_declared s party && not (has_committed g.committed k party)

abbrev pub commit_words : Setup → Configuration → ℕ → List (List ℕ) → List (List ℕ)
commit_words s g k people = map (λ p. does_text (are_several s) k p (codes " commits")) (filter (may_commit s g k) people)

-- once all have committed, the owners of its deposits sign
abbrev pub sign_words : Bool → Configuration → ℕ → Advert → List (List ℕ) → List (List ℕ)
sign_words several g k a people =
    if have_committed g.committed k people
    then map (λ p. does_text several k p (codes " signs")) (filter (λ p. not (has_started g k (persistent a.pre) p)) people)
    else []

abbrev pub begin_words : Setup → Moment → ℕ → Advert → List (List ℕ)
begin_words s m k a =
    if is_advertised m.configuration.advertised k
    then commit_words s m.configuration k (participants a)
    ++ (sign_words (are_several s) m.configuration k a (participants a) ++ fire_words (are_several s) m (move k Init))
    else advertise_words (are_several s) m.configuration k a

-- ---- once it has begun

-- the secrets that can be revealed
abbrev pub reveal_words : Configuration → ℕ → Advert → List (List ℕ)
reveal_words g k a =
    map (λ x. shows_text (x.1) (x.0)) (filter (λ x. is_enabled g (steps.Reveal k (x.1) (x.0))) (secrets a.pre))

abbrev pub agree_text : Bool → Move → List ℕ → List ℕ
agree_text several x party = party ++ (codes " agrees to " ++ move_text several x)

-- branch i of an active contract: those of these people who are asked agree, and then it is taken
abbrev pub branch_words : Bool → Moment → List (List ℕ) → ActiveContract → ℕ → term.Guarded → List (List ℕ)
branch_words several m people a i b =
    map (agree_text several (move a.contract (At (a.position ++ To i ∷ []))))
    (filter (is_awaited m.configuration a.number i b) people)
    ++ fire_words several m (move a.contract (At (a.position ++ To i ∷ [])))

abbrev pub branches_words : Bool → Moment → List (List ℕ) → ActiveContract → ℕ → List term.Guarded → List (List ℕ)
branches_words several m people a i [] = []
branches_words several m people a i (b ∷ bs) =
    branch_words several m people a i b ++ branches_words several m people a (i + 1) bs

abbrev pub active_words : Bool → Moment → List (List ℕ) → ActiveContract → List (List ℕ)
active_words several m people a = branches_words several m people a 0 (branches_of m.configuration.contracts a)

-- nothing comes of secrets where nothing is left of the contract
abbrev pub going_words : Bool → Moment → ℕ → Advert → List ActiveContract → List (List ℕ)
going_words several m k a [] = []
going_words several m k a (x ∷ xs) =
    reveal_words m.configuration k a ++ flat_map (active_words several m (participants a)) (x ∷ xs)

-- ---- all

-- what can be done of contract k
abbrev pub contract_words : Setup → Moment → ℕ → Advert → List (List ℕ)
contract_words s m k a =
    if has_begun m k then going_words (are_several s) m k a (actives_of m.configuration k)
    else if is_barred m k then []
    else begin_words s m k a

-- of the contracts from number k on
abbrev pub words_from : Setup → Moment → ℕ → List Advert → List (List ℕ)
words_from s m k [] = []
words_from s m k (a ∷ as') = contract_words s m k a ++ words_from s m (k + 1) as'

abbrev pub possible_words : Setup → Moment → List (List ℕ)
possible_words s m = words_from s m 0 s.contracts

-- ---- on whom something waits

-- where something never comes, nothing else is missing
abbrev pub unless_never : List Requirement → List Requirement
unless_never requirements = if list_any is_never requirements then [] else requirements

abbrev pub beginning_lacks : Configuration → ℕ → Advert → List Requirement
beginning_lacks g k a = unmet (agreed g k ++ started g k (persistent a.pre))

abbrev pub branch_lacks : List (List ℕ) → Configuration → ℕ → ℕ → List Requirement
branch_lacks honest g n i = unless_never (unmet (asked_by_branch honest g n i (active_at g.active n) (branch_at g n i)))

abbrev pub branches_lack : List (List ℕ) → Configuration → ℕ → ℕ → List term.Guarded → List Requirement
branches_lack honest g n i [] = []
branches_lack honest g n i (b ∷ bs) = branch_lacks honest g n i ++ branches_lack honest g n (i + 1) bs

abbrev pub active_lacks : List (List ℕ) → Configuration → ActiveContract → List Requirement
active_lacks honest g a = branches_lack honest g a.number 0 (branches_of g.contracts a)

-- what contract k lacks to begin or to go on
abbrev pub contract_lacks : Setup → Moment → ℕ → Advert → List Requirement
contract_lacks s m k a =
    if has_begun m k then flat_map (active_lacks s.header.honest m.configuration) (actives_of m.configuration k)
    else if is_barred m k then []
    else beginning_lacks m.configuration k a

abbrev pub lacks_from : Setup → Moment → ℕ → List Advert → List Requirement
lacks_from s m k [] = []
lacks_from s m k (a ∷ as') = contract_lacks s m k a ++ lacks_from s m (k + 1) as'

-- the participants on whom something waits
abbrev pub awaited_of : List (List ℕ) → List Requirement → List (List ℕ)
awaited_of people requirements = filter (λ party. list_any (λ requirement. is_for requirement party) requirements) people

abbrev pub awaited : Setup → Moment → List (List ℕ)
awaited s m = awaited_of (columns s) (lacks_from s m 0 s.contracts)

-- ---- in words

abbrev pub awaited_text : List (List ℕ) → List ℕ
awaited_text [] = []
awaited_text (p ∷ ps) = codes "; waits for " ++ joined (codes ", ") (p ∷ ps)

-- so many events are named
abbrev pub most_named : ℕ
most_named = 12

abbrev pub others_text : ℕ → List ℕ
others_text n = if n == 0 then [] else codes ", and " ++ (sum_text n ++ codes " more")

abbrev pub possible_text : List (List ℕ) → List ℕ
possible_text [] = codes "nothing"
possible_text (e ∷ es) =
    joined (codes ", ") (take most_named (e ∷ es)) ++ others_text (length (e ∷ es) - most_named)

abbrev pub outlook_text : Setup → Moment → List ℕ
outlook_text s m = possible_text (possible_words s m) ++ awaited_text (awaited s m)

-- behind a halt nothing comes
abbrev pub stop_outlook : Setup → Moment → Look → List ℕ
stop_outlook s m looks.Halt = codes "nothing, the run is halted"
stop_outlook s m looks.Start = outlook_text s m
stop_outlook s m looks.Blocks = outlook_text s m
stop_outlook s m looks.Done = outlook_text s m
stop_outlook s m looks.Accepted = outlook_text s m
stop_outlook s m looks.Refused = outlook_text s m
stop_outlook s m looks.More = outlook_text s m
