-- What may come next of the contracts of a run: what each candidate would come to, what is missing for it, and on whom something waits.
use Rattle.std.specs.Prelude.{ℕ, ◌+◌, ◌==◌, List, [], ◌∷◌, ◌++◌, map, filter, Bool, true, false, not, ◌&&◌, ◌||◌, if◌then◌else◌, Option, Some, None}
use Rattle.std.specs.List.{list_any}
use Rattle.std.specs.Str.{bytes_eq}
use Rattle.spec_data.specs.Lists.{is_among, has_number}
use Rattle.spec_terms.specs.Advert.{Advert}
use Rattle.spec_terms.specs.Parties.{participants}
use Rattle.spec_calculus.specs.Configuration.{Configuration}
use Rattle.spec_calculus.specs.Beginning.{is_advertised as has_advert}
use Rattle.spec_run.specs.declared.event.Event.{Event}
use Rattle.spec_run.specs.declared.event.Event.TheVariants as events
use Rattle.spec_run.specs.declared.outcome.Outcome.{Outcome}
use Rattle.spec_run.specs.declared.outcome.Reason.{Reason}
use Rattle.spec_run.specs.declared.outcome.Reason.TheVariants as reason
use Rattle.spec_run.specs.declared.outcome.Outcome.TheVariants as outcomes
use Rattle.spec_run.specs.Setup.{Setup, held_secret}
use Rattle.spec_run.specs.World.{World, is_advertised, has_promised}
use Rattle.spec_run.specs.Pending.{Answer, Went, Halted}
use Rattle.spec_run.specs.Event.{event}
use Rattle.spec_next.specs.declared.requirement.Requirement.{Requirement}
use Rattle.spec_next.specs.declared.requirement.Requirement.TheVariants as requirements
use Rattle.spec_next.specs.declared.outlook.Ruling.{Ruling}
use Rattle.spec_next.specs.declared.outlook.Ruling.TheVariants as rulings
use Rattle.spec_next.specs.declared.outlook.Prospect.{Prospect}
use Rattle.spec_next.specs.declared.outlook.Outlook.{Outlook}
use Rattle.spec_next.specs.Candidates.{candidates}
use Rattle.spec_next.specs.Hands.{is_in_hand}
use Rattle.spec_next.specs.Requirements.{requirements_of}

-- ---- what an event would come to

abbrev pub ruling_by : Outcome → Ruling
ruling_by outcomes.Done = rulings.Can
ruling_by (outcomes.Accepted spent made lock) = rulings.Can
ruling_by (outcomes.Refused reason) = rulings.Cannot reason

abbrev pub ruling_of : Answer → Ruling
ruling_of (Halted halt) = rulings.Halts
ruling_of (Went d next) = ruling_by d.outcome

-- what the event would come to in this world, by the definition of runs
abbrev pub ruling : Setup → World → Event → Ruling
ruling s w e = ruling_of (event s w e)

-- ---- which are shown

-- whether a secret's string is posted; a secret that the header lacks has no string, so it isn't
abbrev pub is_string_posted : Option (List ℕ) → World → Bool
is_string_posted None w = false
is_string_posted (Some bytes) w = is_among bytes w.posted

-- whether a refused event is still ahead of its contract: what is advertised, committed, begun or revealed isn't
abbrev pub is_ahead : Setup → World → Event → Bool
is_ahead s w (events.Advertise k bindings) = not (is_advertised w k)
is_ahead s w (events.Commit k party digests) = not (has_promised w k party)
is_ahead s w (events.Endorse k party) = not (has_number k w.begun)
is_ahead s w (events.Init k party) = not (has_number k w.begun)
is_ahead s w (events.FireInit k) = not (has_number k w.begun)
is_ahead s w (events.Reveal k party secret) = not (is_string_posted (held_secret s party secret) w)
is_ahead s w (events.Authorise party n i) = true
is_ahead s w (events.Fire n i) = true
is_ahead s w (events.Post bytes) = false
is_ahead s w (events.Sign party label digest) = false
is_ahead s w (events.Give party inputs outputs) = false
is_ahead s w (events.Append bytes) = false
is_ahead s w (events.Mine blocks) = false

abbrev pub is_shown : Setup → World → Event → Ruling → Bool
is_shown s w e rulings.Can = true
is_shown s w e (rulings.Cannot reason) = is_ahead s w e
is_shown s w e rulings.Halts = true

-- ---- prospects

-- what stays so of a refusal: nobody is honest; an honest party's secret isn't there, is too short or too long, or was committed before
abbrev pub lasting : Reason → List Requirement
lasting reason.NoHonest = requirements.NobodyHonest ∷ []
lasting (reason.NoSecret secret) = requirements.Missing secret ∷ []
lasting (reason.BadSecretLength secret) = requirements.BadLength secret ∷ []
lasting (reason.HashRepeated secret) = requirements.Repeated secret ∷ []
lasting _ = []

-- whether nothing gives it
abbrev pub is_never : Requirement → Bool
is_never (requirements.Gone x) = true
is_never requirements.NobodyHonest = true
is_never (requirements.Missing secret) = true
is_never (requirements.BadLength secret) = true
is_never (requirements.Repeated secret) = true
is_never (requirements.Put x) = true
is_never requirements.Predicate = true
is_never _ = false

-- beside what nothing gives the rest isn't missing
abbrev pub decisive : List Requirement → List Requirement
decisive required = if list_any is_never required then filter is_never required else required

-- nothing is missing for what can come
abbrev pub requirements_by : List Requirement → Ruling → List Requirement
requirements_by required rulings.Can = []
requirements_by required (rulings.Cannot reason) = decisive (lasting reason ++ required)
requirements_by required rulings.Halts = []

-- what is missing for an event, but for what a signature by hand gives
abbrev pub outstanding : Setup → Configuration → World → Event → List Requirement
outstanding s g w e = filter (λ requirement. not (is_in_hand s w requirement)) (requirements_of s g w e)

abbrev pub prospect : Setup → Configuration → World → Event → Prospect
prospect s g w e = record { event = e; ruling = ruling s w e; requirements = requirements_by (outstanding s g w e) (ruling s w e) }

-- the prospects of these candidates
abbrev pub prospects_of : Setup → Configuration → World → List Event → List Prospect
prospects_of s g w es = map (prospect s g w) (filter (λ e. is_shown s w e (ruling s w e)) es)

-- ---- contracts that never begin

-- whether the event never comes
abbrev pub is_lost : Prospect → Bool
is_lost p = list_any is_never p.requirements

abbrev pub is_refused : Ruling → Bool
is_refused rulings.Can = false
is_refused (rulings.Cannot reason) = true
is_refused rulings.Halts = false

-- whether a contract goes on by it: a branch that is authorised or taken, or a beginning that isn't refused
abbrev pub goes_on : Event → Ruling → Bool
goes_on (events.Authorise party n i) r = true
goes_on (events.Fire n i) r = true
goes_on (events.FireInit k) r = not (is_refused r)
goes_on _ r = false

-- where something before the beginning never comes, the contract never begins, and of what is before the beginning that alone is shown
abbrev pub living : List Prospect → List Prospect
living ps =
    if list_any (λ p. is_lost p && not (goes_on p.event p.ruling)) ps then filter (λ p. is_lost p || goes_on p.event p.ruling) ps else ps

-- ---- contracts that are over

-- whether a contract has begun, and all its money is gone
abbrev pub is_over : Configuration → World → ℕ → Bool
is_over g w k = has_number k w.begun && not (list_any (λ a. a.contract == k) g.active)

-- of a contract that is over nothing is ahead but what it would go on by
abbrev pub useful : Bool → List Prospect → List Prospect
useful over ps = if over then filter (λ p. goes_on p.event p.ruling) ps else ps

-- ---- on whom something waits

-- the party that is to give what is missing
abbrev pub awaited : Requirement → Option (List ℕ)
awaited (requirements.Advert k) = None
awaited (requirements.Deposit x) = None
awaited (requirements.Gone x) = None
awaited requirements.NobodyHonest = None
awaited (requirements.Missing secret) = None
awaited (requirements.BadLength secret) = None
awaited (requirements.Repeated secret) = None
awaited (requirements.Digest party k secret) = Some party
awaited (requirements.Commitment party k) = Some party
awaited (requirements.Endorsement party k) = Some party
awaited (requirements.Start party k) = Some party
awaited (requirements.Beginning k) = None
awaited (requirements.Height height blocks) = None
awaited (requirements.Authorisation party n i) = Some party
awaited (requirements.Put x) = None
awaited (requirements.Secret party k secret) = Some party
awaited (requirements.Posted party secret) = Some party
awaited requirements.Predicate = None

-- whether it is for this party to give
abbrev pub is_for_whom : Option (List ℕ) → List ℕ → Bool
is_for_whom None party = false
is_for_whom (Some name) party = bytes_eq name party

abbrev pub is_for : Requirement → List ℕ → Bool
is_for requirement party = is_for_whom (awaited requirement) party

-- whether an event is this party's commitment to the contract
abbrev pub is_commitment : List ℕ → ℕ → Event → Bool
is_commitment party k (events.Commit contract who digests) = bytes_eq who party && (contract == k)
is_commitment party k _ = false

-- its endorsement of it
abbrev pub is_endorsement : List ℕ → ℕ → Event → Bool
is_endorsement party k (events.Endorse contract who) = bytes_eq who party && (contract == k)
is_endorsement party k _ = false

-- its signature of the initial transaction
abbrev pub is_start : List ℕ → ℕ → Event → Bool
is_start party k (events.Init contract who) = bytes_eq who party && (contract == k)
is_start party k _ = false

-- its authorisation of the branch
abbrev pub is_authorisation : List ℕ → ℕ → ℕ → Event → Bool
is_authorisation party n i (events.Authorise who output branch) = bytes_eq who party && (output == n) && (branch == i)
is_authorisation party n i _ = false

-- its reveal of the secret
abbrev pub is_reveal : List ℕ → ℕ → List ℕ → Event → Bool
is_reveal party k secret (events.Reveal contract who name) = bytes_eq who party && (contract == k) && bytes_eq name secret
is_reveal party k secret _ = false

-- whether the event gives what is missing
abbrev pub gives : Requirement → Event → Bool
gives (requirements.Commitment party k) e = is_commitment party k e
gives (requirements.Endorsement party k) e = is_endorsement party k e
gives (requirements.Start party k) e = is_start party k e
gives (requirements.Authorisation party n i) e = is_authorisation party n i e
gives (requirements.Secret party k secret) e = is_reveal party k secret e
gives _ e = false

abbrev pub can_come : Ruling → Bool
can_come rulings.Can = true
can_come (rulings.Cannot reason) = false
can_come rulings.Halts = false

-- whether one of these events gives it and can come
abbrev pub is_given : List Prospect → Requirement → Bool
is_given ps requirement = list_any (λ p. can_come p.ruling && gives requirement p.event) ps

-- whether nothing stands in the way of giving it by an event that isn't listed: digests, once the contract is advertised, and strings that
-- are posted
abbrev pub is_open : Configuration → Requirement → Bool
is_open g (requirements.Digest party k secret) = has_advert g.advertised k
is_open g (requirements.Posted party secret) = true
is_open g _ = false

-- whether it can be given now
abbrev pub is_at_hand : Configuration → List Prospect → Requirement → Bool
is_at_hand g ps requirement = is_open g requirement || is_given ps requirement

-- whether this party can give now what is missing for one of these prospects
abbrev pub is_waited_for : Configuration → List Prospect → List ℕ → Bool
is_waited_for g ps party = list_any (λ p. list_any (λ requirement. is_for requirement party && is_at_hand g ps requirement) p.requirements) ps

-- those of these people on whom one of the prospects waits
abbrev pub waits : Configuration → List (List ℕ) → List Prospect → List (List ℕ)
waits g people ps = filter (λ party. is_waited_for g ps party) people

-- ---- contracts

abbrev pub outlook_by : Configuration → Bool → ℕ → List (List ℕ) → List Prospect → Outlook
outlook_by g over k people ps = record {
  contract = k;
  parties = people;
  prospects = living (useful over ps);
  waits = waits g people (living (useful over ps));
}

-- what comes next of contract k
abbrev pub outlook : Setup → Configuration → World → ℕ → Advert → Outlook
outlook s g w k advert = outlook_by g (is_over g w k) k (participants advert) (prospects_of s g w (candidates s g w k advert))

-- of the contracts from number k on
abbrev pub outlooks_from : Setup → Configuration → World → ℕ → List Advert → List Outlook
outlooks_from s g w k [] = []
outlooks_from s g w k (advert ∷ adverts) = outlook s g w k advert ∷ outlooks_from s g w (k + 1) adverts

-- of all contracts
abbrev pub outlooks : Setup → Configuration → World → List Outlook
outlooks s g w = outlooks_from s g w 0 g.contracts
