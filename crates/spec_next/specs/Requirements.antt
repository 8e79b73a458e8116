-- What is missing for an event: the conditions that fail of those that it has in the calculus of BitML.
use Rattle.std.specs.Prelude.{ℕ, ◌-◌, List, [], ◌∷◌, ◌++◌, map, filter, Bool, not, ◌||◌, nat_le, if◌then◌else◌, Option, Some, None}
use Rattle.spec_data.specs.Lists.{is_among, has_number, look_up}
use Rattle.spec_terms.specs.Core.{core, asks, lock, puts_of, reveals_of, test_of}
use Rattle.spec_terms.specs.Precondition.{Holding, persistent, names_of, secrets}
use Rattle.spec_terms.specs.Term as term
use Rattle.spec_terms.specs.Value.{holds}
use Rattle.spec_terms.specs.declared.pre.Pre.{Pre}
use Rattle.spec_calculus.specs.declared.parts.ActiveContract.{ActiveContract}
use Rattle.spec_calculus.specs.Configuration.{Configuration}
use Rattle.spec_calculus.specs.Beginning.{is_advertised, bindings_of, is_there, is_init_authorised, contract_at, pre_of, participants_of}
use Rattle.spec_calculus.specs.Beginning.{has_committed}
use Rattle.spec_calculus.specs.Branches.{has_branch_authorised, is_revealed_by, are_revealed, secret_lengths, active_at, contract_number}
use Rattle.spec_calculus.specs.Branches.{advert_of}
use Rattle.spec_calculus.specs.Steps.{branch_at}
use Rattle.spec_compiler.specs.Instance.{Instance}
use Rattle.spec_run.specs.declared.event.Event.{Event}
use Rattle.spec_run.specs.declared.event.Event.TheVariants as events
use Rattle.spec_run.specs.Setup.{Setup, is_honest}
use Rattle.spec_run.specs.World.{World}
use Rattle.spec_run.specs.Compiled.{compiled_instance}
use Rattle.spec_run.specs.Committing.{secrets_at}
use Rattle.spec_run.specs.Advertising.{deposit_names}
use Rattle.spec_next.specs.Candidates.{has_endorsed}
use Rattle.spec_next.specs.declared.requirement.Requirement.{Requirement}
use Rattle.spec_next.specs.declared.requirement.Requirement.TheVariants as requirements

-- a condition: whether it is met, and what is missing where it isn't
abbrev pub Condition : Type 0
Condition = Bool × Requirement

-- ---- before a contract begins

-- the contract is advertised, and each participant has committed
abbrev pub agreed : Configuration → ℕ → List Condition
agreed g k =
    (is_advertised g.advertised k, requirements.Advert k)
    ∷ map (λ party. (has_committed g.committed k party, requirements.Commitment party k)) (participants_of (contract_at g.contracts k))

-- each deposit of the precondition is bound
abbrev pub bound : List (List ℕ) → List (List ℕ × ℕ) → List Condition
bound names bindings = map (λ x. (is_among x (names_of bindings), requirements.Deposit x)) names

-- the digests are there of a party that isn't honest
abbrev pub digests_told : Setup → ℕ → List ℕ → List (List ℕ × List ℕ) → List Condition
digests_told s k party digests =
    map (λ x. (is_honest s party || is_among x (names_of digests), requirements.Digest party k x)) (secrets_at s k party)

-- each of these has signed all that it endorses
abbrev pub endorsed : Setup → World → ℕ → Instance → List (List ℕ) → List Condition
endorsed s w k instance people = map (λ party. (has_endorsed s w (Some instance) party, requirements.Endorsement party k)) people

-- an honest party waits until everyone has endorsed, once the contract is compiled
abbrev pub endorsed_for : Setup → World → ℕ → List ℕ → Option Instance → List (List ℕ) → List Condition
endorsed_for s w k party None people = []
endorsed_for s w k party (Some instance) people = if is_honest s party then endorsed s w k instance people else []

-- whether the deposit that a name is bound to is there; before the contract is advertised none is bound, and so none is gone
abbrev pub isnt_gone : Configuration → ℕ → List ℕ → Bool
isnt_gone g k x = not (is_advertised g.advertised k) || is_there g.deposits (look_up x (bindings_of g.advertised k))

-- the persistent deposits are there, and their owners let the contract take them
abbrev pub started : Configuration → ℕ → List (List ℕ × Holding) → List Condition
started g k ds =
    map (λ d. (isnt_gone g k (d.0), requirements.Gone (d.0))) ds
    ++ map (λ d. (is_init_authorised g.init_authorised k (d.0), requirements.Start (d.1).owner k)) ds

-- ---- once it has begun

-- the party has committed, and the contract has begun
abbrev pub begun : Configuration → World → ℕ → List ℕ → List Condition
begun g w k party =
    (is_advertised g.advertised k, requirements.Advert k)
    ∷ (has_committed g.committed k party, requirements.Commitment party k)
    ∷ (has_number k w.begun, requirements.Beginning k)
    ∷ []

-- each who is asked has authorised the branch
abbrev pub authorised : Configuration → ℕ → ℕ → List (List ℕ) → List Condition
authorised g n i parties = map (λ party. (has_branch_authorised g.branch_authorised n i party, requirements.Authorisation party n i)) parties

-- each deposit that is put in is there
abbrev pub put_in : Configuration → ℕ → List (List ℕ) → List Condition
put_in g k puts = map (λ x. (is_there g.deposits (look_up x (bindings_of g.advertised k)), requirements.Put x)) puts

-- a secret that is missing, by its owner: an honest one reveals it, another's is posted; one of nobody, which no contract has that passed
-- the check, is never revealed
abbrev pub secret_requirement : List (List ℕ) → ℕ → Option (List ℕ) → List ℕ → Requirement
secret_requirement honest k None x = requirements.Predicate
secret_requirement honest k (Some party) x = if is_among party honest then requirements.Secret party k x else requirements.Posted party x

-- each secret is revealed
abbrev pub revealed : List (List ℕ) → Configuration → ℕ → List Pre → List (List ℕ) → List Condition
revealed honest g k pre names =
    map (λ x. (is_revealed_by g.revealed k (look_up x (secrets pre)) x, secret_requirement honest k (look_up x (secrets pre)) x)) names

-- the predicate isn't false of the revealed lengths; where a secret isn't revealed, nothing decides it
abbrev pub undecided_or_true : Configuration → ℕ → List Pre → term.Guarded → Bool
undecided_or_true g k pre c =
    not (are_revealed g.revealed k pre (reveals_of c)) || holds (secret_lengths g.committed k pre (reveals_of c)) (test_of c)

-- what the branch asks for, of an active contract of contract k, where these parties are honest: its height, those whom it asks, deposits,
-- secrets, predicate
abbrev pub asked_for : List (List ℕ) → Configuration → ℕ → ℕ → ℕ → List Pre → term.Guarded → List Condition
asked_for honest g n i k pre b =
    (nat_le (lock b) g.time, requirements.Height (lock b) (lock b - g.time))
    ∷ (authorised g n i (asks b)
    ++ (put_in g k (puts_of (core b))
    ++ (revealed honest g k pre (reveals_of (core b))
    ++ (undecided_or_true g k pre (core b), requirements.Predicate) ∷ [])))

abbrev pub asked_by_branch : List (List ℕ) → Configuration → ℕ → ℕ → Option ActiveContract → Option term.Guarded → List Condition
asked_by_branch honest g n i active None = []
asked_by_branch honest g n i active (Some b) = asked_for honest g n i (contract_number active) (pre_of (advert_of g.contracts active)) b

-- ---- all

-- the conditions of an event
abbrev pub conditions : Setup → Configuration → World → Event → List Condition
conditions s g w (events.Advertise k bindings) = bound (deposit_names s k) bindings
conditions s g w (events.Commit k party digests) =
    (is_advertised g.advertised k, requirements.Advert k) ∷ digests_told s k party digests
conditions s g w (events.Endorse k party) = agreed g k
conditions s g w (events.Init k party) =
    agreed g k ++ endorsed_for s w k party (compiled_instance s w k) (participants_of (contract_at g.contracts k))
conditions s g w (events.FireInit k) = agreed g k ++ started g k (persistent (pre_of (contract_at g.contracts k)))
conditions s g w (events.Reveal k party secret) = begun g w k party
conditions s g w (events.Authorise party n i) = []
conditions s g w (events.Fire n i) = asked_by_branch s.header.honest g n i (active_at g.active n) (branch_at g n i)
conditions s g w (events.Post bytes) = []
conditions s g w (events.Sign party label digest) = []
conditions s g w (events.Give party inputs outputs) = []
conditions s g w (events.Append bytes) = []
conditions s g w (events.Mine blocks) = []

-- what is missing for these that aren't met, in their order
abbrev pub unmet : List Condition → List Requirement
unmet conditions = map (λ c. c.1) (filter (λ c. not (c.0)) conditions)

-- what is missing for an event
abbrev pub requirements_of : Setup → Configuration → World → Event → List Requirement
requirements_of s g w e = unmet (conditions s g w e)
