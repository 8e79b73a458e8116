-- The events that may come next of the contracts of a run of BitML: a closed list, in order.
use Rattle.std.specs.Prelude.{ℕ, ◌+◌, ◌==◌, List, [], ◌∷◌, ◌++◌, map, filter, Bool, false, not, ◌||◌, Option, Some, None}
use Rattle.std.specs.List.{flat_map, list_all}
use Rattle.std.specs.Str.{bytes_eq}
use Rattle.spec_terms.specs.Advert.{Advert}
use Rattle.spec_terms.specs.Parties.{participants}
use Rattle.spec_terms.specs.Precondition.{Holding, deposits, persistent, secrets}
use Rattle.spec_terms.specs.Term as term
use Rattle.spec_bitcoin.specs.Keys.{Pair, has_signed}
use Rattle.spec_calculus.specs.declared.parts.ActiveContract.{ActiveContract}
use Rattle.spec_calculus.specs.Configuration.{Configuration}
use Rattle.spec_calculus.specs.Beginning.{is_init_authorised}
use Rattle.spec_calculus.specs.Offers.{branches_of}
use Rattle.spec_compiler.specs.Instance.{Instance}
use Rattle.spec_run.specs.declared.event.Event.{Event}
use Rattle.spec_run.specs.declared.event.Event.TheVariants as events
use Rattle.spec_run.specs.Setup.{Setup, is_declared, is_honest}
use Rattle.spec_run.specs.World.{World}
use Rattle.spec_run.specs.Compiled.{compiled_instance}
use Rattle.spec_run.specs.Signing.{endorsing_pairs}
use Rattle.spec_run.specs.Steps.{is_awaited}
use Rattle.spec_next.specs.Bindings.{bindings_for}

-- those who take part and are declared: a run file has no line of anybody else
abbrev pub people : Setup → Advert → List (List ℕ)
people s advert = filter (λ party. is_declared s party) (participants advert)

-- ---- before a contract begins

-- it is advertised with the deposits that fit
abbrev pub advertising : Configuration → ℕ → Advert → Event
advertising g k advert = events.Advertise k (bindings_for g.deposits (deposits advert.pre))

-- a party's line has no digests; those of a party that isn't honest are its own to add
abbrev pub committing : ℕ → List ℕ → Event
committing k party = events.Commit k party []

-- whether the book has all of these
abbrev pub are_signed : List Pair → List Pair → Bool
are_signed book pairs = list_all (λ p. has_signed book (p.0) (p.1)) pairs

-- whether a party has signed all that it endorses, where the contract is compiled
abbrev pub has_endorsed : Setup → World → Option Instance → List ℕ → Bool
has_endorsed s w None party = false
has_endorsed s w (Some instance) party = are_signed w.book (endorsing_pairs s party (Some instance))

-- a party that has nothing left to sign isn't asked again
abbrev pub endorsing : Setup → World → ℕ → List (List ℕ) → List Event
endorsing s w k people =
    map (λ party. events.Endorse k party) (filter (λ party. not (has_endorsed s w (compiled_instance s w k) party)) people)

-- whether a party lets the contract take each of its deposits among these
abbrev pub has_started : Configuration → ℕ → List (List ℕ × Holding) → List ℕ → Bool
has_started g k ds party = list_all (λ d. not (bytes_eq (d.1).owner party) || is_init_authorised g.init_authorised k (d.0)) ds

abbrev pub starting : Configuration → ℕ → List (List ℕ × Holding) → List (List ℕ) → List Event
starting g k ds people = map (λ party. events.Init k party) (filter (λ party. not (has_started g k ds party)) people)

-- ---- once it has begun

-- an honest party's secrets; they are given with their parties
abbrev pub revealing : Setup → ℕ → List (List ℕ × List ℕ) → List Event
revealing s k secrets = map (λ x. events.Reveal k (x.1) (x.0)) (filter (λ x. is_honest s (x.1)) secrets)

-- those of these people whom a branch asks and who haven't authorised it
abbrev pub authorising : Configuration → List (List ℕ) → ℕ → ℕ → term.Guarded → List Event
authorising g people n i b =
    map (λ party. events.Authorise party n i)
    (filter (λ party. is_awaited g n i b party) people)

-- the branches from number i on, each authorised and then taken
abbrev pub taking : Configuration → List (List ℕ) → ℕ → ℕ → List term.Guarded → List Event
taking g people n i [] = []
taking g people n i (b ∷ bs) = authorising g people n i b ++ events.Fire n i ∷ taking g people n (i + 1) bs

abbrev pub taking_active : Configuration → List (List ℕ) → ActiveContract → List Event
taking_active g people a = taking g people a.number 0 (branches_of g.contracts a)

-- the active contracts that are of contract k
abbrev pub actives_of : Configuration → ℕ → List ActiveContract
actives_of g k = filter (λ a. a.contract == k) g.active

-- ---- all

-- the candidates of contract k by these people: to advertise, to commit, to endorse and to sign the
-- initial transaction by party, to begin, to reveal by secret, and then by live position and branch to authorise by party and to take
-- the branch
abbrev pub candidates_by : Setup → Configuration → World → ℕ → Advert → List (List ℕ) → List Event
candidates_by s g w k advert people =
    advertising g k advert
    ∷ (map (committing k) people
    ++ (endorsing s w k people
    ++ (starting g k (persistent advert.pre) people
    ++ (events.FireInit k
    ∷ (revealing s k (secrets advert.pre)
    ++ flat_map (taking_active g people) (actives_of g k))))))

abbrev pub candidates : Setup → Configuration → World → ℕ → Advert → List Event
candidates s g w k advert = candidates_by s g w k advert (people s advert)

-- those of the contracts from number k on
abbrev pub candidates_from : Setup → Configuration → World → ℕ → List Advert → List Event
candidates_from s g w k [] = []
candidates_from s g w k (advert ∷ adverts) = candidates s g w k advert ++ candidates_from s g w (k + 1) adverts

-- those of all contracts
abbrev pub all_candidates : Setup → Configuration → World → List Event
all_candidates s g w = candidates_from s g w 0 g.contracts
