-- Each step that an honest party authorises is licensed by its own event alone.
use Rattle.std.proofs.Common.{◌≡◌, ℕ, List, sym}
use Rattle.spec_calculus.specs.declared.step.Move.{Move}
use Rattle.spec_calculus.specs.Steps.{owned}
use Rattle.spec_run.specs.declared.event.Event.{Event}
use Rattle.spec_run.specs.declared.event.Event.TheVariants as events
use Rattle.spec_run.specs.Licence.{IsCommitOf, IsInitOf, IsAuthoriseOf, IsRevealOf, IsGiveOf}
use Rattle.theory_run.specs.OwnEvents.{OnlyOwnEvents}

committed : (e : Event) (contract : ℕ) (party : List ℕ) → IsCommitOf e contract party
    → (digests : List (List ℕ × List ℕ)) × (e ≡ events.Commit contract party digests)
committed (events.Commit k a digests) contract party h = (digests, λ i. events.Commit (sym h.0 i) (sym h.1 i) digests)
committed e contract party h = absurd h

begun : (e : Event) (contract : ℕ) (party : List ℕ) → IsInitOf e contract party → e ≡ events.Init contract party
begun (events.Init k a) contract party h = λ i. events.Init (sym h.0 i) (sym h.1 i)
begun e contract party h = absurd h

authorised : (e : Event) (party : List ℕ) (output branch : ℕ) → IsAuthoriseOf e party output branch
    → e ≡ events.Authorise party output branch
authorised (events.Authorise a n b) party output branch h = λ i. events.Authorise (sym h.0 i) (sym h.1 i) (sym h.2 i)
authorised e party output branch h = absurd h

revealed : (e : Event) (contract : ℕ) (party secret : List ℕ) → IsRevealOf e contract party secret
    → e ≡ events.Reveal contract party secret
revealed (events.Reveal k a x) contract party secret h = λ i. events.Reveal (sym h.0 i) (sym h.1 i) (sym h.2 i)
revealed e contract party secret h = absurd h

given : (e : Event) (party : List ℕ) (action : Move) → IsGiveOf e party action
    → (outputs : List (List ℕ × ℕ)) × (e ≡ events.Give party action.inputs outputs) × (action.outputs ≡ owned outputs)
given (events.Give a inputs outputs) party action h = (outputs, λ i. events.Give (sym h.0 i) (sym h.1 i) outputs, h.2)
given e party action h = absurd h

pub only_own_events : OnlyOwnEvents
only_own_events = record {
  commits = λ s e contract party lengths honest h. committed e contract party (h honest);
  agrees = λ s e contract party deposit honest h. begun e contract party (h honest);
  authorises = λ s e party output branch honest h. authorised e party output branch (h honest);
  reveals = λ s e contract party secret honest h. revealed e contract party secret (h honest);
  gives = λ s e party action honest h. given e party action (h honest);
}
