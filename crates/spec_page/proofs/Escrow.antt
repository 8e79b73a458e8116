-- The contract and the run of the test vectors: an escrow in which a mediator decides, for a part of the money.
use Rattle.std.specs.Prelude.{ℕ, List, [], ◌∷◌, ◌++◌, map, codes}
use Rattle.spec_terms.specs.Term.{Guarded, auth, after, withdraw, split, Contract, no_branch, branch, no_part, part}
use Rattle.spec_terms.specs.Advert.{Advert}
use Rattle.spec_terms.specs.declared.pre.Pre.TheVariants.{Persistent}
use Rattle.spec_run.specs.declared.event.Event.{Event}
use Rattle.spec_run.specs.declared.event.Event.TheVariants as events
use Rattle.spec_run.specs.Setup.{Setup}
use Rattle.spec_tool.proofs.HashVectors.{small_hash}

-- texts, one after another
abbrev pub pieces : List (List ℕ) → List ℕ
pieces [] = []
pieces (p ∷ ps) = p ++ pieces ps

abbrev pub buyer : List ℕ
buyer = codes "Buyer"

abbrev pub seller : List ℕ
seller = codes "Seller"

abbrev pub mediator : List ℕ
mediator = codes "Mediator"

-- one of two branches
abbrev pub either : Guarded → Guarded → Contract
either b c = branch b (branch c no_branch)

abbrev pub decision : Contract
decision = either (auth mediator (withdraw seller)) (auth mediator (withdraw buyer))

abbrev pub escrow : Advert
escrow = record {
  pre = Persistent buyer 100 (codes "price") ∷ Persistent seller 0 (codes "s") ∷ Persistent mediator 0 (codes "m") ∷ [];
  fee = 0;
  root =
      branch (auth buyer (withdraw seller))
      (branch (auth seller (withdraw buyer))
      (branch (after 1000 (auth mediator (split (part 3 (branch (withdraw mediator) no_branch) (part 97 decision no_part)))))
      no_branch));
}

abbrev pub people : List (List ℕ)
people = buyer ∷ seller ∷ mediator ∷ []

abbrev pub setup : Setup
setup = record {
  hash = small_hash;
  header = record { parties = people; honest = people; secrets = []; deposits = (buyer, 100) ∷ (seller, 0) ∷ (mediator, 0) ∷ [] };
  contracts = escrow ∷ [];
}

-- the contract begins
abbrev pub beginning : List Event
beginning =
    events.Advertise 0 ((codes "price", 0) ∷ (codes "s", 1) ∷ (codes "m", 2) ∷ [])
    ∷ (map (λ p. events.Commit 0 p []) people
    ++ (map (λ p. events.Endorse 0 p) people
    ++ (map (λ p. events.Init 0 p) people
    ++ events.FireInit 0 ∷ [])))

-- the mediator takes its part and gives the rest to the buyer
abbrev pub mediated : List Event
mediated =
    beginning
    ++ events.Mine 1000
    ∷ events.Authorise mediator 3 2
    ∷ events.Fire 3 2
    ∷ events.Fire 4 0
    ∷ events.Authorise mediator 5 1
    ∷ events.Fire 5 0
    ∷ events.Fire 5 1
    ∷ []
