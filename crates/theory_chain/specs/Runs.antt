-- What is claimed of the steps of a chain: they are a legal run of the calculus, and the configuration that it leads to is what the chain
-- shows.
use Rattle.std.specs.Prelude.{◌≡◌, ℕ, List, Some}
use Rattle.std.specs.List.{Contains}
use Rattle.spec_terms.specs.Advert.{Advert}
use Rattle.spec_terms.specs.declared.path.PathStep.{PathStep}
use Rattle.spec_calculus.specs.Configuration.{Configuration}
use Rattle.spec_calculus.specs.Steps.{IsLegalRun, Legal}
use Rattle.spec_compiler.specs.Keyed.Keys.{Keys}
use Rattle.spec_compiler.specs.Keyed.Instance.{Instance}
use Rattle.spec_compiler.specs.Keyed.ByPath.{outpoint_at}
use Rattle.spec_deal.specs.declared.deal.Deal.{Deal}
use Rattle.spec_deal.specs.Setting.{deal_keys, deal_instance}
use Rattle.spec_deal.specs.Verifier.{Verifier}
use Rattle.spec_chain.specs.declared.output.Held.TheVariants as helds
use Rattle.spec_chain.specs.declared.output.Output.{Output}
use Rattle.spec_chain.specs.Chain.{Course, stands, follow_chain}
use Rattle.theory_chain.specs.ChainSteps.{deal_opening, chain_run, AreLengths, deposits_shown, contracts_shown, secrets_revealed, gone_outside}
use Rattle.theory_chain.specs.Deals.{IsDeal}

-- the configuration is what a chain shows
pub record Shows (s : Instance) (course : Course) (tip : ℕ) (g : Configuration) : Type 0 where
  -- the live positions are the active contracts, under their numbers, and their values are the balances
  pub contracts : g.active ≡ contracts_shown course.state
  -- the deposits are those that the deal didn't take, and what it paid
  pub deposits : g.deposits ≡ deposits_shown s course
  -- the secrets that were shown are revealed, and no others
  pub secrets : g.revealed ≡ secrets_revealed s course.state
  pub time : g.time ≡ tip
  pub next : g.next ≡ course.state.next

-- with these lengths of secrets the chain is a legal run to a configuration that it shows; after it what is gone may go
pub record IsRunWith (s : Instance) (course : Course) (tip : ℕ) (lengths : List ℕ → ℕ) : Type 0 where
  pub last : Configuration
  pub legal : IsLegalRun (deal_opening s) (chain_run lengths s course tip) last
  pub shows : Shows s course tip last
  pub gone : Legal last (gone_outside s course)

-- a live position lies where its output is made
abbrev pub ArePlaced : (List ℕ → List ℕ) → Keys → Instance → List Output → Type 0
ArePlaced hash keys s live = (o : Output) (path : List PathStep) → Contains live o → o.held ≡ helds.Position path
    → outpoint_at hash keys s path ≡ Some o.place

pub record IsRun (hash : List ℕ → List ℕ) (keys : Keys) (s : Instance) (course : Course) (tip : ℕ) : Type 0 where
  -- whatever lengths the secrets have that weren't shown
  pub legal : (lengths : List ℕ → ℕ) → AreLengths lengths course.state → IsRunWith s course tip lengths
  -- there are such lengths
  pub possible : (lengths : List ℕ → ℕ) × AreLengths lengths course.state
  pub placed : ArePlaced hash keys s course.state.live

-- of every deal that isn't refused and every chain that isn't
abbrev pub ChainsAreRuns : Type 0
ChainsAreRuns = (v : Verifier) (hash : List ℕ → List ℕ) (advert : Advert) (deal : Deal) (text : List ℕ) (course : Course) (tip : ℕ)
    → IsDeal v hash advert deal → follow_chain hash (deal_keys deal) (deal_instance advert deal) text ≡ stands course tip
    → IsRun hash (deal_keys deal) (deal_instance advert deal) course tip
