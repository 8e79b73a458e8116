-- What is claimed of the events of the run that begins a contract: each is done or accepted, unless the run halts.
use Rattle.std.specs.Prelude.{◌≡◌, ◌⊎◌, ℕ, List, map, not, true, Option, Some, None}
use Rattle.std.specs.List.{Contains, list_all}
use Rattle.spec_data.specs.Lists.{has_number}
use Rattle.spec_terms.specs.Advert.{Advert}
use Rattle.spec_terms.specs.Faults.{IsWellFormed}
use Rattle.spec_bitcoin.specs.Keys.{signature_of}
use Rattle.spec_compiler.specs.Instance.{deposit_key}
use Rattle.spec_compiler.specs.Transactions.{party_script}
use Rattle.spec_run.specs.declared.event.Event.{Event}
use Rattle.spec_run.specs.declared.event.Event.TheVariants as events
use Rattle.spec_run.specs.declared.header.HeldSecret.{HeldSecret}
use Rattle.spec_run.specs.Setup.{Setup, is_declared}
use Rattle.spec_run.specs.Pending.{Halt, Collided, Guessed}
use Rattle.spec_run.specs.Values.{is_refused}
use Rattle.spec_run.specs.Committing.{is_secret_long}
use Rattle.spec_run.specs.Conditions.{HashesBytes}
use Rattle.spec_run.specs.Event.{opening_collision}
use Rattle.spec_run.specs.Translation.{trace, last_world, first_halt}
use Rattle.spec_next.specs.FirstLines.{first_events}
use Rattle.theory_next.specs.FirstRun.{first_setup, HasRoom, AreSecrets}

-- ---- how such a run may halt

-- the string is what a declared party's deposit is spent with: its script, or a signature by its key
pub record SpendsDeposit (s : Setup) (string : List ℕ) : Type 0 where
  pub party : List ℕ
  pub declared : is_declared s party ≡ true
  pub item : (string ≡ party_script s.hash party) ⊎ ((digest : List ℕ) × (string ≡ signature_of (deposit_key s.hash party) digest))

-- the party's secret of this name is such a string
pub record SecretSpendsDeposit (s : Setup) (party name : List ℕ) : Type 0 where
  pub secret : HeldSecret
  pub there : Contains s.header.secrets secret
  pub is_owner : secret.party ≡ party
  pub is_name : secret.name ≡ name
  pub spends : SpendsDeposit s secret.bytes

-- the strings of a commitment may collide, as may those of the beginning; and that guesses a secret that a deposit is spent with
abbrev pub MayHalt : Setup → Event → Halt → Type 0
MayHalt s (events.Commit contract party digests) (Collided earlier later) = Unit {0}
MayHalt s (events.FireInit contract) (Collided earlier later) = Unit {0}
MayHalt s (events.FireInit contract) (Guessed party name) = SecretSpendsDeposit s party name
MayHalt s _ halt = ⊥

abbrev pub HaltsOnlySo : Setup → Option (Event × Halt) → Type 0
HaltsOnlySo s None = Unit {0}
HaltsOnlySo s (Some h) = MayHalt s (h.0) (h.1)

-- ---- the claim

pub record GoesThroughOrHalts (s : Setup) (es : List Event) : Type 0 where
  -- no event is refused: each is done or accepted
  pub passes : list_all (λ r. not (is_refused r.outcome)) (trace s es) ≡ true
  -- unless the run halts, these are all events, and the contract has begun
  pub all : first_halt s es ≡ None → map (λ r. r.event) (trace s es) ≡ es
  pub begins : first_halt s es ≡ None → has_number 0 (last_world s es).begun ≡ true
  -- and it halts only so
  pub halts : HaltsOnlySo s (first_halt s es)

-- the secrets have the size of secrets
abbrev pub AreLong : List (List ℕ) → Type 0
AreLong strings = list_all is_secret_long strings ≡ true

-- the run that begins a contract goes through, whatever its secrets are
abbrev pub FirstEventsGoThrough : Type 0
FirstEventsGoThrough =
    (hash : List ℕ → List ℕ) (advert : Advert) (strings : List (List ℕ)) → HashesBytes hash → IsWellFormed advert → HasRoom advert
    → AreSecrets advert strings → AreLong strings → opening_collision (first_setup hash advert strings) ≡ None
    → GoesThroughOrHalts (first_setup hash advert strings) (first_events advert)
