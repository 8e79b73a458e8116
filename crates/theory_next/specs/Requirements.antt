-- What is claimed of what is missing: it is exactly what fails.
use Rattle.std.specs.Prelude.{◌≡◌, ◌↔◌, ℕ, List, [], true, false}
use Rattle.std.specs.List.{Contains, list_all}
use Rattle.spec_data.specs.Lists.{is_among}
use Rattle.spec_terms.specs.Precondition.{names_of}
use Rattle.spec_calculus.specs.Configuration.{Configuration}
use Rattle.spec_run.specs.declared.event.Event.{Event}
use Rattle.spec_run.specs.declared.event.Event.TheVariants as events
use Rattle.spec_run.specs.Committing.{secrets_at}
use Rattle.spec_run.specs.Setup.{Setup, is_honest}
use Rattle.spec_run.specs.World.{World}
use Rattle.spec_next.specs.declared.requirement.Requirement.{Requirement}
use Rattle.spec_next.specs.declared.requirement.Requirement.TheVariants as requirements
use Rattle.spec_next.specs.Requirements.{Condition, conditions, requirements_of}

-- it is missing for one of these conditions, which fails
pub record IsFailing (all : List Condition) (x : Requirement) : Type 0 where
  pub condition : Condition
  pub there : Contains all condition
  pub fails : condition.0 ≡ false
  pub outstanding : condition.1 ≡ x

-- a secret of a party that isn't honest, without a digest among these
pub record IsUntold (s : Setup) (k : ℕ) (party : List ℕ) (told : List (List ℕ × List ℕ)) (secret : List ℕ) : Type 0 where
  pub its : Contains (secrets_at s k party) secret
  pub dishonest : is_honest s party ≡ false
  pub untold : is_among secret (names_of told) ≡ false

pub record RequirementsAreExact (s : Setup) (g : Configuration) (w : World) (e : Event) : Type 0 where
  -- what is missing is exactly what is missing for a condition that fails
  pub failing : (x : Requirement) → Contains (requirements_of s g w e) x ↔ IsFailing (conditions s g w e) x
  -- nothing is missing exactly where all are met
  pub nothing : requirements_of s g w e ≡ [] ↔ list_all (λ c. c.0) (conditions s g w e) ≡ true
  -- for a commitment, the digest of each of its secrets is missing that isn't told, of whoever isn't honest
  pub digests : (k : ℕ) (party : List ℕ) (told : List (List ℕ × List ℕ)) → e ≡ events.Commit k party told
      → (secret : List ℕ) → Contains (requirements_of s g w e) (requirements.Digest party k secret) ↔ IsUntold s k party told secret

-- of every event in any world
abbrev pub RequirementsAreExactTheorem : Type 0
RequirementsAreExactTheorem = (s : Setup) (g : Configuration) (w : World) (e : Event) → RequirementsAreExact s g w e
