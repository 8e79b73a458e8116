-- What is claimed of the lines of what is missing: a line of several parties names exactly those who lack the same, and each thing that is
-- missing has a line.
use Rattle.std.specs.Prelude.{◌≡◌, ◌↔◌, ℕ, List, [], ◌∷◌, map, true, Some}
use Rattle.std.specs.List.{Contains}
use Rattle.spec_next.specs.declared.requirement.Requirement.{Requirement}
use Rattle.spec_next.specs.Prospects.{awaited}
use Rattle.spec_next.specs.RequirementText.{requirement_text}
use Rattle.spec_next.specs.Together.{once, is_alike, parties_alike, joined_text, joined_line}

-- the same is missing of this party among these
pub record LacksAlike (all : List Requirement) (requirement : Requirement) (party : List ℕ) : Type 0 where
  pub other : Requirement
  pub there : Contains all other
  pub alike : is_alike requirement other ≡ true
  pub its : awaited other ≡ Some party

pub record SaysTogether (all : List Requirement) (requirement : Requirement) : Type 0 where
  -- its line is there
  pub printed : Contains all requirement → Contains (once (map (joined_line all) all)) (joined_line all requirement)
  -- which names exactly the parties who lack the same
  pub parties : (party : List ℕ) → Contains (parties_alike all requirement) party ↔ LacksAlike all requirement party
  -- and of one alone is the line of it
  pub alone : joined_text (requirement ∷ []) requirement ≡ requirement_text requirement

-- of everything that is missing
abbrev pub LinesNameAll : Type 0
LinesNameAll = (all : List Requirement) (requirement : Requirement) → SaysTogether all requirement
