-- Which lines tell what may come next: all of it, in this order, and nothing else.
use Rattle.std.specs.Prelude.{◌≡◌, ℕ, List, [], ◌∷◌, ◌++◌, map, filter, flat_map, ◌⊎◌, Option, Some, None}
use Rattle.spec_calculus.specs.Configuration.{Configuration}
use Rattle.spec_run.specs.declared.event.Event.{Event}
use Rattle.spec_run.specs.declared.event.Event.TheVariants as events
use Rattle.spec_next.specs.declared.lead.Lead.{Lead}
use Rattle.spec_next.specs.declared.outlook.Prospect.{Prospect}
use Rattle.spec_next.specs.declared.outlook.Outlook.{Outlook}
use Rattle.spec_next.specs.declared.requirement.Requirement.{Requirement}
use Rattle.spec_next.specs.declared.requirement.Requirement.TheVariants as requirements
use Rattle.spec_next.specs.Leads.{lead_at}
use Rattle.spec_next.specs.Listed.{before, from_branches, is_for_party, listed_of, of_party}
use Rattle.spec_next.specs.Together.{parties_alike}
use Rattle.theory_calculus.specs.Members.{Is_in}
use Rattle.theory_next_text.specs.Lines.{NextLine}
use Rattle.theory_next_text.specs.Lines as line
use Rattle.theory_next_text.specs.Missing.{Lack}
use Rattle.theory_next_text.specs.Missing as lack

abbrev pub Lines : Type 1
Lines = List NextLine → Type 0

-- exactly these
abbrev pub Just : List NextLine → Lines
Just own lines = lines ≡ own

-- first the one, then the other
pub record Then (P Q : Lines) (lines : List NextLine) : Type 0 where
  pub first : List NextLine
  pub second : List NextLine
  pub one : P first
  pub other : Q second
  pub are : lines ≡ first ++ second

-- those of each, in order
abbrev pub OfEach : {A : Type 0} → (A → Lines) → List A → Lines
OfEach P [] = Just []
OfEach P (x ∷ xs) = Then (P x) (OfEach P xs)

-- ---- what is missing

-- x is said, and then these, where those before it were said: what was said isn't said again
abbrev pub Firsts : {A : Type 0} → List A → List A → List A → Type 0
Firsts seen [] said = said ≡ []
Firsts seen (x ∷ xs) [] = Is_in x seen × Firsts seen xs []
Firsts seen (x ∷ xs) (y ∷ said) =
    (Is_in x seen × Firsts seen xs (y ∷ said)) ⊎ ((Is_in x seen → ⊥) × (y ≡ x) × Firsts (seen ++ x ∷ []) xs said)

-- a requirement as it is said among all these: what several parties lack is said of all of them
abbrev pub lack_of : List Requirement → Requirement → Lack
lack_of all (requirements.Commitment party k) = lack.commitments (parties_alike all (requirements.Commitment party k)) k
lack_of all (requirements.Endorsement party k) = lack.endorsements (parties_alike all (requirements.Endorsement party k)) k
lack_of all (requirements.Start party k) = lack.starts (parties_alike all (requirements.Start party k)) k
lack_of all (requirements.Authorisation party n i) =
    lack.authorisations (parties_alike all (requirements.Authorisation party n i)) n i
lack_of all requirement = lack.one requirement

-- each of these requirements, once
pub record Missing (required : List Requirement) (lines : List NextLine) : Type 0 where
  pub said : List Lack
  pub once : Firsts [] (map (lack_of required) required) said
  pub are : lines ≡ map (λ l. line.lacks l) said

-- ---- contracts

abbrev pub event_line : Prospect → NextLine
event_line p = line.event p.event p.ruling

-- what a branch that is taken makes
abbrev pub lead_line : Option Lead → List NextLine
lead_line None = []
lead_line (Some l) = line.leads l ∷ []

abbrev pub made_lines : Configuration → Event → List NextLine
made_lines g (events.Fire n i) = lead_line (lead_at g n i)
made_lines g _ = []

-- the events before the branches, and what is missing for them
abbrev pub TellsBefore : List Prospect → Lines
TellsBefore ps = Then (Just (map event_line ps)) (Missing (flat_map (λ p. p.requirements) ps))

-- a branch that is authorised or taken, what that makes, and what is missing for it
abbrev pub TellsBranch : Configuration → Prospect → Lines
TellsBranch g p = Then (Just (event_line p ∷ [])) (Then (Just (made_lines g p.event)) (Missing p.requirements))

abbrev pub TellsProspects : Configuration → List Prospect → Lines
TellsProspects g ps = Then (TellsBefore (before ps)) (OfEach (TellsBranch g) (from_branches ps))

-- a contract: its number, its events, and on whom it waits; for all or for one party
abbrev pub TellsContract : Option (List ℕ) → Configuration → Outlook → Lines
TellsContract party g o =
    Then (Just (line.contract o.contract ∷ []))
    (Then (TellsProspects g (listed_of party o)) (Just (map (λ a. line.waits a) (of_party party o.waits))))

-- the height, and contract by contract
abbrev pub TellsAll : Option (List ℕ) → Configuration → List Outlook → Lines
TellsAll party g os = Then (Just (line.height g.time ∷ [])) (OfEach (TellsContract party g) (filter (is_for_party party) os))
