-- How what comes next is printed in lines.
use Rattle.std.specs.Prelude.{ℕ, List, [], ◌++◌, filter, flat_map, codes, Option, Some, None}
use Rattle.std.specs.Fmt.{decimal}
use Rattle.spec_bitcoin.specs.Keys.{path_text}
use Rattle.spec_calculus.specs.Configuration.{Configuration}
use Rattle.spec_run.specs.declared.event.Event.{Event}
use Rattle.spec_run.specs.declared.event.Event.TheVariants as events
use Rattle.spec_text.specs.RunText.{newline, event_text}
use Rattle.spec_text.specs.OutcomeText.{reason_text}
use Rattle.spec_next.specs.declared.lead.Lead.{Lead}
use Rattle.spec_next.specs.declared.lead.Made.{Made}
use Rattle.spec_next.specs.declared.lead.Made.TheVariants as makes
use Rattle.spec_next.specs.declared.outlook.Ruling.{Ruling}
use Rattle.spec_next.specs.declared.outlook.Ruling.TheVariants as rulings
use Rattle.spec_next.specs.declared.outlook.Prospect.{Prospect}
use Rattle.spec_next.specs.declared.outlook.Outlook.{Outlook}
use Rattle.spec_next.specs.Leads.{lead_at}
use Rattle.spec_next.specs.Listed.{before, from_branches, is_for_party, listed_of, of_party}
use Rattle.spec_next.specs.Together.{requirements_text}

-- ---- events

-- `can EVENT`, `cannot EVENT REASON`, and `cannot EVENT halts` where it would halt the run
abbrev pub ruling_line : Event → Ruling → List ℕ
ruling_line e rulings.Can = codes "can " ++ (event_text e ++ newline)
ruling_line e (rulings.Cannot reason) = codes "cannot " ++ (event_text e ++ (codes " " ++ (reason_text reason ++ newline)))
ruling_line e rulings.Halts = codes "cannot " ++ (event_text e ++ (codes " halts" ++ newline))

abbrev pub prospect_line : Prospect → List ℕ
prospect_line p = ruling_line p.event p.ruling

-- ` pays A V`, or ` to Q V` of a contract that goes on at Q
abbrev pub made_text : Made → List ℕ
made_text (makes.Paid party value) = codes " pays " ++ (party ++ (codes " " ++ decimal value))
made_text (makes.Led position value) = codes " to " ++ (path_text position ++ (codes " " ++ decimal value))

-- `path P`, and what it pays or leads to
abbrev pub lead_line : Lead → List ℕ
lead_line l = codes "path " ++ (path_text l.path ++ (flat_map made_text l.made ++ newline))

abbrev pub lead_text : Option Lead → List ℕ
lead_text None = []
lead_text (Some l) = lead_line l

-- below the branch that is taken
abbrev pub event_lead : Configuration → Event → List ℕ
event_lead g (events.Fire n i) = lead_text (lead_at g n i)
event_lead g _ = []

-- ---- contracts

-- events before the branches, and behind them what is missing for all of them
abbrev pub before_text : List Prospect → List ℕ
before_text ps = flat_map prospect_line ps ++ requirements_text (flat_map (λ p. p.requirements) ps)

-- the authorisation of a branch or the branch, with what that makes and what is missing for it
abbrev pub branch_text : Configuration → Prospect → List ℕ
branch_text g p = prospect_line p ++ (event_lead g p.event ++ requirements_text p.requirements)

abbrev pub prospects_text : Configuration → List Prospect → List ℕ
prospects_text g ps = before_text (before ps) ++ flat_map (branch_text g) (from_branches ps)

-- `waits A`
abbrev pub waits_line : List ℕ → List ℕ
waits_line party = codes "waits " ++ (party ++ newline)

-- `contract K`
abbrev pub contract_line : ℕ → List ℕ
contract_line k = codes "contract " ++ (decimal k ++ newline)

-- a contract, for all or for one party
abbrev pub outlook_text : Option (List ℕ) → Configuration → Outlook → List ℕ
outlook_text party g o =
    contract_line o.contract ++ (prospects_text g (listed_of party o) ++ flat_map waits_line (of_party party o.waits))

-- ---- all

-- `height H`
abbrev pub height_line : ℕ → List ℕ
height_line height = codes "height " ++ (decimal height ++ newline)

-- the height, and contract by contract
abbrev pub outlooks_text : Option (List ℕ) → Configuration → List Outlook → List ℕ
outlooks_text party g os = height_line g.time ++ flat_map (outlook_text party g) (filter (is_for_party party) os)
