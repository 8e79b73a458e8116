-- What comes next as JSON: one object, its keys in alphabetical order.
use Rattle.std.specs.Prelude.{ℕ, List, [], ◌++◌, map, filter, flat_map, codes, Bool, true, false, Option, Some, None, option_map}
use Rattle.serde_json.specs.Data.{Data, null, object, no_members, member}
use Rattle.spec_json.specs.Values.{text_value, number_value, optional_value, list_value}
use Rattle.spec_bitcoin.specs.Keys.{path_text}
use Rattle.spec_calculus.specs.declared.parts.ActiveContract.{ActiveContract}
use Rattle.spec_calculus.specs.declared.parts.Deposit.{Deposit}
use Rattle.spec_calculus.specs.declared.step.Owner.{Owner}
use Rattle.spec_calculus.specs.declared.step.Owner.TheVariants as owners
use Rattle.spec_calculus.specs.Configuration.{Configuration}
use Rattle.spec_run.specs.declared.event.Event.{Event}
use Rattle.spec_run.specs.declared.event.Event.TheVariants as events
use Rattle.spec_text.specs.RunText.{event_text}
use Rattle.spec_text.specs.OutcomeText.{reason_text}
use Rattle.spec_next.specs.declared.lead.Lead.{Lead}
use Rattle.spec_next.specs.declared.lead.Made.{Made}
use Rattle.spec_next.specs.declared.lead.Made.TheVariants as makes
use Rattle.spec_next.specs.declared.outlook.Ruling.{Ruling}
use Rattle.spec_next.specs.declared.outlook.Ruling.TheVariants as rulings
use Rattle.spec_next.specs.declared.outlook.Prospect.{Prospect}
use Rattle.spec_next.specs.declared.outlook.Outlook.{Outlook}
use Rattle.spec_next.specs.declared.requirement.Requirement.{Requirement}
use Rattle.spec_next.specs.Leads.{lead_at}
use Rattle.spec_next.specs.Listed.{is_for_party, listed_of, of_party}
use Rattle.spec_next.specs.RequirementText.{requirement_text}
use Rattle.spec_next.specs.Prospects.{awaited, is_lost}

-- ---- events

-- the words that a line of the event begins with
abbrev pub kind : Event → List ℕ
kind (events.Advertise k bindings) = codes "advertise"
kind (events.Commit k party digests) = codes "commit"
kind (events.Endorse k party) = codes "endorse"
kind (events.Init k party) = codes "init"
kind (events.FireInit k) = codes "fire init"
kind (events.Reveal k party secret) = codes "reveal"
kind (events.Authorise party n i) = codes "authorise"
kind (events.Fire n i) = codes "fire"
kind (events.Post bytes) = codes "post"
kind (events.Sign party label digest) = codes "sign"
kind (events.Give party inputs outputs) = codes "give"
kind (events.Append bytes) = codes "append"
kind (events.Mine blocks) = codes "mine"

-- the party that brings it; the others anybody can bring
abbrev pub bringer : Event → Option (List ℕ)
bringer (events.Commit k party digests) = Some party
bringer (events.Endorse k party) = Some party
bringer (events.Init k party) = Some party
bringer (events.Reveal k party secret) = Some party
bringer (events.Authorise party n i) = Some party
bringer (events.Sign party label digest) = Some party
bringer (events.Give party inputs outputs) = Some party
bringer _ = None

-- the output of whose branch it is
abbrev pub output_of : Event → Option ℕ
output_of (events.Authorise party n i) = Some n
output_of (events.Fire n i) = Some n
output_of _ = None

-- the branch, with what it makes
abbrev pub lead_of_event : Configuration → Event → Option Lead
lead_of_event g (events.Authorise party n i) = lead_at g n i
lead_of_event g (events.Fire n i) = lead_at g n i
lead_of_event g _ = None

-- whether it can come now, may come later, never comes, or would halt the run
abbrev pub status_text : Ruling → Bool → List ℕ
status_text rulings.Can lost = codes "now"
status_text (rulings.Cannot reason) true = codes "never"
status_text (rulings.Cannot reason) false = codes "later"
status_text rulings.Halts lost = codes "halts"

-- why it would be refused
abbrev pub reason_value : Ruling → Data
reason_value rulings.Can = null
reason_value (rulings.Cannot reason) = text_value (reason_text reason)
reason_value rulings.Halts = null

-- ---- what an event makes, and what it lacks

-- a deposit of a party, or a contract that goes on at a path
abbrev pub made_value : Made → Data
made_value (makes.Paid party value) =
    object (member (codes "party") (text_value party) (member (codes "value") (number_value value) no_members))
made_value (makes.Led position value) =
    object (member (codes "path") (text_value (path_text position)) (member (codes "value") (number_value value) no_members))

abbrev pub makes_value : Option Lead → Data
makes_value None = list_value []
makes_value (Some l) = list_value (map made_value l.made)

abbrev pub path_value : Option Lead → Data
path_value None = null
path_value (Some l) = text_value (path_text l.path)

-- a name, or `null`
abbrev pub name_value : Option (List ℕ) → Data
name_value name = optional_value (option_map text_value name)

-- the line that says what is missing, and the party that is to give it
abbrev pub missing_value : Requirement → Data
missing_value requirement =
    object (member (codes "line") (text_value (requirement_text requirement))
    (member (codes "party") (name_value (awaited requirement)) no_members))

-- ---- contracts

-- an event of contract k, by parts
abbrev pub told_event : ℕ → Event → Ruling → Bool → List Requirement → Option Lead → Data
told_event k e r lost required lead =
    object (member (codes "contract") (number_value k)
    (member (codes "kind") (text_value (kind e))
    (member (codes "line") (text_value (event_text e))
    (member (codes "makes") (makes_value lead)
    (member (codes "missing") (list_value (map missing_value required))
    (member (codes "output") (optional_value (option_map number_value (output_of e)))
    (member (codes "party") (name_value (bringer e))
    (member (codes "path") (path_value lead)
    (member (codes "reason") (reason_value r)
    (member (codes "status") (text_value (status_text r lost)) no_members))))))))))

abbrev pub event_value : Configuration → ℕ → Prospect → Data
event_value g k p = told_event k p.event p.ruling (is_lost p) p.requirements (lead_of_event g p.event)

-- the events that are listed of a contract, for all or for one party
abbrev pub event_values : Option (List ℕ) → Configuration → Outlook → List Data
event_values party g o = map (event_value g o.contract) (listed_of party o)

-- who can give now what is missing of a contract
abbrev pub waits_value : Option (List ℕ) → Outlook → Data
waits_value party o =
    object (member (codes "contract") (number_value o.contract)
    (member (codes "parties") (list_value (map text_value (of_party party o.waits))) no_members))

-- ---- live outputs

-- the owner's name; `null` for somebody who isn't declared
abbrev pub owner_value : Owner → Data
owner_value (owners.Party party) = text_value party
owner_value owners.Outside = null

abbrev pub deposit_value : Deposit → Data
deposit_value d =
    object (member (codes "number") (number_value d.number)
    (member (codes "party") (owner_value d.owner)
    (member (codes "value") (number_value d.value) no_members)))

-- a contract that stands at a path
abbrev pub active_value : ActiveContract → Data
active_value a =
    object (member (codes "contract") (number_value a.contract)
    (member (codes "number") (number_value a.number)
    (member (codes "path") (text_value (path_text a.position))
    (member (codes "value") (number_value a.balance) no_members))))

abbrev pub output_values : Configuration → List Data
output_values g = map deposit_value g.deposits ++ map active_value g.active

-- ---- all

-- the events that are listed, the height, the live outputs, and who can act, of these contracts
abbrev pub shown_value : Option (List ℕ) → Configuration → List Outlook → Data
shown_value party g os =
    object (member (codes "events") (list_value (flat_map (event_values party g) os))
    (member (codes "height") (number_value g.time)
    (member (codes "outputs") (list_value (output_values g))
    (member (codes "waits") (list_value (map (waits_value party) os)) no_members))))

-- for all or for one party
abbrev pub outlooks_value : Option (List ℕ) → Configuration → List Outlook → Data
outlooks_value party g os = shown_value party g (filter (λ o. is_for_party party o) os)
