-- What may be said by a line: names as contract text may have them, numbers within eight bytes, and events that their line spells.
use Rattle.std.specs.Prelude.{◌≡◌, ℕ, List, [], Option, Some, None}
use Rattle.std.specs.List.{AllByRecursion}
use Rattle.spec_bitcoin.specs.Keys.{IsStep}
use Rattle.spec_calculus.specs.Configuration.{Configuration}
use Rattle.spec_run.specs.declared.event.Event.{Event}
use Rattle.spec_run.specs.declared.event.Event.TheVariants as events
use Rattle.spec_next.specs.declared.lead.Lead.{Lead}
use Rattle.spec_next.specs.declared.lead.Made.{Made}
use Rattle.spec_next.specs.declared.lead.Made.TheVariants as makes
use Rattle.spec_next.specs.declared.outlook.Ruling.{Ruling}
use Rattle.spec_next.specs.declared.outlook.Ruling.TheVariants as rulings
use Rattle.spec_next.specs.declared.outlook.Prospect.{Prospect}
use Rattle.spec_next.specs.declared.outlook.Outlook.{Outlook}
use Rattle.spec_next.specs.declared.requirement.Requirement.{Requirement}
use Rattle.spec_next.specs.declared.requirement.Requirement.TheVariants as requirements
use Rattle.spec_next.specs.Leads.{lead_at}
use Rattle.theory_play_text.specs.Printable.{IsWide, IsNamed, IsSpelledEvent, IsReason}

-- ---- requirements

abbrev pub IsRequirement : Requirement → Type 0
IsRequirement (requirements.Advert k) = IsWide k
IsRequirement (requirements.Deposit x) = IsNamed x
IsRequirement (requirements.Gone x) = IsNamed x
IsRequirement requirements.NobodyHonest = Unit {0}
IsRequirement (requirements.Missing secret) = IsNamed secret
IsRequirement (requirements.BadLength secret) = IsNamed secret
IsRequirement (requirements.Repeated secret) = IsNamed secret
IsRequirement (requirements.Digest party k secret) = IsNamed party × IsWide k × IsNamed secret
IsRequirement (requirements.Commitment party k) = IsNamed party × IsWide k
IsRequirement (requirements.Endorsement party k) = IsNamed party × IsWide k
IsRequirement (requirements.Start party k) = IsNamed party × IsWide k
IsRequirement (requirements.Beginning k) = IsWide k
IsRequirement (requirements.Height height blocks) = IsWide height × IsWide blocks
IsRequirement (requirements.Authorisation party n i) = IsNamed party × IsWide n × IsWide i
IsRequirement (requirements.Put x) = IsNamed x
IsRequirement (requirements.Secret party k secret) = IsNamed party × IsWide k × IsNamed secret
IsRequirement (requirements.Posted party secret) = IsNamed party × IsNamed secret
IsRequirement requirements.Predicate = Unit {0}

-- ---- events

-- an event of those that may come next
abbrev pub IsNext : Event → Type 0
IsNext (events.Advertise k bindings) = IsWide k × AllByRecursion (λ b. IsNamed (b.0) × IsWide (b.1)) bindings
IsNext (events.Commit k party digests) = IsWide k × IsNamed party × (digests ≡ [])
IsNext (events.Endorse k party) = IsWide k × IsNamed party
IsNext (events.Init k party) = IsWide k × IsNamed party
IsNext (events.FireInit k) = IsWide k
IsNext (events.Reveal k party secret) = IsWide k × IsNamed party × IsNamed secret
IsNext (events.Authorise party n i) = IsNamed party × IsWide n × IsWide i
IsNext (events.Fire n i) = IsWide n × IsWide i
IsNext _ = ⊥

abbrev pub IsRuling : Ruling → Type 0
IsRuling rulings.Can = Unit {0}
IsRuling (rulings.Cannot reason) = IsReason reason
IsRuling rulings.Halts = Unit {0}

abbrev pub IsMade : Made → Type 0
IsMade (makes.Paid party value) = IsNamed party × IsWide value
IsMade (makes.Led position value) = AllByRecursion IsStep position × IsWide value

abbrev pub IsLead : Option Lead → Type 0
IsLead None = Unit {0}
IsLead (Some l) = AllByRecursion IsStep l.path × AllByRecursion IsMade l.made

-- what a branch that is taken makes
abbrev pub IsLeading : Configuration → Event → Type 0
IsLeading g (events.Fire n i) = IsLead (lead_at g n i)
IsLeading g _ = Unit {0}

-- ---- contracts

pub record IsProspect (parties : List (List ℕ)) (g : Configuration) (p : Prospect) : Type 0 where
  pub spelled : IsSpelledEvent parties p.event
  pub next : IsNext p.event
  pub ruled : IsRuling p.ruling
  pub leads : IsLeading g p.event
  pub lacks : AllByRecursion IsRequirement p.requirements

pub record IsOutlook (parties : List (List ℕ)) (g : Configuration) (o : Outlook) : Type 0 where
  pub contract : IsWide o.contract
  pub prospects : AllByRecursion (IsProspect parties g) o.prospects
  pub waits : AllByRecursion IsNamed o.waits

-- all of it may be said
pub record IsSayable (parties : List (List ℕ)) (g : Configuration) (os : List Outlook) : Type 0 where
  pub height : IsWide g.time
  pub contracts : AllByRecursion (IsOutlook parties g) os
