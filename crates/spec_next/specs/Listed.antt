-- Which events of a contract are listed: of those before its branches that are refused and may come yet, those of the next phase; and for
-- one party its own, those that anybody can bring, and those that never come.
use Rattle.std.specs.Prelude.{ℕ, ◌==◌, nat_le, List, [], ◌∷◌, filter, Bool, true, not, ◌&&◌, ◌||◌, if◌then◌else◌, Option, Some, None, is_some}
use Rattle.std.specs.Str.{bytes_eq}
use Rattle.spec_data.specs.Lists.{is_among}
use Rattle.spec_run.specs.declared.event.Event.{Event}
use Rattle.spec_run.specs.declared.event.Event.TheVariants as events
use Rattle.spec_next.specs.declared.outlook.Prospect.{Prospect}
use Rattle.spec_next.specs.declared.outlook.Outlook.{Outlook}
use Rattle.spec_next.specs.Prospects.{is_refused, is_lost}

-- ---- phases

-- an event before the branches is of the phase of advertising, of commitments, of endorsements, of signatures of the initial transaction, of
-- the beginning, or of secrets
abbrev pub phase : Event → Option ℕ
phase (events.Advertise k bindings) = Some 0
phase (events.Commit k party digests) = Some 1
phase (events.Endorse k party) = Some 2
phase (events.Init k party) = Some 3
phase (events.FireInit k) = Some 4
phase (events.Reveal k party secret) = Some 5
phase _ = None

-- whether it is refused now, and may come yet
abbrev pub is_later : Prospect → Bool
is_later p = is_refused p.ruling && not (is_lost p)

-- the phase of an event that may come yet
abbrev pub later_phase : Prospect → Option ℕ
later_phase p = if is_later p then phase p.event else None

-- the earlier of two phases
abbrev pub earlier : Option ℕ → Option ℕ → Option ℕ
earlier None later = later
earlier (Some a) None = Some a
earlier (Some a) (Some b) = Some (if nat_le a b then a else b)

-- the first phase of which one of these may come yet
abbrev pub next_phase : List Prospect → Option ℕ
next_phase [] = None
next_phase (p ∷ ps) = earlier (later_phase p) (next_phase ps)

-- what has no phase is always due
abbrev pub is_due : Option ℕ → Option ℕ → Bool
is_due (Some a) (Some b) = a == b
is_due _ _ = true

-- those that are listed of these
abbrev pub listed : List Prospect → List Prospect
listed ps = filter (λ p. is_due (later_phase p) (next_phase ps)) ps

-- ---- one party

-- whether the event is this party's, or one that anybody can bring
abbrev pub is_by : List ℕ → Event → Bool
is_by party (events.Commit k who digests) = bytes_eq who party
is_by party (events.Endorse k who) = bytes_eq who party
is_by party (events.Init k who) = bytes_eq who party
is_by party (events.Reveal k who secret) = bytes_eq who party
is_by party (events.Authorise who n i) = bytes_eq who party
is_by party (events.Sign who label digest) = bytes_eq who party
is_by party (events.Give who inputs outputs) = bytes_eq who party
is_by party _ = true

-- whether an event is shown: all are, or those of one party and, since they hold it up, those of others that never come
abbrev pub is_asked : Option (List ℕ) → Prospect → Bool
is_asked None p = true
is_asked (Some party) p = is_by party p.event || is_lost p

abbrev pub by_party : Option (List ℕ) → List Prospect → List Prospect
by_party party ps = filter (λ p. is_asked party p) ps

-- whether a name is asked for: all are, or that of one party
abbrev pub is_meant : Option (List ℕ) → List ℕ → Bool
is_meant None name = true
is_meant (Some party) name = bytes_eq name party

abbrev pub of_party : Option (List ℕ) → List (List ℕ) → List (List ℕ)
of_party party names = filter (λ name. is_meant party name) names

-- whether a contract is shown: all are, or those in which one party takes part
abbrev pub is_for_party : Option (List ℕ) → Outlook → Bool
is_for_party None o = true
is_for_party (Some party) o = is_among party o.parties

-- what is listed of a contract
abbrev pub listed_of : Option (List ℕ) → Outlook → List Prospect
listed_of party o = listed (by_party party o.prospects)

-- ---- what goes before the branches

-- whether an event goes before the branches
abbrev pub is_before : Prospect → Bool
is_before p = is_some (phase p.event)

abbrev pub before : List Prospect → List Prospect
before ps = filter is_before ps

abbrev pub from_branches : List Prospect → List Prospect
from_branches ps = filter (λ p. not (is_before p)) ps
