-- The events of a run in words.
use Rattle.std.specs.Prelude.{ℕ, List, [], ◌∷◌, ◌++◌, map, length, nat_lt, Bool, true, false, if◌then◌else◌, Option, Some, None, codes}
use Rattle.std.specs.Fmt.{decimal}
use Rattle.spec_terms.specs.declared.path.PathStep.TheVariants.{Branch as To}
use Rattle.spec_bitcoin.specs.Keys.{path_text, label_text}
use Rattle.spec_calculus.specs.declared.step.Step.{Step}
use Rattle.spec_calculus.specs.declared.step.Step.TheVariants as steps
use Rattle.spec_run.specs.declared.event.Event.{Event}
use Rattle.spec_run.specs.declared.event.Event.TheVariants as events
use Rattle.spec_run.specs.Setup.{Setup}
use Rattle.spec_text.specs.Canonical.{joined}
use Rattle.spec_text.specs.StepText.{branch_text}
use Rattle.spec_tool.specs.declared.which.Which.{Which}
use Rattle.spec_tool.specs.declared.which.Which.TheVariants.{Init, At}
use Rattle.spec_page.specs.Figures.{sum_text}
use Rattle.spec_page.specs.Moments.{Place, place_of, Move, moves_by}

-- ---- names

-- whether a run has several contracts
abbrev pub are_several : Setup → Bool
are_several s = nat_lt 1 (length s.contracts)

-- the number of a contract before what is its, where there are several
abbrev pub contract_text : Bool → ℕ → List ℕ
contract_text false k = []
contract_text true k = decimal k ++ codes ":"

abbrev pub which_words : Which → List ℕ
which_words Init = codes "init"
which_words (At path) = path_text path

-- the name of a transaction
abbrev pub move_text : Bool → Move → List ℕ
move_text several m = contract_text several m.contract ++ which_words m.which

-- that of branch i of the position that an output stands for; the output and the branch where it stands for none
abbrev pub placed_text : Bool → ℕ → ℕ → Option Place → List ℕ
placed_text several n i None = branch_text n i
placed_text several n i (Some p) = contract_text several p.contract ++ path_text (p.position ++ To i ∷ [])

abbrev pub way_text : Bool → List Place → ℕ → ℕ → List ℕ
way_text several places n i = placed_text several n i (place_of n places)

abbrev pub advertise_text : Bool → ℕ → List ℕ
advertise_text several k = contract_text several k ++ codes "advertise"

-- what a party does for a contract
abbrev pub does_text : Bool → ℕ → List ℕ → List ℕ → List ℕ
does_text false k party does = party ++ does
does_text true k party does = party ++ (does ++ (codes " " ++ decimal k))

-- ---- words

abbrev pub blocks_text : ℕ → List ℕ
blocks_text n = if nat_lt 1 n then sum_text n ++ codes " blocks" else sum_text n ++ codes " block"

abbrev pub share_text : List ℕ × ℕ → List ℕ
share_text p = p.0 ++ (codes " " ++ sum_text p.1)

abbrev pub shows_text : List ℕ → List ℕ → List ℕ
shows_text party secret = party ++ (codes " shows " ++ secret)

-- the first secret that these steps reveal, with its owner
abbrev pub shown_by : List Step → Option (List ℕ × List ℕ)
shown_by [] = None
shown_by (steps.Reveal k a s ∷ ss) = Some (a, s)
shown_by (steps.Delay n ∷ ss) = shown_by ss
shown_by (steps.AuthMove a action ∷ ss) = shown_by ss
shown_by (steps.Move action ∷ ss) = shown_by ss
shown_by (steps.Advertise k bs ∷ ss) = shown_by ss
shown_by (steps.Commit k a ls ∷ ss) = shown_by ss
shown_by (steps.AuthInit k a x ∷ ss) = shown_by ss
shown_by (steps.Init k ∷ ss) = shown_by ss
shown_by (steps.AuthBranch a n i ∷ ss) = shown_by ss
shown_by (steps.PutReveal n i ∷ ss) = shown_by ss
shown_by (steps.Withdraw n i ∷ ss) = shown_by ss
shown_by (steps.Split n i ∷ ss) = shown_by ss

-- posted bytes, of which it is told whose secret they are
abbrev pub posted_text : List ℕ → Option (List ℕ × List ℕ) → List ℕ
posted_text bytes None = codes "post " ++ (sum_text (length bytes) ++ codes " bytes")
posted_text bytes (Some x) = codes "post: " ++ shows_text (x.0) (x.1)

-- a raw transaction, of which it is told what it takes
abbrev pub raw_text : Bool → List ℕ → List Move → List ℕ
raw_text several bytes [] = codes "a transaction of " ++ (sum_text (length bytes) ++ codes " bytes")
raw_text several bytes (m ∷ ms) = codes "a transaction: fire " ++ move_text several m

-- an event and its steps, where these outputs stand for positions
abbrev pub event_words : Bool → List Place → List Step → Event → List ℕ
event_words several places ss (events.Advertise k bs) = advertise_text several k
event_words several places ss (events.Commit k a ds) = does_text several k a (codes " commits")
event_words several places ss (events.Endorse k a) = does_text several k a (codes " endorses")
event_words several places ss (events.Init k a) = does_text several k a (codes " inits")
event_words several places ss (events.Authorise a n i) = a ++ (codes " agrees to " ++ way_text several places n i)
event_words several places ss (events.Reveal k a s) = shows_text a s
event_words several places ss (events.Post bytes) = posted_text bytes (shown_by ss)
event_words several places ss (events.Sign b l d) = b ++ (codes " signs " ++ label_text l)
event_words several places ss (events.Give a inputs outputs) = a ++ (codes " gives " ++ joined (codes ", ") (map share_text outputs))
event_words several places ss (events.Append bytes) = raw_text several bytes (moves_by places ss)
event_words several places ss (events.FireInit k) = codes "fire " ++ (contract_text several k ++ codes "init")
event_words several places ss (events.Fire n i) = codes "fire " ++ way_text several places n i
event_words several places ss (events.Mine n) = blocks_text n

-- ---- who acts

abbrev pub first_of : Option (List ℕ × List ℕ) → Option (List ℕ)
first_of None = None
first_of (Some x) = Some (x.0)

-- the party that acts in an event with these steps; none where anyone can
abbrev pub actor : List Step → Event → Option (List ℕ)
actor ss (events.Advertise k bs) = None
actor ss (events.Commit k a ds) = Some a
actor ss (events.Endorse k a) = Some a
actor ss (events.Init k a) = Some a
actor ss (events.Authorise a n i) = Some a
actor ss (events.Reveal k a s) = Some a
actor ss (events.Post bytes) = first_of (shown_by ss)
actor ss (events.Sign b l d) = Some b
actor ss (events.Give a inputs outputs) = Some a
actor ss (events.Append bytes) = None
actor ss (events.FireInit k) = None
actor ss (events.Fire n i) = None
actor ss (events.Mine n) = None
