-- The first party that hasn't signed for a branch: who isn't asked among the participants, and then who owns what is put.
use Rattle.std.specs.Prelude.{ℕ, List, [], ◌∷◌, map, ◌||◌, if◌then◌else◌, Option, Some, None}
use Rattle.spec_data.specs.Lists.{is_among, look_up, or_else}
use Rattle.spec_terms.specs.Term.{Guarded}
use Rattle.spec_terms.specs.Core.{core, puts_of}
use Rattle.spec_nodes.specs.Nodes.{Node, choice_node, branch_node, asks_once}
use Rattle.theory_nodes.specs.Walk.{deed_puts}
use Rattle.spec_terms.specs.Advert.{Advert}
use Rattle.spec_terms.specs.Parties.{participants}
use Rattle.spec_terms.specs.Precondition.{volatile}
use Rattle.spec_terms.specs.declared.path.PathStep.{PathStep}
use Rattle.spec_terms.specs.declared.pre.Pre.{Pre}
use Rattle.spec_bitcoin.specs.Keys.{Pair, has_signed, key_of}
use Rattle.spec_compiler.specs.Instance.{branch_label, deposit_key}
use Rattle.spec_compiler.specs.declared.prepared.Prepared.{Prepared}
use Rattle.spec_compiler.specs.Transactions.{holding_or_none}

-- by the key plan, each participant's key of each of these paths
abbrev pub plan_keys : (List ℕ → List ℕ) → ℕ → Advert → List (List PathStep × Prepared) → List (List (List ℕ))
plan_keys hash contract advert paths = map (λ p. map (λ party. key_of hash (branch_label contract p.0 party)) (participants advert)) paths

-- the first of these participants, who have these keys of the branch, who isn't asked and whose key hasn't signed the digest
abbrev pub unsigned_person : List Pair → List (List ℕ) → List ℕ → List (List ℕ) → List (List ℕ) → Option (List ℕ)
unsigned_person book asked digest [] keys = None
unsigned_person book asked digest (p ∷ ps) [] = None
unsigned_person book asked digest (p ∷ ps) (k ∷ ks) =
    if is_among p asked || has_signed book k digest then unsigned_person book asked digest ps ks else Some p

-- the owner of the volatile deposit of this name
abbrev pub owner_in : List Pre → List ℕ → List ℕ
owner_in pre name = (holding_or_none (look_up name (volatile pre))).owner

-- the first owner of these deposits whose key of its deposits hasn't signed the digest of the deposit's input
abbrev pub unsigned_owner : (List ℕ → List ℕ) → List Pair → List Pre → List (List ℕ) → List (List ℕ) → Option (List ℕ)
unsigned_owner hash book pre [] digests = None
unsigned_owner hash book pre (n ∷ ns) [] = None
unsigned_owner hash book pre (n ∷ ns) (d ∷ ds) =
    if has_signed book (deposit_key hash (owner_in pre n)) d then unsigned_owner hash book pre ns ds else Some (owner_in pre n)

-- the first party that hasn't signed for a branch which has these keys of the participants, and asks and puts these, by the digests of
-- its transaction's inputs
abbrev pub unsigned_for : (List ℕ → List ℕ) → List Pair → Advert → List (List ℕ) → List (List ℕ) → List (List ℕ) → List (List ℕ)
    → Option (List ℕ)
unsigned_for hash book advert keys asked puts [] = None
unsigned_for hash book advert keys asked puts (d ∷ ds) =
    or_else (unsigned_person book asked d (participants advert) keys) (unsigned_owner hash book advert.pre puts ds)

-- ---- by a node

-- the parties that a branch's node asks, and the deposits that it puts
abbrev pub seen_node : Option Node → Option (List (List ℕ) × List (List ℕ))
seen_node None = None
seen_node (Some (choice_node position branches)) = None
seen_node (Some (branch_node path asked height deed)) = Some (asked, deed_puts deed)

-- the same of a branch itself
abbrev pub seen_branch : Option Guarded → Option (List (List ℕ) × List (List ℕ))
seen_branch None = None
seen_branch (Some b) = Some (asks_once b, puts_of (core b))

-- the first party that hasn't signed for a branch that is seen so, nobody without a branch
abbrev pub unsigned_seen : (List ℕ → List ℕ) → List Pair → Advert → List (List ℕ) → Option (List (List ℕ) × List (List ℕ)) → List (List ℕ)
    → Option (List ℕ)
unsigned_seen hash book advert keys None digests = None
unsigned_seen hash book advert keys (Some p) digests = unsigned_for hash book advert keys p.0 p.1 digests
