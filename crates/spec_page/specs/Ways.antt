-- The rows of a contract of BitML, in the order of its text: for each branch what it waits for and whom it pays. A position that is left to
-- anyone, and only pays a party, has no row: what it pays stands in the row that leads to it.
use Rattle.std.specs.Prelude.{ℕ, ◌+◌, ◌-◌, ◌==◌, List, [], ◌∷◌, ◌++◌, map, Bool, true, false, if◌then◌else◌, Option, Some, None}
use Rattle.spec_data.specs.Lists.{look_up}
use Rattle.spec_terms.specs.Term.{Pred, always, both, negation, equal, less, Guarded, auth, after, put_reveal, withdraw, split}
use Rattle.spec_terms.specs.Term.{Contract, no_branch, branch, Parts, no_part, part}
use Rattle.spec_terms.specs.Advert.{Advert}
use Rattle.spec_terms.specs.Core.{core, asks, lock, puts_of, reveals_of, test_of}
use Rattle.spec_terms.specs.Parties.{add_all}
use Rattle.spec_terms.specs.Precondition.{Holding, persistent, volatile, secrets, total_of, value_of_puts}
use Rattle.spec_terms.specs.declared.path.PathStep.{PathStep}
use Rattle.spec_terms.specs.declared.path.PathStep.TheVariants.{Branch as To, Part as Into}
use Rattle.spec_terms.specs.declared.pre.Pre.{Pre}
use Rattle.spec_terms.specs.declared.pre.Pre.TheVariants.{Persistent, Volatile, Secret}
use Rattle.spec_text.specs.Canonical.{test_text}
use Rattle.spec_page.specs.declared.way_row.Stake.{Stake}
use Rattle.spec_page.specs.declared.way_row.Condition.{Condition}
use Rattle.spec_page.specs.declared.way_row.Condition.TheVariants.{Agrees, Block, Puts, Shows, Holds}
use Rattle.spec_page.specs.declared.way_row.Payment.{Payment}
use Rattle.spec_page.specs.declared.way_row.WayRow.{WayRow}
use Rattle.spec_page.specs.declared.way_row.WayRow.TheVariants.{Choice, Way}

-- ---- what each party brings

abbrev pub stake : List ℕ → ℕ → Bool → Stake
stake party value volatile = record { party = party; value = value; volatile = volatile }

-- the deposits of a precondition, in order
abbrev pub stakes : List Pre → List Stake
stakes [] = []
stakes (Persistent party value name ∷ es) = stake party value false ∷ stakes es
stakes (Volatile party value name ∷ es) = stake party value true ∷ stakes es
stakes (Secret party name ∷ es) = stakes es

-- ---- what a branch waits for

abbrev pub owner_or_nobody : Option (List ℕ) → List ℕ
owner_or_nobody None = []
owner_or_nobody (Some party) = party

-- a deposit that is put in, of nobody where the precondition hasn't its name
abbrev pub puts_condition : List ℕ → Option Holding → Condition
puts_condition name None = Puts [] 0 name
puts_condition name (Some d) = Puts d.owner d.value name

-- a height that is 0 is no condition
abbrev pub block_conditions : ℕ → List Condition
block_conditions height = if height == 0 then [] else Block height ∷ []

-- neither is a predicate that is always true
abbrev pub test_conditions : Pred → List Condition
test_conditions always = []
test_conditions (both p q) = Holds (test_text (both p q)) ∷ []
test_conditions (negation p) = Holds (test_text (negation p)) ∷ []
test_conditions (equal e f) = Holds (test_text (equal e f)) ∷ []
test_conditions (less e f) = Holds (test_text (less e f)) ∷ []

-- who agrees, each once; the height; the deposits; the secrets; the predicate
abbrev pub conditions_of : Advert → Guarded → List Condition
conditions_of a b =
    map Agrees (add_all [] (asks b))
    ++ (block_conditions (lock b)
    ++ (map (λ x. puts_condition x (look_up x (volatile a.pre))) (puts_of (core b))
    ++ (map (λ x. Shows (owner_or_nobody (look_up x (secrets a.pre))) x) (reveals_of (core b))
    ++ test_conditions (test_of (core b)))))

-- ---- sums

-- what is there after a put of these deposits; the fee is left to the miner
abbrev pub value_after : Advert → ℕ → List (List ℕ) → ℕ
value_after a value puts = (value + value_of_puts (volatile a.pre) puts) - a.fee

-- what the contract begins with: the persistent deposits, less the fee
abbrev pub first_value : Advert → ℕ
first_value a = total_of (persistent a.pre) - a.fee

-- ---- payments

abbrev pub payee : Guarded → Option (List ℕ)
payee (auth party body) = None
payee (after height body) = None
payee (put_reveal puts reveals test next) = None
payee (withdraw party) = Some party
payee (split parts) = None

-- the party whom a position pays that is left to anyone and does nothing else
abbrev pub sole_payee : Contract → Option (List ℕ)
sole_payee no_branch = None
sole_payee (branch b no_branch) = payee b
sole_payee (branch b (branch c cs)) = None

-- what the branch at a path pays of this value
abbrev pub payment : Advert → List PathStep → ℕ → List ℕ → Payment
payment a path value party = record { party = party; value = value - a.fee; path = path }

abbrev pub payments_to : Advert → List PathStep → ℕ → Option (List ℕ) → List Payment
payments_to a q value None = []
payments_to a q value (Some party) = payment a (q ++ To 0 ∷ []) value party ∷ []

-- what such a position at q pays of this value
abbrev pub sole_payments : Advert → List PathStep → ℕ → Contract → List Payment
sole_payments a q value c = payments_to a q value (sole_payee c)

-- and the parts from number k on of the split at p
abbrev pub parts_payments : Advert → List PathStep → ℕ → Parts → List Payment
parts_payments a p k no_part = []
parts_payments a p k (part v c ps) = sole_payments a (p ++ Into k ∷ []) v c ++ parts_payments a p (k + 1) ps

-- whom a core at p pays of this value, or what it leads to
abbrev pub payments_of : Advert → List PathStep → ℕ → Guarded → List Payment
payments_of a p value (auth party body) = []
payments_of a p value (after height body) = []
payments_of a p value (put_reveal puts reveals test next) = sole_payments a p (value_after a value puts) next
payments_of a p value (withdraw party) = payment a p value party ∷ []
payments_of a p value (split parts) = parts_payments a p 0 parts

-- ---- rows

abbrev pub way_row : Advert → List PathStep → ℕ → Option ℕ → ℕ → Guarded → WayRow
way_row a p depth share value b = Way p depth share (conditions_of a b) (payments_of a p value (core b))

-- whether a position has several branches
abbrev pub is_choice : Contract → Bool
is_choice no_branch = false
is_choice (branch b no_branch) = false
is_choice (branch b (branch c cs)) = true

-- those have a row before them, and stand one step to the right of it
abbrev pub choice_rows : ℕ → Option ℕ → Contract → List WayRow
choice_rows depth share c = if is_choice c then Choice depth share ∷ [] else []

abbrev pub depth_below : ℕ → Contract → ℕ
depth_below depth c = if is_choice c then depth + 1 else depth

-- the part's value stands in one row
abbrev pub part_below : Option ℕ → Contract → Option ℕ
part_below share c = if is_choice c then None else share

-- no rows where the position pays alone
abbrev pub unless_paid : Option (List ℕ) → List WayRow → List WayRow
unless_paid (Some party) rows = []
unless_paid None rows = rows

module _ (a : Advert) where
  abbrev mutual
    -- the branches from number i on of the position q, which holds this value, each with all that stands under it
    pub branches_rows : List PathStep → ℕ → Option ℕ → ℕ → ℕ → Contract → List WayRow
    branches_rows q depth share value i no_branch = []
    branches_rows q depth share value i (branch b bs) =
        way_row a (q ++ To i ∷ []) depth share value b
        ∷ (rows_under (q ++ To i ∷ []) (depth + 1) value b ++ branches_rows q depth share value (i + 1) bs)

    -- what stands under the branch at p, of which the position holds this value
    pub rows_under : List PathStep → ℕ → ℕ → Guarded → List WayRow
    rows_under p depth value (auth party body) = rows_under p depth value body
    rows_under p depth value (after height body) = rows_under p depth value body
    rows_under p depth value (put_reveal puts reveals test next) =
        unless_paid (sole_payee next)
        (choice_rows depth None next
        ++ branches_rows p (depth_below depth next) None (value_after a value puts) 0 next)
    rows_under p depth value (withdraw party) = []
    rows_under p depth value (split parts) = parts_rows p depth 0 parts

    -- the parts from number k on of the split at p
    pub parts_rows : List PathStep → ℕ → ℕ → Parts → List WayRow
    parts_rows p depth k no_part = []
    parts_rows p depth k (part v c ps) =
        unless_paid (sole_payee c)
        (choice_rows depth (Some v) c
        ++ branches_rows (p ++ Into k ∷ []) (depth_below depth c) (part_below (Some v) c) v 0 c)
        ++ parts_rows p depth (k + 1) ps

-- all rows of a contract
abbrev pub way_rows : Advert → List WayRow
way_rows a = choice_rows 0 None a.root ++ branches_rows a [] (depth_below 0 a.root) None (first_value a) 0 a.root
