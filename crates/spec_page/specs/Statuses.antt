-- Where each transaction of a contract of BitML, and each condition of it, stands at a moment of a run, by the calculus.
use Rattle.std.specs.Prelude.{ℕ, ◌+◌, ◌==◌, List, [], ◌∷◌, ◌++◌, map, flat_map, nat_le, Bool, true, false, not, ◌&&◌, ◌||◌, if◌then◌else◌, Option, Some, None}
use Rattle.std.specs.List.{list_any}
use Rattle.std.specs.Str.{bytes_eq}
use Rattle.spec_data.specs.Lists.{look_up}
use Rattle.spec_terms.specs.Term as term
use Rattle.spec_terms.specs.Core.{core, reveals_of, test_of}
use Rattle.spec_terms.specs.Paths.{at}
use Rattle.spec_terms.specs.Value.{holds}
use Rattle.spec_terms.specs.Advert.{Advert}
use Rattle.spec_terms.specs.Precondition.{persistent}
use Rattle.spec_terms.specs.declared.path.PathStep.{PathStep}
use Rattle.spec_terms.specs.declared.path.PathStep.TheVariants.{Branch as To, Part as Into}
use Rattle.spec_calculus.specs.Configuration.{Configuration}
use Rattle.spec_calculus.specs.Beginning.{is_advertised, bindings_of, is_there, contract_at, pre_of}
use Rattle.spec_calculus.specs.Branches.{is_revealed, are_revealed, secret_lengths}
use Rattle.spec_calculus.specs.Offers.{offers}
use Rattle.spec_next.specs.Requirements.{isnt_gone}
use Rattle.spec_tool.specs.declared.which.Which.{Which}
use Rattle.spec_tool.specs.declared.which.Which.TheVariants.{Init, At}
use Rattle.spec_page.specs.declared.status.Status.{Status}
use Rattle.spec_page.specs.declared.status.Status.TheVariants.{Open, Offered, Taken, Met, Gone}
use Rattle.spec_page.specs.declared.way_row.Condition.{Condition}
use Rattle.spec_page.specs.declared.way_row.Condition.TheVariants.{Agrees, Block, Puts, Shows, Holds}
use Rattle.spec_page.specs.declared.way_row.Payment.{Payment}
use Rattle.spec_page.specs.declared.way_row.WayRow.{WayRow}
use Rattle.spec_page.specs.declared.way_row.WayRow.TheVariants.{Choice, Way}
use Rattle.spec_page.specs.Ways.{way_rows}
use Rattle.spec_page.specs.Moments.{Move, move, is_same_move, moves_by, Agreement, Moment}

-- ---- transactions

abbrev pub is_among_moves : Move → List Move → Bool
is_among_moves m moves = list_any (is_same_move m) moves

-- the transactions that the calculus offers
abbrev pub offered : Moment → List Move
offered m = moves_by m.places (offers m.configuration)

-- whether two paths part at branches of one position
abbrev pub parted : List PathStep → List PathStep → Bool
parted [] q = false
parted (s ∷ p) [] = false
parted (To i ∷ p) (To j ∷ q) = if i == j then parted p q else true
parted (Into k ∷ p) (Into l ∷ q) = if k == l then parted p q else false
parted (To i ∷ p) (Into l ∷ q) = false
parted (Into k ∷ p) (To j ∷ q) = false

abbrev pub parts_from : Which → Which → Bool
parts_from Init other = false
parts_from (At p) Init = false
parts_from (At p) (At q) = parted p q

-- whether a transaction was taken that leaves no way to this one
abbrev pub is_passed : Move → List Move → Bool
is_passed m taken = list_any (λ t. (t.contract == m.contract) && parts_from t.which m.which) taken

-- whether a contract has begun
abbrev pub has_begun : Moment → ℕ → Bool
has_begun m k = is_among_moves (move k Init) m.taken

-- whether it can't begin any more, since a deposit that it is bound to is gone
abbrev pub is_barred : Moment → ℕ → Bool
is_barred m k =
    not (has_begun m k)
    && list_any (λ d. not (isnt_gone m.configuration k (d.0))) (persistent (pre_of (contract_at m.configuration.contracts k)))

abbrev pub move_status : Moment → Move → Status
move_status m x =
    if is_among_moves x m.taken then Taken
    else if is_among_moves x (offered m) then Offered
    else if is_passed x m.taken || is_barred m x.contract then Gone
    else Open

-- ---- conditions

abbrev pub met_if : Bool → Status
met_if true = Met
met_if false = Open

-- whether an agreement is this party's to this transaction
abbrev pub is_agreement : Move → List ℕ → Agreement → Bool
is_agreement x party a = bytes_eq a.party party && is_same_move x a.move

abbrev pub has_agreed : Moment → Move → List ℕ → Bool
has_agreed m x party = list_any (is_agreement x party) m.agreed

-- a deposit is there once it is bound, until another transaction spends it
abbrev pub bound_status : Bool → Bool → Bool → Status
bound_status true bound there = Met
bound_status false false there = Open
bound_status false true true = Met
bound_status false true false = Gone

abbrev pub put_status : Moment → Move → List ℕ → Status
put_status m x name =
    bound_status (is_among_moves x m.taken) (is_advertised m.configuration.advertised x.contract)
    (is_there m.configuration.deposits (look_up name (bindings_of m.configuration.advertised x.contract)))

-- a predicate is decided once all its secrets are revealed
abbrev pub decided : Bool → Bool → Status
decided false true_of_them = Open
decided true true = Met
decided true false = Gone

abbrev pub test_status : Configuration → ℕ → Advert → Option term.Guarded → Status
test_status g k advert None = Open
test_status g k advert (Some b) =
    decided (are_revealed g.revealed k advert.pre (reveals_of (core b)))
    (holds (secret_lengths g.committed k advert.pre (reveals_of (core b))) (test_of (core b)))

abbrev pub branch_of : Advert → Which → Option term.Guarded
branch_of advert Init = None
branch_of advert (At path) = at advert.root path

-- a condition of this transaction of an advert
abbrev pub condition_status : Moment → Advert → Move → Condition → Status
condition_status m advert x (Agrees party) = met_if (has_agreed m x party)
condition_status m advert x (Block height) = met_if (nat_le height m.configuration.time)
condition_status m advert x (Puts party value deposit) = put_status m x deposit
condition_status m advert x (Shows party secret) = met_if (is_revealed m.configuration.revealed x.contract party secret)
condition_status m advert x (Holds text) = test_status m.configuration x.contract advert (branch_of advert x.which)

-- ---- all that has a look

abbrev pub condition_statuses : Moment → Advert → Move → List Condition → List Status
condition_statuses m advert x conditions = map (condition_status m advert x) conditions

abbrev pub payment_statuses : Moment → ℕ → List Payment → List Status
payment_statuses m k payments = map (λ p. move_status m (move k (At p.path))) payments

-- a branch, its conditions, its payments
abbrev pub row_looks : Moment → ℕ → Advert → WayRow → List Status
row_looks m k advert (Choice depth share) = []
row_looks m k advert (Way path depth share conditions payments) =
    move_status m (move k (At path))
    ∷ (condition_statuses m advert (move k (At path)) conditions ++ payment_statuses m k payments)

-- the initial transaction of contract k, and its rows
abbrev pub sheet_looks : Moment → ℕ → Advert → List Status
sheet_looks m k advert = move_status m (move k Init) ∷ flat_map (row_looks m k advert) (way_rows advert)

-- the contracts from number k on
abbrev pub looks_from : Moment → ℕ → List Advert → List Status
looks_from m k [] = []
looks_from m k (a ∷ as') = sheet_looks m k a ++ looks_from m (k + 1) as'
