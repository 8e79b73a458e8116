-- What taking a branch makes: a deposit of the party that it pays, or contracts that go on, each with its value in satoshi.
use Rattle.std.specs.Prelude.{ℕ, ◌+◌, ◌-◌, List, [], ◌∷◌, ◌++◌, Option, Some, None}
use Rattle.spec_terms.specs.Core.{core}
use Rattle.spec_terms.specs.Term.{Guarded, auth, after, put_reveal, withdraw, split}
use Rattle.spec_terms.specs.declared.path.PathStep.{PathStep}
use Rattle.spec_terms.specs.declared.path.PathStep.TheVariants.{Branch as To, Part as Into}
use Rattle.spec_calculus.specs.declared.parts.ActiveContract.{ActiveContract}
use Rattle.spec_calculus.specs.Configuration.{Configuration}
use Rattle.spec_calculus.specs.Beginning.{bindings_of, fee_of, numbers_of}
use Rattle.spec_calculus.specs.Branches.{active_at, advert_of, gone, part_values, total_value}
use Rattle.spec_calculus.specs.Steps.{branch_at}
use Rattle.spec_next.specs.declared.lead.Lead.{Lead}
use Rattle.spec_next.specs.declared.lead.Made.{Made}
use Rattle.spec_next.specs.declared.lead.Made.TheVariants as makes

-- the parts of a split behind a path, numbered from k on
abbrev pub parts_led : List PathStep → ℕ → List ℕ → List Made
parts_led path k [] = []
parts_led path k (value ∷ values) = makes.Led (path ++ Into k ∷ []) value ∷ parts_led path (k + 1) values

-- what the deposits of these names hold that are there, of those that the contract is bound to
abbrev pub put_value : Configuration → ℕ → List (List ℕ) → ℕ
put_value g k puts = total_value (gone g.deposits (numbers_of (bindings_of g.advertised k) puts))

-- what a core makes of a contract with this number and balance, by a branch of this path, with this fee
abbrev pub made_by : Configuration → ℕ → List PathStep → ℕ → ℕ → Guarded → List Made
made_by g k path balance fee (put_reveal puts reveals test next) = makes.Led path (balance + put_value g k puts - fee) ∷ []
made_by g k path balance fee (withdraw party) = makes.Paid party (balance - fee) ∷ []
made_by g k path balance fee (split parts) = parts_led path 0 (part_values parts)
made_by g k path balance fee (auth party body) = []
made_by g k path balance fee (after height body) = []

-- the path of a branch, and what it makes of a contract with this number and balance, with this fee
abbrev pub lead_with : Configuration → ℕ → List PathStep → ℕ → ℕ → Guarded → Lead
lead_with g k path balance fee b = record { path = path; made = made_by g k path balance fee (core b) }

-- of an active contract
abbrev pub lead_of : Configuration → ℕ → ActiveContract → Guarded → Lead
lead_of g i a b = lead_with g a.contract (a.position ++ To i ∷ []) a.balance (fee_of (advert_of g.contracts (Some a))) b

abbrev pub lead_by : Configuration → ℕ → Option ActiveContract → Option Guarded → Option Lead
lead_by g i None taken = None
lead_by g i (Some a) None = None
lead_by g i (Some a) (Some b) = Some (lead_of g i a b)

-- of the branch of this number of the active contract of this number, where both are there
abbrev pub lead_at : Configuration → ℕ → ℕ → Option Lead
lead_at g n i = lead_by g i (active_at g.active n) (branch_at g n i)
