-- Where an advert shows a flaw first, as the code looks for it.
use Rattle.std.specs.Prelude.{ℕ, ℤ, pos, ◌+◌, int_lt, Bool, false, ◌&&◌, List, [], ◌∷◌, ◌++◌, Option, Some, None, if◌then◌else◌}
use Rattle.spec_data.specs.Lists.{or_else}
use Rattle.spec_terms.specs.Term.{Guarded, auth, after, put_reveal, withdraw, split, Contract, no_branch, branch, Parts, no_part, part}
use Rattle.spec_terms.specs.Advert.{Advert}
use Rattle.spec_terms.specs.Paths.{Subterm, position, at_branch}
use Rattle.spec_terms.specs.Precondition.{volatile}
use Rattle.spec_terms.specs.Balance.{Funded, after_put, all_funded}
use Rattle.spec_terms.specs.Faults.{first_place, at_core, at_position, puts_unknown, reveals_unknown, repeats, tests_hidden, is_uneven}
use Rattle.spec_terms.specs.Faults.{is_short, is_withdraw, is_too_much, is_unbounded, is_too_large}
use Rattle.spec_terms.specs.declared.path.PathStep.{PathStep}
use Rattle.spec_terms.specs.declared.path.PathStep.TheVariants.{Branch as To, Part as Into}
use Rattle.spec_terms.specs.declared.place.Place.{Place}
use Rattle.spec_terms.specs.declared.place.Place.TheVariants as places
use Rattle.bm_wellformed.specs.declared.flaw.Flaw.{Flaw}
use Rattle.bm_wellformed.specs.declared.flaw.Flaw.TheVariants.{UnknownDeposit, UnknownSecret, PrefixRepeated, PredicateSecret, SplitSum}
use Rattle.bm_wellformed.specs.declared.flaw.Flaw.TheVariants.{FeeShort, Balance, Expression, Script}

-- whether a position or branch with this balance shows the flaw
abbrev pub passes : Flaw → Advert → ℤ → Subterm → Bool
passes UnknownDeposit a balance subterm = at_core (puts_unknown a.pre) subterm
passes UnknownSecret a balance subterm = at_core (reveals_unknown a.pre) subterm
passes PrefixRepeated a balance subterm = at_core repeats subterm
passes PredicateSecret a balance subterm = at_core tests_hidden subterm
passes SplitSum a balance subterm = at_core (is_uneven a.fee balance) subterm
passes FeeShort a balance subterm = is_short a.fee balance subterm
passes Balance a balance subterm = at_position (λ c. is_too_much balance) subterm
passes Expression a balance subterm = at_core is_unbounded subterm
passes (Script parties) a balance subterm = at_position (is_too_large parties) subterm

-- whether a branch of this core, at a position with this balance, shows the flaw
abbrev pub core_passes : Flaw → Advert → ℤ → Guarded → Bool
core_passes UnknownDeposit a balance b = puts_unknown a.pre b
core_passes UnknownSecret a balance b = reveals_unknown a.pre b
core_passes PrefixRepeated a balance b = repeats b
core_passes PredicateSecret a balance b = tests_hidden b
core_passes SplitSum a balance b = is_uneven a.fee balance b
core_passes FeeShort a balance b = is_withdraw b && int_lt balance (pos a.fee)
core_passes Balance a balance b = false
core_passes Expression a balance b = is_unbounded b
core_passes (Script parties) a balance b = false

-- where these positions and branches show it first
abbrev pub found_in : Flaw → Advert → List Funded → Option Place
found_in flaw a ss = first_place (λ s. passes flaw a s.balance s.subterm) ss

-- the place, where the test is true
abbrev pub place_when : Bool → Place → Option Place
place_when shown place = if shown then Some place else None

module _ (flaw : Flaw) (a : Advert) where
  abbrev mutual
    -- the branches at position q, the first of which has the number i, each with all that stands under it
    pub found_in_branches : List PathStep → ℤ → ℕ → Contract → Option Place
    found_in_branches q balance i no_branch = None
    found_in_branches q balance i (branch b bs) =
        or_else (place_when (passes flaw a balance (at_branch b)) (places.Branch (q ++ To i ∷ [])))
        (or_else (found_under (q ++ To i ∷ []) balance b) (found_in_branches q balance (i + 1) bs))

    -- what stands under the branch at path p
    pub found_under : List PathStep → ℤ → Guarded → Option Place
    found_under p balance (auth party body) = found_under p balance body
    found_under p balance (after height body) = found_under p balance body
    found_under p balance (put_reveal puts reveals test next) =
        or_else (place_when (passes flaw a (after_put (volatile a.pre) a.fee balance puts) (position next)) (places.Position p))
        (found_in_branches p (after_put (volatile a.pre) a.fee balance puts) 0 next)
    found_under p balance (withdraw party) = None
    found_under p balance (split parts) = found_in_parts p 0 parts

    -- the parts of the split at path p, the first of which has the number k
    pub found_in_parts : List PathStep → ℕ → Parts → Option Place
    found_in_parts p k no_part = None
    found_in_parts p k (part v c ps) =
        or_else
        (or_else (place_when (passes flaw a (pos v) (position c)) (places.Position (p ++ Into k ∷ [])))
        (found_in_branches (p ++ Into k ∷ []) (pos v) 0 c))
        (found_in_parts p (k + 1) ps)

  -- the position q itself, and then its branches
  abbrev pub found_in_choice : List PathStep → ℤ → Contract → Option Place
  found_in_choice q balance c =
      or_else (place_when (passes flaw a balance (position c)) (places.Position q)) (found_in_branches q balance 0 c)

-- where the advert shows it first
abbrev pub found : Flaw → Advert → Option Place
found flaw a = found_in flaw a (all_funded a)
