-- The terms of the definitions that contracts, predicates and expressions of the code are seen as.
use Rattle.std.specs.Prelude.{ℕ, List, [], ◌∷◌, map}
use Rattle.spec_terms.specs.Term.{Expr as TermExpr, constant, length_of, plus, minus, Pred as TermPred, always, both, negation, equal, less}
use Rattle.spec_terms.specs.Term.{Guarded as TermGuarded, auth, after, put_reveal, withdraw, split, Contract as TermContract, no_branch}
use Rattle.spec_terms.specs.Term.{branch, Parts, no_part, part}
use Rattle.bm_syntax.specs.declared.term.Expr.{Expr, fold-Expr}
use Rattle.bm_syntax.specs.declared.term.Expr.TheOpen.{Expr-F}
use Rattle.bm_syntax.specs.declared.term.Pred.{Pred, fold-Pred}
use Rattle.bm_syntax.specs.declared.term.Pred.TheOpen.{Pred-F}
use Rattle.bm_syntax.specs.declared.term.Guarded.{Guarded, fold-Guarded}
use Rattle.bm_syntax.specs.declared.term.Guarded.TheOpen.{Guarded-F, Contract-F, Part-F}
use Rattle.bm_syntax.specs.declared.term.Contract.{Contract}
use Rattle.bm_syntax.specs.declared.term.Part.{Part}

abbrev pub formula_step : Expr-F TermExpr → TermExpr
formula_step (Expr-F.Const n) = constant n
formula_step (Expr-F.Length name) = length_of name
formula_step (Expr-F.Plus a b) = plus a.value b.value
formula_step (Expr-F.Minus a b) = minus a.value b.value

abbrev pub formula : Expr → TermExpr
formula = fold-Expr TermExpr formula_step

abbrev pub test_step : Pred-F TermPred → TermPred
test_step Pred-F.True = always
test_step (Pred-F.And a b) = both a.value b.value
test_step (Pred-F.Not a) = negation a.value
test_step (Pred-F.Equal a b) = equal (formula a) (formula b)
test_step (Pred-F.Less a b) = less (formula a) (formula b)

abbrev pub test : Pred → TermPred
test = fold-Pred TermPred test_step

abbrev pub choice_of : List TermGuarded → TermContract
choice_of [] = no_branch
choice_of (b ∷ bs) = branch b (choice_of bs)

abbrev pub parts_of : List (ℕ × TermContract) → Parts
parts_of [] = no_part
parts_of (p ∷ ps) = part p.0 p.1 (parts_of ps)

-- one level, with what stands below it already seen as its term
abbrev pub branch_step : Guarded-F TermGuarded TermContract (ℕ × TermContract) → TermGuarded
branch_step (Guarded-F.Auth party body) = auth party body.value
branch_step (Guarded-F.After height body) = after height body.value
branch_step (Guarded-F.PutReveal puts reveals t next) = put_reveal puts.items reveals.items (test t) next.value
branch_step (Guarded-F.Withdraw party) = withdraw party
branch_step (Guarded-F.Split parts) = split (parts_of parts.items)

abbrev pub choice_step : Contract-F TermGuarded TermContract (ℕ × TermContract) → TermContract
choice_step c = choice_of c.branches.items

abbrev pub part_step : Part-F TermGuarded TermContract (ℕ × TermContract) → ℕ × TermContract
part_step p = (p.value, p.next)

-- the branch that a `Guarded` is
abbrev pub guarded : Guarded → TermGuarded
guarded = fold-Guarded TermGuarded TermContract (ℕ × TermContract) branch_step choice_step part_step

abbrev pub choice_view : List Guarded → TermContract
choice_view bs = choice_of (map guarded bs)

-- the choice that a `Contract` is
abbrev pub contract : Contract → TermContract
contract c = choice_view c.branches.items

abbrev pub part_view : Part → ℕ × TermContract
part_view p = (p.value, contract p.next)

abbrev pub parts_view : List Part → Parts
parts_view ps = parts_of (map part_view ps)
