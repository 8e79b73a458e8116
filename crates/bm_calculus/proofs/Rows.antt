-- Lists by ascending numbers stay so.
use Rattle.std.proofs.Common.{◌≡◌, ℕ, List, [], ◌∷◌, ◌++◌, length, map, true, not, sym, ap, subst}
use Rattle.std.specs.Prelude.{◌==◌, nat_lt}
use Rattle.std.specs.List.{list_all}
use Rattle.std.proofs.lemmas.List.{map-append}
use Rattle.spec_terms.specs.declared.path.PathStep.{PathStep}
use Rattle.spec_calculus.specs.declared.step.Move.{Move}
use Rattle.spec_calculus.specs.declared.step.Step.TheVariants as steps
use Rattle.spec_calculus.specs.declared.parts.ActiveContract.{ActiveContract}
use Rattle.spec_calculus.specs.Configuration.{Configuration}
use Rattle.spec_calculus.specs.Moves.{kept, made}
use Rattle.spec_calculus.specs.Branches.{others, parts_made}
use Rattle.spec_calculus.specs.Steps.{owned}
use Rattle.spec_calculus.specs.InOrder.{are_ascending}
use Rattle.theory_calculus.specs.Numbered.{IsNumbered, deposit_numbers}
use Rattle.theory_calculus.proofs.Numbered.{grown_ascends, add_contracts, fewer_contracts, parts_numbers, row_from}
use Rattle.theory_calculus.proofs.Numbered.{numbered_after, opening_numbered}

pub push_ascends : {X : Type 0} (name : X → ℕ) (xs : List X) (x : X) → are_ascending (map name xs) ≡ true
    → list_all (λ n. nat_lt n (name x)) (map name xs) ≡ true → are_ascending (map name (xs ++ x ∷ [])) ≡ true
push_ascends name xs x h l =
    subst (λ ns. are_ascending ns ≡ true) (sym (map-append name xs (x ∷ []))) (grown_ascends (name x) 1 (map name xs) h l)

-- ---- deposits

pub opening_ascends : (deposits : List (List ℕ × ℕ)) → are_ascending (map (λ d. d.number) (made 0 (owned deposits))) ≡ true
opening_ascends deposits = (opening_numbered [] [] deposits []).deposits

pub moved_ascends : (g : Configuration) (action : Move) → IsNumbered g
    → are_ascending (map (λ d. d.number) (kept g.deposits action.inputs ++ made g.next action.outputs)) ≡ true
moved_ascends g action h = (numbered_after g (steps.Move action) h).deposits

-- ---- active contracts

pub one_ascends : (g : Configuration) (output : ℕ) (new : ActiveContract) → IsNumbered g → new.number ≡ g.next
    → are_ascending (map (λ a. a.number) (others g.active output ++ new ∷ [])) ≡ true
one_ascends g output new h e =
    (add_contracts g.next 1 (deposit_numbers g) (others g.active output) (new ∷ []) (ap (λ n. n ∷ []) e)
    (fewer_contracts g.next (deposit_numbers g) g.active (λ x. not (x.number == output)) (row_from g h))).active

pub parts_ascend : (g : Configuration) (output contract : ℕ) (path : List PathStep) (values : List ℕ) → IsNumbered g
    → are_ascending (map (λ a. a.number) (others g.active output ++ parts_made g.next contract path 0 values)) ≡ true
parts_ascend g output contract path values h =
    (add_contracts g.next (length values) (deposit_numbers g) (others g.active output) (parts_made g.next contract path 0 values)
    (parts_numbers g.next contract path 0 values)
    (fewer_contracts g.next (deposit_numbers g) g.active (λ x. not (x.number == output)) (row_from g h))).active
