-- What deposits and active contracts hold altogether after each effect.
use Rattle.std.proofs.Common.{◌≡◌, ℕ, ◌+◌, ◌-◌, ◌≤◌, List, [], ◌∷◌, ◌++◌, true, Option, refl, arith}
use Rattle.std.specs.Prelude.{sum_by, nat_le}
use Rattle.std.specs.List.{list_all}
use Rattle.std.proofs.lemmas.Bool.{and_from}
use Rattle.std.proofs.lemmas.Bool.Decides.{nat_tests}
use Rattle.std.proofs.lemmas.List.Sums.{sum_by-cons, sum_by-append, sum_by_push}
use Rattle.spec_data.specs.Lists.{are_distinct}
use Rattle.spec_terms.specs.Advert.{Advert}
use Rattle.spec_terms.specs.declared.path.PathStep.TheVariants.{Branch as To}
use Rattle.spec_calculus.specs.declared.step.Owner.TheVariants.{Party}
use Rattle.spec_calculus.specs.declared.step.Move.{Move}
use Rattle.spec_calculus.specs.declared.parts.Deposit.{Deposit}
use Rattle.spec_calculus.specs.declared.parts.ActiveContract.{ActiveContract}
use Rattle.spec_calculus.specs.Configuration.{Configuration}
use Rattle.spec_calculus.specs.Beginning.{fee_of}
use Rattle.spec_calculus.specs.Moves.{value_in, value_out, kept, made}
use Rattle.spec_calculus.specs.Branches.{active_at, contract_number, position_of, balance_of, advert_of, gone, total_value, others, parts_made}
use Rattle.spec_calculus.specs.Steps.{begun, continued, withdrawn, divided, moved}
use Rattle.theory_calculus.specs.Numbered.{IsNumbered}
use Rattle.theory_calculus.specs.Money.{total_money}
use Rattle.theory_calculus.proofs.Sums.{kept_gone, gone_value, others_balance, made_value, sum_of, parts_value}

abbrev value : Deposit → ℕ
value d = d.value

abbrev balance : ActiveContract → ℕ
balance a = a.balance

pub begun_total : (g : Configuration) (contract : ℕ) (advert : Option Advert) (numbers : List ℕ)
    → fee_of advert ≤ total_value (gone g.deposits numbers)
    → total_money (begun g contract advert numbers) + fee_of advert ≡ total_money g
begun_total g contract advert numbers l =
    let new : ActiveContract =
    record { number = g.next; contract = contract; position = []; balance = total_value (gone g.deposits numbers) - fee_of advert } in
    let k = kept_gone g.deposits numbers in
    rw (sum_by_push balance g.active new) (omega (arith, k, l))

module _ (g : Configuration) (numbered : IsNumbered g) where
  pub continued_total : (output branch : ℕ) (numbers : List ℕ)
      → fee_of (advert_of g.contracts (active_at g.active output)) ≤ balance_of (active_at g.active output) + total_value
      (gone g.deposits numbers)
      → total_money (continued g output branch (active_at g.active output) numbers) + fee_of
      (advert_of g.contracts (active_at g.active output)) ≡ total_money g
  continued_total output branch numbers l =
      let new : ActiveContract = record {
        number = g.next;
        contract = contract_number (active_at g.active output);
        position = position_of (active_at g.active output) ++ To branch ∷ [];
        balance = balance_of (active_at g.active output) + total_value (gone g.deposits numbers) - fee_of
            (advert_of g.contracts (active_at g.active output));
      } in
      let k = kept_gone g.deposits numbers in
      let o = others_balance output g.active numbered.active in
      rw (sum_by_push balance (others g.active output) new) (omega (arith, k, o, l))

  pub withdrawn_total : (output : ℕ) (party : List ℕ)
      → fee_of (advert_of g.contracts (active_at g.active output)) ≤ balance_of (active_at g.active output)
      → total_money (withdrawn g output (active_at g.active output) party) + fee_of (advert_of g.contracts (active_at g.active output))
      ≡ total_money g
  withdrawn_total output party l =
      let new : Deposit =
      record {
        number = g.next;
        owner = Party party;
        value = balance_of (active_at g.active output) - fee_of
            (advert_of g.contracts (active_at g.active output));
      } in
      let o = others_balance output g.active numbered.active in
      rw (sum_by_push value g.deposits new) (omega (arith, o, l))

  pub divided_total : (output branch : ℕ) (values : List ℕ)
      → sum_of values + fee_of (advert_of g.contracts (active_at g.active output)) ≡ balance_of (active_at g.active output)
      → total_money (divided g output branch (active_at g.active output) values) + fee_of
      (advert_of g.contracts (active_at g.active output)) ≡ total_money g
  divided_total output branch values e =
      let new =
      parts_made g.next (contract_number (active_at g.active output)) (position_of (active_at g.active output) ++ To branch ∷ []) 0 values in
      let v =
      parts_value g.next (contract_number (active_at g.active output)) (position_of (active_at g.active output) ++ To branch ∷ []) 0 values in
      let o = others_balance output g.active numbered.active in
      rw (sum_by-append balance (others g.active output) new) (omega (arith, v, o, e))

  pub moved_total : (action : Move) → are_distinct action.inputs ≡ true
      → total_money (moved g action) + value_in g.deposits action.inputs ≡ total_money g + value_out action.outputs
  moved_total action d =
      let k = kept_gone g.deposits action.inputs in
      let v = gone_value g.deposits action.inputs numbered.deposits d in
      let m = made_value g.next action.outputs in
      rw (sum_by-append value (kept g.deposits action.inputs) (made g.next action.outputs)) (omega (arith, k, v, m))

-- what is summed is no more than the sum
pub all_little : {X : Type 0} (f : X → ℕ) (xs : List X) (m : ℕ) → sum_by f xs ≤ m → list_all (λ x. nat_le (f x) m) xs ≡ true
all_little f [] m l = refl
all_little f (x ∷ xs) m l =
    let e = sum_by-cons f x xs in
    let here : nat_le (f x) m ≡ true = (let s : f x ≤ m = omega (arith, e, l) in grind (arith, nat_tests, s)) in
    and_from _ _ here (all_little f xs m (omega (arith, e, l)))
