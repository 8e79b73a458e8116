-- What holds of a configuration that legal steps have led to, and that a step more leads to such a one.
use Rattle.std.proofs.Common.{◌≡◌, ℕ, ◌+◌, ◌≤◌, List, [], ◌∷◌, ◌++◌, Some, refl, sym, ap, ◌∙◌, subst, arith}
use Rattle.std.specs.Prelude.{sum_by}
use Rattle.std.specs.List.{AllByRecursion}
use Rattle.std.proofs.lemmas.List.Sums.{sum_by-cons}
use Rattle.spec_data.specs.Ranges.{max_money}
use Rattle.spec_terms.specs.Advert.{Advert}
use Rattle.spec_terms.specs.Faults.{IsWellFormed}
use Rattle.spec_calculus.specs.declared.step.Owner.{Owner}
use Rattle.spec_calculus.specs.declared.step.Owner.TheVariants.{Party}
use Rattle.spec_calculus.specs.declared.step.Step.{Step}
use Rattle.spec_calculus.specs.declared.parts.ActiveContract.{ActiveContract}
use Rattle.spec_calculus.specs.Configuration.{Configuration}
use Rattle.spec_calculus.specs.Moves.{value_out}
use Rattle.spec_calculus.specs.Branches.{active_at, balance_of, gone, total_value}
use Rattle.spec_calculus.specs.Steps.{fails, effect, opening, owned, IsLegalRun}
use Rattle.theory_calculus.specs.Numbered.{IsNumbered}
use Rattle.theory_calculus.specs.Money.{IsWithinAllMoney}
use Rattle.theory_calculus.proofs.Sums.{made_value}
use Rattle.theory_calculus.proofs.Numbered.{numbers_apart}
use Rattle.theory_calculus.proofs.Kept.{money_stays_within}
use Rattle.bm_calculus.specs.Reached.{IsReached}

pub reached_numbered : (g : Configuration) → IsReached g → IsNumbered g
reached_numbered g r = numbers_apart r.parties r.honest r.deposits r.contracts r.steps g r.legal

pub reached_within : (g : Configuration) → IsReached g → IsWithinAllMoney g
reached_within g r = money_stays_within r.parties r.honest r.deposits r.contracts r.steps g r.checked r.within r.legal

-- a legal run and one enabled step more
run_more : (g : Configuration) (ss : List Step) (h : Configuration) (s : Step) (k : Configuration) → IsLegalRun g ss h → fails h s ≡ 0
    → k ≡ effect h s → IsLegalRun g (ss ++ s ∷ []) k
run_more g [] h s k r e q =
    (k, record { enabled = subst (λ c. fails c s ≡ 0) r e; leads = q ∙ ap (λ c. effect c s) r }, refl)
run_more g (t ∷ ss) h s k r e q = (r.0, r.1, run_more r.0 ss h s k r.2 e q)

pub reached_after : (g h : Configuration) (s : Step) → IsReached g → fails g s ≡ 0 → h ≡ effect g s → IsReached h
reached_after g h s r e q = record {
  parties = r.parties;
  honest = r.honest;
  deposits = r.deposits;
  contracts = r.contracts;
  steps = r.steps ++ s ∷ [];
  checked = r.checked;
  within = r.within;
  legal = run_more (opening r.parties r.honest r.deposits r.contracts) r.steps g s h r.legal e q;
}

owned_sum : (ds : List (List ℕ × ℕ)) → value_out (owned ds) ≡ sum_by (λ d. d.1) ds
owned_sum [] = refl
owned_sum (d ∷ ds) =
    let o : Owner × ℕ = (Party (d.0), d.1) in
    let ih = owned_sum ds in
    sum_by-cons (λ (p : Owner × ℕ). p.1) o (owned ds) ∙ ap (λ m. d.1 + m) ih ∙ sym (sum_by-cons (λ (p : List ℕ × ℕ). p.1) d ds)

pub reached_opening : (g : Configuration) (parties honest : List (List ℕ)) (deposits : List (List ℕ × ℕ)) (contracts : List Advert)
    → AllByRecursion IsWellFormed contracts → sum_by (λ d. d.1) deposits ≤ max_money → g ≡ opening parties honest deposits contracts
    → IsReached g
reached_opening g parties honest deposits contracts c l q =
    let v = made_value 0 (owned deposits) in
    let o = owned_sum deposits in
    record {
      parties = parties;
      honest = honest;
      deposits = deposits;
      contracts = contracts;
      steps = [];
      checked = c;
      within = omega (arith, v, o, l);
      legal = q;
    }

-- ---- sums that fit

pub deposits_within : (g : Configuration) → IsWithinAllMoney g → total_value g.deposits ≤ max_money
deposits_within g w = let t = w.total in omega (arith, t)

pub joined_within : (g : Configuration) (output : ℕ) (a : ActiveContract) (ns : List ℕ) → IsWithinAllMoney g
    → Some a ≡ active_at g.active output
    → a.balance + total_value (gone g.deposits ns) ≤ max_money
joined_within g output a ns w e =
    subst (λ o. balance_of o + total_value (gone g.deposits ns) ≤ max_money) (sym e) (w.joined output ns)
