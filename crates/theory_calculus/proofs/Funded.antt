-- What every configuration keeps that a legal run leads to: contracts at their positions with the static balance, and bindings to
-- deposits that have the values asked.
use Rattle.std.proofs.Common.{◌≡◌, ℕ, zero, suc, ◌+◌, ◌≤◌, pos, List, [], ◌∷◌, ◌++◌, length, Bool, true, false, not, Some, refl, sym, ap, ◌∙◌, subst, arith, inl, inr, ◌⊎◌}
use Rattle.std.specs.Prelude.{◌==◌, is_some, if◌then◌else◌}
use Rattle.std.specs.List.{AllByRecursion}
use Rattle.std.proofs.lemmas.Bool.{and_parts, eqb-true, not-true}
use Rattle.spec_data.specs.Lists.{has_number, are_different}
use Rattle.spec_terms.specs.Advert.{Advert}
use Rattle.spec_terms.specs.Balance.{as_funded, all_funded}
use Rattle.spec_terms.specs.Faults.{IsWellFormed}
use Rattle.spec_terms.specs.Paths.{position, contract_under}
use Rattle.spec_terms.specs.Precondition.{deposits, names_of}
use Rattle.spec_terms.specs.Term.{Contract}
use Rattle.spec_calculus.specs.declared.step.Owner.{Owner}
use Rattle.spec_calculus.specs.declared.step.Step.TheVariants as steps
use Rattle.spec_calculus.specs.declared.parts.Deposit.{Deposit}
use Rattle.spec_calculus.specs.declared.parts.ActiveContract.{ActiveContract}
use Rattle.spec_calculus.specs.Configuration.{Configuration}
use Rattle.spec_calculus.specs.Beginning.{contract_at, pre_of, is_advertised, bindings_of}
use Rattle.spec_calculus.specs.Moves.{kept, made}
use Rattle.spec_calculus.specs.Steps.{premises, fails}
use Rattle.theory_calculus.specs.Numbered.{IsNumbered}
use Rattle.theory_calculus.specs.Members.{Is_in}
use Rattle.theory_calculus.proofs.Members.{in_append, in_filter, some_there, no_false}
use Rattle.theory_calculus.proofs.Bindings.{IsBound, bound_later, earlier, bound_now, bindings_more}
use Rattle.theory_calculus.proofs.Checked.{deposit_names_differ}

-- ---- what is kept

-- an active contract stands at a position of its contract, and holds the static balance there
pub record StandsAt (contracts : List Advert) (a : ActiveContract) : Type 0 where
  pub advert : Advert
  pub there : contract_at contracts a.contract ≡ Some advert
  pub choice : Contract
  pub chosen : contract_under advert.root a.position ≡ Some choice
  pub static : Is_in (as_funded a.position (pos a.balance) (position choice)) (all_funded advert)

pub record IsFine (g : Configuration) : Type 0 where
  pub checked : AllByRecursion IsWellFormed g.contracts
  pub numbered : IsNumbered g
  pub bound : (k : ℕ) → IsBound g.deposits g.next (deposits (pre_of (contract_at g.contracts k))) (bindings_of g.advertised k)
  pub standing : (a : ActiveContract) → Is_in a g.active → StandsAt g.contracts a

pub checked_at : (contracts : List Advert) (k : ℕ) (advert : Advert) → AllByRecursion IsWellFormed contracts
    → contract_at contracts k ≡ Some advert → IsWellFormed advert
checked_at [] k advert h e = cc
checked_at (c ∷ cs) zero advert h e = let z : c ≡ advert = cc in subst IsWellFormed z h.0
checked_at (c ∷ cs) (suc k) advert h e = checked_at cs k advert h.1 e

-- ---- bindings

made_later : (n : ℕ) (os : List (Owner × ℕ)) (d : Deposit) → Is_in d (made n os) → n ≤ d.number
made_later n [] d i = absurd i
made_later n (o ∷ os) d (inl e) = let z : d.number ≡ n = ap (λ (x : Deposit). x.number) e in omega (arith, z)
made_later n (o ∷ os) d (inr i) = let l = made_later (n + 1) os d i in omega (arith, l)

kept_there : (ds : List Deposit) (ns : List ℕ) (d : Deposit) → Is_in d (kept ds ns) → Is_in d ds
kept_there ds ns d i = (in_filter (λ (x : Deposit). not (has_number x.number ns)) ds d i).0

module _ (g : Configuration) (fine : IsFine g) where
  -- where deposits only go, or come with later numbers
  bound_after : (later : List Deposit) (more k : ℕ) → g.next ≤ more
      → ((d : Deposit) → Is_in d later → Is_in d g.deposits ⊎ (g.next ≤ d.number))
      → IsBound later more (deposits (pre_of (contract_at g.contracts k))) (bindings_of g.advertised k)
  bound_after later more k l each =
      bound_later g.deposits later g.next more (deposits (pre_of (contract_at g.contracts k))) (bindings_of g.advertised k) l
      (earlier g.deposits later g.next fine.numbered.deposits each) (fine.bound k)

  pub bound_kept : (ns : List ℕ) (k : ℕ)
      → IsBound (kept g.deposits ns) (g.next + 1) (deposits (pre_of (contract_at g.contracts k))) (bindings_of g.advertised k)
  bound_kept ns k = bound_after (kept g.deposits ns) (g.next + 1) k (omega arith) (λ d i. inl (kept_there g.deposits ns d i))

  pub bound_moved : (ns : List ℕ) (os : List (Owner × ℕ)) (k : ℕ)
      → IsBound (kept g.deposits ns ++ made g.next os) (g.next + length os) (deposits (pre_of (contract_at g.contracts k)))
      (bindings_of g.advertised k)
  bound_moved ns os k = bound_after (kept g.deposits ns ++ made g.next os) (g.next + length os) k (omega arith)
      (λ d i. elim (in_append d (kept g.deposits ns) (made g.next os) i) [
        | inl a ↦ inl (kept_there g.deposits ns d a)
        | inr b ↦ inr
            (made_later g.next os d b)
      ])

  pub bound_paid : (new : Deposit) (k : ℕ) → new.number ≡ g.next
      → IsBound (g.deposits ++ new ∷ []) (g.next + 1) (deposits (pre_of (contract_at g.contracts k))) (bindings_of g.advertised k)
  bound_paid new k e = bound_after (g.deposits ++ new ∷ []) (g.next + 1) k (omega arith)
      (λ d i. elim (in_append d g.deposits (new ∷ []) i) [ inl a ↦ inl a | inr b ↦ inr (only d b) ])
    where
      only : (d : Deposit) → Is_in d (new ∷ []) → g.next ≤ d.number
      only d (inl f) = let z : d.number ≡ g.next = ap (λ (x : Deposit). x.number) f ∙ e in omega (arith, z)
      only d (inr i) = absurd i

  pub bound_divided : (more k : ℕ)
      → IsBound g.deposits (g.next + more) (deposits (pre_of (contract_at g.contracts k))) (bindings_of g.advertised k)
  bound_divided more k = bound_after g.deposits (g.next + more) k (omega arith) (λ d i. inl i)

  pub bound_advertised : (contract : ℕ) (bindings : List (List ℕ × ℕ)) → fails g (steps.Advertise contract bindings) ≡ 0 → (k : ℕ)
      → IsBound g.deposits g.next (deposits (pre_of (contract_at g.contracts k)))
      (bindings_of (g.advertised ++ record { contract = contract; bindings = bindings } ∷ []) k)
  bound_advertised contract bindings e k =
      let p = no_false 1 (premises g (steps.Advertise contract bindings)) (omega arith) e in
      let q = and_parts (is_some (contract_at g.contracts contract)) (not (is_advertised g.advertised contract)) p.0 in
      let z = bindings_more g.advertised contract k bindings (not-true _ q.1) in
      let c = some_there (contract_at g.contracts contract) q.0 in
      let d =
      subst (λ o. are_different (names_of (deposits (pre_of o))) ≡ true) (sym c.1)
      (deposit_names_differ c.0 (checked_at g.contracts contract c.0 fine.checked c.1)) in
      subst (IsBound g.deposits g.next (deposits (pre_of (contract_at g.contracts k)))) (sym z)
      (by_test (contract == k) refl (bound_now g.deposits g.next
      (deposits (pre_of (contract_at g.contracts contract))) bindings fine.numbered.deposits_below p.1.0 d))
    where
      by_test : (b : Bool) → (contract == k) ≡ b → IsBound g.deposits g.next (deposits (pre_of (contract_at g.contracts contract))) bindings
          → IsBound g.deposits g.next (deposits (pre_of (contract_at g.contracts k))) (if b then bindings else bindings_of g.advertised k)
      by_test true f h =
          subst (λ j. IsBound g.deposits g.next (deposits (pre_of (contract_at g.contracts j))) bindings) (eqb-true contract k f) h
      by_test false f h = fine.bound k
