-- Stands come in the order of the text.
use Rattle.std.proofs.Common.{◌≡◌, ℕ, ◌+◌, ℤ, pos, List, [], ◌∷◌, ◌++◌, map, refl}
use Rattle.std.proofs.lemmas.List.{map-append}
use Rattle.spec_terms.specs.Term.{Guarded, auth, after, put_reveal, withdraw, split, Contract, no_branch, branch, Parts, no_part, part}
use Rattle.spec_terms.specs.Advert.{Advert}
use Rattle.spec_terms.specs.Precondition.{Holding, volatile}
use Rattle.spec_terms.specs.Order.{Located, located, branches_from, under, parts_from, in_order}
use Rattle.spec_terms.specs.Balance.{Funded, after_put, branches_funded, funded_under, parts_funded, root_balance, all_funded}
use Rattle.spec_terms.specs.declared.path.PathStep.{PathStep}
use Rattle.spec_terms.specs.declared.path.PathStep.TheVariants.{Branch as To, Part as Into}

-- a stand without its balance
abbrev pub stop_of : Funded → Located
stop_of s = located s.path s.subterm

module _ (ds : List (List ℕ × Holding)) (fee : ℕ) where
  mutual
    pub branches_funded-stops : (q : List PathStep) (v : ℤ) (i : ℕ) (c : Contract) → map stop_of (branches_funded ds fee q v i c) ≡ branches_from q i c
    branches_funded-stops q v i no_branch = refl
    branches_funded-stops q v i (branch b bs) =
        rw (
          map-append stop_of (funded_under ds fee (q ++ To i ∷ []) v b) (branches_funded ds fee q v (i + 1) bs),
          funded_under-stops
              (q ++ To i ∷ []) v b,
          branches_funded-stops q v (i + 1) bs,
        )

    pub funded_under-stops : (p : List PathStep) (v : ℤ) (b : Guarded) → map stop_of (funded_under ds fee p v b) ≡ under p b
    funded_under-stops p v (auth party body) = funded_under-stops p v body
    funded_under-stops p v (after height body) = funded_under-stops p v body
    funded_under-stops p v (put_reveal puts reveals test next) = rw (branches_funded-stops p (after_put ds fee v puts) 0 next)
    funded_under-stops p v (withdraw party) = refl
    funded_under-stops p v (split parts) = parts_funded-stops p 0 parts

    pub parts_funded-stops : (p : List PathStep) (k : ℕ) (ps : Parts) → map stop_of (parts_funded ds fee p k ps) ≡ parts_from p k ps
    parts_funded-stops p k no_part = refl
    parts_funded-stops p k (part w c ps) =
        rw (
          map-append stop_of (branches_funded ds fee (p ++ Into k ∷ []) (pos w) 0 c)
              (parts_funded ds fee p (k + 1) ps),
          branches_funded-stops (p ++ Into k ∷ []) (pos w) 0 c,
          parts_funded-stops p (k + 1) ps,
        )

-- the stands of an advert without their balances
pub all_funded-stops : (a : Advert) → map stop_of (all_funded a) ≡ in_order a.root
all_funded-stops a = rw (branches_funded-stops (volatile a.pre) a.fee [] (root_balance a) 0 a.root)
