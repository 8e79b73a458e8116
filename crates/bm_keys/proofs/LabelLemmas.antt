-- Which label a text is of, by its pieces.
use Rattle.std.proofs.Common.{◌≡◌, ℕ, ◌<◌, ◌≤◌, List, [], ◌∷◌, ◌++◌, length, refl, sym, ap, subst, ◌∙◌}
use Rattle.std.specs.Fmt.{decimal}
use Rattle.spec_terms.specs.declared.path.PathStep.{PathStep}
use Rattle.spec_bitcoin.specs.declared.label.Label.TheVariants.{Deposit, Branch}
use Rattle.spec_bitcoin.proofs.StepLemmas.{tails, two_paths, branch_is, deposit_is, kinds_apart, behind_both}
use Rattle.bm_keys.specs.Pieces.{NoStart, IsNumberAt, steps_before, IsPathAt, NoPathAt}
use Rattle.bm_keys.specs.Labels.{IsParty, IsTextOf, NoLabel, NoKind, IsContractAt, NoContractAt}
use Rattle.bm_keys.proofs.NumberAt.{one_number}

-- ---- the number of a contract

number_of_contract : (text rest : List ℕ) (n : ℕ) → IsContractAt text n rest → IsNumberAt text n (58 ∷ (114 ∷ rest))
number_of_contract text rest n h = record { fits = h.fits; same = h.same; ends = refl }

pub no_colon : (text rest : List ℕ) (n : ℕ) → IsNumberAt text n rest → NoStart 58 rest → NoContractAt text
no_colon text rest n h none m r k = none (114 ∷ r) (one_number text rest (58 ∷ (114 ∷ r)) n m h (number_of_contract text r m k)).1

pub no_root : (text rest after : List ℕ) (n : ℕ) → IsNumberAt text n rest → rest ≡ 58 ∷ after → NoStart 114 after → NoContractAt text
no_root text rest after n h e none m r k =
    none r (tails 58 58 after (114 ∷ r) (sym e ∙ (one_number text rest (58 ∷ (114 ∷ r)) n m h (number_of_contract text r m k)).1))

one_contract : (text r s : List ℕ) (m n : ℕ) → IsContractAt text m r → IsContractAt text n s → r ≡ s
one_contract text r s m n h k =
    let one = one_number text (58 ∷ (114 ∷ r)) (58 ∷ (114 ∷ s)) m n (number_of_contract text r m h) (number_of_contract text s n k) in
    tails 114 114 r s (tails 58 58 (114 ∷ r) (114 ∷ s) one.1)

-- ---- the texts of both kinds

pub no_kind : (text : List ℕ) → NoKind 68 text → NoKind 66 text → NoLabel text
no_kind text no_deposit no_branch (Deposit p) h = no_deposit p (h.same ∙ deposit_is p)
no_kind text no_deposit no_branch (Branch c path p) h = no_branch (decimal c ++ (58 ∷ (114 ∷ steps_before path (58 ∷ p)))) (h.same ∙ branch_is c path p)

-- ---- deposits

pub deposit_read : (text party : List ℕ) → party ≡ text → (0 < length text) × (length text ≤ 32) → IsTextOf (68 ∷ (58 ∷ text)) (Deposit party)
deposit_read text party e h =
    record {
      fits = tt;
      named = subst IsParty (sym e) (record { some = h.0; few = h.1 });
      same = ap (λ (l : List ℕ). 68 ∷ (58 ∷ l)) (sym e)
          ∙ sym (deposit_is party);
    }

pub no_deposit : (text : List ℕ) → ((0 < length text) × (length text ≤ 32) → ⊥) → NoLabel (68 ∷ (58 ∷ text))
no_deposit text none (Deposit p) h =
    let same : text ≡ p = behind_both 68 text p (h.same ∙ deposit_is p) in
    let named = subst IsParty (sym same) h.named in
    none (named.some, named.few)
no_deposit text none (Branch c path p) h = kinds_apart text (decimal c ++ (58 ∷ (114 ∷ steps_before path (58 ∷ p)))) (h.same ∙ branch_is c path p)

-- ---- branches

pub branch_read : (text rest party name : List ℕ) (n : ℕ) (path : List PathStep) → IsContractAt text n rest → IsPathAt rest path party
    → name ≡ party → (0 < length party) × (length party ≤ 32) → IsTextOf (66 ∷ (58 ∷ text)) (Branch n path name)
branch_read text rest party name n path h k e some =
    let whole : text ≡ decimal n ++ (58 ∷ (114 ∷ steps_before path (58 ∷ name))) = h.same ∙ ap (λ (l : List ℕ). decimal n ++ (58 ∷ (114 ∷ l))) (k.same ∙ ap (λ (p : List ℕ). steps_before path (58 ∷ p)) (sym e)) in
    record {
      fits = (h.fits, k.fits);
      named = subst IsParty (sym e) (record { some = some.0; few = some.1 });
      same = ap
          (λ (l : List ℕ). 66 ∷ (58 ∷ l)) whole ∙ sym (branch_is n path name);
    }

-- the pieces of the label of a branch
contract_of : (text p : List ℕ) (n : ℕ) (path : List PathStep) → IsTextOf (66 ∷ (58 ∷ text)) (Branch n path p)
    → IsContractAt text n (steps_before path (58 ∷ p))
contract_of text p n path h = record { fits = h.fits.0; same = behind_both 66 text _ (h.same ∙ branch_is n path p) }

no_deposit_here : (text p : List ℕ) → IsTextOf (66 ∷ (58 ∷ text)) (Deposit p) → ⊥
no_deposit_here text p h = kinds_apart p text (sym (deposit_is p) ∙ sym h.same)

pub no_contract : (text : List ℕ) → NoContractAt text → NoLabel (66 ∷ (58 ∷ text))
no_contract text none (Deposit p) h = no_deposit_here text p h
no_contract text none (Branch n path p) h = none n (steps_before path (58 ∷ p)) (contract_of text p n path h)

pub no_branch_path : (text rest : List ℕ) (n : ℕ) → IsContractAt text n rest → NoPathAt rest → NoLabel (66 ∷ (58 ∷ text))
no_branch_path text rest n h none (Deposit p) k = no_deposit_here text p k
no_branch_path text rest n h none (Branch m path p) k =
    none path p (record { fits = k.fits.1; same = one_contract text rest (steps_before path (58 ∷ p)) n m h (contract_of text p m path k) })

pub no_branch_party : (text rest party : List ℕ) (n : ℕ) (path : List PathStep) → IsContractAt text n rest → IsPathAt rest path party
    → ((0 < length party) × (length party ≤ 32) → ⊥) → NoLabel (66 ∷ (58 ∷ text))
no_branch_party text rest party n path h k none (Deposit p) l = no_deposit_here text p l
no_branch_party text rest party n path h k none (Branch m other p) l =
    let left = one_contract text rest (steps_before other (58 ∷ p)) n m h (contract_of text p m other l) in
    let same : party ≡ p = (two_paths path other party p k.fits l.fits.1 (sym k.same ∙ left)).1 in
    let named = subst IsParty (sym same) l.named in
    none (named.some, named.few)
