-- What reading all of the bytes of a transaction means.
use Rattle.std.proofs.Common.{◌≡◌, ℕ, ◌-◌, cond, eqb, List, [], ◌∷◌, ◌++◌, length, Result, Ok, Err, refl, sym, ap, subst, ◌∙◌, inl, inr}
use Rattle.std.proofs.lemmas.Bool.{eqb-true, eqb-false}
use Rattle.std.proofs.lemmas.List.{append-nil, nil_from_length}
use Rattle.spec_bitcoin.specs.declared.tx.Tx.{Tx}
use Rattle.spec_bitcoin.specs.Spelling.{IsBytes, Spells}
use Rattle.spec_bitcoin.specs.Reading.{◌>>=◌, transaction_at, all_at, with_place, transaction_of, IsBadAt}
use Rattle.theory_bitcoin.proofs.Exact.{ok_is, err_is, chosen, ok_err}
use Rattle.theory_bitcoin.proofs.AllBytes.{BadAt, bad_stopped, bad_trailing, nothing_after}
use Rattle.theory_bitcoin.proofs.Transactions.{the_transaction}

abbrev Spelled : List ℕ → Tx → Type 0
Spelled bytes tx = Spells bytes tx

is_bad : (bytes : List ℕ) (p : ℕ) → BadAt Spelled bytes p → IsBadAt bytes p
is_bad bytes p b = record {
  none = b.none;
  within = b.within;
  begins = record { more = b.more; tx = b.value; spelled = b.begins };
  longest = λ q lt le g. b.longest q lt le g.more g.tx g.spelled;
}

abbrev End : Tx × List ℕ → Result Tx ℕ
End x = cond (eqb (length x.1) 0) (Ok x.0) (Err (length x.1))

bad_at : (bytes : List ℕ) (left : ℕ) → IsBytes bytes → (r : Result (Tx × List ℕ) ℕ) → transaction_at bytes ≡ r → (r >>= End) ≡ Err left
    → IsBadAt bytes (length bytes - left)
bad_at bytes left fits (Err d) is e =
    let is' : transaction_at bytes ≡ Err left = cc in
    is_bad bytes (length bytes - left) (bad_stopped Spelled transaction_at the_transaction bytes left fits is')
bad_at bytes left fits (Ok x) is e =
    elim (chosen (eqb (length x.1) 0) (Ok x.0) (Err (length x.1)) (Err left) e) [
      | inl w ↦ absurd (ok_err x.0 left (sym w.1))
      | inr w ↦ rw (sym (err_is (length x.1) left w.1))
          (is_bad bytes (length bytes - length x.1) (bad_trailing Spelled transaction_at the_transaction bytes x.0 x.1 fits is (eqb-false (length x.1) 0 w.0)))
    ]

found_at : (bytes : List ℕ) (tx : Tx) → IsBytes bytes → (r : Result (Tx × List ℕ) ℕ) → transaction_at bytes ≡ r → (r >>= End) ≡ Ok tx → Spells bytes tx
found_at bytes tx fits (Err d) is e = absurd cc
found_at bytes tx fits (Ok x) is e =
    elim (chosen (eqb (length x.1) 0) (Ok x.0) (Err (length x.1)) (Ok tx) e) [
      | inl w ↦
          let t = the_transaction.takes bytes x.0 x.1 fits is in
          let none : x.1 ≡ [] = nil_from_length x.1 (eqb-true _ _ w.0) in
          let whole : bytes ≡ t.text = t.parts ∙ ap (λ (l : List ℕ). t.text ++ l) none ∙ append-nil t.text in
          rw (whole, ← ok_is x.0 tx w.1) t.spelled
      | inr w ↦ absurd (ok_err tx (length x.1) w.1)
    ]

all_bad : (bytes : List ℕ) (left : ℕ) → IsBytes bytes → all_at bytes ≡ Err left → IsBadAt bytes (length bytes - left)
unfolding all_at
all_bad bytes left fits e = bad_at bytes left fits (transaction_at bytes) refl e

all_found : (bytes : List ℕ) (tx : Tx) → IsBytes bytes → all_at bytes ≡ Ok tx → Spells bytes tx
unfolding all_at
all_found bytes tx fits e = found_at bytes tx fits (transaction_at bytes) refl e

all_again : (bytes : List ℕ) (tx : Tx) → Spells bytes tx → all_at bytes ≡ Ok tx
unfolding all_at
all_again bytes tx s =
    let e : transaction_at bytes ≡ Ok (tx, []) = ap transaction_at (sym (append-nil bytes)) ∙ the_transaction.again bytes [] tx s in
    rw e refl

-- ---- with the place of a fault

pub fault_is_first : (bytes : List ℕ) (p : ℕ) → IsBytes bytes → transaction_of bytes ≡ Err p → IsBadAt bytes p
fault_is_first bytes p fits e = by_answer (all_at bytes) refl e
  where
    by_answer : (r : Result Tx ℕ) → all_at bytes ≡ r → with_place (length bytes) r ≡ Err p → IsBadAt bytes p
    by_answer (Ok tx) is h = absurd (ok_err tx p (sym h))
    by_answer (Err left) is h = subst (IsBadAt bytes) (err_is {A = Tx} (length bytes - left) p h) (all_bad bytes left fits is)

pub read_is_spelled : (bytes : List ℕ) (tx : Tx) → IsBytes bytes → transaction_of bytes ≡ Ok tx → Spells bytes tx
read_is_spelled bytes tx fits e = by_answer (all_at bytes) refl e
  where
    by_answer : (r : Result Tx ℕ) → all_at bytes ≡ r → with_place (length bytes) r ≡ Ok tx → Spells bytes tx
    by_answer (Ok other) is h = all_found bytes tx fits (is ∙ h)
    by_answer (Err left) is h = absurd (ok_err tx (length bytes - left) h)

pub spelled_is_read : (bytes : List ℕ) (tx : Tx) → Spells bytes tx → transaction_of bytes ≡ Ok tx
spelled_is_read bytes tx s = ap (with_place (length bytes)) (all_again bytes tx s)

pub no_spelling_begins : (bytes more : List ℕ) (a b : Tx) → Spells bytes a → Spells (bytes ++ more) b → more ≡ []
no_spelling_begins bytes [] a b s t = refl
no_spelling_begins bytes (c ∷ more) a b s t = absurd (nothing_after Spelled transaction_at the_transaction bytes a s c more b t)

pub one_transaction : (bytes : List ℕ) (a b : Tx) → Spells bytes a → Spells bytes b → a ≡ b
one_transaction bytes a b s t = ok_is a b (sym (spelled_is_read bytes a s) ∙ spelled_is_read bytes b t)
