-- What is answered to two partially signed transactions.
use Rattle.std.proofs.Common.{◌≡◌, ℕ, List, true, false, Some, None, Result, Ok, Err, refl, ap, ◌∙◌}
use Rattle.spec_bitcoin.specs.declared.tx.Tx.{Tx}
use Rattle.spec_run.specs.Ledger.{same_bare}
use Rattle.spec_tool.specs.declared.psbt.PsbtInput.{PsbtInput}
use Rattle.spec_tool.specs.Psbt.{Psbt, is_psbt}
use Rattle.spec_tool.specs.PsbtBytes.{Discord, other_tx, conflict, first_conflict, inputs_joined, combined}
use Rattle.theory_psbt.proofs.Combining.{combined_is_psbt}

pub other_answer : (a b : Psbt) (x y : Tx) → x ≡ a.tx → y ≡ b.tx → same_bare x y ≡ false → combined a b ≡ Err other_tx
other_answer a b x y e f h = let t : same_bare a.tx b.tx ≡ false = rw (← e, ← f) h in rw t refl

pub conflict_answer : (a b : Psbt) (x y : Tx) (xs ys : List PsbtInput) (k : ℕ) → x ≡ a.tx → y ≡ b.tx → same_bare x y ≡ true → xs ≡ a.inputs
    → ys ≡ b.inputs → Some k ≡ first_conflict 0 xs ys
    → combined a b ≡ Err (conflict k)
conflict_answer a b x y xs ys k e f h g l c =
    let t : same_bare a.tx b.tx ≡ true = rw (← e, ← f) h in
    let q : Some k ≡ first_conflict 0 a.inputs b.inputs = rw (← g, ← l) c in
    rw (t, ← q) refl

pub joined_answer : (a b p : Psbt) (x y copy : Tx) (xs ys all : List PsbtInput) → x ≡ a.tx → y ≡ b.tx → same_bare x y ≡ true → xs ≡ a.inputs
    → ys ≡ b.inputs → None ≡ first_conflict 0 xs ys
    → copy ≡ x → all ≡ inputs_joined xs ys → p ≡ record { tx = copy; inputs = all } → combined a b ≡ Ok p
joined_answer a b p x y copy xs ys all e f h g l c n m s =
    let t : same_bare a.tx b.tx ≡ true = rw (← e, ← f) h in
    let q : None ≡ first_conflict 0 a.inputs b.inputs = rw (← g, ← l) c in
    rw (t, ← q, s, n, e, m, g, l) refl

-- what is joined is one
pub joined_is_psbt : (a b : Psbt) (x copy : Tx) (xs ys all : List PsbtInput) → is_psbt a ≡ true → x ≡ a.tx → xs ≡ a.inputs → ys ≡ b.inputs
    → copy ≡ x → all ≡ inputs_joined xs ys
    → is_psbt (record { tx = copy; inputs = all }) ≡ true
joined_is_psbt a b x copy xs ys all h e g l n m = rw (n, e, m, g, l) (combined_is_psbt a b h)
