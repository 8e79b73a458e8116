-- Two unsigned transactions are the same where they test the same.
use Rattle.std.proofs.Common.{◌≡◌, ℕ, List, [], ◌∷◌, length, Bool, true, false, eqb, ◌==◌, refl, sym, subst, ◌∙◌}
use Rattle.std.specs.Prelude.{◌&&◌}
use Rattle.std.specs.List.{list_all}
use Rattle.std.specs.Cmp.Lexicographic.{pointwise, pointwise_decides}
use Rattle.std.specs.Str.{bytes_eq}
use Rattle.std.proofs.lemmas.Bool.{eqb-true, eq-eqb}
use Rattle.spec_bitcoin.specs.declared.tx.OutPoint.{OutPoint}
use Rattle.spec_bitcoin.specs.declared.tx.TxIn.{TxIn}
use Rattle.spec_bitcoin.specs.declared.tx.TxOut.{TxOut}
use Rattle.spec_bitcoin.specs.declared.tx.Tx.{Tx}
use Rattle.spec_bitcoin.specs.Spelling.{is_filled}
use Rattle.spec_bitcoin.specs.Live.{same_outpoint}
use Rattle.spec_run.specs.Ledger.{same_input, same_output, same_bare}
use Rattle.spec_tool.specs.Psbt.{is_bare_input, is_unsigned}
use Rattle.theory_text.proofs.ListFacts.{and_is, and_left, and_right, not_yes}
use Rattle.theory_psbt.proofs.Order.{same_bytes, bytes_same}

-- a test of sameness
pub record IsTest {A : Type 0} (f : A → A → Bool) : Type 0 where
  pub yes : (x y : A) → f x y ≡ true → x ≡ y
  pub own : (x : A) → f x x ≡ true

pub of_bytes : IsTest bytes_eq
of_bytes = record { yes = same_bytes; own = bytes_same }

decided : {A : Type 0} (f : A → A → Bool) → IsTest f → (x y : A) → (f x y ≡ true → x ≡ y) × (x ≡ y → f x y ≡ true)
decided {A} f t x y = (t.yes x y, λ e. subst (λ (z : A). f x z ≡ true) e (t.own x))

pub of_lists : {A : Type 0} (f : A → A → Bool) → IsTest f → IsTest (pointwise f)
of_lists f t = record {
  yes = λ xs ys. (pointwise_decides {E = f} (decided f t) xs ys).0;
  own = λ xs. (pointwise_decides {E = f} (decided f t) xs xs).1 refl;
}

number_own : (n : ℕ) → eqb n n ≡ true
number_own n = eq-eqb n n refl

output_same : (a b : TxOut) → same_output a b ≡ true → a ≡ b
output_same a b h =
    let value = eqb-true a.value b.value (and_left _ _ h) in
    let script = same_bytes a.script b.script (and_right (eqb a.value b.value) _ h) in
    λ i. record { value = value i; script = script i }

pub of_outputs : IsTest same_output
of_outputs = record { yes = output_same; own = λ a. and_is _ _ (number_own a.value) (bytes_same a.script) }

outpoint_same : (a b : OutPoint) → same_outpoint a b ≡ true → a ≡ b
outpoint_same a b h =
    let txid = same_bytes a.txid b.txid (and_left _ _ h) in
    let vout = eqb-true a.vout b.vout (and_right (bytes_eq a.txid b.txid) _ h) in
    λ i. record { txid = txid i; vout = vout i }

no_witness : (items : List (List ℕ)) → is_filled items ≡ false → items ≡ []
no_witness [] h = refl
no_witness (x ∷ items) h = absurd cc

-- the witness of a bare input is empty
bare_witness : (i : TxIn) → is_bare_input i ≡ true → i.witness ≡ []
bare_witness i h = no_witness i.witness (not_yes _ (and_right (eqb (length i.script_sig) 0) _ h))

input_same : (a b : TxIn) → is_bare_input a ≡ true → is_bare_input b ≡ true → same_input a b ≡ true → a ≡ b
input_same a b h k e =
    let prefix = and_left (same_outpoint a.prev b.prev && bytes_eq a.script_sig b.script_sig) _ e in
    let prev = outpoint_same a.prev b.prev (and_left _ _ prefix) in
    let script = same_bytes a.script_sig b.script_sig (and_right (same_outpoint a.prev b.prev) _ prefix) in
    let sequence = eqb-true a.sequence b.sequence (and_right (same_outpoint a.prev b.prev && bytes_eq a.script_sig b.script_sig) _ e) in
    let witness : a.witness ≡ b.witness = bare_witness a h ∙ sym (bare_witness b k) in
    λ i. record { prev = prev i; script_sig = script i; sequence = sequence i; witness = witness i }

input_own : (a : TxIn) → same_input a a ≡ true
input_own a = and_is _ _ (and_is _ _ (and_is _ _ (bytes_same a.prev.txid) (number_own a.prev.vout)) (bytes_same a.script_sig)) (number_own a.sequence)

inputs_same : (xs ys : List TxIn) → list_all is_bare_input xs ≡ true → list_all is_bare_input ys ≡ true → pointwise same_input xs ys ≡ true → xs ≡ ys
inputs_same [] [] h k e = refl
inputs_same [] (y ∷ ys) h k e = absurd cc
inputs_same (x ∷ xs) [] h k e = absurd cc
inputs_same (x ∷ xs) (y ∷ ys) h k e =
    let first = input_same x y (and_left _ _ h) (and_left _ _ k) (and_left _ _ e) in
    let others = inputs_same xs ys (and_right (is_bare_input x) _ h) (and_right (is_bare_input y) _ k) (and_right (same_input x y) _ e) in
    cc

own_inputs : (xs : List TxIn) → pointwise same_input xs xs ≡ true
own_inputs [] = refl
own_inputs (x ∷ xs) = and_is _ _ (input_own x) (own_inputs xs)

pub tx_same : (a b : Tx) → is_unsigned a ≡ true → is_unsigned b ≡ true → same_bare a b ≡ true → a ≡ b
tx_same a b h k e =
    let three = and_left ((a.version == b.version) && pointwise same_input a.inputs b.inputs && pointwise same_output a.outputs b.outputs) _ e in
    let two = and_left ((a.version == b.version) && pointwise same_input a.inputs b.inputs) _ three in
    let version = eqb-true a.version b.version (and_left _ _ two) in
    let inputs = inputs_same a.inputs b.inputs (and_right _ _ h) (and_right _ _ k) (and_right (a.version == b.version) _ two) in
    let outputs = (of_lists same_output of_outputs).yes a.outputs b.outputs
    (and_right ((a.version == b.version) && pointwise same_input a.inputs b.inputs) _ three) in
    let lock = eqb-true a.lock b.lock
    (and_right ((a.version == b.version) && pointwise same_input a.inputs b.inputs && pointwise same_output a.outputs b.outputs) _ e) in
    λ i. record { version = version i; inputs = inputs i; outputs = outputs i; lock = lock i }

pub tx_own : (a : Tx) → same_bare a a ≡ true
tx_own a =
    and_is _ _ (and_is _ _ (and_is _ _ (number_own a.version) (own_inputs a.inputs)) ((of_lists same_output of_outputs).own a.outputs)) (number_own a.lock)
