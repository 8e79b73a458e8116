-- An output is warned of where it is worth less than it costs; a transaction where its fee is low.
use Rattle.std.proofs.Common.{◌≡◌, ℕ, zero, suc, ◌+◌, ◌*◌, ◌<◌, List, [], ◌∷◌, ◌++◌, length}
use Rattle.std.proofs.Common.{Bool, true, false, Some, refl, sym, ap, subst, ◌∙◌, arith, inl, inr}
use Rattle.std.specs.Prelude.{nat_lt, if◌then◌else◌, slice_get, codes}
use Rattle.std.specs.Fmt.{decimal}
use Rattle.std.proofs.lemmas.Bool.Decides.{nat_tests}
use Rattle.std.proofs.lemmas.List.{length-append}
use Rattle.spec_bitcoin.specs.Spelling.{compact, sized, word, long_word, place_bytes, input_bytes, output_bytes}
use Rattle.spec_bitcoin.specs.declared.tx.TxIn.{TxIn}
use Rattle.spec_bitcoin.specs.declared.tx.TxOut.{TxOut}
use Rattle.spec_address.specs.Address.{is_witness_output}
use Rattle.spec_tool.specs.Keyed.Listed.{which_text}
use Rattle.spec_tool.specs.declared.which.Which.{Which}
use Rattle.spec_deal.specs.DealText.{line_of}
use Rattle.spec_deal.specs.WarnText.{least_value, if_warned, dust_warnings, fee_warnings, fee_of, full_size}
use Rattle.theory_calculus.specs.Members.{Is_in}
use Rattle.theory_calculus.proofs.Members.{in_append, in_left, in_right, in_from_contains, contains_from_in}
use Rattle.theory_wallets.specs.Dust.{signing_bytes, IsInput, LeastIsCost, IsDustLine, DustIsWarned, FeesAreWarned, WarnsOfValues}

-- ---- costs

one_byte : (n : ℕ) → n < 253 → length (compact n) ≡ 1
unfolding compact
one_byte n h = by_test (nat_lt n 253) refl
  where
    by_test : (b : Bool) → nat_lt n 253 ≡ b → length (compact n) ≡ 1
    by_test true e = rw e refl
    by_test false e = absurd (grind (arith, nat_tests, e, h))

sized_bytes : (xs : List ℕ) → length xs < 253 → length (sized xs) ≡ 1 + length xs
sized_bytes xs h = length-append (compact (length xs)) xs ∙ ap (λ n. n + length xs) (one_byte (length xs) h)

making : (output : TxOut) → length output.script < 253 → length (output_bytes output) ≡ 9 + length output.script
making output h =
    let a = length-append (long_word output.value) (sized output.script) in
    let b = sized_bytes output.script h in
    let c : length (long_word output.value) ≡ 8 = refl in
    omega (arith, a, b, c)

spending : (input : TxIn) → IsInput input → length (input_bytes input) ≡ 41
spending input h =
    let a : length (input_bytes input) ≡ length (place_bytes input.prev ++ sized input.script_sig) + 4 =
    length-append (place_bytes input.prev ++ sized input.script_sig) (word input.sequence) in
    let b : length (place_bytes input.prev ++ sized input.script_sig) ≡ length (place_bytes input.prev) + length (sized input.script_sig) =
    length-append (place_bytes input.prev) (sized input.script_sig) in
    let c : length (place_bytes input.prev) ≡ length input.prev.txid + 4 = length-append input.prev.txid (word input.prev.vout) in
    let few : length input.script_sig ≡ 0 = ap length h.bare in
    let d : length (sized input.script_sig) ≡ 1 + length input.script_sig = sized_bytes input.script_sig (omega (arith, few)) in
    let e : length input.prev.txid ≡ 32 = h.id in
    omega (arith, a, b, c, d, e, few)

least_is_cost : LeastIsCost
least_is_cost output input few is = by_form (is_witness_output output.script)
  where
    by_form : (b : Bool) → 3 * (9 + length output.script + (if b then 67 else 148))
        ≡ 3 * (length (output_bytes output) + (length (input_bytes input) + signing_bytes b))
    by_form true = omega (arith, making output few, spending input is)
    by_form false = omega (arith, making output few, spending input is)

-- ---- lines

-- a line that is written if a number is below another
below_line : (m n : ℕ) (words : List (List ℕ)) (line : List ℕ)
    → Is_in line (if_warned (nat_lt m n) words) → (m < n) × (line ≡ line_of (codes "warn" ∷ words))
below_line m n words line h = by_test (nat_lt m n) refl h
  where
    by_test : (b : Bool) → nat_lt m n ≡ b → Is_in line (if_warned b words) → (m < n) × (line ≡ line_of (codes "warn" ∷ words))
    by_test true e (inl same) = (grind (arith, nat_tests, e), same)
    by_test true e (inr bad) = absurd bad
    by_test false e bad = absurd bad

line_below : (m n : ℕ) (words : List (List ℕ)) (line : List ℕ)
    → m < n → line ≡ line_of (codes "warn" ∷ words) → Is_in line (if_warned (nat_lt m n) words)
line_below m n words line l same =
    let test : nat_lt m n ≡ true = grind (arith, nat_tests, l) in
    subst (λ (b : Bool). Is_in line (if_warned b words)) (sym test) (inl same)

module _ (which : Which) (line : List ℕ) where
  abbrev dust_words : ℕ → TxOut → List (List ℕ)
  dust_words k output = codes "dust" ∷ which_text which ∷ decimal k ∷ decimal output.value ∷ decimal (least_value output.script) ∷ []

  -- of the outputs from number n on
  record DustFrom (n : ℕ) (outputs : List TxOut) : Type 0 where
    j : ℕ
    output : TxOut
    stands : slice_get outputs j ≡ Some output
    poor : output.value < least_value output.script
    text : line ≡ line_of (codes "warn" ∷ dust_words (n + j) output)

  from_warning : (n : ℕ) (outputs : List TxOut) → Is_in line (dust_warnings which n outputs) → DustFrom n outputs
  from_warning n [] h = absurd h
  from_warning n (output ∷ outputs) h =
      elim (in_append line (if_warned (nat_lt output.value (least_value output.script)) (dust_words n output)) (dust_warnings which (n + 1) outputs) h) [
        | inl a ↦
            (let r = below_line output.value (least_value output.script) (dust_words n output) line a in
            let z : n ≡ n + 0 = omega arith in
            record { j = 0; output = output; stands = refl; poor = r.0; text = subst (λ (k : ℕ). line ≡ line_of (codes "warn" ∷ dust_words k output)) z r.1 })
        | inr b ↦
            (let r = from_warning (n + 1) outputs b in
            let z : n + 1 + r.j ≡ n + suc r.j = omega arith in
            record {
              j = suc r.j;
              output = r.output;
              stands = r.stands;
              poor = r.poor;
              text = subst (λ (k : ℕ). line ≡ line_of (codes "warn" ∷ dust_words k r.output)) z r.text;
            })
      ]

  to_warning : (n j : ℕ) (outputs : List TxOut) (output : TxOut) → slice_get outputs j ≡ Some output
      → output.value < least_value output.script → line ≡ line_of (codes "warn" ∷ dust_words (n + j) output)
      → Is_in line (dust_warnings which n outputs)
  to_warning n j [] output e l same = cc
  to_warning n zero (x ∷ outputs) output e l same =
      let is : output ≡ x = cc in
      let z : n + 0 ≡ n = omega arith in
      in_left line (if_warned (nat_lt x.value (least_value x.script)) (dust_words n x)) (dust_warnings which (n + 1) outputs)
      (line_below x.value (least_value x.script) (dust_words n x) line (subst (λ (y : TxOut). y.value < least_value y.script) is l)
      (subst (λ (k : ℕ). line ≡ line_of (codes "warn" ∷ dust_words k x)) z
      (subst (λ (y : TxOut). line ≡ line_of (codes "warn" ∷ dust_words (n + 0) y)) is same)))
  to_warning n (suc j) (x ∷ outputs) output e l same =
      let z : n + suc j ≡ n + 1 + j = omega arith in
      in_right line (if_warned (nat_lt x.value (least_value x.script)) (dust_words n x)) (dust_warnings which (n + 1) outputs)
      (to_warning (n + 1) j outputs output e l (subst (λ (k : ℕ). line ≡ line_of (codes "warn" ∷ dust_words k output)) z same))

from_first : (which : Which) (line : List ℕ) {outputs : List TxOut} → (d : IsDustLine which outputs line)
    → line ≡ line_of (codes "warn" ∷ dust_words which line (0 + d.k) d.output)
from_first which line d =
    let z : d.k ≡ 0 + d.k = omega arith in
    subst (λ (k : ℕ). line ≡ line_of (codes "warn" ∷ dust_words which line k d.output)) z d.text

dust_is_warned : DustIsWarned
dust_is_warned which outputs line = (
  λ h.
      let r = from_warning which line 0 outputs (in_from_contains (dust_warnings which 0 outputs) line h) in
      let z : 0 + r.j ≡ r.j = omega arith in
      record {
        k = r.j;
        output = r.output;
        stands = r.stands;
        poor = r.poor;
        text = subst (λ (k : ℕ). line ≡ line_of (codes "warn" ∷ dust_words which line k r.output)) z r.text;
      },
  λ h. contains_from_in (dust_warnings which 0 outputs) line (to_warning which line 0 h.k outputs h.output h.stands h.poor (from_first which line h)),
)

fees_are_warned : FeesAreWarned
fees_are_warned keys advert l fee line e =
    let size = full_size keys advert l in
    let left : fee_of l ≡ fee = omega (arith, e) in
    let words : ℕ → List (List ℕ) = λ n. codes "fee" ∷ which_text l.which ∷ decimal n ∷ decimal size ∷ [] in (
      λ h.
          let r = below_line (fee_of l) size (words (fee_of l)) line (in_from_contains (fee_warnings keys advert l) line h) in
          (subst (λ (n : ℕ). n < size) left r.0, subst (λ (n : ℕ). line ≡ line_of (codes "warn" ∷ words n)) left r.1),
      λ h.
          contains_from_in (fee_warnings keys advert l) line
          (line_below (fee_of l) size (words (fee_of l)) line (subst (λ (n : ℕ). n < size) (sym left) h.0)
          (subst (λ (n : ℕ). line ≡ line_of (codes "warn" ∷ words n)) (sym left) h.1)),
    )

pub warns_of_values : WarnsOfValues
warns_of_values = record { cost = least_is_cost; dust = dust_is_warned; fees = fees_are_warned }
