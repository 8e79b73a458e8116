-- What signers are given of a deal's transaction can be written, and isn't long.
use Rattle.std.proofs.Common.{◌≡◌, ℕ, suc, ◌+◌, ◌*◌, ◌≤◌, ◌<◌, ◌^◌, List, [], ◌∷◌, ◌++◌, length, map, replicate, true, not, eqb, Option, Some, None}
use Rattle.std.proofs.Common.{refl, ap, ◌∙◌, arith, lit<, length-append}
use Rattle.std.specs.List.{flat_map, list_all, AllByRecursion}
use Rattle.std.specs.Option.{option_map}
use Rattle.std.proofs.lemmas.Bool.{eq-eqb, ne_eqb}
use Rattle.std.proofs.lemmas.List.{length-replicate}
use Rattle.std.proofs.lemmas.List.Concat.{flat_map-cons}
use Rattle.spec_data.specs.Hashes.{HashesBytes}
use Rattle.spec_terms.specs.Advert.{Advert}
use Rattle.spec_bitcoin.specs.declared.label.Label.{Label}
use Rattle.spec_bitcoin.specs.declared.tx.TxOut.{TxOut}
use Rattle.spec_bitcoin.specs.Spelling.{IsTransaction, long_word, compact, sized, output_bytes, stripped}
use Rattle.spec_compiler.specs.declared.unsigned.Spent.{Spent}
use Rattle.spec_compiler.specs.Keyed.Keys.{Keys, own_script}
use Rattle.spec_compiler.specs.Keyed.Statements.{IsPayable}
use Rattle.spec_compiler.specs.Keyed.Transactions.{input_of, tx_of, pays}
use Rattle.spec_text.specs.Words.{◌>>=◌}
use Rattle.spec_tool.specs.declared.psbt.PsbtInput.{PsbtInput}
use Rattle.spec_tool.specs.Keyed.Listed.{Listed}
use Rattle.spec_tool.specs.Psbt.{Pairing, pairing_bytes, map_bytes, magic, all_type, is_bare_input, is_unsigned}
use Rattle.spec_tool.specs.PsbtBytes.{input_records, psbt_bytes}
use Rattle.spec_deal.specs.declared.transaction.Wallet.{Wallet}
use Rattle.spec_deal.specs.DealText.{unsigned_input, unsigned_inputs, unsigned_psbt}
use Rattle.spec_deal.specs.Transactions.{inputs, transaction}
use Rattle.spec_deal.specs.Wallets.{input_deposit, wallet_of, input_wallet}
use Rattle.theory_bitcoin.proofs.Exact.{bytes_cons}
use Rattle.theory_bitcoin.proofs.Formats.{wide64}
use Rattle.theory_psbt.specs.Fitting.{IsKnown, IsFitting}
use Rattle.theory_psbt.proofs.Kept.{signs_ascend}
use Rattle.theory_text.proofs.ListFacts.{and_is, not_no}
use Rattle.theory_world.proofs.Ledger.Counts.{count_size}
use Rattle.theory_run.proofs.Widths.Fitting.{pays_size}
use Rattle.theory_deal.proofs.Widths.Light.{stripped_within}
use Rattle.theory_deal.proofs.Widths.Places.{IsSpendable}
use Rattle.theory_deal.proofs.Widths.ScriptBytes.{AreBrought}
use Rattle.theory_deal_text.specs.Psbts.{shown_input, shown_psbt}
use Rattle.theory_deal_text.proofs.PsbtBytes.{IsWritable}
use Rattle.theory_deal_text.proofs.Short.{HasShort, IsShort}

-- ---- what signers are given is of the transaction

module _ (hash : List ℕ → List ℕ) (keys : Keys) (advert : Advert) (l : Listed) where
  inputs_are : (k : ℕ) (spends : List Spent) (signers : List (List Label))
      → unsigned_inputs hash keys advert l k spends ≡ map shown_input (inputs hash keys advert l k spends signers)
  inputs_are k [] signers = refl
  inputs_are k (spent ∷ spends) [] =
      ap (λ (is : List PsbtInput). unsigned_input hash (input_wallet keys advert l.which k) spent ∷ is) (inputs_are (k + 1) spends [])
  inputs_are k (spent ∷ spends) (labels ∷ signers) =
      ap (λ (is : List PsbtInput). unsigned_input hash (input_wallet keys advert l.which k) spent ∷ is) (inputs_are (k + 1) spends signers)

  pub psbt_is : unsigned_psbt hash keys advert l ≡ shown_psbt (transaction hash keys advert l)
  psbt_is =
      ap (λ (is : List PsbtInput). record { tx = tx_of l.pending; inputs = is })
      (inputs_are 0 l.pending.spends l.signers)

-- ---- it can be written

-- a value that an output may have
abbrev pub HasValue : Spent → Type 0
HasValue x = x.value < 2 ^ 64

abbrev IfPayable : Option Wallet → Type 0
IfPayable None = Unit {0}
IfPayable (Some w) = IsPayable w.script

wallet_payable : (keys : Keys) → AreBrought keys → (o : Option (List ℕ)) → IfPayable (o >>= wallet_of keys)
wallet_payable keys brought None = tt
wallet_payable keys brought (Some name) = by_script (own_script keys name) refl
  where
    by_script : (o : Option (List ℕ)) → own_script keys name ≡ o
        → IfPayable (option_map (λ script. record { deposit = name; script = script }) o)
    by_script None e = tt
    by_script (Some script) e = brought name script e

all_bare : (spends : List Spent) → list_all is_bare_input (map input_of spends) ≡ true
all_bare [] = refl
all_bare (spent ∷ spends) = all_bare spends

-- its transaction has no scripts and no witnesses
pub is_unsigned_tx : (l : Listed) → IsTransaction (tx_of l.pending) → is_unsigned (tx_of l.pending) ≡ true
is_unsigned_tx l h =
    let some : not (eqb (length (map input_of l.pending.spends)) 0) ≡ true =
    not_no _ (ne_eqb (length (map input_of l.pending.spends)) 0 (λ e. absurd (omega (arith, e, h.some)))) in
    and_is _ _ some (all_bare l.pending.spends)

-- ---- records

sized_small : (text : List ℕ) → length (sized text) ≤ 9 + length text
sized_small text =
    let a = length-append (compact (length text)) text in
    let b = count_size (length text) in
    omega (arith, a, b)

pairing_small : (r : Pairing) → length (pairing_bytes r) ≤ 18 + length (r.0) + length (r.1)
pairing_small r =
    let a = length-append (sized (r.0)) (sized (r.1)) in
    let b = sized_small (r.0) in
    let c = sized_small (r.1) in
    omega (arith, a, b, c)

abbrev all_of : List Pairing → ℕ
all_of rs = length (flat_map pairing_bytes rs)

of_cons : (r : Pairing) (rs : List Pairing) → all_of (r ∷ rs) ≡ length (pairing_bytes r) + all_of rs
of_cons r rs = ap length (flat_map-cons pairing_bytes r rs) ∙ length-append (pairing_bytes r) (flat_map pairing_bytes rs)

of_one : (r : Pairing) → all_of (r ∷ []) ≤ 18 + length (r.0) + length (r.1)
of_one r =
    let a = of_cons r [] in
    let b = pairing_small r in
    omega (arith, a, b)

abbrev written : PsbtInput → List ℕ
written i = map_bytes (input_records i)

module _ (hash : List ℕ → List ℕ) (bytes : HashesBytes hash) (keys : Keys) (brought : AreBrought keys) (advert : Advert) (l : Listed) where
  wallet_fine : (k : ℕ) → IfPayable (input_wallet keys advert l.which k)
  wallet_fine k = wallet_payable keys brought (input_deposit advert l.which k)

  -- ---- inputs

  one_known : (wallet : Option Wallet) (spent : Spent) → IfPayable wallet → IsSpendable spent → HasValue spent
      → IsKnown (unsigned_input hash wallet spent)
  one_known None spent w h v =
      let size = bytes.size spent.script in
      record {
        spent = record {
          value = v;
          script = record {
            bytes = bytes_cons 0 (32 ∷ hash spent.script) (lit< tt) (bytes_cons 32 (hash spent.script) (lit< tt) (bytes.bytes spent.script));
            size = omega (arith, size);
          };
        };
        partial = tt;
        script = h.script;
        witness = tt;
      }
  one_known (Some x) spent w h v =
      let few = w.few in
      record {
        spent = record { value = v; script = record { bytes = w.bytes; size = omega (arith, few) } };
        partial = tt;
        script = tt;
        witness = tt;
      }

  inputs_known : (k : ℕ) (spends : List Spent) → AllByRecursion IsSpendable spends → AllByRecursion HasValue spends
      → AllByRecursion IsKnown (unsigned_inputs hash keys advert l k spends)
  inputs_known k [] h v = tt
  inputs_known k (spent ∷ spends) h v =
      (one_known (input_wallet keys advert l.which k) spent (wallet_fine k) h.0 v.0, inputs_known (k + 1) spends h.1 v.1)

  inputs_ascend : (k : ℕ) (spends : List Spent) → list_all signs_ascend (unsigned_inputs hash keys advert l k spends) ≡ true
  inputs_ascend k [] = refl
  inputs_ascend k (spent ∷ spends) = inputs_ascend (k + 1) spends

  inputs_count : (k : ℕ) (spends : List Spent) → length (unsigned_inputs hash keys advert l k spends) ≡ length (map input_of spends)
  inputs_count k [] = refl
  inputs_count k (spent ∷ spends) = ap suc (inputs_count (k + 1) spends)

  psbt_fits : IsTransaction (tx_of l.pending) → AllByRecursion IsSpendable l.pending.spends → AllByRecursion HasValue l.pending.spends
      → IsFitting (unsigned_psbt hash keys advert l)
  psbt_fits tx h v =
      let spends = l.pending.spends in
      let count = eq-eqb _ _ (inputs_count 0 spends) in
      record {
        is = and_is _ _ (and_is _ _ (is_unsigned_tx l tx) count) (inputs_ascend 0 spends);
        tx = tx;
        inputs = inputs_known 0 spends h v;
      }

  -- ---- sizes

  output_small : (o : TxOut) → length o.script ≤ 34 → length (output_bytes o) ≤ 51
  output_small o h =
      let a = length-append (long_word o.value) (sized o.script) in
      let b = wide64.len o.value in
      let c = sized_small o.script in
      omega (arith, a, b, c, h)

  one_small : (wallet : Option Wallet) (spent : Spent) → IfPayable wallet → HasShort spent
      → length (written (unsigned_input hash wallet spent)) ≤ 11000
  one_small None spent w h =
      let output = output_bytes (pays hash spent.script spent.value) in
      let first : Pairing = (1 ∷ [], output) in
      let all : Pairing = (3 ∷ [], all_type) in
      let last : Pairing = (5 ∷ [], spent.script) in
      let a = length-append (flat_map pairing_bytes (first ∷ (all ∷ (last ∷ [])))) (0 ∷ []) in
      let b = of_cons first (all ∷ (last ∷ [])) in
      let c = of_cons all (last ∷ []) in
      let d = of_one last in
      let e = pairing_small first in
      let f = pairing_small all in
      let g = pays_size hash bytes spent.script spent.value in
      omega (arith, a, b, c, d, e, f, g, h)
  one_small (Some x) spent w h =
      let output = output_bytes (record { value = spent.value; script = x.script }) in
      let first : Pairing = (1 ∷ [], output) in
      let a = length-append (flat_map pairing_bytes (first ∷ [])) (0 ∷ []) in
      let b = of_one first in
      let c = output_small (record { value = spent.value; script = x.script }) w.few in
      omega (arith, a, b, c)

  inputs_small : (k : ℕ) (spends : List Spent) → AllByRecursion HasShort spends
      → length (flat_map written (unsigned_inputs hash keys advert l k spends)) ≤ 11000 * length spends
  inputs_small k [] h = omega arith
  inputs_small k (spent ∷ spends) h =
      let one = unsigned_input hash (input_wallet keys advert l.which k) spent in
      let others = unsigned_inputs hash keys advert l (k + 1) spends in
      let a = ap length (flat_map-cons written one others) ∙ length-append (written one) (flat_map written others) in
      let b = one_small (input_wallet keys advert l.which k) spent (wallet_fine k) h.0 in
      let c = inputs_small (k + 1) spends h.1 in
      omega (arith, a, b, c)

  psbt_small : AllByRecursion IsSpendable l.pending.spends → IsShort l.pending → length l.pending.spends ≤ 33
      → length l.pending.outputs ≤ 64 → length (psbt_bytes (unsigned_psbt hash keys advert l)) ≤ 400000
  unfolding psbt_bytes
  psbt_small h short few few_outputs =
      let p = unsigned_psbt hash keys advert l in
      let global : Pairing = (0 ∷ [], stripped p.tx) in
      let last : List ℕ = replicate (length p.tx.outputs) 0 in
      let inner : List ℕ = flat_map written p.inputs ++ last in
      let a = length-append magic (map_bytes (global ∷ []) ++ inner) in
      let b = length-append (map_bytes (global ∷ [])) inner in
      let c = length-append (flat_map written p.inputs) last in
      let d = length-append (flat_map pairing_bytes (global ∷ [])) (0 ∷ []) in
      let e = of_one global in
      let f = stripped_within (tx_of l.pending) l.pending.spends refl h few short.outputs few_outputs in
      let g = inputs_small 0 l.pending.spends short.spends in
      let i = length-replicate {A = ℕ} (length p.tx.outputs) 0 in
      omega (arith, a, b, c, d, e, f, g, i, few, few_outputs)

  pub writable : IsTransaction (tx_of l.pending) → AllByRecursion IsSpendable l.pending.spends → AllByRecursion HasValue l.pending.spends
      → IsShort l.pending → length l.pending.spends ≤ 33 → length l.pending.outputs ≤ 64 → IsWritable (unsigned_psbt hash keys advert l)
  writable tx h v short few few_outputs =
      let size = psbt_small h short few few_outputs in
      record { fits = psbt_fits tx h v; short = omega (arith, size) }
