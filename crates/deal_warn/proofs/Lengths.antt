-- How many bytes full witnesses have.
use Rattle.std.proofs.Common.{◌≡◌, ℕ, ◌+◌, ◌*◌, List, [], ◌∷◌, ◌++◌, length, reverse, replicate, Bool, true, false, Option, Some, None, refl, ap, ◌∙◌, arith, length-append}
use Rattle.std.specs.Prelude.{if◌then◌else◌}
use Rattle.std.specs.List.{flat_map}
use Rattle.std.proofs.lemmas.List.{length-reverse, length-replicate}
use Rattle.spec_bitcoin.specs.Spelling.{compact, sized, witness_bytes, is_filled}
use Rattle.spec_compiler.specs.Keyed.OwnScripts.{pays_to_key_hash}
use Rattle.spec_compiler.specs.Witness.{selectors, witness_of}
use Rattle.spec_compiler.specs.declared.unsigned.Spent.{Spent}
use Rattle.theory_weights.specs.Sizes.{count_size, item_size, selector_count}
use Rattle.theory_weights.proofs.Sized.{all_bytes, bytes_cons, bytes_append, bytes_reversed, bytes_replicated, selectors_counted, selectors_sized}
use Rattle.spec_deal.specs.Payable.{has_taproot_form}
use Rattle.spec_deal.specs.declared.transaction.Wallet.{Wallet}
use Rattle.spec_deal.specs.WarnText.{full_signature, most_relayed_item, full_witness}
use Rattle.deal_warn.specs.Sized.{key_bytes, wallet_bytes, deposit_bytes, branch_bytes, is_wallet_filled}

-- ---- the witness of a branch

signature_size : item_size (length full_signature) ≡ 73
unfolding compact
signature_size = refl

secret_size : item_size (length (replicate {A = ℕ} most_relayed_item 0)) ≡ 81
unfolding compact
secret_size = refl

pub branch_sized : (people secrets i n : ℕ) (script : List ℕ)
    → length (witness_bytes (witness_of (replicate people full_signature) (replicate secrets (replicate most_relayed_item 0)) i n script))
    ≡ branch_bytes people secrets i n (length script)
branch_sized people secrets i n script =
    let xs = replicate people full_signature in
    let ys = replicate secrets (replicate {A = ℕ} most_relayed_item 0) in
    let zs = selectors i n in
    let inner = reverse ys ++ reverse zs in
    let stack = reverse xs ++ inner in
    let all = stack ++ script ∷ [] in
    let a = length-append (compact (length all)) (flat_map sized all) in
    let b = bytes_append stack (script ∷ []) in
    let c = bytes_append (reverse xs) inner in
    let d = bytes_append (reverse ys) (reverse zs) in
    let e : all_bytes (reverse xs) ≡ people * 73 = bytes_reversed xs ∙ bytes_replicated people full_signature ∙ ap (λ k. people * k) signature_size in
    let f : all_bytes (reverse ys) ≡ secrets * 81 = bytes_reversed ys ∙ bytes_replicated secrets (replicate {A = ℕ} most_relayed_item 0) ∙ ap (λ k. secrets * k) secret_size in
    let g = bytes_reversed zs ∙ selectors_sized i n in
    let h = bytes_cons script [] in
    let k : length all ≡ people + secrets + selector_count i n + 1 =
    (let l = length-append stack (script ∷ []) in
    let m = length-append (reverse xs) inner in
    let o = length-append (reverse ys) (reverse zs) in
    let p = length-reverse xs ∙ length-replicate people full_signature in
    let q = length-reverse ys ∙ length-replicate secrets (replicate {A = ℕ} most_relayed_item 0) in
    let r = length-reverse zs ∙ selectors_counted i n in
    omega (arith, l, m, o, p, q, r)) in
    let s = ap count_size k in
    omega (arith, a, b, c, d, e, f, g, h, s)

-- it ends with the script
ends_filled : (xs : List (List ℕ)) (x : List ℕ) → is_filled (xs ++ x ∷ []) ≡ true
ends_filled [] x = refl
ends_filled (y ∷ ys) x = refl

pub branch_filled : (signatures secrets : List (List ℕ)) (i n : ℕ) (script : List ℕ) → is_filled (witness_of signatures secrets i n script) ≡ true
branch_filled signatures secrets i n script = ends_filled (reverse signatures ++ (reverse secrets ++ reverse (selectors i n))) script

-- ---- the witness of a deposit

two_items : count_size 2 ≡ 1
unfolding compact
two_items = refl

key_sized : (script : List ℕ) → length (witness_bytes (full_signature ∷ script ∷ [])) ≡ key_bytes (length script)
key_sized script =
    let a = length-append (compact 2) (flat_map sized (full_signature ∷ script ∷ [])) in
    let b = bytes_cons full_signature (script ∷ []) in
    let c = bytes_cons script [] in
    let d = signature_size in
    let e = two_items in
    omega (arith, a, b, c, d, e)

pub deposit_sized : (w : Option Wallet) (spent : Spent) → length (witness_bytes (full_witness w spent)) ≡ deposit_bytes w (length spent.script)
unfolding wallet_bytes
deposit_sized None spent = key_sized spent.script
deposit_sized (Some w) spent = refl

pub deposit_filled : (w : Option Wallet) (spent : Spent) → is_filled (full_witness w spent) ≡ is_wallet_filled w
deposit_filled None spent = refl
deposit_filled (Some w) spent = refl

-- what a wallet shows has few sizes
pub wallet_sized : (script : List ℕ) → wallet_bytes script
    ≡ (if pays_to_key_hash script then 108 else (if has_taproot_form script then 66 else 1))
unfolding wallet_bytes compact
wallet_sized script = by_tests (pays_to_key_hash script) (has_taproot_form script)
  where
    by_tests : (a b : Bool)
        → length (witness_bytes (if a then full_signature ∷ replicate 33 0 ∷ [] else (if b then replicate 64 0 ∷ [] else [])))
        ≡ (if a then 108 else (if b then 66 else 1))
    by_tests true b = refl
    by_tests false true = refl
    by_tests false false = refl
