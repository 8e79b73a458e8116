-- Inputs with their witnesses, one by one.
use Rattle.std.proofs.Common.{◌≡◌, ℕ, zero, suc, ◌+◌, ◌<◌, List, [], ◌∷◌, ◌++◌, length, drop, get_or, refl, sym, ap, ◌∙◌, arith, append_assoc}
use Rattle.std.specs.Prelude.{slice_get}
use Rattle.std.proofs.lemmas.List.{drop_more}
use Rattle.spec_bitcoin.specs.declared.tx.TxIn.{TxIn}
use Rattle.spec_run.specs.Firing.{witnessed}
use Rattle.bm_tx_filled.specs.Filled.{input_with}

witnessed-none : (is : List TxIn) → witnessed is [] ≡ is
witnessed-none [] = refl
witnessed-none (i ∷ is) = refl

-- the first input, and the others
witnessed-first : (i : TxIn) (is : List TxIn) (ws : List (List (List ℕ))) → witnessed (i ∷ is) ws ≡ input_with i (slice_get ws 0) ∷ witnessed is (drop 1 ws)
witnessed-first i is [] = ap (λ l. i ∷ l) (sym (witnessed-none is))
witnessed-first i is (w ∷ ws) = refl

pub get-drop : {A : Type 0} (k : ℕ) (xs : List A) → slice_get (drop k xs) 0 ≡ slice_get xs k
get-drop zero xs = refl
get-drop (suc k) [] = refl
get-drop (suc k) (x ∷ xs) = get-drop k xs

pub drop-next : {A : Type 0} (k : ℕ) (xs : List A) → drop 1 (drop k xs) ≡ drop (k + 1) xs
drop-next zero xs = refl
drop-next (suc k) [] = let z : suc k + 1 ≡ suc (k + 1) = omega arith in rw z refl
drop-next (suc k) (x ∷ xs) = let z : suc k + 1 ≡ suc (k + 1) = omega arith in rw z (drop-next k xs)

pub witnessed_step : (inputs : List TxIn) (witnesses : List (List (List ℕ))) (k : ℕ) (input : TxIn) (now new all : List TxIn)
    → k < length inputs → input ≡ get_or inputs k input
    → new ≡ now ++ input_with input (slice_get witnesses k) ∷ [] → now ++ witnessed (drop k inputs) (drop k witnesses) ≡ all → new
    ++ witnessed (drop (k + 1) inputs) (drop (k + 1) witnesses) ≡ all
witnessed_step inputs witnesses k input now new all lt at pushed so =
    let cut : drop k inputs ≡ input ∷ drop (k + 1) inputs = drop_more inputs k input lt ∙ ap (λ z. z ∷ drop (k + 1) inputs) (sym at) in
    let first : witnessed (drop k inputs) (drop k witnesses) ≡ input_with input (slice_get witnesses k) ∷ witnessed (drop (k + 1) inputs) (drop (k + 1) witnesses) =
    ap (λ l. witnessed l (drop k witnesses)) cut ∙ witnessed-first input (drop (k + 1) inputs) (drop k witnesses) ∙ (λ i. input_with input (get-drop k witnesses i) ∷ witnessed (drop (k + 1) inputs) (drop-next k witnesses i)) in
    ap (λ l. l ++ witnessed (drop (k + 1) inputs) (drop (k + 1) witnesses)) pushed
    ∙ append_assoc now (input_with input (slice_get witnesses k) ∷ []) (witnessed (drop (k + 1) inputs) (drop (k + 1) witnesses))
    ∙ ap (λ l. now ++ l) (sym first) ∙ so
