-- Inputs that are joined one by one.
use Rattle.std.proofs.Common.{◌≡◌, ℕ, suc, ◌+◌, ◌<◌, List, [], ◌∷◌, ◌++◌, length, get_or, drop, true, append_assoc, arith, refl, sym, ap, subst, ◌∙◌}
use Rattle.std.specs.List.{list_all}
use Rattle.std.proofs.Math.Seq.{drop-cons}
use Rattle.spec_tool.specs.declared.psbt.PsbtInput.{PsbtInput}
use Rattle.spec_tool.specs.PsbtBytes.{inputs_joined}
use Rattle.theory_text.proofs.ListFacts.{and_right}
use Rattle.theory_psbt.proofs.Kept.{signs_ascend}
use Rattle.bm_psbt.specs.Joined.{joined_head, tail_of}

none_joined : (xs : List PsbtInput) → inputs_joined xs [] ≡ xs
none_joined [] = refl
none_joined (x ∷ xs) = refl

joined_step : (x : PsbtInput) (xs others : List PsbtInput) → inputs_joined (x ∷ xs) others ≡ joined_head x others ∷ inputs_joined xs (tail_of others)
joined_step x xs [] = ap (λ (l : List PsbtInput). x ∷ l) (sym (none_joined xs))
joined_step x xs (b ∷ bs) = refl

tail_ascends : (others : List PsbtInput) → list_all signs_ascend others ≡ true → list_all signs_ascend (tail_of others) ≡ true
tail_ascends [] h = refl
tail_ascends (b ∷ bs) h = and_right (signs_ascend b) (list_all signs_ascend bs) h

-- what one turn leaves
pub record Turned (xs next all : List PsbtInput) (i : ℕ) (total : List PsbtInput) : Type 0 where
  pub inputs : list_all signs_ascend (drop (i + 1) xs) ≡ true
  pub others : list_all signs_ascend next ≡ true
  pub whole : all ++ inputs_joined (drop (i + 1) xs) next ≡ total

pub joined_turn : (inputs others next all all2 : List PsbtInput) (i : ℕ) (x : PsbtInput) (total : List PsbtInput) → i < length inputs → x
    ≡ get_or inputs i x → list_all signs_ascend (drop i inputs) ≡ true
    → list_all signs_ascend others ≡ true → all2 ≡ all ++ joined_head x others ∷ [] → next ≡ tail_of others → all
    ++ inputs_joined (drop i inputs) others ≡ total → Turned inputs next all2 i total
joined_turn inputs others next all all2 i x total lt at a b e is so_far =
    let n : suc i ≡ i + 1 = omega arith in
    let cut : drop i inputs ≡ x ∷ drop (i + 1) inputs = drop-cons inputs i x lt ∙ (λ k. sym at k ∷ drop (n k) inputs) in
    let prefix : all2 ++ inputs_joined (drop (i + 1) inputs) next ≡ all ++ (joined_head x others ∷ inputs_joined (drop (i + 1) inputs) (tail_of others)) =
    rw (e, is) (simp append_assoc) in
    record {
      inputs = and_right (signs_ascend x) (list_all signs_ascend (drop (i + 1) inputs)) (subst (λ (l : List PsbtInput). list_all signs_ascend l ≡ true) cut a);
      others = subst (λ (l : List PsbtInput). list_all signs_ascend l ≡ true) (sym is) (tail_ascends others b);
      whole = prefix ∙ ap (λ (l : List PsbtInput). all ++ l)
          (sym (joined_step x (drop (i + 1) inputs) others) ∙ ap (λ (l : List PsbtInput). inputs_joined l others) (sym cut)) ∙ so_far;
    }
