-- The transactions that a party endorses, one by one.
use Rattle.std.proofs.Common.{◌≡◌, ℕ, ◌+◌, ◌<◌, List, [], ◌∷◌, ◌++◌, length, map, Bool, true, false, refl, sym, ap, subst, ◌∙◌}
use Rattle.std.specs.Prelude.{filter, drop, get_or}
use Rattle.std.proofs.lemmas.List.{drop_more, drop-map}
use Rattle.std.specs.List.{flat_map}
use Rattle.spec_terms.specs.Advert.{Advert}
use Rattle.spec_compiler.specs.Keyed.Keys.{Keys}
use Rattle.spec_tool.specs.Keyed.Listed.{Listed}
use Rattle.spec_tool.specs.PsbtText.{psbt_line}
use Rattle.spec_deal.specs.DealText.{unsigned_psbt}
use Rattle.spec_deal.specs.ReadyText.{is_endorsed_by}
use Rattle.spec_deal.specs.declared.transaction.Transaction.{Transaction}
use Rattle.bitml_deal.specs.Endorsed.{endorsed_part}

module _ (hash : List ℕ → List ℕ) (keys : Keys) (advert : Advert) (party : List ℕ) where
  abbrev line : Listed → List ℕ
  line l = psbt_line (unsigned_psbt hash keys advert l)

  by_test : (b : Bool) (l : Listed) (ls : List Listed) → is_endorsed_by keys advert party l ≡ b
      → flat_map (endorsed_part hash keys advert party) ls ≡ flat_map line (filter (is_endorsed_by keys advert party) ls)
      → flat_map (endorsed_part hash keys advert party) (l ∷ ls) ≡ flat_map line (filter (is_endorsed_by keys advert party) (l ∷ ls))
  by_test true l ls e h = rw e (ap (λ rest. line l ++ rest) h)
  by_test false l ls e h = rw e h

  pub parts_are : (ls : List Listed)
      → flat_map (endorsed_part hash keys advert party) ls ≡ flat_map line (filter (is_endorsed_by keys advert party) ls)
  parts_are [] = refl
  parts_are (l ∷ ls) = by_test (is_endorsed_by keys advert party l) l ls refl (parts_are ls)

-- ---- a transaction of the list

module _ (T : Listed → Transaction) where
  -- what stands first in what is left
  some_left : (left : List Listed) (x : Transaction) (rest : List Transaction) → map T left ≡ x ∷ rest → Listed
  some_left [] x rest e = absurd (cc)
  some_left (l ∷ more) x rest e = l

  head_is : (l : Listed) (more : List Listed) (x : Transaction) (rest : List Transaction) → map T (l ∷ more) ≡ x ∷ rest → x ≡ T l
  head_is l more x rest e = cc

  pub one_more : (ls : List Listed) (i : ℕ) (x : Transaction) → i < length ls → drop i (map T ls) ≡ x ∷ drop (i + 1) (map T ls)
      → (l : Listed) × (drop i ls ≡ l ∷ drop (i + 1) ls) × (x ≡ T l)
  one_more ls i x below e =
      let left : map T (drop i ls) ≡ x ∷ drop (i + 1) (map T ls) = sym (drop-map T i ls) ∙ e in
      let d = some_left (drop i ls) x (drop (i + 1) (map T ls)) left in
      let l = get_or ls i d in
      let here : drop i ls ≡ l ∷ drop (i + 1) ls = drop_more ls i d below in (
        l,
        here,
        head_is l (drop (i + 1) ls) x (drop (i + 1) (map T ls))
            (subst (λ (rest : List Listed). map T rest ≡ x ∷ drop (i + 1) (map T ls)) here left),
      )
