-- The files for signers of all transactions are those of each, in the order of the text.
use Rattle.std.proofs.Common.{◌≡◌, ℕ, List, [], ◌∷◌, ◌++◌, map, Some, refl, sym, ap, ◌∙◌, inl, inr}
use Rattle.std.specs.List.{flat_map}
use Rattle.spec_terms.specs.Advert.{Advert}
use Rattle.spec_tool.specs.declared.which.Which.{Which}
use Rattle.spec_tool.specs.Commands.{Printed, prints}
use Rattle.spec_tool.specs.Keyed.Listed.{Listed, listed, listed_at}
use Rattle.spec_tool.specs.PsbtText.{psbt_line}
use Rattle.spec_tool.specs.Reads.{Text, text_at}
use Rattle.spec_compiler.specs.Keyed.Keys.{Keys}
use Rattle.spec_compiler.specs.Keyed.Instance.{Instance}
use Rattle.spec_deal.specs.declared.deal.Deal.{Deal}
use Rattle.spec_deal.specs.Answers.{circular, with_advert, with_deal, unless_collided, unless_circular, of_deal, if_there, of_transaction, deal_in}
use Rattle.spec_deal.specs.DealText.{unsigned_psbt, psbts_text}
use Rattle.spec_deal.specs.Setting.{deal_keys, deal_instance}
use Rattle.spec_deal.specs.Verifier.{Verifier}
use Rattle.theory_calculus.specs.Members.{Is_in}
use Rattle.theory_calculus.proofs.Members.{contains_from_in}
use Rattle.theory_deal.specs.ForSigners.{IsTaken, file_of, FilesForSigners}
use Rattle.theory_deal.specs.Transactions.{TransactionsOfDeals}

flat_same : {X Y : Type 0} (f : X → List ℕ) (g : Y → List ℕ) (h : X → Y) (xs : List X) → ((x : X) → Is_in x xs → f x ≡ g (h x))
    → flat_map f xs ≡ flat_map g (map h xs)
flat_same f g h [] each = refl
flat_same f g h (x ∷ xs) each =
    let first = each x (inl refl) in
    let later = flat_same f g h xs (λ y i. each y (inr i)) in
    λ i. first i ++ later i

module _ (v : Verifier) (hash : List ℕ → List ℕ) (texts : List Text) (advert : Advert) (deal : Deal) (taken : IsTaken v hash texts advert deal) where
  -- what is answered of a deal that is taken
  answered : (answer : Keys → Instance → Printed) → of_deal v hash answer texts ≡ answer (deal_keys deal) (deal_instance advert deal)
  answered answer =
      let then = answer (deal_keys deal) (deal_instance advert deal) in
      let unless = unless_circular (circular hash (deal_keys deal) (deal_instance advert deal)) then in
      ap (with_advert (λ a. with_deal hash answer a (deal_in v a (text_at texts 1)))) taken.contract
      ∙ ap (with_deal hash answer advert) taken.file
      ∙ ap (λ o. unless_collided o unless) taken.apart
      ∙ ap (λ o. unless_circular o then) taken.unmade

pub files_for_signers : TransactionsOfDeals → FilesForSigners
files_for_signers transactions v hash texts advert deal contract_file deal_file taken =
    let keys = deal_keys deal in
    let s = deal_instance advert deal in
    let are = transactions hash keys s in
    let one = λ (which : Which) (l : Listed) (e : listed_at hash keys s which ≡ Some l).
    answered v hash texts advert deal taken
    (of_transaction hash which (λ k t x. prints 0 (psbt_line (unsigned_psbt hash k t.advert x))))
    ∙ ap (if_there (λ x. prints 0 (psbt_line (unsigned_psbt hash keys advert x))) which) e in
    record {
      each = one;
      all =
          answered v hash texts advert deal taken (λ k t. prints 0 (psbts_text hash k t))
          ∙ ap (prints 0)
          (flat_same (λ x. psbt_line (unsigned_psbt hash keys advert x)) (file_of v hash contract_file deal_file texts) (λ (x : Listed). x.which)
          (listed hash keys s)
          (λ l i. sym (ap (λ (p : Printed). p.text) (one l.which l ((are.each l).0 (contains_from_in (listed hash keys s) l i)))))
          ∙ ap (flat_map (file_of v hash contract_file deal_file texts)) are.named);
    }
