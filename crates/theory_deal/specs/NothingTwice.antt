-- What is claimed of the lines of a deal file: none gives what another has given.
use Rattle.std.specs.Prelude.{◌≡◌, ℕ, List, ◌∷◌, Ok}
use Rattle.spec_terms.specs.Advert.{Advert}
use Rattle.spec_text.specs.Lines.{lines_of, words_of}
use Rattle.spec_deal.specs.declared.deal.Deal.{Deal}
use Rattle.spec_deal.specs.DealFile.{read_deal}
use Rattle.spec_deal.specs.Verifier.{Verifier}
use Rattle.theory_deal.specs.SigningOrder.{IsAscending}

-- both lines begin with the same two words: they give the same key, deposit or hash
pub record GiveSame (a b : List ℕ) : Type 0 where
  pub kind : List ℕ
  pub name : List ℕ
  pub rest : List (List ℕ)
  pub others : List (List ℕ)
  pub one : words_of a ≡ kind ∷ (name ∷ rest)
  pub other : words_of b ≡ kind ∷ (name ∷ others)

-- no line gives the same as one before it
abbrev pub GivesOnce : List ℕ → Type 0
GivesOnce text = IsAscending (λ (a b : List ℕ). GiveSame a b → ⊥) (lines_of text)

abbrev pub NothingTwice : Type 0
NothingTwice = (v : Verifier) (advert : Advert) (text : List ℕ) (deal : Deal) → read_deal v advert text ≡ Ok deal → GivesOnce text
