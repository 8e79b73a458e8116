-- What is claimed of chains that go on: what can come is the next transaction of a longer chain, by the name that it was asked under.
use Rattle.std.specs.Prelude.{◌≡◌, ℕ, ◌+◌, ◌<◌, ◌≤◌, List, [], ◌∷◌, ◌++◌, length, true, Option, Some, None, Ok, codes}
use Rattle.std.specs.Fmt.{decimal}
use Rattle.std.specs.List.{Contains}
use Rattle.spec_data.specs.Messages.{collision}
use Rattle.spec_data.specs.Ranges.{last_height}
use Rattle.spec_terms.specs.Advert.{Advert}
use Rattle.spec_bitcoin.specs.declared.tx.Tx.{Tx}
use Rattle.spec_bitcoin.specs.Spelling.{is_filled}
use Rattle.spec_compiler.specs.Keyed.Keys.{Keys}
use Rattle.spec_compiler.specs.Keyed.Instance.{Instance}
use Rattle.spec_text.specs.Lines.{lines_of, words_of}
use Rattle.spec_tool.specs.declared.which.Which.{Which}
use Rattle.spec_tool.specs.Keyed.Listed.{Listed, listed_at}
use Rattle.spec_deal.specs.declared.deal.Deal.{Deal}
use Rattle.spec_deal.specs.declared.entry.Shown.{Shown}
use Rattle.spec_deal.specs.declared.signed.Signed.{Signed}
use Rattle.spec_deal.specs.declared.transaction.Wallet.{Wallet}
use Rattle.spec_deal.specs.Finished.{witnesses, finished}
use Rattle.spec_deal.specs.Setting.{deal_keys, deal_instance}
use Rattle.spec_deal.specs.SignatureFile.{read_signatures}
use Rattle.spec_deal.specs.Verifier.{Verifier}
use Rattle.theory_deal.specs.Accepted.{wallets_of}
use Rattle.theory_deal.specs.Finished.{do_fit}
use Rattle.spec_chain.specs.declared.happened.Happened.{Happened}
use Rattle.spec_chain.specs.Chain.{Course, stands, transaction_strings, follow_chain}
use Rattle.spec_chain.specs.Outstanding.{asked, known, outstanding}
use Rattle.spec_chain.specs.Sizes.{most_chain_bytes}
use Rattle.theory_chain.specs.Deals.{IsDeal}
use Rattle.theory_chain.specs.Files.{GivesTx}

-- the longer file has two lines more: the height above the tip, and the transaction
pub record AddsOne (text longer : List ℕ) (tip : ℕ) (tx : Tx) : Type 0 where
  pub next : List ℕ
  pub line : List ℕ
  pub cut : lines_of longer ≡ lines_of text ++ next ∷ line ∷ []
  pub small : length longer ≤ most_chain_bytes
  pub height : words_of next ≡ codes "height" ∷ decimal (tip + 1) ∷ []
  pub gives : GivesTx (tip + 1) (words_of line) tx

-- the longer chain isn't refused, and what happens next in it is the transaction of this name, at the height above the tip
pub record ComesNext (hash : List ℕ → List ℕ) (keys : Keys) (s : Instance) (longer : List ℕ) (course : Course) (tip : ℕ) (which : Which)
    : Type 0 where
  pub later : Course
  pub followed : follow_chain hash keys s longer ≡ stands later (tip + 1)
  pub happened : Happened
  pub history : later.history ≡ course.history ++ happened ∷ []
  pub name : happened.which ≡ Some which
  pub height : happened.height ≡ tip + 1

-- of the witnesses from number k on each of an input that a wallet signs has an item
abbrev pub AreFilled : (ℕ → Option Wallet) → ℕ → List (List (List ℕ)) → Type 0
AreFilled wallet k [] = Unit {0}
AreFilled wallet k (w ∷ ws) = ((v : Wallet) → wallet k ≡ Some v → is_filled w ≡ true) × AreFilled wallet (k + 1) ws

-- what can come at a tip below the last height comes next, as it is finished, where its strings don't collide with those before; each witness
-- by a wallet has an item, as every wallet's has
abbrev pub WhatCanGoesOn : Type 0
WhatCanGoesOn =
    (v : Verifier) (hash : List ℕ → List ℕ) (advert : Advert) (deal : Deal) (text longer file : List ℕ) (course : Course) (tip : ℕ)
    (given : List Signed) (strings : List Shown) (which : Which) (l : Listed)
    → IsDeal v hash advert deal → follow_chain hash (deal_keys deal) (deal_instance advert deal) text ≡ stands course tip
    → tip < last_height
    → read_signatures v hash (deal_keys deal) (deal_instance advert deal) file ≡ Ok given
    → do_fit hash (deal_instance advert deal) strings ≡ true
    → listed_at hash (deal_keys deal) (deal_instance advert deal) which ≡ Some l
    → Contains (asked (deal_instance advert deal) course.state) which
    → outstanding hash (deal_keys deal) (deal_instance advert deal) given (known course.state strings) course.state tip which ≡ []
    → AreFilled (wallets_of (deal_keys deal) (deal_instance advert deal) l) 0
    (witnesses hash (deal_keys deal) (deal_instance advert deal) given (known course.state strings) l l.which)
    → AddsOne text longer tip (finished hash (deal_keys deal) (deal_instance advert deal) given (known course.state strings) l)
    → collision hash course.messages
    (transaction_strings hash (finished hash (deal_keys deal) (deal_instance advert deal) given (known course.state strings) l))
    ≡ None
    → ComesNext hash (deal_keys deal) (deal_instance advert deal) longer course tip which
