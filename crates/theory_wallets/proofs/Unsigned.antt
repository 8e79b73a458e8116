-- What wallets are told of their inputs, and that without wallets a deal is what it was.
use Rattle.std.proofs.Common.{◌≡◌, ℕ, zero, suc, ◌+◌, List, [], ◌∷◌, length, Option, Some, None, refl, sym, ap, subst, ◌∙◌, arith}
use Rattle.std.specs.Prelude.{slice_get}
use Rattle.std.specs.Option.{option_map}
use Rattle.spec_terms.specs.Term as term
use Rattle.spec_terms.specs.Advert.{Advert}
use Rattle.spec_terms.specs.Paths.{at}
use Rattle.spec_compiler.specs.Keyed.Keys.{Keys, own_script}
use Rattle.spec_compiler.specs.declared.unsigned.Spent.{Spent}
use Rattle.spec_tool.specs.Keyed.Listed.{Listed}
use Rattle.spec_tool.specs.declared.which.Which.{Which}
use Rattle.spec_tool.specs.declared.which.Which.TheVariants as names
use Rattle.spec_text.specs.Words.{◌>>=◌}
use Rattle.spec_deal.specs.declared.transaction.Wallet.{Wallet}
use Rattle.spec_deal.specs.DealText.{unsigned_input, unsigned_inputs}
use Rattle.spec_deal.specs.Wallets.{puts_at, input_deposit, wallet_of, input_wallet}
use Rattle.theory_wallets.specs.ForWallets.{SpendsDeposit, IsBrought, ForWallets}

some_same : {X : Type 0} {a b : X} → Some a ≡ Some b → a ≡ b
some_same e = cc

-- ---- which deposit an input spends

to_deposit : (advert : Advert) (which : Which) (k : ℕ) (name : List ℕ) → SpendsDeposit advert which k name
    → input_deposit advert which k ≡ Some name
to_deposit advert names.Init k name h = h
to_deposit advert (names.At path) k name h =
    let b = h.0 in
    let j = h.1 in
    subst (λ (n : ℕ). input_deposit advert (names.At path) n ≡ Some name) (sym h.3)
    (ap (λ (o : Option term.Guarded). slice_get (puts_at o) j) h.2 ∙ h.4)

from_deposit : (advert : Advert) (which : Which) (k : ℕ) (name : List ℕ) → input_deposit advert which k ≡ Some name
    → SpendsDeposit advert which k name
from_deposit advert names.Init k name h = h
from_deposit advert (names.At path) zero name h = cc
from_deposit advert (names.At path) (suc j) name h = by_branch (at advert.root path) refl h
  where
    by_branch : (o : Option term.Guarded) → at advert.root path ≡ o → slice_get (puts_at o) j ≡ Some name
        → SpendsDeposit advert (names.At path) (suc j) name
    by_branch None e g = cc
    by_branch (Some b) e g = (b, j, e, refl, g)

-- ---- which wallet signs

abbrev wallet_with : List ℕ → List ℕ → Wallet
wallet_with name script = record { deposit = name; script = script }

module _ (hash : List ℕ → List ℕ) (keys : Keys) (advert : Advert) (l : Listed) where
  brought : (k : ℕ) (script : List ℕ) → IsBrought keys advert l.which k script
      → (name : List ℕ) × (input_wallet keys advert l.which k ≡ Some (wallet_with name script))
  brought k script h =
      let name = h.0 in
      (name, ap (λ o. o >>= wallet_of keys) (to_deposit advert l.which k name h.1) ∙ ap (option_map (wallet_with name)) h.2)

  unbrought : (k : ℕ) → ((script : List ℕ) → IsBrought keys advert l.which k script → ⊥) → input_wallet keys advert l.which k ≡ None
  unbrought k none = by_deposit (input_deposit advert l.which k) refl
    where
      by_script : (name : List ℕ) (o : Option (List ℕ)) → input_deposit advert l.which k ≡ Some name → own_script keys name ≡ o
          → option_map (wallet_with name) o ≡ None
      by_script name None e f = refl
      by_script name (Some script) e f = absurd (none script (name, from_deposit advert l.which k name e, f))

      by_deposit : (o : Option (List ℕ)) → input_deposit advert l.which k ≡ o → (o >>= wallet_of keys) ≡ None
      by_deposit None e = refl
      by_deposit (Some name) e = by_script name (own_script keys name) e refl

  -- ---- inputs from number k on

  as_many : (k : ℕ) (spends : List Spent) → length (unsigned_inputs hash keys advert l k spends) ≡ length spends
  as_many k [] = refl
  as_many k (spent ∷ spends) = ap suc (as_many (k + 1) spends)

  unsigned_at : (k j : ℕ) (spends : List Spent) (spent : Spent) → slice_get spends j ≡ Some spent
      → slice_get (unsigned_inputs hash keys advert l k spends) j
      ≡ Some (unsigned_input hash (input_wallet keys advert l.which (k + j)) spent)
  unsigned_at k j [] spent e = cc
  unsigned_at k zero (x ∷ spends) spent e =
      let z : k ≡ k + 0 = omega arith in
      ap (λ (n : ℕ). Some (unsigned_input hash (input_wallet keys advert l.which n) x)) z
      ∙ ap (λ (y : Spent). Some (unsigned_input hash (input_wallet keys advert l.which (k + 0)) y)) (some_same e)
  unsigned_at k (suc j) (x ∷ spends) spent e =
      let z : k + 1 + j ≡ k + suc j = omega arith in
      unsigned_at (k + 1) j spends spent e
      ∙ ap (λ (n : ℕ). Some (unsigned_input hash (input_wallet keys advert l.which n) spent)) z

from_zero : (hash : List ℕ → List ℕ) (keys : Keys) (advert : Advert) (l : Listed) (k : ℕ) (spent : Spent)
    → Some (unsigned_input hash (input_wallet keys advert l.which (0 + k)) spent)
    ≡ Some (unsigned_input hash (input_wallet keys advert l.which k) spent)
from_zero hash keys advert l k spent =
    let z : 0 + k ≡ k = omega arith in
    ap (λ (n : ℕ). Some (unsigned_input hash (input_wallet keys advert l.which n) spent)) z

pub for_wallets : ForWallets
for_wallets hash keys advert l = record {
  transaction = refl;
  count = as_many hash keys advert l 0 l.pending.spends;
  wallets = λ k spent script e h.
      let r = brought hash keys advert l k script h in
      unsigned_at hash keys advert l 0 k l.pending.spends spent e
      ∙ (from_zero hash keys advert l k spent ∙ ap (λ (w : Option Wallet). Some (unsigned_input hash w spent)) r.1);
  keyed = λ k spent e none.
      unsigned_at hash keys advert l 0 k l.pending.spends spent e
      ∙ (from_zero hash keys advert l k spent ∙ ap (λ (w : Option Wallet). Some (unsigned_input hash w spent)) (unbrought hash keys advert l k none));
}
