-- Addresses are read back as the scripts beside them, and are shown again.
use Rattle.std.proofs.Common.{◌≡◌, ℕ, List, [], ◌∷◌, true, Option, Some, None, refl, sym, ap, subst, ◌∙◌, inl, inr}
use Rattle.std.specs.Prelude.{◌⊎◌, IsSome}
use Rattle.std.specs.Option.{option_map_or}
use Rattle.std.specs.Str.{str_to_ascii_lowercase}
use Rattle.serde_json.specs.Data.{null}
use Rattle.spec_data.specs.Digits.{hex_text, hex_bytes, read_hex}
use Rattle.spec_data.specs.Lists.{or_else}
use Rattle.spec_address.specs.Address.{is_hrp, is_witness_output, address, read_address}
use Rattle.spec_json.specs.Values.{text_value}
use Rattle.spec_deal.specs.DealText.{address_words, script_words}
use Rattle.spec_deal.specs.FundText.{output_words}
use Rattle.spec_show.specs.Objects.{text_or_null}
use Rattle.spec_show.specs.ShownDeal.{address_data}
use Rattle.theory_address.specs.Addresses.{EachHasAddress, AddressesAreReadBack, ReadExactly, ReadIsShown}
use Rattle.theory_text.proofs.Lines.HexBack.{hex_back}
use Rattle.theory_wallets.specs.Addresses.{ReadsAs, ScriptsAreShown, GivenAreShown, AddressesOfDeals}

some_same : {X : Type 0} {a b : X} → Some a ≡ Some b → a ≡ b
some_same e = cc

heads : {X : Type 0} {a b : X} {xs ys : List X} → a ∷ xs ≡ b ∷ ys → a ≡ b
heads e = cc

tails : {X : Type 0} {a b : X} {xs ys : List X} → a ∷ xs ≡ b ∷ ys → xs ≡ ys
tails e = cc

module _ (each : EachHasAddress) (back : AddressesAreReadBack) (exactly : ReadExactly) (again : ReadIsShown) where
  -- ---- what stands behind the digits

  abbrev OneRead : Option (List ℕ) → List ℕ → List (List ℕ) → Type 0
  OneRead network script more = (more ≡ []) ⊎ ((text : List ℕ) × (more ≡ text ∷ []) × ReadsAs network text script)

  one_address : (network : Option (List ℕ)) (script : List ℕ) → OneRead network script (address_words network script)
  one_address None script = inl refl
  one_address (Some hrp) script = by_address (address hrp script) refl
    where
      by_address : (o : Option (List ℕ)) → address hrp script ≡ o → OneRead (Some hrp) script (option_map_or (λ text. text ∷ []) o [])
      by_address None e = inl refl
      by_address (Some text) e = inr (text, refl, record { hrp = hrp; named = refl; read = back hrp script text e })

  address_there : (hrp script : List ℕ) → is_hrp hrp ≡ true → is_witness_output script ≡ true
      → (text : List ℕ) × (address hrp script ≡ Some text)
  address_there hrp script good output = by_address (address hrp script) (each hrp script good output)
    where
      by_address : (o : Option (List ℕ)) → IsSome o → (text : List ℕ) × (o ≡ Some text)
      by_address None h = cc
      by_address (Some text) h = (text, refl)

  address_shown : (network : Option (List ℕ)) (script : List ℕ) → (address_data network script ≡ null)
      ⊎ ((text : List ℕ) × (address_data network script ≡ text_value text) × ReadsAs network text script)
  address_shown None script = inl refl
  address_shown (Some hrp) script = by_address (address hrp script) refl
    where
      by_address : (o : Option (List ℕ)) → address hrp script ≡ o
          → (text_or_null o ≡ null) ⊎ ((text : List ℕ) × (text_or_null o ≡ text_value text) × ReadsAs (Some hrp) text script)
      by_address None e = inl refl
      by_address (Some text) e = inr (text, refl, record { hrp = hrp; named = refl; read = back hrp script text e })

  scripts_shown : ScriptsAreShown
  scripts_shown network script = record {
    digits = λ first more e.
        let same = sym (heads e) in
        (same, λ bytes. ap hex_bytes same ∙ hex_back script bytes);
    address = λ first more e. subst (OneRead network script) (tails e) (one_address network script);
    each = λ hrp named good output.
        let r = address_there hrp script good output in
        (r.0, ap (λ o. script_words o script) named ∙ ap (λ o. hex_text script ∷ option_map_or (λ text. text ∷ []) o []) r.1);
    member = address_shown network script;
  }

  -- ---- what is shown of a file

  funds_shown : (network known : Option (List ℕ)) (first text : List ℕ) → output_words network known ≡ first ∷ text ∷ []
      → (script : List ℕ) × (known ≡ Some script) × (first ≡ hex_text script) × ReadsAs network text script
  funds_shown network None first text e = cc
  funds_shown network (Some script) first text e = by_more (address_words network script) (one_address network script) e
    where
      by_more : (more : List (List ℕ)) → OneRead network script more → hex_text script ∷ more ≡ first ∷ text ∷ []
          → (known : List ℕ) × (Some script ≡ Some known) × (first ≡ hex_text known) × ReadsAs network text known
      by_more more (inl none) e' = let bad : [] ≡ text ∷ [] = sym none ∙ tails e' in cc
      by_more more (inr r) e' =
          let same : r.0 ≡ text = heads (sym r.1 ∙ tails e') in
          (script, refl, sym (heads e'), subst (λ x. ReadsAs network x script) same r.2)

  given_shown : GivenAreShown
  given_shown hrp word script good e = by_digits (read_hex word) refl e
    where
      by_digits : (o : Option (List ℕ)) → read_hex word ≡ o → or_else o (read_address hrp word) ≡ Some script
          → (read_hex word ≡ Some script) ⊎ (script_words (Some hrp) script ≡ hex_text script ∷ str_to_ascii_lowercase word ∷ [])
      by_digits (Some bytes) is h = inl (is ∙ h)
      by_digits None is h =
          let shown = again hrp word script good ((exactly hrp word script).0 h) in
          inr (ap (λ o. hex_text script ∷ option_map_or (λ text. text ∷ []) o []) shown)

  pub addresses_of_deals : AddressesOfDeals
  addresses_of_deals = record { shown = scripts_shown; funds = record { known = λ network script. refl; read = funds_shown }; given = given_shown }
