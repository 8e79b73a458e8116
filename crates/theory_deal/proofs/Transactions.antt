-- The transactions of a deal are those of its contract, in the order of the text, and keep its money.
use Rattle.std.proofs.Common.{◌≡◌, ℕ, List, [], ◌∷◌, ◌++◌, map, Option, Some, None, refl, sym, ap, subst, ◌∙◌, inl, inr}
use Rattle.std.specs.Prelude.{filter}
use Rattle.std.specs.List.{flat_map}
use Rattle.std.specs.Option.{option_map}
use Rattle.spec_terms.specs.Faults.{IsWellFormed}
use Rattle.spec_terms.specs.declared.path.PathStep.{PathStep}
use Rattle.spec_bitcoin.specs.declared.label.Label.{Label}
use Rattle.spec_compiler.specs.Keyed.OwnScripts.{OwnScripts}
use Rattle.spec_compiler.specs.Keyed.Keys.{Keys, given}
use Rattle.spec_compiler.specs.Keyed.Hashed.{key_strings, unsigned_strings}
use Rattle.spec_compiler.specs.Keyed.Instance.{Instance, people}
use Rattle.spec_compiler.specs.declared.unsigned.Unsigned.{Unsigned}
use Rattle.spec_compiler.specs.declared.prepared.Prepared.{Prepared}
use Rattle.spec_compiler.specs.Keyed.Transactions.{party_script, prepared, initial_unsigned}
use Rattle.spec_compiler.specs.Keyed.Compilation.{path_transactions, scripts}
use Rattle.spec_compiler.specs.Keyed.ByPath.{unsigned_at}
use Rattle.spec_tool.specs.declared.which.Which.{Which}
use Rattle.spec_tool.specs.declared.which.Which.TheVariants as names
use Rattle.spec_tool.specs.Keyed.Listed.{Listed, path_listed, listed, listed_at}
use Rattle.spec_deal.specs.Used.{uses_key}
use Rattle.theory_calculus.specs.Members.{Is_in}
use Rattle.theory_calculus.proofs.Members.{in_from_contains, contains_from_in}
use Rattle.theory_script.specs.Keyed.Listed.{PathsInOrder}
use Rattle.theory_script.specs.Keyed.Money.{IsKept}
use Rattle.theory_script.proofs.Keyed.Money.{initial_kept, paths_kept}
use Rattle.theory_script.proofs.Keyed.Transactions.{AreRight, transactions_right}
use Rattle.theory_deal.proofs.ByName.{listed_in}
use Rattle.theory_deal.specs.Transactions.{TransactionsOfDeals, DealsHash}

some_same : {A : Type 0} {a b : A} → Some a ≡ Some b → a ≡ b
some_same e = cc

module _ (hash : List ℕ → List ℕ) (keys : Keys) (s : Instance) where
  abbrev of_paths : List (List PathStep × Unsigned) → List Listed
  of_paths es = map (λ p. path_listed s (p.0) (p.1)) es

  path_names : (es : List (List PathStep × Unsigned))
      → map (λ (l : Listed). l.which) (of_paths es)
      ≡ map names.At (map (λ p. p.0) (map {B = List PathStep × Prepared} (λ p. (p.0, prepared hash p.1)) es))
  path_names [] = refl
  path_names (e ∷ es) = ap (λ (x : List Which). names.At (e.0) ∷ x) (path_names es)

  in_paths : (es : List (List PathStep × Unsigned)) (l : Listed) → AreRight (unsigned_at hash keys s) es → Is_in l (of_paths es)
      → listed_at hash keys s l.which ≡ Some l
  in_paths [] l right h = absurd h
  in_paths (e ∷ es) l right (inl q) =
      subst (λ (x : Listed). listed_at hash keys s x.which ≡ Some x) (sym q) (ap (option_map (path_listed s (e.0))) right.0)
  in_paths (e ∷ es) l right (inr h) = in_paths es l right.1 h

  is_there : (l : Listed) → Is_in l (listed hash keys s) → listed_at hash keys s l.which ≡ Some l
  is_there l (inl q) = subst (λ (x : Listed). listed_at hash keys s x.which ≡ Some x) (sym q) refl
  is_there l (inr h) = in_paths (path_transactions hash keys s) l (transactions_right hash keys s) h

  -- ---- money

  kept : (well : IsWellFormed s.advert) (which : Which) (l : Listed) → listed_at hash keys s which ≡ Some l → IsKept s.advert l.pending
  kept well names.Init l e = subst (λ (x : Listed). IsKept s.advert x.pending) (some_same e) (initial_kept hash keys s well)
  kept well (names.At path) l e = by_pending (unsigned_at hash keys s path) refl e
    where
      by_pending : (o : Option Unsigned) → unsigned_at hash keys s path ≡ o → option_map (path_listed s path) o ≡ Some l
          → IsKept s.advert l.pending
      by_pending None h k = cc
      by_pending (Some d) h k =
          subst (λ (x : Listed). IsKept s.advert x.pending) (some_same k) (paths_kept hash keys s well path d h)

pub transactions_of_deals : PathsInOrder → TransactionsOfDeals
transactions_of_deals in_order hash keys s =
    let order = in_order hash keys s in
    record {
      named =
          ap (λ (x : List Which). names.Init ∷ x)
          (path_names hash keys s (path_transactions hash keys s) ∙ ap (map names.At) order.paths);
      once = order.paths_once;
      each =
          λ l. (
            λ h. is_there hash keys s l (in_from_contains (listed hash keys s) l h),
            λ e. contains_from_in (listed hash keys s) l (listed_in hash keys s l.which l e),
          );
      money =
          λ well l h.
          kept hash keys s well l.which l (is_there hash keys s l (in_from_contains (listed hash keys s) l h));
    }

-- ---- what is hashed

none_hashed : (key_of : Label → List ℕ) (own : OwnScripts) (s : Instance) (es : List (List PathStep × Unsigned))
    → flat_map (λ p. key_strings (given key_of own) s p.0) es ≡ []
none_hashed key_of own s [] = refl
none_hashed key_of own s (e ∷ es) = none_hashed key_of own s es

pub deals_hash : DealsHash
deals_hash hash key_of own s =
    let keys = given key_of own in
    let rest = map (λ p. p.1) (scripts hash keys s) ++ (unsigned_strings hash (initial_unsigned hash keys s)
    ++ flat_map (λ p. unsigned_strings hash p.1) (path_transactions hash keys s)) in
    ap (λ (x : List (List ℕ)). map (party_script hash keys) (filter (uses_key keys s.advert) (people s)) ++ (x ++ rest))
    (sym (none_hashed key_of own s (path_transactions hash keys s)))
