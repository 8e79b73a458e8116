-- The output of a position is made by one of the contract's own transactions, and where none of these makes a deposit, none lies there.
use Rattle.std.proofs.Common.{◌≡◌, ℕ, List, [], ◌∷◌, Bool, true, false, Option, Some, None, refl, sym, ap, ◌∙◌, subst, inl, inr}
use Rattle.std.specs.Prelude.{slice_get, ◌||◌}
use Rattle.std.specs.List.{list_any}
use Rattle.std.specs.Option.{option_map, option_and_then}
use Rattle.std.specs.Str.{bytes_eq}
use Rattle.std.proofs.lemmas.Bool.{both_ways}
use Rattle.spec_terms.specs.Term as term
use Rattle.spec_terms.specs.Term.{Contract, branches, parts_list, auth, after, put_reveal, withdraw, split}
use Rattle.spec_terms.specs.Core.{core}
use Rattle.spec_terms.specs.declared.path.PathStep.{PathStep}
use Rattle.spec_terms.specs.declared.path.PathStep.TheVariants.{Branch as To, Part as Into}
use Rattle.spec_bitcoin.specs.declared.tx.OutPoint.{OutPoint}
use Rattle.spec_bitcoin.specs.Digests.{txid}
use Rattle.spec_compiler.specs.Keyed.Keys.{Keys}
use Rattle.spec_compiler.specs.Keyed.Instance.{Instance, branch_path}
use Rattle.spec_compiler.specs.declared.unsigned.Unsigned.{Unsigned}
use Rattle.spec_compiler.specs.Keyed.Transactions.{Standing, tx_of, output_outpoint, branch_unsigned, part_standing, root_standing}
use Rattle.spec_compiler.specs.Keyed.ByPath.{PathEnd, at_position, at_branch, branch_end, continued_end, part_end, next_end, end_at, as_unsigned}
use Rattle.spec_compiler.specs.Keyed.ByPath.{unsigned_at}
use Rattle.spec_tool.specs.declared.which.Which.TheVariants as names
use Rattle.spec_tool.specs.Keyed.Listed.{Listed, initial_listed, path_listed, listed}
use Rattle.spec_deal.specs.Answers.{is_made_here, circular_deposit, circular}
use Rattle.theory_calculus.specs.Members.{Is_in}
use Rattle.theory_calculus.proofs.Names.{bytes_refl}
use Rattle.theory_script.proofs.Keyed.Stands.{some_same}
use Rattle.theory_deal.proofs.Branches.{along}
use Rattle.theory_deal.proofs.ByName.{none_mapped, listed_in}
use Rattle.theory_deal.proofs.FinishedOpens.{first_none}
use Rattle.theory_deal.proofs.Listed.{none_found}

-- what is in a list and passes a test is found
pub any_in : {X : Type 0} (p : X → Bool) (xs : List X) (x : X) → Is_in x xs → p x ≡ true → list_any p xs ≡ true
any_in p [] x i h = absurd i
any_in p (y ∷ xs) x (inl e) h = ap (λ (b : Bool). b || list_any p xs) (sym (ap p e) ∙ h)
any_in p (y ∷ xs) x (inr i) h = by_test (p y) (any_in p xs x i h)
  where
    by_test : (b : Bool) → list_any p xs ≡ true → (b || list_any p xs) ≡ true
    by_test true k = refl
    by_test false k = k

module _ (hash : List ℕ → List ℕ) (keys : Keys) (s : Instance) where
  -- one of the contract's transactions makes what lies there
  pub record IsMade (place : OutPoint) : Type 0 where
    pub by_which : Listed
    pub among : Is_in by_which (listed hash keys s)
    pub id : txid hash (tx_of by_which.pending) ≡ place.txid

  abbrev IfMade : PathEnd → Type 0
  IfMade (at_position here choice) = IsMade here.output.outpoint
  IfMade (at_branch here i b) = IsMade here.output.outpoint

  -- the transaction of a path makes its outputs
  path_makes : (path : List PathStep) (d : Unsigned) (k : ℕ) → unsigned_at hash keys s path ≡ Some d → IsMade (output_outpoint hash d k)
  path_makes path d k e = record {
    by_which = path_listed s path d;
    among = listed_in hash keys s (names.At path) (path_listed s path d) (ap (option_map (path_listed s path)) e);
    id = refl;
  }

  from_branch_end : (here : Standing) (choice : Contract) (j : ℕ) (r : PathEnd) → IsMade here.output.outpoint
      → branch_end here choice j ≡ Some r → IfMade r
  from_branch_end here choice j r made e = by_branch (slice_get (branches choice) j) e
    where
      by_branch : (o : Option term.Guarded) → option_map (at_branch here j) o ≡ Some r → IfMade r
      by_branch None k = cc
      by_branch (Some b) k = subst IfMade (some_same k) made

  from_continued : (prefix : List PathStep) (here : Standing) (i : ℕ) (b c : term.Guarded) (p : Standing × Contract)
      → unsigned_at hash keys s prefix ≡ Some (branch_unsigned hash keys s here i b) → continued_end hash keys s here i b c ≡ Some p
      → IsMade p.0.output.outpoint
  from_continued prefix here i b (put_reveal puts reveals test next) p there e =
      subst (λ (q : Standing × Contract). IsMade q.0.output.outpoint) (some_same e)
      (path_makes prefix (branch_unsigned hash keys s here i b) 0 there)
  from_continued prefix here i b (withdraw party) p there e = cc
  from_continued prefix here i b (split parts) p there e = cc
  from_continued prefix here i b (auth party body) p there e = cc
  from_continued prefix here i b (after height body) p there e = cc

  from_part : (prefix : List PathStep) (here : Standing) (i k : ℕ) (b c : term.Guarded) (r : PathEnd)
      → unsigned_at hash keys s prefix ≡ Some (branch_unsigned hash keys s here i b) → part_end hash keys s here i b k c ≡ Some r → IfMade r
  from_part prefix here i k b (put_reveal puts reveals test next) r there e = cc
  from_part prefix here i k b (withdraw party) r there e = cc
  from_part prefix here i k b (auth party body) r there e = cc
  from_part prefix here i k b (after height body) r there e = cc
  from_part prefix here i k b (split parts) r there e = by_part (slice_get (parts_list parts) k) e
    where
      by_part : (o : Option (ℕ × Contract))
          → option_map
          (λ (p : ℕ × Contract).
          at_position (part_standing hash keys s (branch_path here.position i) (branch_unsigned hash keys s here i b) k p.0 p.1) p.1)
          o ≡ Some r
          → IfMade r
      by_part None x = cc
      by_part (Some p) x = subst IfMade (some_same x) (path_makes prefix (branch_unsigned hash keys s here i b) k there)

  next_made : (prefix : List PathStep) (step : PathStep) (p r : PathEnd) → end_at hash keys s prefix ≡ Some p → IfMade p
      → next_end hash keys s step p ≡ Some r → IfMade r
  next_made prefix (To j) (at_position here choice) r there made e = from_branch_end here choice j r made e
  next_made prefix (Into k) (at_position here choice) r there made e = cc
  next_made prefix (Into k) (at_branch here i b) r there made e =
      from_part prefix here i k b (core b) r (ap (option_and_then (as_unsigned hash keys s)) there) e
  next_made prefix (To j) (at_branch here i b) r there made e = by_continued (continued_end hash keys s here i b (core b)) refl e
    where
      by_continued : (o : Option (Standing × Contract)) → continued_end hash keys s here i b (core b) ≡ o
          → option_and_then (λ (p : Standing × Contract). branch_end p.0 p.1 j) o ≡ Some r → IfMade r
      by_continued None is k = cc
      by_continued (Some p) is k =
          from_branch_end (p.0) (p.1) j r
          (from_continued prefix here i b (core b) p (ap (option_and_then (as_unsigned hash keys s)) there) is) k

  -- the output of the position of a branch
  pub position_made : (path : List PathStep) (here : Standing) (i : ℕ) (b : term.Guarded)
      → end_at hash keys s path ≡ Some (at_branch here i b) → IsMade here.output.outpoint
  position_made path here i b e =
      along hash keys s IfMade next_made [] path (at_position (root_standing hash keys s) s.advert.root) (at_branch here i b) refl
      (record { by_which = initial_listed hash keys s; among = inl refl; id = refl }) e

  -- no deposit lies there
  pub no_deposit_made : (p : List ℕ × OutPoint) → circular hash keys s ≡ None → Is_in p s.bound → IsMade p.1 → ⊥
  no_deposit_made p none i made =
      let unmade = none_found (λ (q : List ℕ × OutPoint). is_made_here hash keys s (q.1)) s.bound p
      (none_mapped (λ (q : List ℕ × OutPoint). q.0) _ (first_none (circular_deposit hash keys s) _ none)) i in
      both_ways _ unmade
      (any_in (λ (l : Listed). bytes_eq (txid hash (tx_of l.pending)) p.1.txid) (listed hash keys s) made.by_which made.among
      (ap (λ x. bytes_eq x p.1.txid) made.id ∙ bytes_refl p.1.txid))
