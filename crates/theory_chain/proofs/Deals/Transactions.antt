-- The transactions of a deal by name: what each spends, and what its outputs are.
use Rattle.std.proofs.Common.{◌≡◌, ℕ, zero, suc, ◌+◌, ◌-◌, List, [], ◌∷◌, ◌++◌, length, take, true, Option, Some, None}
use Rattle.std.proofs.Common.{refl, sym, ap, subst, ◌∙◌, arith, length-append}
use Rattle.std.specs.Prelude.{slice_get}
use Rattle.std.specs.Option.{option_map, option_and_then}
use Rattle.spec_terms.specs.Term as term
use Rattle.spec_terms.specs.Term.{Contract, branches, Parts, no_part, part, parts_list, auth, after, put_reveal, withdraw, split}
use Rattle.spec_terms.specs.Core.{core}
use Rattle.spec_terms.specs.PathSameness.{path_eq-Decides}
use Rattle.spec_terms.specs.declared.path.PathStep.{PathStep}
use Rattle.spec_terms.specs.declared.path.PathStep.TheVariants.{Branch as To, Part as Into}
use Rattle.spec_bitcoin.specs.declared.tx.OutPoint.{OutPoint}
use Rattle.spec_bitcoin.specs.declared.tx.TxOut.{TxOut}
use Rattle.spec_compiler.specs.declared.unsigned.Unsigned.{Unsigned}
use Rattle.spec_compiler.specs.Keyed.ByPath.{PathEnd, at_position, at_branch, branch_end, continued_end, part_end, next_end, end_at, as_position, as_unsigned, position_at, unsigned_at}
use Rattle.spec_compiler.specs.Keyed.Instance.{Instance, branch_path}
use Rattle.spec_compiler.specs.Keyed.Keys.{Keys}
use Rattle.spec_compiler.specs.Keyed.Transactions.{Standing, output_outpoint, branch_unsigned, part_standing, part_position, part_outputs, root_standing, core_outputs, initial_unsigned}
use Rattle.spec_tool.specs.declared.which.Which.{Which}
use Rattle.spec_tool.specs.declared.which.Which.TheVariants as names
use Rattle.spec_tool.specs.Keyed.Listed.{Listed, path_listed, listed, listed_at, same_which}
use Rattle.spec_deal.specs.declared.transaction.Transaction.{Transaction}
use Rattle.spec_deal.specs.Transactions.{transaction, transactions}
use Rattle.theory_calculus.specs.Members.{Is_in}
use Rattle.theory_script.proofs.Keyed.Stands.{some_same, end_from-step, position_stands}
use Rattle.theory_deal.proofs.Branches.{along}
use Rattle.spec_chain.specs.declared.output.Held.{Held}
use Rattle.spec_chain.specs.declared.output.Held.TheVariants.{Deposit, Position, Payout}
use Rattle.spec_chain.specs.Outputs.{held_by, branch_held, core_held, parts_held, position_of}
use Rattle.theory_chain.proofs.Deals.Whole.{from_map}
use Rattle.theory_chain.proofs.Deals.Positions.{branch_at_path}

module _ (hash : List ℕ → List ℕ) (keys : Keys) (s : Instance) where
  -- ---- the transaction of a path

  -- it is that of a branch of a position
  pub record OfBranch (path : List PathStep) (d : Unsigned) : Type 0 where
    pub here : Standing
    pub choice : Contract
    pub i : ℕ
    pub b : term.Guarded
    pub stands : position_at hash keys s here.position ≡ Some (here, choice)
    pub there : slice_get (branches choice) i ≡ Some b
    pub ends : end_at hash keys s path ≡ Some (at_branch here i b)
    pub is : d ≡ branch_unsigned hash keys s here i b

  -- the position that has the branch
  record HasBranch (here : Standing) (i : ℕ) (b : term.Guarded) : Type 0 where
    choice : Contract
    stands : position_at hash keys s here.position ≡ Some (here, choice)
    there : slice_get (branches choice) i ≡ Some b

  abbrev IfBranch : PathEnd → Type 0
  IfBranch (at_position here choice) = Unit {0}
  IfBranch (at_branch here i b) = HasBranch here i b

  of_position : (prefix : List PathStep) (x : Standing × Contract) (j : ℕ) (r : PathEnd) → position_at hash keys s prefix ≡ Some x
      → branch_end x.0 x.1 j ≡ Some r → IfBranch r
  of_position prefix x j r there e = by_branch (slice_get (branches x.1) j) refl e
    where
      by_branch : (o : Option term.Guarded) → slice_get (branches x.1) j ≡ o → option_map (at_branch x.0 j) o ≡ Some r → IfBranch r
      by_branch None f k = cc
      by_branch (Some b) f k =
          subst IfBranch (some_same k) (record {
            choice = x.1;
            stands = subst (λ (q : List PathStep). position_at hash keys s q ≡ Some x)
                (sym (position_stands hash keys s prefix (x.0) (x.1) there).path) there;
            there = f;
          })

  of_part : (here : Standing) (i k : ℕ) (b c : term.Guarded) (r : PathEnd) → part_end hash keys s here i b k c ≡ Some r → IfBranch r
  of_part here i k b (put_reveal puts reveals test next) r e = cc
  of_part here i k b (withdraw party) r e = cc
  of_part here i k b (auth party body) r e = cc
  of_part here i k b (after height body) r e = cc
  of_part here i k b (split parts) r e = by_part (slice_get (parts_list parts) k) e
    where
      by_part : (o : Option (ℕ × Contract))
          → option_map
          (λ (p : ℕ × Contract).
          at_position (part_standing hash keys s (branch_path here.position i) (branch_unsigned hash keys s here i b) k p.0 p.1) p.1)
          o ≡ Some r
          → IfBranch r
      by_part None x = cc
      by_part (Some p) x = subst IfBranch (some_same x) tt

  next_branch : (prefix : List PathStep) (step : PathStep) (p r : PathEnd) → end_at hash keys s prefix ≡ Some p
      → next_end hash keys s step p ≡ Some r → IfBranch r
  next_branch prefix (To j) (at_position here choice) r there e =
      of_position prefix (here, choice) j r (ap (option_and_then (as_position hash keys s)) there) e
  next_branch prefix (To j) (at_branch here i b) r there e =
      by_continued (continued_end hash keys s here i b (core b)) (ap (option_and_then (as_position hash keys s)) there) e
    where
      by_continued : (o : Option (Standing × Contract)) → position_at hash keys s prefix ≡ o
          → option_and_then (λ (x : Standing × Contract). branch_end x.0 x.1 j) o ≡ Some r → IfBranch r
      by_continued None k f = cc
      by_continued (Some x) k f = of_position prefix x j r k f
  next_branch prefix (Into k) (at_position here choice) r there e = cc
  next_branch prefix (Into k) (at_branch here i b) r there e = of_part here i k b (core b) r e

  has_branch : (path : List PathStep) (here : Standing) (i : ℕ) (b : term.Guarded) → end_at hash keys s path ≡ Some (at_branch here i b)
      → HasBranch here i b
  has_branch path here i b e =
      along hash keys s IfBranch (λ prefix step p r there now is. next_branch prefix step p r there is)
      [] path (at_position (root_standing hash keys s) s.advert.root) (at_branch here i b) refl tt e

  pub of_branch : (path : List PathStep) (d : Unsigned) → unsigned_at hash keys s path ≡ Some d → OfBranch path d
  of_branch path d e = by_end (end_at hash keys s path) refl e
    where
      by_end : (o : Option PathEnd) → end_at hash keys s path ≡ o → option_and_then (as_unsigned hash keys s) o ≡ Some d → OfBranch path d
      by_end None k f = cc
      by_end (Some (at_position here choice)) k f = cc
      by_end (Some (at_branch here i b)) k f =
          let h = has_branch path here i b k in
          record {
            here = here;
            choice = h.choice;
            i = i;
            b = b;
            stands = h.stands;
            there = h.there;
            ends = k;
            is = sym (some_same f);
          }

  pub named_path : (path : List PathStep) (l : Listed) → listed_at hash keys s (names.At path) ≡ Some l
      → (d : Unsigned) × (unsigned_at hash keys s path ≡ Some d) × (l ≡ path_listed s path d)
  named_path path l e = by_pending (unsigned_at hash keys s path) refl e
    where
      by_pending : (o : Option Unsigned) → unsigned_at hash keys s path ≡ o → option_map (path_listed s path) o ≡ Some l
          → (d : Unsigned) × (unsigned_at hash keys s path ≡ Some d) × (l ≡ path_listed s path d)
      by_pending None k f = cc
      by_pending (Some d) k f = (d, k, sym (some_same f))

  -- ---- what its outputs are

  -- a position's output lies where the position stands, and is worth the same
  pub record IsPosition (q : List PathStep) (place : OutPoint) (value : ℕ) : Type 0 where
    pub here : Standing
    pub choice : Contract
    pub stands : position_at hash keys s q ≡ Some (here, choice)
    pub place_is : here.output.outpoint ≡ place
    pub value_is : here.output.value ≡ value

  abbrev pub IsHeld : Held → OutPoint → ℕ → Type 0
  IsHeld (Deposit name) place value = ⊥
  IsHeld (Position path) place value = IsPosition path place value
  IsHeld (Payout party) place value = Unit {0}

  part_held : (path : List PathStep) (j k : ℕ) (ps : Parts) (h : Held) → slice_get (parts_held path j ps) k ≡ Some h
      → (p : ℕ × Contract) × (slice_get (parts_list ps) k ≡ Some p) × (h ≡ Position (part_position path (k + j)))
  part_held path j k no_part h e = cc
  part_held path j zero (part v c ps) h e =
      let z : j ≡ 0 + j = omega arith in
      ((v, c), refl, sym (some_same e) ∙ ap (λ (n : ℕ). Position (part_position path n)) z)
  part_held path j (suc k) (part v c ps) h e =
      let z : k + (j + 1) ≡ suc k + j = omega arith in
      let r = part_held path (j + 1) k ps h e in
      (r.0, r.1, r.2 ∙ ap (λ (n : ℕ). Position (part_position path n)) z)

  part_value : (path : List PathStep) (j k : ℕ) (ps : Parts) (p : ℕ × Contract) (o : TxOut) → slice_get (parts_list ps) k ≡ Some p
      → slice_get (part_outputs hash keys s path j ps) k ≡ Some o → o.value ≡ p.0
  part_value path j k no_part p o e f = cc
  part_value path j zero (part v c ps) p o e f =
      ap (λ (x : TxOut). x.value) (sym (some_same f)) ∙ ap (λ (x : ℕ × Contract). x.0) (some_same {X = ℕ × Contract} e)
  part_value path j (suc k) (part v c ps) p o e f = part_value path (j + 1) k ps p o e f

  only_one : {X : Type 0} (x y : X) (k : ℕ) → slice_get (x ∷ []) k ≡ Some y → (k ≡ 0) × (y ≡ x)
  only_one x y zero e = (refl, sym (some_same e))
  only_one x y (suc k) e = cc

  branch_output : (path : List PathStep) (h : Standing) (i k : ℕ) (b c : term.Guarded) (held : Held) (o : TxOut) → core b ≡ c
      → end_at hash keys s path ≡ Some (at_branch h i b) → slice_get (core_held path c) k ≡ Some held
      → slice_get (core_outputs hash keys s (branch_path h.position i) h.output.value c) k ≡ Some o
      → IsHeld held (output_outpoint hash (branch_unsigned hash keys s h i b) k) o.value
  branch_output path h i k b (withdraw party) held o is ends e f =
      subst (λ (x : Held). IsHeld x (output_outpoint hash (branch_unsigned hash keys s h i b) k) o.value) (sym (only_one (Payout party) held k e).1) tt
  branch_output path h i k b (auth party body) held o is ends e f = cc
  branch_output path h i k b (after height body) held o is ends e f = cc
  branch_output path h i k b (put_reveal puts reveals test next) held o is ends e f =
      let a = only_one (Position path) held k e in
      let v = only_one _ o k f in
      subst (λ (x : Held). IsHeld x (output_outpoint hash (branch_unsigned hash keys s h i b) k) o.value) (sym a.1) (record {
        here = _;
        choice = next;
        stands =
            ap (option_and_then (as_position hash keys s)) ends
            ∙ ap (continued_end hash keys s h i b) is;
        place_is = ap (output_outpoint hash (branch_unsigned hash keys s h i b)) (sym a.0);
        value_is = ap (λ (x : TxOut). x.value) (sym v.1);
      })
  branch_output path h i k b (split parts) held o is ends e f =
      let r = part_held path 0 k parts held e in
      let z : k + 0 ≡ k = omega arith in
      let at_part : end_at hash keys s (part_position path k)
      ≡ Some (at_position (part_standing hash keys s (branch_path h.position i) (branch_unsigned hash keys s h i b) k r.0.0 r.0.1) r.0.1) =
      end_from-step hash keys s (at_position (root_standing hash keys s) s.advert.root) path (Into k)
      ∙ ap (option_and_then (next_end hash keys s (Into k))) ends
      ∙ ap (part_end hash keys s h i b k) is
      ∙ ap
      (option_map
      (λ (p : ℕ × Contract).
      at_position (part_standing hash keys s (branch_path h.position i) (branch_unsigned hash keys s h i b) k p.0 p.1) p.1)) r.1 in
      subst (λ (x : Held). IsHeld x (output_outpoint hash (branch_unsigned hash keys s h i b) k) o.value)
      (sym (r.2 ∙ ap (λ (n : ℕ). Position (part_position path n)) z)) (record {
        here = part_standing hash keys s (branch_path h.position i) (branch_unsigned hash keys s h i b) k r.0.0 r.0.1;
        choice = r.0.1;
        stands = ap (option_and_then (as_position hash keys s)) at_part;
        place_is = refl;
        value_is = sym (part_value (branch_path h.position i) 0 k parts r.0 o r.1 f);
      })

  -- what output k of a transaction is
  pub output_is : (which : Which) (l : Listed) (k : ℕ) (held : Held) (o : TxOut) → listed_at hash keys s which ≡ Some l
      → slice_get (held_by s.advert which) k ≡ Some held → slice_get l.pending.outputs k ≡ Some o
      → IsHeld held (output_outpoint hash l.pending k) o.value
  output_is names.Init l k held o there e f =
      let a = only_one (Position []) held k e in
      let pending : initial_unsigned hash keys s ≡ l.pending = ap (λ (x : Listed). x.pending) (some_same there) in
      let v = only_one _ o k (ap (λ (d : Unsigned). slice_get d.outputs k) pending ∙ f) in
      subst (λ (x : Held). IsHeld x (output_outpoint hash l.pending k) o.value) (sym a.1) (record {
        here = root_standing hash keys s;
        choice = s.advert.root;
        stands = refl;
        place_is = λ i. output_outpoint hash (pending i) (sym a.0 i);
        value_is = ap (λ (x : TxOut). x.value) (sym v.1);
      })
  output_is (names.At path) l k held o there e f =
      let n = named_path path l there in
      let r = of_branch path n.0 n.1 in
      let pending : branch_unsigned hash keys s r.here r.i r.b ≡ l.pending = sym r.is ∙ ap (λ (x : Listed). x.pending) (sym n.2) in
      subst (λ (d : Unsigned). IsHeld held (output_outpoint hash d k) o.value) pending
      (branch_output path r.here r.i k r.b (core r.b) held o refl r.ends
      (ap (λ (x : Option term.Guarded). slice_get (branch_held path x) k) (sym (branch_at_path hash keys s path r.here r.i r.b r.ends)) ∙ e)
      (ap (λ (d : Unsigned). slice_get d.outputs k) pending ∙ f))

  -- ---- transactions by name

  pub same_name : (a b : Which) → same_which a b ≡ true → a ≡ b
  same_name names.Init names.Init e = refl
  same_name names.Init (names.At path) e = cc
  same_name (names.At path) names.Init e = cc
  same_name (names.At path) (names.At other) e = ap names.At ((path_eq-Decides path other).0 e)

  -- a transaction among them is one that is listed
  pub in_listed : (t : Transaction) → Is_in t (transactions hash keys s) → (l : Listed) × Is_in l (listed hash keys s) × (t ≡ transaction hash keys s.advert l)
  in_listed t h = from_map (transaction hash keys s.advert) (listed hash keys s) t h

-- the position of a branch's path
pub position_before : (q : List PathStep) (i : ℕ) → position_of (branch_path q i) ≡ q
position_before q i = prefix q
  where
    prefix : (xs : List PathStep) → take (length (xs ++ To i ∷ []) - 1) (xs ++ To i ∷ []) ≡ xs
    prefix [] = refl
    prefix (x ∷ xs) =
        let n = length-append xs (To i ∷ []) in
        let e : length (x ∷ (xs ++ To i ∷ [])) - 1 ≡ suc (length (xs ++ To i ∷ []) - 1) = omega (arith, n) in
        ap (λ (m : ℕ). take m (x ∷ (xs ++ To i ∷ []))) e ∙ ap (λ (ys : List PathStep). x ∷ ys) (prefix xs)
