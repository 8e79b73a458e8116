-- What the transaction of a path spends: the output of its position, and deposits. So its weight is one of sizes.
use Rattle.std.proofs.Common.{◌≡◌, ℕ, suc, ◌-◌, ◌*◌, List, [], ◌∷◌, ◌++◌, length, map, true, false, Option, Some, None, refl, sym, ap, ◌∙◌, arith, length-append}
use Rattle.std.specs.Prelude.{slice_get, ◌||◌, nat_lt, if◌then◌else◌}
use Rattle.std.specs.Option.{option_map, option_map_or, option_and_then}
use Rattle.std.specs.List.{flat_map}
use Rattle.std.proofs.lemmas.Bool.Decides.{nat_tests}
use Rattle.std.proofs.lemmas.List.Concat.{flat_map-cons}
use Rattle.spec_terms.specs.Term as term
use Rattle.spec_terms.specs.Term.{Contract, branches}
use Rattle.spec_terms.specs.Core.{core, puts_of}
use Rattle.spec_terms.specs.Parties.{participants}
use Rattle.spec_terms.specs.Precondition.{Holding, persistent}
use Rattle.spec_terms.specs.declared.path.PathStep.{PathStep}
use Rattle.spec_terms.specs.declared.path.PathStep.TheVariants.{Branch as To, Part as Into}
use Rattle.spec_bitcoin.specs.declared.tx.TxIn.{TxIn}
use Rattle.spec_bitcoin.specs.Spelling.{witness_bytes, witnesses_bytes, is_filled, is_marked}
use Rattle.spec_compiler.specs.Instance.{Instance, deposit_key}
use Rattle.spec_compiler.specs.Statements.{IsHash}
use Rattle.spec_compiler.specs.Witness.{witness_of, witness_stack}
use Rattle.spec_compiler.specs.declared.unsigned.Spent.{Spent}
use Rattle.spec_compiler.specs.declared.unsigned.Unsigned.{Unsigned}
use Rattle.spec_compiler.specs.Transactions.{Standing, tx_of, input_of, party_script, put_deposits, deposit, branch_unsigned, initial_unsigned, root_standing}
use Rattle.spec_compiler.specs.ByPath.{PathEnd, at_position, at_branch, branch_end, continued_end, part_end, next_end, end_at, as_position, as_unsigned, position_at, unsigned_at}
use Rattle.spec_run.specs.Firing.{witnessed}
use Rattle.spec_tool.specs.Weights.{initial_weight, weight_with, any_signatures, any_secrets, any_full, deposits_full, branch_full, last_branch, position_of, choices_at, reveal_count}
use Rattle.theory_script.proofs.Listing.Stands.{some_same, end_from-step}
use Rattle.theory_weights.specs.Sizes.{marked_weight, branch_bytes, deposit_bytes, script_size, bare_size, path_sized, initial_sized, WeightsBySizes}
use Rattle.theory_weights.proofs.Sized.{AreDeposits, witness_sized, deposits_sized, marked_weighs, bare_weighs}

-- ---- deposits

deposit_long : (hash : List ℕ → List ℕ) → IsHash hash → (party : List ℕ) → length (party_script hash party) ≡ 35
deposit_long hash size party =
    let k : length (deposit_key hash party) ≡ 33 = ap suc (size _) in
    let a = length-append (deposit_key hash party) (0xac ∷ []) in
    omega (arith, k, a)

are_deposits : {A : Type 0} (hash : List ℕ → List ℕ) → IsHash hash → (s : Instance) (name : A → List ℕ) (h : A → Holding) (xs : List A)
    → AreDeposits (map (λ x. deposit hash s (name x) (h x)) xs)
are_deposits hash size s name h [] = tt
are_deposits hash size s name h (x ∷ xs) = (deposit_long hash size (h x).owner, are_deposits hash size s name h xs)

-- ---- the position of a path

-- a branch stands at a position that is one step up
record StandsUnder (hash : List ℕ → List ℕ) (s : Instance) (path : List PathStep) (here : Standing) : Type 0 where
  pub contract : Contract
  pub position : position_at hash s (position_of path) ≡ Some (here, contract)

-- a path's last step
record LastStep (path : List PathStep) : Type 0 where
  pub step : PathStep
  pub is : path ≡ position_of path ++ step ∷ []

last_step_of : (x : PathStep) (xs : List PathStep) → LastStep (x ∷ xs)
last_step_of x [] = record { step = x; is = refl }
last_step_of x (y ∷ ys) = let r = last_step_of y ys in record { step = r.step; is = ap (λ zs. x ∷ zs) r.is }

-- it is this position, with its branches
abbrev IsUp : Standing → Option (Standing × Contract) → Type 0
IsUp here o = (c : Contract) × (o ≡ Some (here, c))

module _ (hash : List ℕ → List ℕ) (s : Instance) where
  one_up : (here : Standing) (i : ℕ) (b : term.Guarded) (step : PathStep) (end : PathEnd) → next_end hash s step end ≡ Some (at_branch here i b)
      → IsUp here (as_position hash s end)
  one_up here i b (To j) (at_position h c) e = by_branch (slice_get (branches c) j) e
    where
      by_branch : (o : Option term.Guarded) → option_map (at_branch h j) o ≡ Some (at_branch here i b) → IsUp here (Some (h, c))
      by_branch None q = cc
      by_branch (Some b') q = let z : h ≡ here = cc in (c, ap (λ (x : Standing). Some (x, c)) z)
  one_up here i b (Into k) (at_position h c) e = cc
  one_up here i b (To j) (at_branch h n w) e = by_next (continued_end hash s h n w (core w)) e
    where
      by_branch : (h' : Standing) (c : Contract) (o : Option term.Guarded) → option_map (at_branch h' j) o ≡ Some (at_branch here i b)
          → IsUp here (Some (h', c))
      by_branch h' c None q = cc
      by_branch h' c (Some b') q = let z : h' ≡ here = cc in (c, ap (λ (x : Standing). Some (x, c)) z)

      by_next : (o : Option (Standing × Contract)) → option_and_then (λ (p : Standing × Contract). branch_end p.0 p.1 j) o ≡ Some (at_branch here i b)
          → IsUp here o
      by_next None q = cc
      by_next (Some p) q = by_branch p.0 p.1 (slice_get (branches p.1) j) q
  one_up here i b (Into k) (at_branch h n w) e = by_core (core w) e
    where
      by_part : (o : Option (ℕ × Contract)) (f : ℕ × Contract → Standing) → option_map (λ (p : ℕ × Contract). at_position (f p) p.1) o
          ≡ Some (at_branch here i b) → ⊥
      by_part None f q = cc
      by_part (Some p) f q = cc

      by_core : (c : term.Guarded) → part_end hash s h n w k c ≡ Some (at_branch here i b) → IsUp here (continued_end hash s h n w (core w))
      by_core (term.put_reveal puts reveals test next) q = cc
      by_core (term.withdraw party) q = cc
      by_core (term.split parts) q = absurd (by_part (slice_get (term.parts_list parts) k) _ q)
      by_core (term.auth party body) q = cc
      by_core (term.after height body) q = cc

  stands_under : (path : List PathStep) (here : Standing) (i : ℕ) (b : term.Guarded) → end_at hash s path ≡ Some (at_branch here i b)
      → StandsUnder hash s path here
  stands_under [] here i b h = cc
  stands_under (x ∷ xs) here i b h = by_end (end_at hash s q) refl further
    where
      l : LastStep (x ∷ xs)
      l = last_step_of x xs

      q : List PathStep
      q = position_of (x ∷ xs)

      further : option_and_then (next_end hash s l.step) (end_at hash s q) ≡ Some (at_branch here i b)
      further = sym (end_from-step hash s (at_position (root_standing hash s) s.advert.root) q l.step) ∙ sym (ap (end_at hash s) l.is) ∙ h

      by_end : (o : Option PathEnd) → end_at hash s q ≡ o → option_and_then (next_end hash s l.step) o ≡ Some (at_branch here i b)
          → StandsUnder hash s (x ∷ xs) here
      by_end None e k = cc
      by_end (Some end) e k =
          let r = one_up here i b l.step end k in
          record { contract = r.0; position = ap (option_and_then (as_position hash s)) e ∙ r.1 }

-- ---- what a path's transaction spends

record SpendsOf (hash : List ℕ → List ℕ) (s : Instance) (path : List PathStep) (d : Unsigned) : Type 0 where
  pub first : Spent
  pub rest : List Spent
  pub is : d.spends ≡ first ∷ rest
  pub script : script_size hash s (position_of path) ≡ length first.script
  pub deposits : AreDeposits rest

spends_of : (hash : List ℕ → List ℕ) → IsHash hash → (s : Instance) (path : List PathStep) (d : Unsigned) → unsigned_at hash s path ≡ Some d
    → SpendsOf hash s path d
spends_of hash size s path d h = by_end (end_at hash s path) refl h
  where
    by_end : (o : Option PathEnd) → end_at hash s path ≡ o → option_and_then (as_unsigned hash s) o ≡ Some d → SpendsOf hash s path d
    by_end None e k = cc
    by_end (Some (at_position here contract)) e k = cc
    by_end (Some (at_branch here i b)) e k =
        let under = stands_under hash s path here i b e in
        let same : branch_unsigned hash s here i b ≡ d = some_same k in
        record {
          first = here.output;
          rest = put_deposits hash s (puts_of (core b));
          is = ap (λ (x : Unsigned). x.spends) (sym same);
          script = ap (λ o. option_map_or (λ (p : Standing × Contract). length (p.0.output.script)) o 0) under.position;
          deposits = are_deposits hash size s _ _ (puts_of (core b));
        }

-- ---- weights

filled_end : (xs : List (List ℕ)) (y : List ℕ) → is_filled (xs ++ y ∷ []) ≡ true
filled_end [] y = refl
filled_end (x ∷ xs) y = refl

path_is_sized : (hash : List ℕ → List ℕ) → IsHash hash → (s : Instance) (path : List PathStep) (d : Unsigned) → unsigned_at hash s path ≡ Some d
    → (size : ℕ) → weight_with s.advert path size d ≡ path_sized hash s path size d
path_is_sized hash size_is s path d h size =
    let sp = spends_of hash size_is s path d h in
    let people = length (participants s.advert) in
    let n = length sp.rest in
    let script = sp.first.script in
    let w = witness_of (any_signatures people) (any_secrets s.advert path size) (last_branch path) (choices_at s.advert path) script in
    let others = deposits_full (any_signatures (suc n)) sp.rest in
    let count : length d.spends ≡ suc n = ap length sp.is in
    let f : TxIn → List ℕ = λ i. witness_bytes i.witness in
    let after = witnessed (map input_of sp.rest) others in
    let full : witnessed (tx_of d).inputs (any_full s.advert path size d) ≡ record (input_of sp.first) { witness = w } ∷ after =
    (λ j. witnessed (map input_of (sp.is j)) (branch_by (count j) (sp.is j))) in
    let marked : is_marked (witnessed (tx_of d).inputs (any_full s.advert path size d)) ≡ true =
    ap is_marked full ∙ ap (λ b. b || is_marked after) (filled_end (witness_stack (any_signatures people) (any_secrets s.advert path size) (last_branch path) (choices_at s.advert path)) script) in
    let a = marked_weighs (tx_of d) (any_full s.advert path size d) marked in
    let b = ap (λ is. length (witnesses_bytes is)) full in
    let c = ap length (flat_map-cons f (record (input_of sp.first) { witness = w }) after) in
    let e = length-append (witness_bytes w) (flat_map f after) in
    let g = witness_sized people (reveal_count s.advert path) size (last_branch path) (choices_at s.advert path) script in
    let k = deposits_sized (suc n) sp.rest (omega arith) sp.deposits in
    let t : branch_bytes people (reveal_count s.advert path) size (last_branch path) (choices_at s.advert path) (script_size hash s (position_of path))
    ≡ branch_bytes people (reveal_count s.advert path) size (last_branch path) (choices_at s.advert path) (length script) =
    ap (λ x. branch_bytes people (reveal_count s.advert path) size (last_branch path) (choices_at s.advert path) x) sp.script in
    let r : (length d.spends - 1) * deposit_bytes ≡ n * deposit_bytes = ap (λ m. (m - 1) * deposit_bytes) count ∙ ap (λ m. m * deposit_bytes) (omega arith) in
    omega (arith, a, b, c, e, g, k, t, r)
  where
    branch_by : ℕ → List Spent → List (List (List ℕ))
    branch_by m spends = branch_full s.advert path (any_signatures (length (participants s.advert))) (any_secrets s.advert path size) (any_signatures m) spends

initial_is_sized : (d : Unsigned) → AreDeposits d.spends → initial_weight d ≡ initial_sized (bare_size d) (length d.spends)
initial_is_sized d h = by_spends d.spends refl
  where
    ws : List (List (List ℕ))
    ws = deposits_full (any_signatures (length d.spends)) d.spends

    by_spends : (spends : List Spent) → d.spends ≡ spends → initial_weight d ≡ initial_sized (bare_size d) (length d.spends)
    by_spends [] is =
        let m : is_marked (witnessed (tx_of d).inputs ws) ≡ false =
        ap (λ xs. is_marked (witnessed (map input_of xs) (deposits_full (any_signatures (length xs)) xs))) is in
        bare_weighs (tx_of d) ws m ∙ ap (λ xs. initial_sized (bare_size d) (length xs)) (sym is)
    by_spends (x ∷ xs) is =
        let m : is_marked (witnessed (tx_of d).inputs ws) ≡ true =
        ap (λ ys. is_marked (witnessed (map input_of ys) (deposits_full (any_signatures (length ys)) ys))) is in
        let a = marked_weighs (tx_of d) ws m in
        let b = deposits_sized (length d.spends) d.spends (omega arith) h in
        let some : nat_lt 0 (length d.spends) ≡ true = (let e = ap length is in grind (arith, nat_tests, e)) in
        let c : marked_weight (bare_size d) (length d.spends * deposit_bytes) ≡ initial_sized (bare_size d) (length d.spends) =
        ap (λ t. if t then marked_weight (bare_size d) (length d.spends * deposit_bytes) else 4 * bare_size d) (sym some) in
        a ∙ ap (marked_weight (bare_size d)) b ∙ c

pub weights_by_sizes : WeightsBySizes
weights_by_sizes hash s size = record {
  initial = initial_is_sized (initial_unsigned hash s) (are_deposits hash size s (λ d. d.0) (λ d. d.1) (persistent s.advert.pre));
  paths = path_is_sized hash size s;
}
