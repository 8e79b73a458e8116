-- No transaction of a checked contract spends more than a position can hold, and a fee.
use Rattle.std.proofs.Common.{◌≡◌, ℕ, ◌+◌, ◌-◌, ◌≤◌, ◌<◌, ◌^◌, List, [], ◌∷◌, ◌++◌, Bool, true, false, not, Option, Some, None, refl, sym, ap, ◌∙◌, subst, arith}
use Rattle.std.specs.Prelude.{◌&&◌, nat_le, pos, ◌-ℤ◌, int_lt, sum_by}
use Rattle.std.specs.List.{list_all}
use Rattle.std.proofs.lemmas.Bool.{and_parts, and_from, not-true, leb-true, le-leb}
use Rattle.std.proofs.lemmas.Int.{ints}
use Rattle.std.proofs.lemmas.List.Folds.{list_all-append}
use Rattle.std.proofs.lemmas.List.Sums.{sum_by-cons}
use Rattle.spec_data.specs.Lists.{look_up}
use Rattle.spec_data.specs.Ranges.{max_money}
use Rattle.spec_terms.specs.Advert.{Advert}
use Rattle.spec_terms.specs.Balance.{Funded, as_funded, branches_funded, funded_under, parts_funded}
use Rattle.spec_terms.specs.Core.{lock}
use Rattle.spec_terms.specs.Faults.{IsWellFormed}
use Rattle.spec_terms.specs.Paths as terms
use Rattle.spec_terms.specs.Precondition.{Holding, persistent, volatile, total_of, value_of, value_of_puts}
use Rattle.spec_terms.specs.Readable.{is_readable_pre, is_readable_contract}
use Rattle.spec_terms.specs.Term as term
use Rattle.spec_terms.specs.Term.{Contract, no_branch, branch, Parts, no_part, part, auth, after, put_reveal, withdraw, split}
use Rattle.spec_terms.specs.declared.path.PathStep.{PathStep}
use Rattle.spec_compiler.specs.declared.unsigned.Spent.{Spent}
use Rattle.spec_compiler.specs.declared.unsigned.Unsigned.{Unsigned}
use Rattle.spec_compiler.specs.Keyed.Keys.{Keys, by_plan}
use Rattle.spec_compiler.specs.Keyed.Instance.{Instance, branch_path}
use Rattle.spec_compiler.specs.Keyed.Transactions.{Standing, deposit, holding_or_none, put_deposits, part_position, core_unsigned, continued, continued_value, part_standing, root_standing}
use Rattle.spec_compiler.specs.Keyed.Compilation.{choice_transactions, branch_transactions, parts_transactions, path_transactions}
use Rattle.theory_calculus.proofs.Checked.{enough_alone, difference_alone}
use Rattle.theory_calculus.proofs.Members.{all_append}
use Rattle.theory_script.proofs.Keyed.Balances.{is_kept, stands_kept, root_enough, root_little}
use Rattle.spec_nodes.specs.Nodes.{Deed, Node, branch_node, nodes_of}
use Rattle.theory_nodes.specs.declared.waiting.Waiting.{Waiting}
use Rattle.theory_nodes.specs.Keyed.Walk.{NodesGiveTransactions, walk, made_by, node_unsigned, spent_of, deed_puts, script_of, root_waits}
use Rattle.theory_script.specs.Money.{paid_in}
use Rattle.bm_compile.specs.Seen.{is_payable}

abbrev worth : Spent → ℕ
worth x = x.value

held : (o : Option Holding) → (holding_or_none o).value ≡ value_of o
held None = refl
held (Some h) = refl

-- what the deposits of a put bring is what its transaction spends beside its position
pub sum_of_puts : (hash : List ℕ → List ℕ) (keys : Keys) (s : Instance) (puts : List (List ℕ))
    → sum_by worth (put_deposits hash keys s puts) ≡ value_of_puts (volatile s.advert.pre) puts
sum_of_puts hash keys s [] = refl
sum_of_puts hash keys s (x ∷ puts) =
    sum_by-cons worth (deposit hash keys s x (holding_or_none (look_up x (volatile s.advert.pre)))) (put_deposits hash keys s puts)
    ∙ (λ i. held (look_up x (volatile s.advert.pre)) i + sum_of_puts hash keys s puts i)

-- ---- what a position holds

within : (v : ℕ) → int_lt (pos max_money) (pos v) ≡ false → v ≤ max_money
within v h = grind (arith, ints, h)

-- a position that the check has seen holds no more than all money, and pays the fee
seen : (fee : ℕ) (q : List PathStep) (m f : ℕ) (c : Contract) → is_kept fee (as_funded q (pos m -ℤ pos f) (terms.position c)) ≡ true
    → (pos m -ℤ pos f ≡ pos (m - f)) × (m - f ≤ max_money) × (f ≤ m)
seen fee q m f c h =
    let p = and_parts (not (int_lt (pos m -ℤ pos f) (pos 0)) && true) (not (int_lt (pos max_money) (pos m -ℤ pos f))) h in
    let le = enough_alone m f (not-true _ (and_parts (not (int_lt (pos m -ℤ pos f) (pos 0))) true p.0).0) in
    let e = difference_alone m f le in
    (e, within (m - f) (subst (λ z. int_lt (pos max_money) z ≡ false) e (not-true _ p.1)), le)

little : (n : ℕ) → n ≤ max_money + max_money → nat_le n (max_money + max_money) ≡ true
little n h = le-leb n (max_money + max_money) h

all_parts : {X : Type 0} (f : X → Bool) (xs ys : List X) → list_all f (xs ++ ys) ≡ true → (list_all f xs ≡ true) × (list_all f ys ≡ true)
all_parts f xs ys h = and_parts (list_all f xs) (list_all f ys) (sym (list_all-append f xs ys) ∙ h)

-- ---- the transactions of a contract

module _ (hash : List ℕ → List ℕ) (keys : Keys) (s : Instance) (small : s.advert.fee ≤ max_money) where
  abbrev below_choice : List PathStep → ℕ → ℕ → Contract → List Funded
  below_choice q v i c = branches_funded (volatile s.advert.pre) s.advert.fee q (pos v) i c

  abbrev below_branch : List PathStep → ℕ → term.Guarded → List Funded
  below_branch p v b = funded_under (volatile s.advert.pre) s.advert.fee p (pos v) b

  mutual
    choice_payable : (here : Standing) (i : ℕ) (c : Contract) → here.output.value ≤ max_money
        → list_all (is_kept s.advert.fee) (below_choice here.position here.output.value i c) ≡ true
        → list_all is_payable (choice_transactions hash keys s here i c) ≡ true
    choice_payable here i no_branch le h = refl
    choice_payable here i (branch b bs) le h =
        let path = branch_path here.position i in
        let p = (and_parts (is_kept s.advert.fee (as_funded path (pos here.output.value) (terms.at_branch b))) _ h).1 in
        let q = all_parts (is_kept s.advert.fee) (below_branch path here.output.value b) (below_choice here.position here.output.value (i + 1) bs) p in
        all_append is_payable (branch_transactions hash keys s here i (lock b) b) (choice_transactions hash keys s here (i + 1) bs)
        (branch_payable here i (lock b) b le q.0) (choice_payable here (i + 1) bs le q.1)

    branch_payable : (here : Standing) (i l : ℕ) (b : term.Guarded) → here.output.value ≤ max_money
        → list_all (is_kept s.advert.fee) (below_branch (branch_path here.position i) here.output.value b) ≡ true
        → list_all is_payable (branch_transactions hash keys s here i l b) ≡ true
    branch_payable here i l (auth party body) le h = branch_payable here i l body le h
    branch_payable here i l (after height body) le h = branch_payable here i l body le h
    branch_payable here i l (withdraw party) le h = and_from _ true (little _ (omega (arith, le))) refl
    branch_payable here i l (split parts) le h =
        and_from _ _ (little _ (omega (arith, le))) (parts_payable (branch_path here.position i) (core_unsigned hash keys s here i l (split parts)) 0 parts h)
    branch_payable here i l (put_reveal puts reveals test next) le h =
        let path = branch_path here.position i in
        let m = here.output.value + value_of_puts (volatile s.advert.pre) puts in
        let p = and_parts (is_kept s.advert.fee (as_funded path (pos m -ℤ pos s.advert.fee) (terms.position next))) _ h in
        let k = seen s.advert.fee path m s.advert.fee next p.0 in
        let made = core_unsigned hash keys s here i l (put_reveal puts reveals test next) in
        let e = sum_by-cons worth here.output (put_deposits hash keys s puts) in
        let f = sum_of_puts hash keys s puts in
        let less = k.1 in
        let pays = k.2 in
        let below = subst (λ z. list_all (is_kept s.advert.fee) (branches_funded (volatile s.advert.pre) s.advert.fee path z 0 next) ≡ true) k.0 p.1 in
        and_from _ _ (little _ (omega (arith, e, f, less, pays, small)))
        (choice_payable (continued hash keys s path made (continued_value s here.output.value puts) next) 0 next less below)

    parts_payable : (path : List PathStep) (made : Unsigned) (k : ℕ) (ps : Parts)
        → list_all (is_kept s.advert.fee) (parts_funded (volatile s.advert.pre) s.advert.fee path k ps) ≡ true
        → list_all is_payable (parts_transactions hash keys s path made k ps) ≡ true
    parts_payable path made k no_part h = refl
    parts_payable path made k (part v c ps) h =
        let p = and_parts (is_kept s.advert.fee (as_funded (part_position path k) (pos v) (terms.position c))) _ h in
        let q = all_parts (is_kept s.advert.fee)
        (below_choice (part_position path k) v 0 c) (parts_funded (volatile s.advert.pre) s.advert.fee path (k + 1) ps) p.1 in
        let m = and_parts (not (int_lt (pos v) (pos 0)) && true) (not (int_lt (pos max_money) (pos v))) p.0 in
        all_append is_payable (choice_transactions hash keys s (part_standing hash keys s path made k v c) 0 c)
        (parts_transactions hash keys s path made (k + 1) ps)
        (choice_payable (part_standing hash keys s path made k v c) 0 c (within v (not-true _ m.1)) q.0) (parts_payable path made (k + 1) ps q.1)

-- ---- of a contract that passed the check

fee_little : (a : Advert) → IsWellFormed a → a.fee ≤ max_money
fee_little a well =
    let p = (and_parts (is_readable_pre a.pre) (nat_le a.fee max_money && is_readable_contract a.root) well.readable).1 in
    leb-true a.fee max_money (and_parts (nat_le a.fee max_money) (is_readable_contract a.root) p).0

-- what the persistent deposits are worth
pub total_little : (a : Advert) → IsWellFormed a → total_of (persistent a.pre) < 2 ^ 64
total_little a well =
    let s : Instance = record { contract = 0; advert = a; bound = []; hashes = [] } in
    let e = root_enough (λ x. x) by_plan s well in
    let l = root_little (λ x. x) by_plan s well in
    let f = fee_little a well in
    omega (arith, e, l, f)

module _ (hash : List ℕ → List ℕ) (keys : Keys) (s : Instance) (well : IsWellFormed s.advert) where
  pub all_payable : list_all is_payable (path_transactions hash keys s) ≡ true
  all_payable =
      let a = s.advert in
      let all = stands_kept a well in
      let p = and_parts (is_kept a.fee (as_funded [] (pos (total_of (persistent a.pre)) -ℤ pos a.fee) (terms.position a.root))) _ all in
      let k = seen a.fee [] (total_of (persistent a.pre)) a.fee a.root p.0 in
      let below = subst (λ z. list_all (is_kept a.fee) (branches_funded (volatile a.pre) a.fee [] z 0 a.root) ≡ true) k.0 p.1 in
      choice_payable hash keys s (fee_little a well) (root_standing hash keys s) 0 a.root k.1 below

  -- and so of the walk over its nodes
  pub walk_payable : NodesGiveTransactions → (script : ℕ → List ℕ) (nodes : List Node) (w : Waiting)
      → ((n : ℕ) → script n ≡ script_of hash keys s (nodes_of s.advert.root) n) → nodes ≡ nodes_of s.advert.root → w ≡ root_waits hash keys s
      → list_all is_payable (walk hash keys s script nodes (w ∷ [])) ≡ true
  walk_payable gives script nodes w scripts_are nodes_are waits =
      let whole : walk hash keys s script nodes (w ∷ []) ≡ path_transactions hash keys s =
      (λ i. walk hash keys s (λ n. scripts_are n i) (nodes_are i) (waits i ∷ [])) ∙ gives hash keys s in
      ap (list_all is_payable) whole ∙ all_payable

-- what a branch's transaction adds up
pub node_sum : (hash : List ℕ → List ℕ) (keys : Keys) (s : Instance) (script : ℕ → List ℕ) (n : Node) (stack rest : List Waiting) (w : Waiting)
    (path : List PathStep) (asked : List (List ℕ)) (height : ℕ) (deed : Deed) → n ≡ branch_node path asked height deed → stack ≡ w ∷ rest
    → list_all is_payable (made_by hash keys s script n stack) ≡ true → w.value + value_of_puts (volatile s.advert.pre) (deed_puts deed) < 2 ^ 64
node_sum hash keys s script n stack rest w path asked height deed is top h =
    let one = node_unsigned hash keys s script w height deed in
    let made : made_by hash keys s script n stack ≡ (path, one) ∷ [] = λ i. made_by hash keys s script (is i) (top i) in
    let p = and_parts (is_payable (path, one)) true (sym (ap (list_all is_payable) made) ∙ h) in
    let most = leb-true (paid_in one) (max_money + max_money) p.0 in
    let e = sum_by-cons worth (spent_of script w) (put_deposits hash keys s (deed_puts deed)) in
    let f = sum_of_puts hash keys s (deed_puts deed) in
    omega (arith, most, e, f)
