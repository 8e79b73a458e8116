-- A contract's transactions pay out all that they spend but the fee.
use Rattle.std.proofs.Common.{◌≡◌, ℕ, ◌+◌, ◌≤◌, List, [], ◌∷◌, map, Bool, true, not, Option, Some, None, refl, ap, ◌∙◌, subst, arith}
use Rattle.std.specs.Prelude.{◌&&◌, slice_get, option_map, option_and_then, pos, int_lt, sum_by}
use Rattle.std.specs.List.{Contains}
use Rattle.spec_terms.specs.Balance as balance
use Rattle.spec_terms.specs.Balance.{all_funded}
use Rattle.std.specs.Ordering.{int_eq}
use Rattle.std.proofs.lemmas.Bool.{and_parts, not-true}
use Rattle.std.proofs.lemmas.Int.{ints}
use Rattle.std.proofs.lemmas.List.Sums.{sum_by-cons}
use Rattle.spec_data.specs.Lists.{look_up}
use Rattle.spec_terms.specs.Term as term
use Rattle.spec_terms.specs.Term.{Contract, branches, Parts, no_part, part, auth, after, put_reveal, withdraw, split}
use Rattle.spec_terms.specs.Core.{core, lock}
use Rattle.spec_terms.specs.Precondition.{Holding, persistent, volatile, total_of, value_of, value_of_puts}
use Rattle.spec_terms.specs.Paths as terms
use Rattle.spec_terms.specs.Faults.{IsWellFormed, is_short, is_uneven, is_withdraw, sum_of_parts}
use Rattle.spec_terms.specs.declared.path.PathStep.{PathStep}
use Rattle.spec_bitcoin.specs.declared.tx.TxOut.{TxOut}
use Rattle.spec_compiler.specs.Keyed.Keys.{Keys}
use Rattle.spec_compiler.specs.declared.unsigned.Spent.{Spent}
use Rattle.spec_compiler.specs.declared.unsigned.Unsigned.{Unsigned}
use Rattle.spec_compiler.specs.Keyed.Instance.{Instance, branch_path, position_script}
use Rattle.spec_compiler.specs.Keyed.Transactions.{Standing, pays, deposit, holding_or_none, put_deposits, part_position, part_outputs}
use Rattle.spec_compiler.specs.Keyed.Transactions.{core_unsigned, branch_unsigned, initial_unsigned}
use Rattle.spec_compiler.specs.Keyed.ByPath as by_path
use Rattle.spec_compiler.specs.Keyed.ByPath.{PathEnd, branch_end, end_at, position_at, as_unsigned, unsigned_at}
use Rattle.theory_calculus.specs.Money.{Pays}
use Rattle.theory_script.specs.Keyed.Money.{IsKept}
use Rattle.theory_script.proofs.Keyed.Balances.{Fine, root_enough, stand_fine, put_enough, position_fine, position_static, branch_fine}
use Rattle.theory_script.proofs.Keyed.Stands.{position_stands}

-- ---- sums

abbrev worth : Spent → ℕ
worth x = x.value

abbrev amount : TxOut → ℕ
amount o = o.value

held : (o : Option Holding) → (holding_or_none o).value ≡ value_of o
held None = refl
held (Some h) = refl

module _ (hash : List ℕ → List ℕ) (keys : Keys) (s : Instance) where
  sum_of_puts : (puts : List (List ℕ)) → sum_by worth (put_deposits hash keys s puts) ≡ value_of_puts (volatile s.advert.pre) puts
  sum_of_puts [] = refl
  sum_of_puts (x ∷ puts) =
      let h = holding_or_none (look_up x (volatile s.advert.pre)) in
      sum_by-cons worth (deposit hash keys s x h) (put_deposits hash keys s puts)
      ∙ (λ i. held (look_up x (volatile s.advert.pre)) i + sum_of_puts puts i)

  sum_of_deposits : (ds : List (List ℕ × Holding)) → sum_by worth (map (λ d. deposit hash keys s d.0 d.1) ds) ≡ total_of ds
  sum_of_deposits [] = refl
  sum_of_deposits (d ∷ ds) =
      sum_by-cons worth (deposit hash keys s d.0 d.1) (map (λ d. deposit hash keys s d.0 d.1) ds) ∙ ap (λ n. d.1.value + n) (sum_of_deposits ds)

  sum_of_outputs : (path : List PathStep) (k : ℕ) (ps : Parts) → sum_by amount (part_outputs hash keys s path k ps) ≡ sum_of_parts ps
  sum_of_outputs path k no_part = refl
  sum_of_outputs path k (part v c ps) =
      let first = pays hash (position_script hash keys s (part_position path k) c) v in
      sum_by-cons amount first (part_outputs hash keys s path (k + 1) ps) ∙ ap (λ n. v + n) (sum_of_outputs path (k + 1) ps)

  -- ---- a branch that its position pays for

  core_kept : (here : Standing) (i l : ℕ) (b : term.Guarded) → Pays s.advert here.output.value (core b)
      → IsKept s.advert (core_unsigned hash keys s here i l (core b))
  core_kept here i l (auth party body) h = core_kept here i l body h
  core_kept here i l (after height body) h = core_kept here i l body h
  core_kept here i l (put_reveal puts reveals test next) h =
      let e = sum_by-cons worth here.output (put_deposits hash keys s puts) in
      let f = sum_of_puts puts in
      omega (arith, e, f, h)
  core_kept here i l (withdraw party) h = omega (arith, h)
  core_kept here i l (split parts) h =
      let e = sum_of_outputs (branch_path here.position i) 0 parts in
      omega (arith, e, h)

  -- ---- what the check has seen

  withdraw_pays : (v : ℕ) → not (int_lt (pos v) (pos s.advert.fee)) ≡ true → s.advert.fee ≤ v
  withdraw_pays v h = let k = not-true _ h in grind (arith, ints, k)

  split_pays : (v : ℕ) (ps : Parts) → not (not (int_eq (pos (sum_of_parts ps + s.advert.fee)) (pos v))) ≡ true
      → sum_of_parts ps + s.advert.fee ≡ v
  split_pays v ps h = grind (arith, ints, h)

  -- the position of a branch pays for its core
  -- the check of a branch, without that of all money
  seen : (here : Standing) (i : ℕ) (w : term.Guarded) → Fine hash keys s (by_path.at_branch here i w)
      → (not (is_withdraw (core w) && int_lt (pos here.output.value) (pos s.advert.fee)) ≡ true)
      × (not (is_uneven s.advert.fee (pos here.output.value) (core w)) ≡ true)
  seen here i w f =
      and_parts (not (is_short s.advert.fee (pos here.output.value) (terms.at_branch w))) _ (and_parts _ true f.1.0.0).0

  core_pays : (here : Standing) (i : ℕ) (w b : term.Guarded) → core w ≡ core b → Fine hash keys s (by_path.at_branch here i w)
      → Pays s.advert here.output.value (core b)
  core_pays here i w (auth party body) e f = core_pays here i w body e f
  core_pays here i w (after height body) e f = core_pays here i w body e f
  core_pays here i w (put_reveal puts reveals test next) e f = put_enough hash keys s here i w puts reveals test next e f
  core_pays here i w (withdraw party) e f =
      let test : term.Guarded → Bool = λ c. not (is_withdraw c && int_lt (pos here.output.value) (pos s.advert.fee)) in
      withdraw_pays here.output.value (subst (λ c. test c ≡ true) e (seen here i w f).0)
  core_pays here i w (split parts) e f =
      let test : term.Guarded → Bool = λ c. not (is_uneven s.advert.fee (pos here.output.value) c) in
      split_pays here.output.value parts (subst (λ c. test c ≡ true) e (seen here i w f).1)

  module _ (well : IsWellFormed s.advert) where
    pub initial_kept : IsKept s.advert (initial_unsigned hash keys s)
    initial_kept =
        let e = sum_of_deposits (persistent s.advert.pre) in
        let h = root_enough hash keys s well in
        omega (arith, e, h)

    pub paths_kept : (path : List PathStep) (d : Unsigned) → unsigned_at hash keys s path ≡ Some d → IsKept s.advert d
    paths_kept path d h = by_stand (end_at hash keys s path) refl h
      where
        by_end : (st : PathEnd) → Fine hash keys s st → as_unsigned hash keys s st ≡ Some d → IsKept s.advert d
        by_end (by_path.at_position here choice) f e = cc
        by_end (by_path.at_branch here i b) f e =
            let z : branch_unsigned hash keys s here i b ≡ d = cc in
            subst (IsKept s.advert) z (core_kept here i (lock b) b (core_pays here i b b refl f))

        by_stand : (o : Option PathEnd) → end_at hash keys s path ≡ o → option_and_then (as_unsigned hash keys s) o ≡ Some d → IsKept s.advert d
        by_stand None e k = cc
        by_stand (Some st) e k = by_end st (stand_fine hash keys s well path st e) k

    pub positions_pay : (position : List PathStep) (here : Standing) (choice : Contract) (i : ℕ) (b : term.Guarded)
        → position_at hash keys s position ≡ Some (here, choice) → slice_get (branches choice) i ≡ Some b
        → Pays s.advert here.output.value (core b)
    positions_pay position here choice i b h k =
        let st : branch_end here choice i ≡ Some (by_path.at_branch here i b) = ap (option_map (by_path.at_branch here i)) k in
        core_pays here i b b refl
        (branch_fine hash keys s here choice i (by_path.at_branch here i b) (position_fine hash keys s well position here choice h) st)

    pub positions_static : (position : List PathStep) (here : Standing) (choice : Contract)
        → position_at hash keys s position ≡ Some (here, choice)
        → Contains (all_funded s.advert) (balance.as_funded position (pos here.output.value) (terms.position choice))
    positions_static position here choice h =
        subst (λ q. Contains (all_funded s.advert) (balance.as_funded q (pos here.output.value) (terms.position choice)))
        (position_stands hash keys s position here choice h).path (position_static hash keys s well position here choice h)
