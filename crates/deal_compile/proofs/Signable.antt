-- Each transaction of a deal can be given to signers.
use Rattle.std.proofs.Common.{◌≡◌, ℕ, ◌+◌, suc, List, [], ◌∷◌, length, map, Bool, true, refl, ap, ◌∙◌, arith, not}
use Rattle.std.specs.Prelude.{◌==◌}
use Rattle.std.specs.List.{list_all}
use Rattle.std.proofs.lemmas.Bool.{and_parts, and_from}
use Rattle.std.proofs.lemmas.Bool.Decides.{nat_tests}
use Rattle.std.proofs.lemmas.List.{length-map}
use Rattle.spec_terms.specs.Advert.{Advert}
use Rattle.spec_terms.specs.Core.{lock}
use Rattle.spec_terms.specs.Faults.{IsWellFormed}
use Rattle.spec_terms.specs.Precondition.{persistent}
use Rattle.spec_terms.specs.Readable.{is_some_list}
use Rattle.spec_terms.specs.Term as term
use Rattle.spec_terms.specs.Term.{Contract, no_branch, branch, Parts, no_part, part, auth, after, put_reveal, withdraw, split}
use Rattle.spec_terms.specs.declared.path.PathStep.{PathStep}
use Rattle.spec_bitcoin.specs.declared.label.Label.{Label}
use Rattle.spec_compiler.specs.Keyed.Keys.{Keys}
use Rattle.spec_compiler.specs.Keyed.Instance.{Instance, branch_path}
use Rattle.spec_compiler.specs.Keyed.Transactions.{Standing, input_of, tx_of, core_unsigned, continued, continued_value, part_standing, root_standing}
use Rattle.spec_compiler.specs.Keyed.Compilation.{choice_transactions, branch_transactions, parts_transactions, path_transactions}
use Rattle.spec_compiler.specs.declared.unsigned.Spent.{Spent}
use Rattle.spec_compiler.specs.declared.unsigned.Unsigned.{Unsigned}
use Rattle.spec_tool.specs.Keyed.Listed.{Listed, initial_listed, path_listed}
use Rattle.spec_tool.specs.Psbt.{is_bare_input, is_unsigned}
use Rattle.theory_calculus.specs.Members.{Is_in}
use Rattle.theory_calculus.proofs.Members.{all_append}
use Rattle.theory_world.proofs.Contracts.Mentions.{has_deposit, a_person}
use Rattle.spec_deal.specs.Transactions.{inputs, transaction, transactions}
use Rattle.deal_compile.specs.Signable.{is_signable}

-- ---- one transaction

bare : (spends : List Spent) → list_all is_bare_input (map input_of spends) ≡ true
bare [] = refl
bare (spent ∷ spends) = bare spends

some_bare : (spends : List Spent) (d : Unsigned) → d.spends ≡ spends → is_some_list spends ≡ true → is_unsigned (tx_of d) ≡ true
some_bare [] d e h = cc
some_bare (spent ∷ spends) d e h =
    let many : not (length (map input_of (spent ∷ spends)) == 0) ≡ true = grind (arith, nat_tests) in
    rw e (and_from (not (length (map input_of (spent ∷ spends)) == 0)) (list_all is_bare_input (map input_of (spent ∷ spends))) many (bare spends))

same_count : (n : ℕ) → (n == n) ≡ true
same_count n = grind (arith, nat_tests)

module _ (hash : List ℕ → List ℕ) (keys : Keys) (advert : Advert) (l : Listed) where
  count : (k : ℕ) (spends : List Spent) (signers : List (List Label)) → length (inputs hash keys advert l k spends signers) ≡ length spends
  count k [] signers = refl
  count k (spent ∷ spends) [] = ap suc (count (k + 1) spends [])
  count k (spent ∷ spends) (labels ∷ signers) = ap suc (count (k + 1) spends signers)

  counted : (length (inputs hash keys advert l 0 l.pending.spends l.signers) == length (map input_of l.pending.spends)) ≡ true
  counted =
      (λ j. count 0 l.pending.spends l.signers j == length-map l.pending.spends input_of j)
      ∙ same_count (length l.pending.spends)

  signable : is_some_list l.pending.spends ≡ true → is_signable (transaction hash keys advert l) ≡ true
  signable h = and_from (is_unsigned (tx_of l.pending)) _ (some_bare l.pending.spends l.pending refl h) counted

-- ---- the transactions of a contract

abbrev spends_some : List PathStep × Unsigned → Bool
spends_some p = is_some_list p.1.spends

module _ (hash : List ℕ → List ℕ) (keys : Keys) (s : Instance) where
  mutual
    choice_some : (here : Standing) (i : ℕ) (c : Contract) → list_all spends_some (choice_transactions hash keys s here i c) ≡ true
    choice_some here i no_branch = refl
    choice_some here i (branch b bs) =
        all_append spends_some (branch_transactions hash keys s here i (lock b) b) (choice_transactions hash keys s here (i + 1) bs)
        (branch_some here i (lock b) b) (choice_some here (i + 1) bs)

    branch_some : (here : Standing) (i l : ℕ) (b : term.Guarded) → list_all spends_some (branch_transactions hash keys s here i l b) ≡ true
    branch_some here i l (auth party body) = branch_some here i l body
    branch_some here i l (after height body) = branch_some here i l body
    branch_some here i l (withdraw party) = refl
    branch_some here i l (split parts) =
        parts_some (branch_path here.position i) (core_unsigned hash keys s here i l (split parts)) 0 parts
    branch_some here i l (put_reveal puts reveals test next) =
        choice_some
        (continued hash keys s (branch_path here.position i) (core_unsigned hash keys s here i l (put_reveal puts reveals test next))
        (continued_value s here.output.value puts) next)
        0 next

    parts_some : (path : List PathStep) (made : Unsigned) (k : ℕ) (ps : Parts) → list_all spends_some (parts_transactions hash keys s path made k ps) ≡ true
    parts_some path made k no_part = refl
    parts_some path made k (part v c ps) =
        all_append spends_some (choice_transactions hash keys s (part_standing hash keys s path made k v c) 0 c)
        (parts_transactions hash keys s path made (k + 1) ps)
        (choice_some (part_standing hash keys s path made k v c) 0 c) (parts_some path made (k + 1) ps)

  paths_signable : (ps : List (List PathStep × Unsigned)) → list_all spends_some ps ≡ true
      → list_all is_signable (map (transaction hash keys s.advert) (map (λ p. path_listed s (p.0) (p.1)) ps)) ≡ true
  paths_signable [] h = refl
  paths_signable (p ∷ ps) h =
      let q = and_parts (spends_some p) (list_all spends_some ps) h in
      and_from (is_signable (transaction hash keys s.advert (path_listed s (p.0) (p.1)))) _
      (signable hash keys s.advert (path_listed s (p.0) (p.1)) q.0) (paths_signable ps q.1)

  in_some : {X Y : Type 0} (f : X → Y) (x : X) (xs : List X) → Is_in x xs → is_some_list (map f xs) ≡ true
  in_some f x [] i = absurd i
  in_some f x (y ∷ xs) i = refl

  pub all_signable : IsWellFormed s.advert → list_all is_signable (transactions hash keys s) ≡ true
  all_signable well =
      let person = a_person s.advert well in
      let d = has_deposit s.advert person.0 well person.1 in
      and_from _ _
      (signable hash keys s.advert (initial_listed hash keys s) (in_some _ (d.name, d.holding) (persistent s.advert.pre) d.there))
      (paths_signable (path_transactions hash keys s) (choice_some (root_standing hash keys s) 0 s.advert.root))
