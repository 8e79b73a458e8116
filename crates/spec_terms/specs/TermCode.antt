-- Codes of the terms, by which a struct of code may have a term as its value.
use Rattle.std.specs.Prelude.{◌≡◌, ℕ, List, refl}
use Rattle.std.specs.Coded.{Coded, coded_ℕ, coded_list}
use Rattle.std.proofs.Common.{ap}
use base.Stored.{Gv, gnil, gnum, gcons}
use Rattle.spec_terms.specs.Term.{Expr, constant, length_of, plus, minus, Pred, always, both, negation, equal, less, Guarded, auth, after}
use Rattle.spec_terms.specs.Term.{put_reveal, withdraw, split, Contract, no_branch, branch, Parts, no_part, part}

abbrev pub first : Gv → Gv
first gnil = gnil
first (gnum n) = gnil
first (gcons a b) = a

abbrev pub others : Gv → Gv
others gnil = gnil
others (gnum n) = gnil
others (gcons a b) = b

abbrev pub coded_name : Coded (List ℕ)
coded_name = coded_list coded_ℕ

abbrev pub coded_names : Coded (List (List ℕ))
coded_names = coded_list coded_name

abbrev pub formula_code : Expr → Gv
formula_code (constant n) = gcons (gnum 0) (gnum n)
formula_code (length_of name) = gcons (gnum 1) (coded_name.code name)
formula_code (plus e f) = gcons (gnum 2) (gcons (formula_code e) (formula_code f))
formula_code (minus e f) = gcons (gnum 3) (gcons (formula_code e) (formula_code f))

pub formula_inj : (x y : Expr) → formula_code x ≡ formula_code y → x ≡ y
formula_inj (constant n) (constant m) p = ap constant (coded_ℕ.inj n m (ap others p))
formula_inj (length_of n) (length_of m) p = ap length_of (coded_name.inj n m (ap others p))
formula_inj (plus e f) (plus g h) p =
    λ i. plus (formula_inj e g (ap (λ v. first (others v)) p) i) (formula_inj f h (ap (λ v. others (others v)) p) i)
formula_inj (minus e f) (minus g h) p =
    λ i. minus (formula_inj e g (ap (λ v. first (others v)) p) i) (formula_inj f h (ap (λ v. others (others v)) p) i)
formula_inj x y p = cc

abbrev pub coded_formula : Coded Expr
coded_formula = record { code = formula_code; inj = formula_inj }

abbrev pub test_code : Pred → Gv
test_code always = gcons (gnum 0) gnil
test_code (both p q) = gcons (gnum 1) (gcons (test_code p) (test_code q))
test_code (negation p) = gcons (gnum 2) (test_code p)
test_code (equal e f) = gcons (gnum 3) (gcons (formula_code e) (formula_code f))
test_code (less e f) = gcons (gnum 4) (gcons (formula_code e) (formula_code f))

pub test_inj : (x y : Pred) → test_code x ≡ test_code y → x ≡ y
test_inj always always p = refl
test_inj (both a b) (both c d) p =
    λ i. both (test_inj a c (ap (λ v. first (others v)) p) i) (test_inj b d (ap (λ v. others (others v)) p) i)
test_inj (negation a) (negation b) p = ap negation (test_inj a b (ap others p))
test_inj (equal e f) (equal g h) p =
    λ i. equal (formula_inj e g (ap (λ v. first (others v)) p) i) (formula_inj f h (ap (λ v. others (others v)) p) i)
test_inj (less e f) (less g h) p =
    λ i. less (formula_inj e g (ap (λ v. first (others v)) p) i) (formula_inj f h (ap (λ v. others (others v)) p) i)
test_inj x y p = cc

abbrev pub coded_test : Coded Pred
coded_test = record { code = test_code; inj = test_inj }

abbrev mutual
  pub branch_code : Guarded → Gv
  branch_code (auth party body) = gcons (gnum 0) (gcons (coded_name.code party) (branch_code body))
  branch_code (after height body) = gcons (gnum 1) (gcons (gnum height) (branch_code body))
  branch_code (put_reveal puts reveals test next) =
      gcons (gnum 2) (gcons (coded_names.code puts) (gcons (coded_names.code reveals) (gcons (test_code test) (choice_code next))))
  branch_code (withdraw party) = gcons (gnum 3) (coded_name.code party)
  branch_code (split parts) = gcons (gnum 4) (parts_code parts)

  pub choice_code : Contract → Gv
  choice_code no_branch = gnil
  choice_code (branch b bs) = gcons (branch_code b) (choice_code bs)

  pub parts_code : Parts → Gv
  parts_code no_part = gnil
  parts_code (part v c ps) = gcons (gnum v) (gcons (choice_code c) (parts_code ps))

mutual
  pub branch_inj : (x y : Guarded) → branch_code x ≡ branch_code y → x ≡ y
  branch_inj (auth n b) (auth m c) p =
      λ i. auth (coded_name.inj n m (ap (λ v. first (others v)) p) i) (branch_inj b c (ap (λ v. others (others v)) p) i)
  branch_inj (after n b) (after m c) p =
      λ i. after (coded_ℕ.inj n m (ap (λ v. first (others v)) p) i) (branch_inj b c (ap (λ v. others (others v)) p) i)
  branch_inj (put_reveal a r t c) (put_reveal b s u d) p = λ i. put_reveal
      (coded_names.inj a b (ap (λ v. first (others v)) p) i)
      (coded_names.inj r s (ap (λ v. first (others (others v))) p) i)
      (test_inj t u (ap (λ v. first (others (others (others v)))) p) i)
      (choice_inj c d (ap (λ v. others (others (others (others v)))) p) i)
  branch_inj (withdraw n) (withdraw m) p = ap withdraw (coded_name.inj n m (ap others p))
  branch_inj (split a) (split b) p = ap split (parts_inj a b (ap others p))
  branch_inj x y p = cc

  pub choice_inj : (x y : Contract) → choice_code x ≡ choice_code y → x ≡ y
  choice_inj no_branch no_branch p = refl
  choice_inj (branch b bs) (branch c cs) p = λ i. branch (branch_inj b c (ap first p) i) (choice_inj bs cs (ap others p) i)
  choice_inj x y p = cc

  pub parts_inj : (x y : Parts) → parts_code x ≡ parts_code y → x ≡ y
  parts_inj no_part no_part p = refl
  parts_inj (part v c ps) (part w d qs) p =
      λ i. part (coded_ℕ.inj v w (ap first p) i) (choice_inj c d (ap (λ v. first (others v)) p) i)
      (parts_inj ps qs (ap (λ v. others (others v)) p) i)
  parts_inj x y p = cc

abbrev pub coded_branch : Coded Guarded
coded_branch = record { code = branch_code; inj = branch_inj }

abbrev pub coded_choice : Coded Contract
coded_choice = record { code = choice_code; inj = choice_inj }
