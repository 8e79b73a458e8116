-- The canonical text of an advert.
use Rattle.std.specs.Prelude.{ℕ, zero, suc, List, [], ◌∷◌, ◌++◌, codes}
use Rattle.std.specs.Fmt.{decimal}
use Rattle.spec_terms.specs.Term.{Expr, constant, length_of, plus, minus, Pred, always, both, negation, equal, less, Guarded, auth, after}
use Rattle.spec_terms.specs.Term.{put_reveal, withdraw, split, Contract, no_branch, branch, Parts, no_part, part}
use Rattle.spec_terms.specs.Advert.{Advert}
use Rattle.spec_terms.specs.declared.pre.Pre.{Pre}
use Rattle.spec_terms.specs.declared.pre.Pre.TheVariants.{Persistent, Volatile, Secret}

-- ---- pieces with something between them

-- each piece after a separator
abbrev pub each_after : List ℕ → List (List ℕ) → List ℕ
each_after between [] = []
each_after between (x ∷ xs) = between ++ (x ++ each_after between xs)

-- the pieces, with a separator between two of them
abbrev pub joined : List ℕ → List (List ℕ) → List ℕ
joined between [] = []
joined between (x ∷ xs) = x ++ each_after between xs

-- ---- expressions and predicates

abbrev pub formula_text : Expr → List ℕ
formula_text (constant n) = decimal n
formula_text (length_of secret) = codes "|" ++ (secret ++ codes "|")
formula_text (plus e f) = codes "(" ++ (formula_text e ++ (codes " + " ++ (formula_text f ++ codes ")")))
formula_text (minus e f) = codes "(" ++ (formula_text e ++ (codes " - " ++ (formula_text f ++ codes ")")))

abbrev pub test_text : Pred → List ℕ
test_text always = codes "true"
test_text (both p q) = codes "[" ++ (test_text p ++ (codes " and " ++ (test_text q ++ codes "]")))
test_text (negation p) = codes "not " ++ test_text p
test_text (equal e f) = formula_text e ++ (codes " = " ++ formula_text f)
test_text (less e f) = formula_text e ++ (codes " < " ++ formula_text f)

-- the part with the predicate, left out where it is `true`
abbrev pub if_text : Pred → List ℕ
if_text always = []
if_text (both p q) = codes " if " ++ test_text (both p q)
if_text (negation p) = codes " if " ++ test_text (negation p)
if_text (equal e f) = codes " if " ++ test_text (equal e f)
if_text (less e f) = codes " if " ++ test_text (less e f)

-- ---- contracts

-- what stands before the point
abbrev pub heading_text : List (List ℕ) → List (List ℕ) → Pred → List ℕ
heading_text [] reveals test = codes "reveal " ++ (joined (codes ", ") reveals ++ if_text test)
heading_text (x ∷ xs) [] test = codes "put " ++ joined (codes ", ") (x ∷ xs)
heading_text (x ∷ xs) (a ∷ names) test =
    codes "put " ++ (joined (codes ", ") (x ∷ xs) ++ (codes " & reveal " ++ (joined (codes ", ") (a ∷ names) ++ if_text test)))

-- the text of branches, in brackets where others follow the first
abbrev pub bracketed : List ℕ → Contract → List ℕ
bracketed text no_branch = text
bracketed text (branch b bs) = codes "(" ++ (text ++ codes ")")

abbrev mutual
  pub branch_text : Guarded → List ℕ
  branch_text (auth party body) = party ++ (codes " : " ++ branch_text body)
  branch_text (after height body) = codes "after " ++ (decimal height ++ (codes " : " ++ branch_text body))
  branch_text (put_reveal puts reveals test next) = heading_text puts reveals test ++ (codes " . " ++ choice_text next)
  branch_text (withdraw party) = codes "withdraw " ++ party
  branch_text (split parts) = codes "split [" ++ (parts_text parts ++ codes "]")

  pub choice_text : Contract → List ℕ
  choice_text no_branch = []
  choice_text (branch b bs) = bracketed (branch_text b ++ rest_text bs) bs

  -- each further branch
  pub rest_text : Contract → List ℕ
  rest_text no_branch = []
  rest_text (branch b bs) = codes " + " ++ (branch_text b ++ rest_text bs)

  pub parts_text : Parts → List ℕ
  parts_text no_part = []
  parts_text (part value next ps) = decimal value ++ (codes " -> " ++ (choice_text next ++ rest_parts_text ps))

  -- each further part
  pub rest_parts_text : Parts → List ℕ
  rest_parts_text no_part = []
  rest_parts_text (part value next ps) = codes ", " ++ (decimal value ++ (codes " -> " ++ (choice_text next ++ rest_parts_text ps)))

-- ---- adverts

abbrev pub entry_text : Pre → List ℕ
entry_text (Persistent party value deposit) = party ++ (codes ":! " ++ (decimal value ++ (codes " @ " ++ deposit)))
entry_text (Volatile party value deposit) = party ++ (codes ":? " ++ (decimal value ++ (codes " @ " ++ deposit)))
entry_text (Secret party secret) = party ++ (codes ": secret " ++ secret)

-- each further entry
abbrev pub rest_entries_text : List Pre → List ℕ
rest_entries_text [] = []
rest_entries_text (p ∷ ps) = codes " | " ++ (entry_text p ++ rest_entries_text ps)

abbrev pub entries_text : List Pre → List ℕ
entries_text [] = []
entries_text (p ∷ ps) = entry_text p ++ rest_entries_text ps

-- the fee, left out exactly where it is 0
abbrev pub fee_text : ℕ → List ℕ
fee_text zero = []
fee_text (suc n) = codes "fee " ++ (decimal (suc n) ++ codes " ")

-- one line without a line feed
abbrev pub advert_text : Advert → List ℕ
advert_text advert = codes "{" ++ (entries_text advert.pre ++ (codes "} " ++ (fee_text advert.fee ++ choice_text advert.root)))
