-- The adverts that a text of a contract can spell: well-formed names, nothing empty, each quantity within the reader's limit.
use Rattle.std.specs.Prelude.{ℕ, ◌+◌, max, nat_le, Bool, true, false, ◌&&◌, ◌||◌, not, List, [], ◌∷◌, length, codes}
use Rattle.std.specs.List.{list_all}
use Rattle.spec_data.specs.Lists.{is_among}
use Rattle.spec_data.specs.Ranges.{max_money, last_height, most_name_bytes}
use Rattle.spec_terms.specs.Term.{Expr, constant, length_of, plus, minus, Pred, always, both, negation, equal, less, Guarded, auth, after}
use Rattle.spec_terms.specs.Term.{put_reveal, withdraw, split, Contract, no_branch, branch, branches, Parts, no_part, part, parts_list}
use Rattle.spec_terms.specs.Advert.{Advert}
use Rattle.spec_terms.specs.Precondition.{deposits, secrets}
use Rattle.spec_terms.specs.declared.pre.Pre.{Pre}
use Rattle.spec_terms.specs.declared.pre.Pre.TheVariants.{Persistent, Volatile, Secret}

-- ---- names

abbrev pub is_within : ℕ → ℕ → ℕ → Bool
is_within low high n = nat_le low n && nat_le n high

-- one of the 52 ASCII letters
abbrev pub is_letter : ℕ → Bool
is_letter byte = is_within 65 90 byte || is_within 97 122 byte

-- a letter, a digit or the underscore
abbrev pub is_name_byte : ℕ → Bool
is_name_byte byte = is_letter byte || (is_within 48 57 byte || is_within 95 95 byte)

-- the words of contract text that are no names
abbrev pub keywords : List (List ℕ)
keywords =
    codes "put" ∷ codes "reveal" ∷ codes "if" ∷ codes "withdraw" ∷ codes "split" ∷ codes "after" ∷ codes "secret"
    ∷ codes "true" ∷ codes "and" ∷ codes "not" ∷ codes "fee" ∷ codes "Outside" ∷ []

-- a letter, and then letters, digits and underscores
abbrev pub is_word : List ℕ → Bool
is_word [] = false
is_word (byte ∷ rest) = is_letter byte && list_all is_name_byte rest

-- whether contract text may have the name; it unfolds where asked, and tactics leave it alone, so that a test with it stays whole
unfoldable pub is_name : List ℕ → Bool
is_name name = is_word name && (nat_le (length name) most_name_bytes && not (is_among name keywords))

-- ---- the limits of the reader

-- the greatest constant of an expression
abbrev pub greatest_constant : ℕ
greatest_constant = 2147483647

-- nested terms on one way from the root, and nested nodes of one predicate
abbrev pub most_depth : ℕ
most_depth = 64

-- branches in the whole contract
abbrev pub most_branches : ℕ
most_branches = 512

-- branches of one choice
abbrev pub most_choices : ℕ
most_choices = 32

-- parts of one split
abbrev pub most_parts : ℕ
most_parts = 64

-- deposits of both kinds in the precondition
abbrev pub most_deposits : ℕ
most_deposits = 32

-- secrets in the precondition
abbrev pub most_secrets : ℕ
most_secrets = 32

-- ---- predicates

-- how many nodes lie one under another
abbrev pub formula_depth : Expr → ℕ
formula_depth (constant n) = 1
formula_depth (length_of name) = 1
formula_depth (plus e f) = max (formula_depth e) (formula_depth f) + 1
formula_depth (minus e f) = max (formula_depth e) (formula_depth f) + 1

-- the same; a comparison is one node and has its expressions under it
abbrev pub test_depth : Pred → ℕ
test_depth always = 1
test_depth (both p q) = max (test_depth p) (test_depth q) + 1
test_depth (negation p) = test_depth p + 1
test_depth (equal e f) = max (formula_depth e) (formula_depth f) + 1
test_depth (less e f) = max (formula_depth e) (formula_depth f) + 1

-- whether names and constants are as text may have them
abbrev pub is_readable_formula : Expr → Bool
is_readable_formula (constant n) = nat_le n greatest_constant
is_readable_formula (length_of name) = is_name name
is_readable_formula (plus e f) = is_readable_formula e && is_readable_formula f
is_readable_formula (minus e f) = is_readable_formula e && is_readable_formula f

abbrev pub has_readable_formulas : Pred → Bool
has_readable_formulas always = true
has_readable_formulas (both p q) = has_readable_formulas p && has_readable_formulas q
has_readable_formulas (negation p) = has_readable_formulas p
has_readable_formulas (equal e f) = is_readable_formula e && is_readable_formula f
has_readable_formulas (less e f) = is_readable_formula e && is_readable_formula f

-- and whether no more nodes are nested than may be
abbrev pub is_readable_test : Pred → Bool
is_readable_test t = nat_le (test_depth t) most_depth && has_readable_formulas t

abbrev pub is_always : Pred → Bool
is_always always = true
is_always (both p q) = false
is_always (negation p) = false
is_always (equal e f) = false
is_always (less e f) = false

abbrev pub is_some_list : {X : Type 0} → List X → Bool
is_some_list [] = false
is_some_list (x ∷ xs) = true

-- whether a put or a reveal is there, and where there is no reveal the test is always true
abbrev pub is_whole_prefix : List (List ℕ) → List (List ℕ) → Pred → Bool
is_whole_prefix puts reveals test = (is_some_list puts && is_always test) || is_some_list reveals

-- ---- contracts

-- whether so many branches may stand in one choice
abbrev pub is_readable_count : Contract → Bool
is_readable_count c = is_some_list (branches c) && nat_le (length (branches c)) most_choices

-- whether so many parts may stand in one split
abbrev pub is_readable_split : Parts → Bool
is_readable_split ps = is_some_list (parts_list ps) && nat_le (length (parts_list ps)) most_parts

abbrev mutual
  -- whether each of these branches and all that stands under it is as text may have it, depth and number of all branches aside
  pub are_readable : Contract → Bool
  are_readable no_branch = true
  are_readable (branch b bs) = is_readable_branch b && are_readable bs

  pub is_readable_branch : Guarded → Bool
  is_readable_branch (auth party body) = is_name party && is_readable_branch body
  is_readable_branch (after height body) = nat_le height last_height && is_readable_branch body
  is_readable_branch (put_reveal puts reveals test next) =
      (is_whole_prefix puts reveals test && (list_all is_name puts && list_all is_name reveals))
      && (is_readable_test test && (is_readable_count next && are_readable next))
  is_readable_branch (withdraw party) = is_name party
  is_readable_branch (split parts) = is_readable_split parts && are_readable_parts parts

  pub are_readable_parts : Parts → Bool
  are_readable_parts no_part = true
  are_readable_parts (part v c ps) = (nat_le v max_money && (is_readable_count c && are_readable c)) && are_readable_parts ps

abbrev mutual
  -- how many terms lie one under another, `A :` and `after t :` counted too
  pub depth_of : Guarded → ℕ
  depth_of (auth party body) = depth_of body + 1
  depth_of (after height body) = depth_of body + 1
  depth_of (put_reveal puts reveals test next) = depth_of_choice next + 1
  depth_of (withdraw party) = 1
  depth_of (split parts) = depth_of_parts parts + 1

  pub depth_of_choice : Contract → ℕ
  depth_of_choice no_branch = 0
  depth_of_choice (branch b bs) = max (depth_of b) (depth_of_choice bs)

  pub depth_of_parts : Parts → ℕ
  depth_of_parts no_part = 0
  depth_of_parts (part v c ps) = max (depth_of_choice c) (depth_of_parts ps)

abbrev mutual
  -- how many branches stand in a contract, those under others too
  pub count_of : Contract → ℕ
  count_of no_branch = 0
  count_of (branch b bs) = (count_under b + 1) + count_of bs

  pub count_under : Guarded → ℕ
  count_under (auth party body) = count_under body
  count_under (after height body) = count_under body
  count_under (put_reveal puts reveals test next) = count_of next
  count_under (withdraw party) = 0
  count_under (split parts) = count_of_parts parts

  pub count_of_parts : Parts → ℕ
  count_of_parts no_part = 0
  count_of_parts (part v c ps) = count_of c + count_of_parts ps

-- whether a contract is as text may have it
abbrev pub is_readable_contract : Contract → Bool
is_readable_contract root =
    (is_readable_count root && are_readable root) && (nat_le (depth_of_choice root) most_depth && nat_le (count_of root) most_branches)

-- ---- adverts

-- whether an entry of the precondition is as text may have it
abbrev pub is_readable_entry : Pre → Bool
is_readable_entry (Persistent party value name) = is_name party && (nat_le value max_money && is_name name)
is_readable_entry (Volatile party value name) = is_name party && (nat_le value max_money && is_name name)
is_readable_entry (Secret party name) = is_name party && is_name name

-- whether a precondition is as text may have it
abbrev pub is_readable_pre : List Pre → Bool
is_readable_pre pre =
    (is_some_list pre && list_all is_readable_entry pre)
    && (nat_le (length (deposits pre)) most_deposits && nat_le (length (secrets pre)) most_secrets)

-- whether the advert may have come from the reader
abbrev pub is_readable : Advert → Bool
is_readable a = is_readable_pre a.pre && (nat_le a.fee max_money && is_readable_contract a.root)
