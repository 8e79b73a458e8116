-- What the check of a contract sees to at each of its nodes.
use Rattle.std.proofs.Common.{◌≡◌, ℕ, ◌+◌, ◌≤◌, List, [], ◌∷◌, ◌++◌, length, Bool, true, false, not, refl, arith}
use Rattle.std.specs.Prelude.{nat_le}
use Rattle.std.specs.List.{list_all}
use Rattle.std.proofs.lemmas.Bool.{and_parts, and_from, not-false, leb-true, le-leb}
use Rattle.spec_data.specs.Ranges.{most_operations}
use Rattle.spec_terms.specs.Term.{Guarded, Contract, Parts, auth, after, put_reveal, withdraw, split, no_branch, branch, no_part, part}
use Rattle.spec_terms.specs.Advert.{Advert}
use Rattle.spec_terms.specs.Core.{core, lock, reveals_of, test_of}
use Rattle.spec_terms.specs.Cost.{reveals_size, later_size, cost}
use Rattle.spec_terms.specs.Faults.{IsWellFormed, fits_a_script, at_position}
use Rattle.spec_terms.specs.Paths as spots
use Rattle.spec_terms.specs.Paths.{Subterm}
use Rattle.spec_terms.specs.Parties.{participants}
use Rattle.spec_terms.specs.declared.path.PathStep.{PathStep}
use Rattle.spec_terms.specs.declared.path.PathStep.TheVariants.{Branch as To, Part as Into}
use Rattle.spec_nodes.specs.Nodes.{Deed, Node, choice_node, branch_node, branches_nodes, branch_nodes, parts_nodes, nodes_of, asks_once, deed_of, choice_count, choice_head}
use Rattle.theory_calculus.proofs.Faultless.{no_limit, of_core}
use Rattle.theory_calculus.proofs.Members.{all_append}
use Rattle.theory_script.proofs.Listing.Subterms.{Each, EachUnder, EachPart, each_of_advert}
use Rattle.bm_compile.specs.Passes.{are_short_reveals, has_short_reveals}

-- the test is true of a position's choice
abbrev of_choice : (Contract → Bool) → Subterm → Bool
of_choice g (spots.position c) = g c
of_choice g (spots.at_branch b) = true

choice_says : (g : Contract → Bool) (p : Subterm) → at_position (λ c. not (g c)) p ≡ false → of_choice g p ≡ true
choice_says g (spots.position c) h = not-false (g c) h
choice_says g (spots.at_branch b) h = refl

-- ---- from branches to their nodes

-- the test is true of what a branch's node does
abbrev deed_test : (Deed → Bool) → Node → Bool
deed_test test (choice_node position branches) = true
deed_test test (branch_node path asked height deed) = test deed

module _ (g : Guarded → Bool) (test : Deed → Bool) (same : (n : ℕ) (b : Guarded) → g b ≡ true → test (deed_of n b) ≡ true) where
  mutual
    pub of_branches : (position : List PathStep) (i n : ℕ) (c : Contract) → Each (of_core g) c
        → list_all (deed_test test) (branches_nodes position i n c) ≡ true
    of_branches position i n no_branch h = refl
    of_branches position i n (branch b bs) h =
        all_append (deed_test test) (branch_nodes (position ++ To i ∷ []) n (asks_once b) (lock b) b) _
        (of_branch (position ++ To i ∷ []) n (asks_once b) (lock b) b h.0 h.1)
        (of_branches position (i + 1) _ bs h.2)

    of_branch : (path : List PathStep) (n : ℕ) (asked : List (List ℕ)) (height : ℕ) (b : Guarded) → g (core b) ≡ true → EachUnder (of_core g) b
        → list_all (deed_test test) (branch_nodes path n asked height b) ≡ true
    of_branch path n asked height (auth party body) k h = of_branch path n asked height body k h
    of_branch path n asked height (after after_height body) k h = of_branch path n asked height body k h
    of_branch path n asked height (put_reveal puts reveals t next) k h =
        and_from (test (deed_of (n + 1) (put_reveal puts reveals t next))) _ (same (n + 1) (put_reveal puts reveals t next) k)
        (of_branches path 0 (n + 1 + 1) next h.1)
    of_branch path n asked height (withdraw party) k h = and_from (test (deed_of (n + 1) (withdraw party))) true (same (n + 1) (withdraw party) k) refl
    of_branch path n asked height (split parts) k h =
        and_from (test (deed_of (n + 1) (split parts))) _ (same (n + 1) (split parts) k) (of_parts path 0 (n + 1) parts h)

    of_parts : (path : List PathStep) (k n : ℕ) (ps : Parts) → EachPart (of_core g) ps → list_all (deed_test test) (parts_nodes path k n ps) ≡ true
    of_parts path k n no_part h = refl
    of_parts path k n (part v c ps) h =
        all_append (deed_test test) (choice_head (path ++ Into k ∷ []) n c ∷ branches_nodes (path ++ Into k ∷ []) 0 (n + 1) c) _
        (of_branches (path ++ Into k ∷ []) 0 (n + 1) c h.1)
        (of_parts path (k + 1) (n + choice_count c) ps h.2)

-- ---- operations

-- what a core reveals counts no more operations than a script may have
abbrev short : Guarded → Bool
short b = nat_le (reveals_size (reveals_of b) (test_of b)).operations most_operations

short_deed : (n : ℕ) (b : Guarded) → short b ≡ true → are_short_reveals (deed_of n b) ≡ true
short_deed n (put_reveal puts reveals test next) h = h
short_deed n (withdraw party) h = refl
short_deed n (split parts) h = refl
short_deed n (auth party body) h = refl
short_deed n (after height body) h = refl

small : (a b c : ℕ) → a ≤ b → nat_le b c ≡ true → nat_le a c ≡ true
small a b c lt h = let e = leb-true b c h in le-leb a c (omega (arith, lt, e))

module _ (parties : ℕ) where
  abbrev fits : Contract → Bool
  fits c = fits_a_script (cost parties c)

  -- the branches of a list count fewer operations than the whole of it
  mutual
    short_position : (c : Contract) → nat_le (cost parties c).operations most_operations ≡ true → Each (of_choice fits) c → Each (of_core short) c
    short_position no_branch h e = tt
    short_position (branch b bs) h e = (
      small _ (cost parties (branch b bs)).operations _ (omega arith) h,
      short_under b e.1,
      short_later bs (small _ (cost parties (branch b bs)).operations _ (omega arith) h) e.2,
    )

    short_later : (c : Contract) → nat_le (later_size parties c).operations most_operations ≡ true → Each (of_choice fits) c → Each (of_core short) c
    short_later no_branch h e = tt
    short_later (branch b bs) h e = (
      small _ (later_size parties (branch b bs)).operations _ (omega arith) h,
      short_under b e.1,
      short_later bs (small _ (later_size parties (branch b bs)).operations _ (omega arith) h) e.2,
    )

    short_under : (b : Guarded) → EachUnder (of_choice fits) b → EachUnder (of_core short) b
    short_under (auth party body) e = short_under body e
    short_under (after height body) e = short_under body e
    short_under (put_reveal puts reveals test next) e = (refl, short_position next (and_parts _ _ e.0).1 e.1)
    short_under (withdraw party) e = tt
    short_under (split parts) e = short_parts parts e

    short_parts : (ps : Parts) → EachPart (of_choice fits) ps → EachPart (of_core short) ps
    short_parts no_part e = tt
    short_parts (part v c ps) e = (refl, short_position c (and_parts _ _ e.0).1 e.1, short_parts ps e.2)

-- of a contract that passed the check
pub short_nodes : (a : Advert) → IsWellFormed a → list_all has_short_reveals (nodes_of a.root) ≡ true
short_nodes a well =
    let parties = length (participants a) in
    let l = no_limit a well in
    let e = each_of_advert (of_choice (fits parties)) _ a (λ x h. choice_says (fits parties) x.subterm h) l.1.1.1.0 in
    of_branches short are_short_reveals short_deed [] 0 1 a.root (short_position parties a.root (and_parts _ _ e.0).1 e.1)
