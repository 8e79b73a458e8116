-- Each deposit that a checked contract puts is bound where its deposits are, and no split has too many parts.
use Rattle.std.proofs.Common.{◌≡◌, ℕ, ◌+◌, ◌≤◌, List, [], ◌∷◌, length, Bool, true, refl, arith}
use Rattle.std.specs.Prelude.{nat_le}
use Rattle.std.specs.List.{list_all}
use Rattle.std.proofs.lemmas.Bool.{and_parts, and_from, le-leb}
use Rattle.spec_terms.specs.Advert.{Advert}
use Rattle.spec_terms.specs.Core.{core, puts_of}
use Rattle.spec_terms.specs.Faults.{IsWellFormed, are_among}
use Rattle.spec_terms.specs.Precondition.{volatile, deposits, names_of}
use Rattle.spec_terms.specs.Term.{Guarded, Contract, Parts, auth, after, put_reveal, withdraw, split, no_branch, branch, no_part, part}
use Rattle.spec_terms.specs.declared.pre.Pre.{Pre}
use Rattle.spec_terms.specs.declared.pre.Pre.TheVariants.{Persistent, Volatile, Secret}
use Rattle.spec_bitcoin.specs.declared.tx.OutPoint.{OutPoint}
use Rattle.spec_nodes.specs.Nodes.{nodes_of, deed_of, part_numbers, branches_count, branch_count, parts_count, choice_count}
use Rattle.theory_calculus.proofs.Faultless.{no_fault, of_core, core_says}
use Rattle.theory_calculus.proofs.Names.{all_among}
use Rattle.theory_nodes.specs.Walk.{deed_puts}
use Rattle.theory_script.proofs.Listing.Subterms.{Each, EachUnder, EachPart, each_of_advert}
use Rattle.bm_compile.specs.Seen.{is_bound, deed_parts, has_bound_puts, has_few_parts}
use Rattle.bm_compile.proofs.Small.{of_branches}

-- ---- bound deposits

volatile_bound : (f : List ℕ → Bool) (pre : List Pre) → list_all (λ d. f d.0) (deposits pre) ≡ true → list_all f (names_of (volatile pre)) ≡ true
volatile_bound f [] h = refl
volatile_bound f (Persistent party value name ∷ es) h = volatile_bound f es (and_parts (f name) _ h).1
volatile_bound f (Volatile party value name ∷ es) h =
    let p = and_parts (f name) (list_all (λ d. f d.0) (deposits es)) h in
    and_from (f name) (list_all f (names_of (volatile es))) p.0 (volatile_bound f es p.1)
volatile_bound f (Secret party name ∷ es) h = volatile_bound f es h

all_known : (f : List ℕ → Bool) (names known : List (List ℕ)) → list_all f known ≡ true → are_among names known ≡ true → list_all f names ≡ true
all_known f [] known h k = refl
all_known f (x ∷ xs) known h k =
    let p = and_parts _ (are_among xs known) k in
    and_from (f x) (list_all f xs) (all_among f known x h p.0) (all_known f xs known h p.1)

module _ (bound : List (List ℕ × OutPoint)) where
  abbrev puts_known : List Pre → Guarded → Bool
  puts_known pre b = are_among (puts_of b) (names_of (volatile pre))

  deed_bound : (pre : List Pre) → list_all (λ d. is_bound bound d.0) (deposits pre) ≡ true → (n : ℕ) (b : Guarded) → puts_known pre b ≡ true
      → list_all (is_bound bound) (deed_puts (deed_of n b)) ≡ true
  deed_bound pre h n (put_reveal puts reveals test next) k = all_known (is_bound bound) puts (names_of (volatile pre)) (volatile_bound (is_bound bound) pre h) k
  deed_bound pre h n (withdraw party) k = refl
  deed_bound pre h n (split parts) k = refl
  deed_bound pre h n (auth party body) k = refl
  deed_bound pre h n (after height body) k = refl

  pub bound_nodes : (a : Advert) → IsWellFormed a → list_all (λ d. is_bound bound d.0) (deposits a.pre) ≡ true
      → list_all (has_bound_puts bound) (nodes_of a.root) ≡ true
  bound_nodes a well h =
      let e = each_of_advert (of_core (puts_known a.pre)) _ a (λ x k. core_says (puts_known a.pre) x.subterm k) (no_fault a well).1.0 in
      of_branches (puts_known a.pre) (λ deed. list_all (is_bound bound) (deed_puts deed)) (deed_bound a.pre h) [] 0 1 a.root e.1

-- ---- few parts

-- how many parts a core has
abbrev part_count : Guarded → ℕ
part_count (put_reveal puts reveals test next) = 0
part_count (withdraw party) = 0
part_count (split parts) = parts_count parts
part_count (auth party body) = 0
part_count (after height body) = 0

abbrev few : Guarded → Bool
few b = nat_le (part_count b) 1024

length-parts : (n : ℕ) (ps : Parts) → length (part_numbers n ps) ≤ parts_count ps
length-parts n no_part = omega arith
length-parts n (part v c ps) = let e = length-parts (n + choice_count c) ps in omega (arith, e)

deed_few : (n : ℕ) (b : Guarded) → few b ≡ true → nat_le (length (deed_parts (deed_of n b))) 1024 ≡ true
deed_few n (put_reveal puts reveals test next) k = refl
deed_few n (withdraw party) k = refl
deed_few n (split parts) k =
    let e = length-parts n parts in
    let f : parts_count parts ≤ 1024 = grind (arith, k) in
    le-leb (length (part_numbers n parts)) 1024 (omega (arith, e, f))
deed_few n (auth party body) k = refl
deed_few n (after height body) k = refl

few_core : (b : Guarded) → branch_count b ≤ 1024 → few (core b) ≡ true
few_core (auth party body) h = few_core body h
few_core (after height body) h = few_core body h
few_core (put_reveal puts reveals test next) h = refl
few_core (withdraw party) h = refl
few_core (split parts) h = le-leb (parts_count parts) 1024 (omega (arith, h))

mutual
  few_choice : (c : Contract) → branches_count c ≤ 1024 → Each (of_core few) c
  few_choice no_branch h = tt
  few_choice (branch b bs) h = (few_core b (omega (arith, h)), few_under b (omega (arith, h)), few_choice bs (omega (arith, h)))

  few_under : (b : Guarded) → branch_count b ≤ 1024 → EachUnder (of_core few) b
  few_under (auth party body) h = few_under body h
  few_under (after height body) h = few_under body h
  few_under (put_reveal puts reveals test next) h = (refl, few_choice next (omega (arith, h)))
  few_under (withdraw party) h = tt
  few_under (split parts) h = few_parts parts (omega (arith, h))

  few_parts : (ps : Parts) → parts_count ps ≤ 1024 → EachPart (of_core few) ps
  few_parts no_part h = tt
  few_parts (part v c ps) h = (refl, few_choice c (omega (arith, h)), few_parts ps (omega (arith, h)))

pub few_nodes_parts : (root : Contract) → choice_count root ≤ 1024 → list_all has_few_parts (nodes_of root) ≡ true
few_nodes_parts root h =
    of_branches few (λ deed. nat_le (length (deed_parts deed)) 1024) deed_few [] 0 1 root (few_choice root (omega (arith, h)))
