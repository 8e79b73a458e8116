-- What the check of a contract sees of the branch at the end of a path: it is as text may have it, and names each deposit and secret once.
use Rattle.std.proofs.Common.{◌≡◌, ℕ, List, [], ◌∷◌, Bool, true, Some, refl}
use Rattle.std.specs.Prelude.{◌&&◌, nat_le}
use Rattle.std.specs.List.{list_all}
use Rattle.std.proofs.lemmas.Bool.{and_parts, and_from}
use Rattle.spec_data.specs.Lists.{is_among, are_different}
use Rattle.spec_data.specs.Ranges.{max_money}
use Rattle.spec_terms.specs.Term as term
use Rattle.spec_terms.specs.Term.{Contract, no_branch, branch, branches, Parts, no_part, part, auth, after, put_reveal, withdraw, split}
use Rattle.spec_terms.specs.Advert.{Advert}
use Rattle.spec_terms.specs.Core.{core, puts_of, reveals_of}
use Rattle.spec_terms.specs.Faults.{IsWellFormed}
use Rattle.spec_terms.specs.Paths as paths
use Rattle.spec_terms.specs.Paths.{Subterm}
use Rattle.spec_terms.specs.Precondition.{volatile, deposits, names_of}
use Rattle.spec_terms.specs.Readable.{is_readable_pre, is_readable_contract, is_readable_count, is_readable_branch, is_readable_split, is_readable_test}
use Rattle.spec_terms.specs.Readable.{are_readable, are_readable_parts}
use Rattle.spec_terms.specs.declared.path.PathStep.{PathStep}
use Rattle.spec_compiler.specs.Keyed.Keys.{Keys}
use Rattle.spec_compiler.specs.Keyed.Instance.{Instance}
use Rattle.spec_compiler.specs.Keyed.Transactions.{Standing}
use Rattle.spec_compiler.specs.Keyed.ByPath.{at_branch, end_at}
use Rattle.spec_deal.specs.Needed.{needed_deposits}
use Rattle.theory_calculus.proofs.Faultless.{no_fault}
use Rattle.theory_calculus.proofs.Names.{in_named, volatile_named}
use Rattle.theory_script.proofs.Checked.{core_fact, puts_known}
use Rattle.theory_script.proofs.Listing.Subterms.{Each, EachUnder, EachPart, each_at}
use Rattle.theory_world.proofs.Labels.{is_fine, branch_readable}
use Rattle.theory_deal.proofs.Branches.{Found, branch_found}

-- ---- what a text can spell

abbrev reads : Subterm → Bool
reads (paths.position c) = is_fine c
reads (paths.at_branch b) = is_readable_branch b

mutual
  each_reads : (c : Contract) → are_readable c ≡ true → Each reads c
  each_reads no_branch h = tt
  each_reads (branch b bs) h =
      let p = and_parts (is_readable_branch b) (are_readable bs) h in
      (p.0, under_reads b p.0, each_reads bs p.1)

  under_reads : (b : term.Guarded) → is_readable_branch b ≡ true → EachUnder reads b
  under_reads (auth party body) h = under_reads body (and_parts _ (is_readable_branch body) h).1
  under_reads (after height body) h = under_reads body (and_parts _ (is_readable_branch body) h).1
  under_reads (put_reveal puts reveals test next) h =
      let p = and_parts _ (is_readable_test test && is_fine next) h in
      let q = (and_parts (is_readable_test test) (is_fine next) p.1).1 in
      (q, each_reads next (and_parts (is_readable_count next) (are_readable next) q).1)
  under_reads (withdraw party) h = tt
  under_reads (split parts) h = parts_read parts (and_parts (is_readable_split parts) (are_readable_parts parts) h).1

  parts_read : (ps : Parts) → are_readable_parts ps ≡ true → EachPart reads ps
  parts_read no_part h = tt
  parts_read (part v c ps) h =
      let p = and_parts (nat_le v max_money && is_fine c) (are_readable_parts ps) h in
      let q = (and_parts (nat_le v max_money) (is_fine c) p.0).1 in
      (q, each_reads c (and_parts (is_readable_count c) (are_readable c) q).1, parts_read ps p.1)

root_reads : (a : Advert) → IsWellFormed a → is_fine a.root ≡ true
root_reads a well =
    let r = and_parts (is_readable_pre a.pre) (nat_le a.fee max_money && is_readable_contract a.root) well.readable in
    let c = (and_parts (nat_le a.fee max_money) (is_readable_contract a.root) r.1).1 in
    (and_parts (is_fine a.root) _ c).0

-- ---- the branch at the end of a path

module _ (hash : List ℕ → List ℕ) (keys : Keys) (s : Instance) (well : IsWellFormed s.advert) (path : List PathStep) (here : Standing) (i : ℕ)
    (b : term.Guarded) (ends : end_at hash keys s path ≡ Some (at_branch here i b)) where
  -- where the branch stands
  abbrev pub place : Found hash keys s here i b
  place = branch_found hash keys s path here i b ends

  -- its position is as text may have it
  pub choice_reads : is_fine place.choice ≡ true
  choice_reads =
      let root = root_reads s.advert well in
      (each_at reads s.advert.root here.position place.choice
      (root, each_reads s.advert.root (and_parts (is_readable_count s.advert.root) (are_readable s.advert.root) root).1)
      place.stands.branches).0

  pub branch_reads : is_readable_branch b ≡ true
  branch_reads =
      branch_readable place.choice i b (and_parts (is_readable_count place.choice) (are_readable place.choice) choice_reads).1
      place.is_branch

  -- it puts deposits of the precondition
  pub puts_needed : list_all (λ n. is_among n (needed_deposits s.advert)) (puts_of (core b)) ≡ true
  puts_needed =
      each_put (puts_of (core b)) (puts_known s.advert well here.position place.choice place.stands.branches i b place.is_branch)
    where
      each_put : (ns : List (List ℕ)) → list_all (λ x. is_among x (names_of (volatile s.advert.pre))) ns ≡ true
          → list_all (λ n. is_among n (needed_deposits s.advert)) ns ≡ true
      each_put [] h = refl
      each_put (n ∷ ns) h =
          let p = and_parts _ (list_all (λ x. is_among x (names_of (volatile s.advert.pre))) ns) h in
          let v = volatile_named s.advert.pre n p.0 in
          and_from _ _ (in_named (deposits s.advert.pre) (n, v.0) v.2) (each_put ns p.1)

  -- each once, and reveals each secret once
  once : (are_different (puts_of (core b)) ≡ true) × (are_different (reveals_of (core b)) ≡ true)
  once =
      and_parts (are_different (puts_of (core b))) (are_different (reveals_of (core b)))
      (core_fact (λ y. are_different (puts_of y) && are_different (reveals_of y)) s.advert here.position place.choice i b
      (no_fault s.advert well).1.1.1.0 place.stands.branches place.is_branch)

  pub puts_different : are_different (puts_of (core b)) ≡ true
  puts_different = once.0

  pub reveals_different : are_different (reveals_of (core b)) ≡ true
  reveals_different = once.1
