-- A position of a contract that may have come from the reader has few branches.
use Rattle.std.proofs.Common.{◌≡◌, ℕ, ◌<◌, ◌^◌, ◌&&◌, List, length, Bool, true, Option, Some, refl, sym, ap, subst, ◌∙◌, arith, map}
use Rattle.std.specs.Prelude.{nat_le}
use Rattle.std.proofs.lemmas.Bool.{and_parts}
use Rattle.std.proofs.lemmas.List.{length-map}
use Rattle.spec_terms.specs.Term.{Guarded, auth, after, put_reveal, withdraw, split, Contract, no_branch, branch}
use Rattle.spec_terms.specs.Term.{branches, Parts, no_part, part}
use Rattle.spec_terms.specs.Advert.{Advert}
use Rattle.spec_terms.specs.Faults.{IsWellFormed}
use Rattle.spec_terms.specs.Paths.{Subterm, position, at_branch, contract_under}
use Rattle.spec_terms.specs.Readable.{most_choices, is_readable_contract, is_readable_count}
use Rattle.spec_terms.specs.Readable.{is_readable_split, are_readable, is_readable_branch, are_readable_parts}
use Rattle.spec_terms.specs.declared.path.PathStep.{PathStep}
use Rattle.spec_calculus.specs.Offers.{branches_at}
use Rattle.theory_script.proofs.Listing.Subterms.{Each, EachUnder, EachPart, each_at}
use Rattle.bm_syntax.specs.View.{guarded, contract}
use Rattle.bm_syntax.proofs.Views.{branches-choice_of}
use Rattle.bm_syntax.specs.declared.term.Contract.{Contract as Choice}
use Rattle.bm_syntax.specs.declared.term.Guarded.{Guarded as Branch}

-- whether a position has so few branches
abbrev has_few : Subterm → Bool
has_few (position c) = nat_le (length (branches c)) most_choices
has_few (at_branch b) = true

few_here : (c : Contract) → is_readable_count c ≡ true → has_few (position c) ≡ true
few_here c h = (and_parts _ (has_few (position c)) h).1

mutual
  few_in : (c : Contract) → are_readable c ≡ true → Each has_few c
  few_in no_branch h = tt
  few_in (branch b bs) h = let p = and_parts (is_readable_branch b) (are_readable bs) h in (refl, few_under b p.0, few_in bs p.1)

  few_under : (b : Guarded) → is_readable_branch b ≡ true → EachUnder has_few b
  few_under (auth party body) h = few_under body (and_parts _ (is_readable_branch body) h).1
  few_under (after height body) h = few_under body (and_parts _ (is_readable_branch body) h).1
  few_under (put_reveal puts reveals test next) h =
      let p = and_parts _ _ h in
      let r = and_parts _ (is_readable_count next && are_readable next) p.1 in
      let u = and_parts (is_readable_count next) (are_readable next) r.1 in
      (few_here next u.0, few_in next u.1)
  few_under (withdraw party) h = tt
  few_under (split parts) h = few_parts parts (and_parts (is_readable_split parts) (are_readable_parts parts) h).1

  few_parts : (ps : Parts) → are_readable_parts ps ≡ true → EachPart has_few ps
  few_parts no_part h = tt
  few_parts (part v c ps) h =
      let p = and_parts _ (are_readable_parts ps) h in
      let q = and_parts _ (is_readable_count c && are_readable c) p.0 in
      let u = and_parts (is_readable_count c) (are_readable c) q.1 in
      (few_here c u.0, few_in c u.1, few_parts ps p.1)

few_under_root : (a : Advert) (q : List PathStep) (c : Contract) → IsWellFormed a → contract_under a.root q ≡ Some c
    → nat_le (length (branches c)) most_choices ≡ true
few_under_root a q c well e =
    let r = and_parts _ _ well.readable in
    let r2 = and_parts _ (is_readable_contract a.root) r.1 in
    let r3 = and_parts (is_readable_count a.root && are_readable a.root) _ r2.1 in
    let r4 = and_parts (is_readable_count a.root) (are_readable a.root) r3.0 in
    (each_at has_few a.root q c (few_here a.root r4.0, few_in a.root r4.1) e).0

few_number : (n : ℕ) → nat_le n most_choices ≡ true → n < 2 ^ 32
few_number n h = grind (arith, h)

-- these are the branches of a choice that stands there
pub seen_branches : (c : Choice) (bs : List Branch) (o : Option Contract) → bs ≡ c.branches.items → Some (contract c) ≡ o
    → map guarded bs ≡ branches_at o
seen_branches c bs o e h =
    ap (map guarded) e ∙ sym (branches-choice_of (map guarded c.branches.items)) ∙ ap branches_at h

-- and of one that stands in a checked contract there are few
pub few_branches : (a : Advert) (q : List PathStep) (c : Choice) (bs : List Branch) → bs ≡ c.branches.items → IsWellFormed a
    → Some (contract c) ≡ contract_under a.root q → length bs < 2 ^ 32
few_branches a q c bs e well h =
    let l : length (branches (contract c)) ≡ length bs =
    ap length (branches-choice_of (map guarded c.branches.items)) ∙ length-map c.branches.items guarded ∙ ap length (sym e) in
    few_number (length bs) (subst (λ n. nat_le n most_choices ≡ true) l (few_under_root a q (contract c) well (sym h)))
