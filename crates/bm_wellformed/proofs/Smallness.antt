-- What the reader's limits leave small.
use Rattle.std.proofs.Common.{◌≡◌, ◌≤◌, List, length, true, map, ap, ◌∙◌, refl}
use Rattle.std.specs.Prelude.{nat_le, ◌&&◌}
use Rattle.std.specs.List.{list_all}
use Rattle.std.proofs.lemmas.Bool.{and_parts, leb-true}
use Rattle.std.proofs.lemmas.List.{length-map}
use Rattle.spec_terms.specs.Term.{Guarded as TermGuarded, auth, after, put_reveal, withdraw, split, Contract, no_branch, branch, branches, Parts, no_part, part, parts_list}
use Rattle.spec_terms.specs.Core.{core}
use Rattle.spec_data.specs.Ranges.{max_money, last_height}
use Rattle.spec_terms.specs.Readable.{is_name, most_choices, most_parts, is_some_list, is_whole_prefix, is_readable_count, is_readable_split, is_readable_test, are_readable, is_readable_branch, are_readable_parts}
use Rattle.bm_syntax.specs.View.{choice_view, parts_view, guarded, part_view}
use Rattle.bm_syntax.proofs.Views.{branches-choice_of, parts_list-parts_of}
use Rattle.bm_syntax.specs.declared.term.Guarded.{Guarded}
use Rattle.bm_syntax.specs.declared.term.Part.{Part}
use Rattle.bm_wellformed.specs.Small.{AreSmall, IsSmall, AreSmallParts}

pub small_core : (b : TermGuarded) → IsSmall b → IsSmall (core b)
small_core (auth party body) h = small_core body h
small_core (after height body) h = small_core body h
small_core (put_reveal puts reveals test next) h = h
small_core (withdraw party) h = h
small_core (split parts) h = h

-- as many branches as the vector has, and as many parts
pub length_branches : (bs : List Guarded) → length (branches (choice_view bs)) ≡ length bs
length_branches bs = ap length (branches-choice_of (map guarded bs)) ∙ simp length-map refl

pub length_parts : (ps : List Part) → length (parts_list (parts_view ps)) ≡ length ps
length_parts ps = ap length (parts_list-parts_of (map part_view ps)) ∙ simp length-map refl

pub few_branches : (c : Contract) → is_readable_count c ≡ true → length (branches c) ≤ 32
few_branches c h = leb-true (length (branches c)) 32 (and_parts (is_some_list (branches c)) (nat_le (length (branches c)) most_choices) h).1

few_parts : (ps : Parts) → is_readable_split ps ≡ true → length (parts_list ps) ≤ 64
few_parts ps h = leb-true (length (parts_list ps)) 64 (and_parts (is_some_list (parts_list ps)) (nat_le (length (parts_list ps)) most_parts) h).1

mutual
  pub small_branches : (c : Contract) → are_readable c ≡ true → AreSmall c
  small_branches no_branch h = tt
  small_branches (branch b bs) h = let p = and_parts (is_readable_branch b) (are_readable bs) h in (small_branch b p.0, small_branches bs p.1)

  pub small_branch : (b : TermGuarded) → is_readable_branch b ≡ true → IsSmall b
  small_branch (auth party body) h = small_branch body (and_parts (is_name party) (is_readable_branch body) h).1
  small_branch (after height body) h = small_branch body (and_parts (nat_le height last_height) (is_readable_branch body) h).1
  small_branch (put_reveal puts reveals test next) h =
      let p = and_parts (is_whole_prefix puts reveals test && (list_all is_name puts && list_all is_name reveals)) (is_readable_test test && (is_readable_count next && are_readable next)) h in
      let q = and_parts (is_readable_test test) (is_readable_count next && are_readable next) p.1 in
      let r = and_parts (is_readable_count next) (are_readable next) q.1 in
      (few_branches next r.0, small_branches next r.1)
  small_branch (withdraw party) h = tt
  small_branch (split parts) h = let p = and_parts (is_readable_split parts) (are_readable_parts parts) h in (few_parts parts p.0, small_parts parts p.1)

  pub small_parts : (ps : Parts) → are_readable_parts ps ≡ true → AreSmallParts ps
  small_parts no_part h = tt
  small_parts (part v c ps) h =
      let p = and_parts (nat_le v max_money && (is_readable_count c && are_readable c)) (are_readable_parts ps) h in
      let q = and_parts (nat_le v max_money) (is_readable_count c && are_readable c) p.0 in
      let r = and_parts (is_readable_count c) (are_readable c) q.1 in
      (few_branches c r.0, small_branches c r.1, small_parts ps p.1)
