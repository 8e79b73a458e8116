-- What a party signs to endorse a contract is what it is asked for, path by path.
use Rattle.std.proofs.Common.{◌≡◌, ℕ, List, [], ◌∷◌, ◌++◌, Bool, true, false, cond, Option, Some, None, refl, sym, ap, ◌∙◌, map}
use Rattle.std.specs.Prelude.{filter, not, ◌&&◌}
use Rattle.std.specs.Option.{option_map_or}
use Rattle.std.specs.Str.{bytes_eq}
use Rattle.spec_data.specs.Lists.{is_among}
use Rattle.spec_terms.specs.Term.{Guarded}
use Rattle.spec_terms.specs.Advert.{Advert}
use Rattle.spec_terms.specs.Core.{core, asks, puts_of}
use Rattle.spec_terms.specs.Parties.{participants}
use Rattle.spec_terms.specs.Paths.{at}
use Rattle.spec_terms.specs.declared.path.PathStep.{PathStep}
use Rattle.spec_bitcoin.specs.Keys.{Pair, key_of}
use Rattle.spec_nodes.specs.Nodes.{asks_once}
use Rattle.spec_compiler.specs.declared.prepared.Prepared.{Prepared}
use Rattle.spec_compiler.specs.Compilation.{compilation}
use Rattle.spec_compiler.specs.Instance.{Instance, branch_label}
use Rattle.spec_compiler.specs.Endorsements.{Need, branch_needs, put_needs, needs_of, path_needs, needs, needed}
use Rattle.spec_run.specs.Signing.{pairs_of_party}
use Rattle.bm_compile.specs.Numbered.{Numbered, numbered}
use Rattle.bm_honest.proofs.Unmet.{asked-once, keys_planned}
use Rattle.bm_honest.specs.Unsigned.{plan_keys, seen_branch}
use Rattle.bm_honest.specs.Pairs.{person_pairs, owner_pairs, pairs_for, pairs_seen, pairs_at, pairs_of_paths}

pairs-append : (party : List ℕ) (xs ys : List Need) → pairs_of_party party (xs ++ ys) ≡ pairs_of_party party xs ++ pairs_of_party party ys
pairs-append party [] ys = refl
pairs-append party (x ∷ xs) ys = by_test (bytes_eq x.party party) (pairs-append party xs ys)
  where
    by_test : (b : Bool) → pairs_of_party party (xs ++ ys) ≡ pairs_of_party party xs ++ pairs_of_party party ys
        → cond b ((x.key, x.digest) ∷ pairs_of_party party (xs ++ ys)) (pairs_of_party party (xs ++ ys))
        ≡ cond b ((x.key, x.digest) ∷ pairs_of_party party xs) (pairs_of_party party xs) ++ pairs_of_party party ys
    by_test true e = ap (λ ps. (x.key, x.digest) ∷ ps) e
    by_test false e = e

module _ (hash : List ℕ → List ℕ) (contract : ℕ) (advert : Advert) (party : List ℕ) (path : List PathStep) where
  abbrev key : List ℕ → List ℕ
  key p = key_of hash (branch_label contract path p)

  abbrev person_need : List ℕ → List ℕ → Need
  person_need digest p = record { path = path; party = p; key = key p; digest = digest }

  persons_pairs : (asked : List (List ℕ)) (digest : List ℕ) (people : List (List ℕ))
      → pairs_of_party party (map (person_need digest) (filter (λ p. not (is_among p asked)) people))
      ≡ person_pairs asked digest party people (map key people)
  persons_pairs asked digest [] = refl
  persons_pairs asked digest (p ∷ ps) = by_test (is_among p asked) (bytes_eq p party) refl (persons_pairs asked digest ps)
    where
      by_test : (a b : Bool) → bytes_eq p party ≡ b
          → pairs_of_party party (map (person_need digest) (filter (λ q. not (is_among q asked)) ps))
          ≡ person_pairs asked digest party ps (map key ps)
          → pairs_of_party party (map (person_need digest)
          (cond (not a) (p ∷ filter (λ q. not (is_among q asked)) ps) (filter (λ q. not (is_among q asked)) ps)))
          ≡ cond (not a && bytes_eq p party) ((key p, digest) ∷ person_pairs asked digest party ps (map key ps))
          (person_pairs asked digest party ps (map key ps))
      by_test true b e ih = ih
      by_test false true e ih = rw e (ap (λ rest. (key p, digest) ∷ rest) ih)
      by_test false false e ih = rw e ih

  same_persons : (b : Guarded) (digest : List ℕ) (people keys : List (List ℕ))
      → person_pairs (asks_once b) digest party people keys ≡ person_pairs (asks b) digest party people keys
  same_persons b digest [] keys = refl
  same_persons b digest (p ∷ ps) [] = refl
  same_persons b digest (p ∷ ps) (k ∷ ks) = rw (asked-once b p, same_persons b digest ps ks) refl

  owners_pairs : (puts digests : List (List ℕ))
      → pairs_of_party party (put_needs hash advert path puts digests) ≡ owner_pairs hash advert.pre party puts digests
  owners_pairs [] digests = refl
  owners_pairs (name ∷ puts) [] = refl
  owners_pairs (name ∷ puts) (digest ∷ digests) = rw (owners_pairs puts digests) refl

  branch_pairs : (b : Guarded) (digests : List (List ℕ))
      → pairs_of_party party (needs_of hash contract advert path b digests)
      ≡ pairs_for hash advert (map key (participants advert)) party (asks_once b) (puts_of (core b)) digests
  branch_pairs b [] = refl
  branch_pairs b (digest ∷ digests) =
      pairs-append party (branch_needs hash contract advert path b digest) (put_needs hash advert path (puts_of (core b)) digests)
      ∙ ap (λ ps. ps ++ pairs_of_party party (put_needs hash advert path (puts_of (core b)) digests))
      (persons_pairs (asks b) digest (participants advert) ∙ sym (same_persons b digest (participants advert) (map key (participants advert))))
      ∙ ap (λ ps. person_pairs (asks_once b) digest party (participants advert) (map key (participants advert)) ++ ps) (owners_pairs (puts_of (core b)) digests)

  -- what is signed of a path, by what is seen of the branch there, and by the plan's keys
  path_pairs : (made : Prepared)
      → pairs_of_party party (path_needs hash contract advert path made) ≡ pairs_at hash advert (map key (participants advert)) party path made
  path_pairs made = by_branch (at advert.root path)
    where
      by_branch : (o : Option Guarded) → pairs_of_party party (option_map_or (λ b. needs_of hash contract advert path b made.digests) o [])
          ≡ pairs_seen hash advert (map key (participants advert)) party (seen_branch o) made.digests
      by_branch None = refl
      by_branch (Some b) = branch_pairs b made.digests

module _ (hash : List ℕ → List ℕ) (contract : ℕ) (advert : Advert) (party : List ℕ) where
  planned_pairs : (paths : List (List PathStep × Prepared))
      → pairs_of_paths hash advert party paths (plan_keys hash contract advert paths) ≡ pairs_of_party party (needs hash contract advert paths)
  planned_pairs [] = refl
  planned_pairs (p ∷ ps) =
      ap (λ first. first ++ pairs_of_paths hash advert party ps (plan_keys hash contract advert ps)) (sym (path_pairs hash contract advert party p.0 p.1))
      ∙ ap (λ rest. pairs_of_party party (path_needs hash contract advert p.0 p.1) ++ rest) (planned_pairs ps)
      ∙ sym (pairs-append party (path_needs hash contract advert p.0 p.1) (needs hash contract advert ps))

  -- what is signed of all paths by the plan's keys
  pub paths_pairs : (paths : List (List PathStep × Prepared)) (table : List (List (List ℕ))) → table ≡ plan_keys hash contract advert paths
      → pairs_of_paths hash advert party paths table ≡ pairs_of_party party (needs hash contract advert paths)
  paths_pairs paths table planned = ap (pairs_of_paths hash advert party paths) planned ∙ planned_pairs paths

-- what the party signs of a contract that is compiled so
pub endorses : (hash : List ℕ → List ℕ) (s : Instance) (contract : ℕ) (advert : Advert) (party : List ℕ) (compiled : Numbered) (pairs : List Pair)
    → (compiled.keys ≡ plan_keys hash contract advert compiled.paths → pairs ≡ pairs_of_party party (needs hash contract advert compiled.paths))
    → compiled ≡ numbered hash s → s.contract ≡ contract → s.advert ≡ advert → pairs ≡ pairs_of_party party (needed hash s)
endorses hash s contract advert party compiled pairs by_plan e number text =
    let is = by_plan (keys_planned hash s contract advert compiled e number text) in
    let paths : compiled.paths ≡ (compilation hash s).paths = ap (λ (n : Numbered). n.paths) e in
    rw (is, paths, ← number, ← text) refl
