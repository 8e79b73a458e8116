-- Each transaction of a well-formed contract spends and makes an output, pays no more than it spends, and has a height for its lock.
use Rattle.std.proofs.Common.{◌≡◌, ℕ, suc, ◌<◌, ◌≤◌, List, [], ◌∷◌, length, map, Bool, true, false, Option, Some, None}
use Rattle.std.proofs.Common.{refl, ap, ◌∙◌, subst, arith}
use Rattle.std.specs.Option.{option_map, option_and_then}
use Rattle.spec_data.specs.Ranges.{max_money}
use Rattle.spec_terms.specs.Term as term
use Rattle.spec_terms.specs.Term.{Contract, Parts, no_part, part, auth, after, put_reveal, withdraw, split}
use Rattle.spec_terms.specs.Core.{core, lock}
use Rattle.spec_terms.specs.Faults.{IsWellFormed}
use Rattle.spec_terms.specs.Precondition.{Holding, persistent}
use Rattle.spec_terms.specs.Readable.{is_readable_branch}
use Rattle.spec_terms.specs.declared.path.PathStep.{PathStep}
use Rattle.spec_bitcoin.specs.Verdict.{total_of}
use Rattle.spec_compiler.specs.Keyed.Keys.{Keys}
use Rattle.spec_compiler.specs.Keyed.Instance.{Instance, branch_path}
use Rattle.spec_compiler.specs.Keyed.Transactions.{Standing, deposit, persistent_deposits, core_outputs, core_unsigned, branch_unsigned}
use Rattle.spec_compiler.specs.Keyed.Transactions.{initial_unsigned, continued, continued_value}
use Rattle.spec_compiler.specs.Keyed.ByPath.{PathEnd, at_position, at_branch, continued_end, end_at, as_position, as_unsigned, position_at}
use Rattle.spec_tool.specs.declared.which.Which.{Which}
use Rattle.spec_tool.specs.declared.which.Which.TheVariants as names
use Rattle.spec_tool.specs.Keyed.Listed.{Listed, path_listed, listed_at}
use Rattle.theory_calculus.proofs.Members.{in_some}
use Rattle.theory_script.specs.Keyed.Money.{IsKept}
use Rattle.theory_script.proofs.Keyed.Balances.{root_little, stand_fine, position_little}
use Rattle.theory_script.proofs.Keyed.Money.{initial_kept, paths_kept}
use Rattle.theory_script.proofs.Keyed.Stands.{some_same}
use Rattle.theory_world.proofs.Contracts.Mentions.{a_person, has_deposit}
use Rattle.theory_world.proofs.Labels.{core_readable}
use Rattle.theory_run.proofs.Widths.BranchWidths.{lock_low}
use Rattle.theory_deal.proofs.ReadBranches.{branch_reads}
use Rattle.theory_deal.proofs.Ledger.Verdicts.{IsFunded}

-- a core is no wish and no lock
abbrev is_bare : term.Guarded → Bool
is_bare (auth party body) = false
is_bare (after height body) = false
is_bare (put_reveal puts reveals test next) = true
is_bare (withdraw party) = true
is_bare (split parts) = true

core_bare : (b : term.Guarded) → is_bare (core b) ≡ true
core_bare (auth party body) = core_bare body
core_bare (after height body) = core_bare body
core_bare (put_reveal puts reveals test next) = refl
core_bare (withdraw party) = refl
core_bare (split parts) = refl

-- what a branch makes
makes_some : (hash : List ℕ → List ℕ) (keys : Keys) (s : Instance) (path : List PathStep) (v : ℕ) (c : term.Guarded) → is_bare c ≡ true
    → is_readable_branch c ≡ true
    → 0 < length (core_outputs hash keys s path v c)
makes_some hash keys s path v (auth party body) h r = cc
makes_some hash keys s path v (after height body) h r = cc
makes_some hash keys s path v (put_reveal puts reveals test next) h r = omega arith
makes_some hash keys s path v (withdraw party) h r = omega arith
makes_some hash keys s path v (split no_part) h r = cc
makes_some hash keys s path v (split (part w c ps)) h r = omega arith

module _ (hash : List ℕ → List ℕ) (keys : Keys) (s : Instance) (well : IsWellFormed s.advert) where
  -- ---- the initial transaction

  some_persistent : 0 < length (persistent_deposits hash keys s)
  some_persistent =
      let p = a_person s.advert well in
      let d = has_deposit s.advert (p.0) well (p.1) in
      let n = in_some (d.name, d.holding) (persistent s.advert.pre) d.there in
      let m = many (persistent s.advert.pre) in
      omega (arith, n, m)
    where
      many : (ds : List (List ℕ × Holding)) → length (map (λ d. deposit hash keys s d.0 d.1) ds) ≡ length ds
      many [] = refl
      many (d ∷ ds) = ap suc (many ds)

  initial_funded : IsFunded (initial_unsigned hash keys s)
  initial_funded =
      let kept = initial_kept hash keys s well in
      let little = root_little hash keys s well in
      record {
        some = some_persistent;
        makes = omega arith;
        enough = omega (arith, kept);
        money = omega (arith, little);
        height = omega arith;
      }

  -- ---- the transaction of a path

  module _ (path : List PathStep) (here : Standing) (i : ℕ) (b : term.Guarded)
      (ends : end_at hash keys s path ≡ Some (at_branch here i b)) where
    kept : IsKept s.advert (branch_unsigned hash keys s here i b)
    kept =
        paths_kept hash keys s well path (branch_unsigned hash keys s here i b) (ap (option_and_then (as_unsigned hash keys s)) ends)

    -- no more than all money is paid out
    little : (c : term.Guarded) → core b ≡ c → IsKept s.advert (core_unsigned hash keys s here i (lock b) c)
        → total_of (core_outputs hash keys s (branch_path here.position i) here.output.value c) ≤ max_money
    little (put_reveal puts reveals test next) is k =
        let goes_on = continued hash keys s (branch_path here.position i) (branch_unsigned hash keys s here i b)
        (continued_value s here.output.value puts) next in
        let there : position_at hash keys s path ≡ Some (goes_on, next) =
        ap (option_and_then (as_position hash keys s)) ends ∙ ap (continued_end hash keys s here i b) is in
        let low = position_little hash keys s well path goes_on next there in
        omega (arith, low)
    little (withdraw party) is k =
        let low = (stand_fine hash keys s well path (at_branch here i b) ends).0 in
        omega (arith, low)
    little (split parts) is k =
        let low = (stand_fine hash keys s well path (at_branch here i b) ends).0 in
        omega (arith, low, k)
    little (auth party body) is k = omega arith
    little (after height body) is k = omega arith

    branch_funded : IsFunded (branch_unsigned hash keys s here i b)
    branch_funded =
        let readable = branch_reads hash keys s well path here i b ends in
        record {
          some = omega arith;
          makes = makes_some hash keys s (branch_path here.position i) here.output.value (core b) (core_bare b) (core_readable b readable);
          enough = let k = kept in omega (arith, k);
          money = little (core b) refl kept;
          height = lock_low b readable;
        }

  -- ---- all transactions

  by_ends : (path : List PathStep) (o : Option PathEnd) → end_at hash keys s path ≡ o → (l : Listed)
      → option_map (path_listed s path) (option_and_then (as_unsigned hash keys s) o) ≡ Some l → IsFunded l.pending
  by_ends path None ends l e = cc
  by_ends path (Some (at_position here choice)) ends l e = cc
  by_ends path (Some (at_branch here i b)) ends l e =
      subst (λ (x : Listed). IsFunded x.pending) (some_same e) (branch_funded path here i b ends)

  pub funded_at : (which : Which) (l : Listed) → listed_at hash keys s which ≡ Some l → IsFunded l.pending
  funded_at names.Init l e = subst (λ (x : Listed). IsFunded x.pending) (some_same e) initial_funded
  funded_at (names.At path) l e = by_ends path (end_at hash keys s path) refl l e
