-- The scripts that a deal's transactions spend, and those of their outputs, are short.
use Rattle.std.proofs.Common.{◌≡◌, ℕ, ◌+◌, ◌≤◌, List, [], ◌∷◌, length, map, Bool, true, false, Option, Some, None}
use Rattle.std.proofs.Common.{refl, sym, subst, arith, length-append, cond}
use Rattle.std.specs.List.{AllByRecursion}
use Rattle.std.specs.Option.{option_map, option_map_or, option_and_then}
use Rattle.spec_data.specs.Hashes.{HashesBytes}
use Rattle.spec_data.specs.Lists.{look_up}
use Rattle.spec_terms.specs.Term as term
use Rattle.spec_terms.specs.Term.{Parts, no_part, part, auth, after, put_reveal, withdraw, split}
use Rattle.spec_terms.specs.Core.{core, puts_of}
use Rattle.spec_terms.specs.Precondition.{Holding, persistent, volatile}
use Rattle.spec_terms.specs.declared.path.PathStep.{PathStep}
use Rattle.spec_bitcoin.specs.declared.label.Label.TheVariants as labels
use Rattle.spec_bitcoin.specs.Keys.{pay_to, checksig_byte}
use Rattle.spec_bitcoin.specs.Verdict.{program_of}
use Rattle.spec_compiler.specs.declared.unsigned.Spent.{Spent}
use Rattle.spec_compiler.specs.declared.unsigned.Unsigned.{Unsigned}
use Rattle.spec_compiler.specs.Keyed.OwnScripts.{pays_to_key_hash, key_hash_code, code_of}
use Rattle.spec_compiler.specs.Keyed.Keys.{Keys, own_script, own_payee}
use Rattle.spec_compiler.specs.Keyed.Instance.{Instance, branch_path, deposit_key, position_script}
use Rattle.spec_compiler.specs.Keyed.Transactions.{Standing, pays, party_script, pays_party, part_position, part_outputs, core_outputs, deposit}
use Rattle.spec_compiler.specs.Keyed.Transactions.{holding_or_none, put_deposits, branch_unsigned, initial_unsigned}
use Rattle.spec_compiler.specs.Keyed.ByPath.{PathEnd, at_position, at_branch, end_at, as_unsigned}
use Rattle.spec_compiler.specs.Keyed.Statements.{AreKeys, IsPayable, ArePayable, IsCompiled}
use Rattle.spec_tool.specs.declared.which.Which.{Which}
use Rattle.spec_tool.specs.declared.which.Which.TheVariants as names
use Rattle.spec_tool.specs.Keyed.Listed.{Listed, path_listed, listed_at}
use Rattle.theory_script.proofs.Keyed.Opened.{no_limit_met}
use Rattle.theory_script.proofs.Keyed.Stands.{some_same}
use Rattle.theory_deal.specs.Finished.{IsApplied}
use Rattle.theory_deal.proofs.Branches.{branch_found}
use Rattle.theory_deal.proofs.Widths.Light.{IsLow}
use Rattle.theory_deal.proofs.Widths.ScriptBytes.{AreBrought}

-- a script that is no longer than any may be
abbrev pub HasShort : Spent → Type 0
HasShort x = length x.script ≤ 10000

-- what is spent and what is made
pub record IsShort (d : Unsigned) : Type 0 where
  pub spends : AllByRecursion HasShort d.spends
  pub outputs : AllByRecursion IsLow d.outputs

-- what a wallet's signature is made with
code_few : (own : List ℕ) → IsPayable own → length (code_of own) ≤ 10000
code_few own h = by_test (pays_to_key_hash own)
  where
    behind : (bytes : List ℕ) → length bytes ≤ 34 → length (program_of bytes) ≤ 34
    behind [] k = k
    behind (a ∷ []) k = omega arith
    behind (a ∷ (b ∷ rest)) k = omega (arith, k)

    by_test : (b : Bool) → length (cond b (key_hash_code (program_of own)) []) ≤ 10000
    by_test true =
        let n = length-append (program_of own) (136 ∷ 172 ∷ []) in
        let l = behind own h.few in
        omega (arith, n, l)
    by_test false = omega arith

module _ (hash : List ℕ → List ℕ) (bytes : HashesBytes hash) (keys : Keys) (s : Instance) (applied : IsApplied s)
    (are_keys : AreKeys hash keys) (brought : AreBrought keys) (payable : ArePayable keys) where
  -- ---- what is spent

  party_few : (party : List ℕ) → length (party_script hash keys party) ≤ 10000
  party_few party =
      let key = deposit_key hash keys party in
      let n = length-append key (checksig_byte ∷ []) in
      let l = are_keys (labels.Deposit party) in
      omega (arith, n, l)

  deposit_short : (name : List ℕ) (h : Holding) → HasShort (deposit hash keys s name h)
  deposit_short name h = by_script (own_script keys name) refl
    where
      by_script : (o : Option (List ℕ)) → own_script keys name ≡ o
          → length (option_map_or code_of o (party_script hash keys h.owner)) ≤ 10000
      by_script None e = party_few h.owner
      by_script (Some own) e = code_few own (brought name own e)

  persistent_short : (ds : List (List ℕ × Holding)) → AllByRecursion HasShort (map (λ d. deposit hash keys s d.0 d.1) ds)
  persistent_short [] = tt
  persistent_short (d ∷ ds) = (deposit_short (d.0) (d.1), persistent_short ds)

  puts_short : (puts : List (List ℕ)) → AllByRecursion HasShort (put_deposits hash keys s puts)
  puts_short [] = tt
  puts_short (n ∷ puts) = (deposit_short n (holding_or_none (look_up n (volatile s.advert.pre))), puts_short puts)

  -- ---- what is made

  pays_low : (script : List ℕ) (value : ℕ) → IsLow (pays hash script value)
  pays_low script value = let n = bytes.size script in omega (arith, n)

  party_low : (party : List ℕ) (v : ℕ) → IsLow (pays_party hash keys party v)
  party_low party v = by_own (own_payee keys party) refl
    where
      by_own : (o : Option (List ℕ)) → own_payee keys party ≡ o
          → length (option_map_or (λ own. own) o (pay_to (hash (party_script hash keys party)))) ≤ 34
      by_own None e = pays_low (party_script hash keys party) v
      by_own (Some script) e = (payable party script e).few

  parts_low : (path : List PathStep) (k : ℕ) (ps : Parts) → AllByRecursion IsLow (part_outputs hash keys s path k ps)
  parts_low path k no_part = tt
  parts_low path k (part v c ps) = (pays_low (position_script hash keys s (part_position path k) c) v, parts_low path (k + 1) ps)

  core_low : (path : List PathStep) (v : ℕ) (c : term.Guarded) → AllByRecursion IsLow (core_outputs hash keys s path v c)
  core_low path v (put_reveal puts reveals test next) = (pays_low (position_script hash keys s path next) 0, tt)
  core_low path v (withdraw party) = (party_low party v, tt)
  core_low path v (split parts) = parts_low path 0 parts
  core_low path v (auth party body) = tt
  core_low path v (after height body) = tt

  -- ---- all transactions

  initial_short : IsShort (initial_unsigned hash keys s)
  initial_short = record {
    spends = persistent_short (persistent s.advert.pre);
    outputs = (pays_low (position_script hash keys s [] s.advert.root) 0, tt);
  }

  branch_short : (path : List PathStep) (here : Standing) (i : ℕ) (b : term.Guarded)
      → end_at hash keys s path ≡ Some (at_branch here i b) → IsShort (branch_unsigned hash keys s here i b)
  branch_short path here i b ends =
      let found = branch_found hash keys s path here i b ends in
      let compiled : IsCompiled s here.position found.choice = record {
        checked = applied.checked;
        committed = applied.committed;
        is_position = found.stands.branches;
      } in
      let few = (no_limit_met hash keys s here.position found.choice are_keys compiled).bytes in
      record {
        spends = (subst (λ (script : List ℕ). length script ≤ 10000) (sym found.stands.script) few, puts_short (puts_of (core b)));
        outputs = core_low (branch_path here.position i) here.output.value (core b);
      }

  by_ends : (path : List PathStep) (o : Option PathEnd) → end_at hash keys s path ≡ o → (l : Listed)
      → option_map (path_listed s path) (option_and_then (as_unsigned hash keys s) o) ≡ Some l → IsShort l.pending
  by_ends path None ends l e = cc
  by_ends path (Some (at_position here choice)) ends l e = cc
  by_ends path (Some (at_branch here i b)) ends l e =
      subst (λ (x : Listed). IsShort x.pending) (some_same e) (branch_short path here i b ends)

  pub short_at : (which : Which) (l : Listed) → listed_at hash keys s which ≡ Some l → IsShort l.pending
  short_at names.Init l e = subst (λ (x : Listed). IsShort x.pending) (some_same e) initial_short
  short_at (names.At path) l e = by_ends path (end_at hash keys s path) refl l e
