-- The outputs of a deal's transactions are few, and each can be spelled; so are the outputs that they spend.
use Rattle.std.proofs.Common.{◌≡◌, ℕ, suc, ◌+◌, ◌≤◌, List, [], ◌∷◌, length, map, true, Option, Some, None, refl, sym, ap, subst, arith}
use Rattle.std.specs.Prelude.{◌&&◌, nat_le}
use Rattle.std.specs.List.{AllByRecursion}
use Rattle.std.specs.Option.{option_map, option_map_or, option_and_then}
use Rattle.std.proofs.lemmas.Bool.{and_parts}
use Rattle.std.proofs.lemmas.Bool.Decides.{nat_tests}
use Rattle.std.proofs.lemmas.List.Sums.{sum_by-cons}
use Rattle.spec_data.specs.Hashes.{HashesBytes}
use Rattle.spec_data.specs.Ranges.{max_money}
use Rattle.spec_terms.specs.Advert.{Advert}
use Rattle.spec_terms.specs.Term as term
use Rattle.spec_terms.specs.Term.{Contract, Parts, no_part, part, parts_list, auth, after, put_reveal, withdraw, split}
use Rattle.spec_terms.specs.Core.{core, puts_of}
use Rattle.spec_terms.specs.Faults.{IsWellFormed}
use Rattle.spec_terms.specs.Precondition.{Holding, persistent, deposits, secrets, names_of}
use Rattle.spec_terms.specs.Readable.{is_readable_pre, is_readable_contract, is_readable_branch, is_readable_split, are_readable_parts, is_some_list}
use Rattle.spec_terms.specs.Readable.{most_parts, most_deposits, most_secrets}
use Rattle.spec_terms.specs.declared.path.PathStep.{PathStep}
use Rattle.spec_terms.specs.declared.pre.Pre.{Pre}
use Rattle.spec_terms.specs.declared.pre.Pre.TheVariants.{Persistent, Volatile, Secret}
use Rattle.spec_bitcoin.specs.declared.tx.TxOut.{TxOut}
use Rattle.spec_bitcoin.specs.Spelling.{IsString, IsOutput}
use Rattle.spec_bitcoin.specs.Keys.{pay_to}
use Rattle.spec_bitcoin.specs.Verdict.{total_of}
use Rattle.spec_compiler.specs.Keyed.Keys.{Keys, own_payee}
use Rattle.spec_compiler.specs.Keyed.Instance.{Instance, branch_path, position_script}
use Rattle.spec_compiler.specs.declared.unsigned.Unsigned.{Unsigned}
use Rattle.spec_compiler.specs.Keyed.Transactions.{Standing, pays, party_script, pays_party, part_position, part_outputs, core_outputs}
use Rattle.spec_compiler.specs.Keyed.Transactions.{deposit, put_deposits, branch_unsigned, initial_unsigned}
use Rattle.spec_compiler.specs.Keyed.Statements.{ArePayable}
use Rattle.spec_compiler.specs.Keyed.ByPath.{PathEnd, at_position, at_branch, end_at, as_unsigned}
use Rattle.spec_tool.specs.declared.which.Which.{Which}
use Rattle.spec_tool.specs.declared.which.Which.TheVariants as names
use Rattle.spec_tool.specs.Keyed.Listed.{Listed, path_listed, listed_at}
use Rattle.spec_deal.specs.Needed.{needed_deposits}
use Rattle.theory_script.proofs.Keyed.Stands.{some_same}
use Rattle.theory_world.proofs.Labels.{core_readable}
use Rattle.theory_run.proofs.Widths.Fitting.{output_fits}
use Rattle.theory_run.proofs.Widths.Putting.{no_more}
use Rattle.theory_deal.proofs.ReadBranches.{branch_reads, puts_needed, puts_different}

named_many : {V : Type 0} (es : List (List ℕ × V)) → length (names_of es) ≡ length es
named_many [] = refl
named_many (e ∷ es) = ap suc (named_many es)

-- the deposits and the secrets of a precondition are few
pub record IsFew (a : Advert) : Type 0 where
  pub deposits : length (needed_deposits a) ≤ 32
  pub secrets : length (names_of (secrets a.pre)) ≤ 32

pub are_few : (a : Advert) → IsWellFormed a → IsFew a
are_few a well =
    let r = (and_parts (is_readable_pre a.pre) (nat_le a.fee max_money && is_readable_contract a.root) well.readable).0 in
    let p = (and_parts _ (nat_le (length (deposits a.pre)) most_deposits && nat_le (length (secrets a.pre)) most_secrets) r).1 in
    let q = and_parts (nat_le (length (deposits a.pre)) most_deposits) (nat_le (length (secrets a.pre)) most_secrets) p in
    let d = named_many (deposits a.pre) in
    let x = named_many (secrets a.pre) in
    record { deposits = grind (arith, nat_tests, q.0, d); secrets = grind (arith, nat_tests, q.1, x) }

few_persistent : (pre : List Pre) → length (persistent pre) ≤ length (deposits pre)
few_persistent [] = omega arith
few_persistent (Persistent party value name ∷ pre) = let r = few_persistent pre in omega (arith, r)
few_persistent (Volatile party value name ∷ pre) = let r = few_persistent pre in omega (arith, r)
few_persistent (Secret party name ∷ pre) = few_persistent pre

-- ---- outputs

-- its script can be spelled
abbrev HasScript : TxOut → Type 0
HasScript o = IsString o.script

module _ (hash : List ℕ → List ℕ) (bytes : HashesBytes hash) where
  pays_script : (script : List ℕ) (value : ℕ) → HasScript (pays hash script value)
  pays_script script value = (output_fits hash bytes script 0 (omega arith)).script

  outputs_fit : (os : List TxOut) → AllByRecursion HasScript os → total_of os ≤ max_money → AllByRecursion IsOutput os
  outputs_fit [] h l = tt
  outputs_fit (o ∷ os) h l =
      let sum = sum_by-cons (λ (x : TxOut). x.value) o os in (
        record { value = omega (arith, sum, l); script = h.0 },
        outputs_fit os h.1 (omega (arith, sum, l)),
      )

  module _ (keys : Keys) (s : Instance) where
    parts_pay : (path : List PathStep) (k : ℕ) (ps : Parts) → AllByRecursion HasScript (part_outputs hash keys s path k ps)
    parts_pay path k no_part = tt
    parts_pay path k (part v c ps) =
        (pays_script (position_script hash keys s (part_position path k) c) v, parts_pay path (k + 1) ps)

    -- a party is paid at a script of its own, or at that of its key
    party_pays : ArePayable keys → (party : List ℕ) (v : ℕ) → HasScript (pays_party hash keys party v)
    party_pays payable party v = by_own (own_payee keys party) refl
      where
        by_own : (o : Option (List ℕ)) → own_payee keys party ≡ o
            → IsString (option_map_or (λ own. own) o (pay_to (hash (party_script hash keys party))))
        by_own None e = pays_script (party_script hash keys party) v
        by_own (Some script) e =
            let p = payable party script e in
            let few = p.few in
            record { bytes = p.bytes; size = omega (arith, few) }

    core_pays : ArePayable keys → (path : List PathStep) (v : ℕ) (c : term.Guarded) → AllByRecursion HasScript (core_outputs hash keys s path v c)
    core_pays payable path v (put_reveal puts reveals test next) = (pays_script (position_script hash keys s path next) v, tt)
    core_pays payable path v (withdraw party) = (party_pays payable party v, tt)
    core_pays payable path v (split parts) = parts_pay path 0 parts
    core_pays payable path v (auth party body) = tt
    core_pays payable path v (after height body) = tt

    many_parts : (path : List PathStep) (k : ℕ) (ps : Parts) → length (part_outputs hash keys s path k ps) ≡ length (parts_list ps)
    many_parts path k no_part = refl
    many_parts path k (part v c ps) = ap suc (many_parts path (k + 1) ps)

    pub core_few : (path : List PathStep) (v : ℕ) (c : term.Guarded) → is_readable_branch c ≡ true → length (core_outputs hash keys s path v c) ≤ 64
    core_few path v (put_reveal puts reveals test next) r = omega arith
    core_few path v (withdraw party) r = omega arith
    core_few path v (split ps) r =
        let few = (and_parts (is_some_list (parts_list ps)) (nat_le (length (parts_list ps)) most_parts)
        (and_parts (is_readable_split ps) (are_readable_parts ps) r).0).1 in
        let many = many_parts path 0 ps in
        grind (arith, nat_tests, few, many)
    core_few path v (auth party body) r = omega arith
    core_few path v (after height body) r = omega arith

    -- ---- all transactions

    -- few inputs and few outputs, all of which can be spelled
    pub record IsSmall (d : Unsigned) : Type 0 where
      pub inputs : length d.spends ≤ 33
      pub outputs : length d.outputs ≤ 64
      pub fit : total_of d.outputs ≤ max_money → AllByRecursion IsOutput d.outputs

    module _ (payable : ArePayable keys) (well : IsWellFormed s.advert) where
      initial_small : IsSmall (initial_unsigned hash keys s)
      initial_small =
          let many = many_deposits (persistent s.advert.pre) in
          let fewer = few_persistent s.advert.pre in
          let all = named_many (deposits s.advert.pre) in
          let few = (are_few s.advert well).deposits in
          record {
            inputs = omega (arith, many, fewer, all, few);
            outputs = omega arith;
            fit = outputs_fit (initial_unsigned hash keys s).outputs
                (pays_script (position_script hash keys s [] s.advert.root) 0, tt);
          }
        where
          many_deposits : (ds : List (List ℕ × Holding)) → length (map (λ d. deposit hash keys s d.0 d.1) ds) ≡ length ds
          many_deposits [] = refl
          many_deposits (d ∷ ds) = ap suc (many_deposits ds)

      branch_small : (path : List PathStep) (here : Standing) (i : ℕ) (b : term.Guarded)
          → end_at hash keys s path ≡ Some (at_branch here i b) → IsSmall (branch_unsigned hash keys s here i b)
      branch_small path here i b e =
          let fewer = no_more (puts_of (core b)) (needed_deposits s.advert) (puts_different hash keys s well path here i b e)
          (puts_needed hash keys s well path here i b e) in
          let few = (are_few s.advert well).deposits in
          let many = many_puts (puts_of (core b)) in
          record {
            inputs = omega (arith, fewer, few, many);
            outputs = core_few (branch_path here.position i) here.output.value (core b)
                (core_readable b (branch_reads hash keys s well path here i b e));
            fit = outputs_fit (branch_unsigned hash keys s here i b).outputs
                (core_pays payable (branch_path here.position i) here.output.value (core b));
          }
        where
          many_puts : (puts : List (List ℕ)) → length (put_deposits hash keys s puts) ≡ length puts
          many_puts [] = refl
          many_puts (n ∷ puts) = ap suc (many_puts puts)

      by_ends : (path : List PathStep) (o : Option PathEnd) → end_at hash keys s path ≡ o → (l : Listed)
          → option_map (path_listed s path) (option_and_then (as_unsigned hash keys s) o) ≡ Some l → IsSmall l.pending
      by_ends path None ends l e = cc
      by_ends path (Some (at_position here choice)) ends l e = cc
      by_ends path (Some (at_branch here i b)) ends l e =
          subst (λ (x : Listed). IsSmall x.pending) (some_same e) (branch_small path here i b ends)

      pub small_at : (which : Which) (l : Listed) → listed_at hash keys s which ≡ Some l → IsSmall l.pending
      small_at names.Init l e = subst (λ (x : Listed). IsSmall x.pending) (some_same e) initial_small
      small_at (names.At path) l e = by_ends path (end_at hash keys s path) refl l e
