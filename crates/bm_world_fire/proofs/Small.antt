-- The transactions that can be fired have few inputs and outputs.
use Rattle.std.proofs.Common.{◌≡◌, ℕ, suc, ◌+◌, ◌≤◌, List, [], ◌∷◌, length, true, Option, Some, None, refl, sym, ap, ◌∙◌, subst, arith}
use Rattle.std.specs.Prelude.{◌&&◌, nat_le}
use Rattle.std.specs.List.{list_all}
use Rattle.std.proofs.lemmas.Bool.{and_parts}
use Rattle.std.proofs.lemmas.Bool.Decides.{nat_tests}
use Rattle.spec_data.specs.Lists.{are_different, look_up}
use Rattle.spec_data.specs.Ranges.{max_money}
use Rattle.spec_terms.specs.Term as term
use Rattle.spec_terms.specs.Term.{branches, put_reveal, withdraw, split, auth, after, Parts, no_part, part, parts_list}
use Rattle.spec_terms.specs.Core.{core, puts_of, reveals_of}
use Rattle.spec_terms.specs.Advert.{Advert}
use Rattle.spec_terms.specs.Faults.{IsWellFormed}
use Rattle.spec_terms.specs.Precondition.{persistent, volatile, deposits, secrets, names_of}
use Rattle.spec_terms.specs.Readable.{most_parts, most_deposits, most_secrets, is_readable_pre, is_readable_contract, is_readable_entry, is_readable_branch, is_readable_split, are_readable_parts, is_some_list}
use Rattle.spec_terms.specs.declared.pre.Pre.{Pre}
use Rattle.spec_terms.specs.declared.pre.Pre.TheVariants.{Persistent, Volatile, Secret}
use Rattle.spec_terms.specs.declared.path.PathStep.{PathStep}
use Rattle.spec_bitcoin.specs.declared.tx.TxIn.{TxIn}
use Rattle.spec_bitcoin.specs.declared.tx.Tx.{Tx}
use Rattle.spec_calculus.specs.Configuration.{Configuration}
use Rattle.spec_compiler.specs.Instance.{Instance, branch_path, position_script}
use Rattle.spec_compiler.specs.Transactions.{input_of, tx_of, deposit, holding_or_none, persistent_deposits, put_deposits, part_outputs, core_outputs, prepared, branch_unsigned, initial_unsigned}
use Rattle.spec_run.specs.Setup.{Setup}
use Rattle.spec_run.specs.World.{ContractPosition, World, live_position_at, digests_at}
use Rattle.spec_run.specs.Compiled.{compiled_instance}
use Rattle.spec_run.specs.Conditions.{IsSetup}
use Rattle.spec_run.specs.Ledger.{position_path, position_branch}
use Rattle.spec_run.specs.Firing.{witnessed, initial_by, initial_witnesses, initial_transaction, taking_of_position}
use Rattle.theory_calculus.proofs.Faultless.{no_fault}
use Rattle.theory_script.proofs.Checked.{core_fact, puts_known}
use Rattle.theory_world.proofs.Tests.{length_map}
use Rattle.theory_world.proofs.Labels.{core_readable}
use Rattle.theory_world.proofs.Contracts.Checking.{compiled_checked}
use Rattle.theory_run.specs.KeptRuns.{KeptBooks}
use Rattle.theory_run.proofs.Facts.Bookkeeping.{fits, checks}
use Rattle.theory_run.proofs.Facts.Readings.{branch_is_readable}
use Rattle.theory_run.proofs.Widths.Putting.{no_more}
use Rattle.theory_run.proofs.Events.Fired.{started_numbered, taken_numbered}
use Rattle.bm_world_fire.specs.Taken.{witnesses_with}
use Rattle.bm_world_fire.specs.Standing.{IsStanding, IsSmall, AreSmall}
use Rattle.bm_world_fire.proofs.Kept.{standing_of}
use Rattle.bm_world_fire.proofs.Taken.{taking_none, taking_is, branch_there, choice_there}

-- as many inputs as before
length-witnessed : (is : List TxIn) (ws : List (List (List ℕ))) → length (witnessed is ws) ≡ length is
length-witnessed [] ws = refl
length-witnessed (i ∷ is) [] = refl
length-witnessed (i ∷ is) (w ∷ ws) = ap suc (length-witnessed is ws)

-- ---- outputs of a branch

length_parts : (hash : List ℕ → List ℕ) (st : Instance) (path : List PathStep) (k : ℕ) (ps : Parts)
    → length (part_outputs hash st path k ps) ≡ length (parts_list ps)
length_parts hash st path k no_part = refl
length_parts hash st path k (part v c ps) = ap suc (length_parts hash st path (k + 1) ps)

outputs_few : (hash : List ℕ → List ℕ) (st : Instance) (path : List PathStep) (v : ℕ) (c : term.Guarded) → is_readable_branch c ≡ true
    → length (core_outputs hash st path v c) ≤ 64
outputs_few hash st path v (put_reveal puts reveals test next) r = omega arith
outputs_few hash st path v (withdraw party) r = omega arith
outputs_few hash st path v (split ps) r =
    let s = (and_parts (is_readable_split ps) (are_readable_parts ps) r).0 in
    let m = (and_parts (is_some_list (parts_list ps)) (nat_le (length (parts_list ps)) most_parts) s).1 in
    let n : length (parts_list ps) ≤ most_parts = grind (arith, nat_tests, m) in
    let e = length_parts hash st path 0 ps in
    omega (arith, n, e)
outputs_few hash st path v (auth party body) r = omega arith
outputs_few hash st path v (after height body) r = omega arith

-- ---- deposits

few_persistent : (pre : List Pre) → length (persistent pre) ≤ length (deposits pre)
few_persistent [] = omega arith
few_persistent (Persistent party value name ∷ pre) = let r = few_persistent pre in omega (arith, r)
few_persistent (Volatile party value name ∷ pre) = let r = few_persistent pre in omega (arith, r)
few_persistent (Secret party name ∷ pre) = few_persistent pre

few_volatile : (pre : List Pre) → length (names_of (volatile pre)) ≤ length (deposits pre)
few_volatile [] = omega arith
few_volatile (Persistent party value name ∷ pre) = let r = few_volatile pre in omega (arith, r)
few_volatile (Volatile party value name ∷ pre) = let r = few_volatile pre in omega (arith, r)
few_volatile (Secret party name ∷ pre) = few_volatile pre

few_deposits : (a : Advert) → IsWellFormed a → length (deposits a.pre) ≤ 32
few_deposits a h =
    let r = (and_parts (is_readable_pre a.pre) (nat_le a.fee max_money && is_readable_contract a.root) h.readable).0 in
    let p = (and_parts (is_some_list a.pre && list_all is_readable_entry a.pre)
    (nat_le (length (deposits a.pre)) most_deposits && nat_le (length (secrets a.pre)) most_secrets) r).1 in
    let q = (and_parts (nat_le (length (deposits a.pre)) most_deposits) (nat_le (length (secrets a.pre)) most_secrets) p).0 in
    grind (arith, nat_tests, q)

-- ---- all of them

module _ (s : Setup) (setup : IsSetup s) (g : Configuration) (w : World) (keeps : KeptBooks s g w) where
  initial : (contract : ℕ) (tx : Tx) → initial_by s (compiled_instance s w contract) ≡ Some tx → IsSmall tx
  initial contract tx h = by_compiled (compiled_instance s w contract) refl h
    where
      by_compiled : (o : Option Instance) → compiled_instance s w contract ≡ o → initial_by s o ≡ Some tx → IsSmall tx
      by_compiled None c q = cc
      by_compiled (Some st) c q =
          let d = initial_unsigned s.hash st in
          let z : initial_transaction s st ≡ tx = cc in
          let n = length-witnessed (tx_of d).inputs (initial_witnesses s st (prepared s.hash d)) in
          let a = length_map input_of (persistent_deposits s.hash st) in
          let b = length_map (λ d. deposit s.hash st (d.0) (d.1)) (persistent st.advert.pre) in
          let l = few_persistent st.advert.pre in
          let m = few_deposits st.advert (compiled_checked s setup w contract st c) in
          let numbered = started_numbered s setup.hash setup.few_contracts [] g w keeps.book
          (fits s setup g w keeps) (checks s setup g w keeps) keeps.clear contract tx h in
          record {
            inputs = subst (λ (t : Tx). length t.inputs ≤ 524288) z (omega (arith, n, a, b, l, m));
            outputs = subst (λ (t : Tx). length t.outputs ≤ 524288) z (omega arith);
            numbered = numbered;
          }

  taking : (n j : ℕ) (tx : Tx) → taking_of_position s w (live_position_at w n) j ≡ Some tx → IsSmall tx
  taking n j tx h = by_held (live_position_at w n) refl h
    where
      by_held : (o : Option ContractPosition) → live_position_at w n ≡ o → taking_of_position s w o j ≡ Some tx → IsSmall tx
      by_held None e q = cc
      by_held (Some held) e q = by_branch (position_branch s held j) refl
        where
          is : IsStanding s w held
          is = (standing_of s g w keeps).held n held e

          by_branch : (o : Option term.Guarded) → position_branch s held j ≡ o → IsSmall tx
          by_branch None none = let y = sym (taking_none s w held is j none) ∙ q in cc
          by_branch (Some b) found =
              let st = is.instance in
              let d = branch_unsigned s.hash is.instance is.here j b in
              let made = taking_is s w held is j b found in
              let z = made ∙ q in
              let well : IsWellFormed is.instance.advert = compiled_checked s setup w held.contract is.instance is.compiled in
              let there = branch_there s w held is j b found in
              let ch = choice_there s w held is in
              let f = no_fault is.instance.advert well in
              let known = puts_known is.instance.advert well held.position is.choice ch j b there in
              let once = (and_parts (are_different (puts_of (core b))) (are_different (reveals_of (core b))) (core_fact
              (λ y. are_different (puts_of y) && are_different (reveals_of y)) is.instance.advert held.position is.choice j b f.1.1.1.0 ch there)).0 in
              let fewer = no_more (puts_of (core b)) (names_of (volatile is.instance.advert.pre)) once known in
              let l = few_volatile is.instance.advert.pre in
              let m = few_deposits is.instance.advert well in
              let a = length_map input_of (put_deposits s.hash is.instance (puts_of (core b))) in
              let c = length_map (λ name. deposit s.hash is.instance name (holding_or_none (look_up name (volatile is.instance.advert.pre))))
              (puts_of (core b)) in
              let readable = branch_is_readable s.hash is.instance well held.position is.here is.choice j b is.stands there in
              let o = outputs_few s.hash is.instance (branch_path is.here.position j) is.here.output.value (core b) (core_readable b readable) in
              let k = length-witnessed (tx_of d).inputs
              (witnesses_with s w.posted held.contract is.instance.advert (digests_at w.promises held.contract) (position_path held j) j
              (length (branches is.choice)) b (prepared s.hash d) (position_script s.hash is.instance held.position is.choice)) in
              by_tx _ z (omega (arith, k, fewer, l, m, a, c)) (omega (arith, o))
            where
              by_tx : (t : Tx) → (let y : Option Tx = Some t in y) ≡ Some tx → length t.inputs ≤ 524288 → length t.outputs ≤ 524288 → IsSmall tx
              by_tx t same inputs outputs =
                  let z : t ≡ tx = cc in
                  record {
                    inputs = subst (λ (x : Tx). length x.inputs ≤ 524288) z inputs;
                    outputs = subst (λ (x : Tx). length x.outputs ≤ 524288) z outputs;
                    numbered = taken_numbered s setup.hash setup.few_contracts [] g w keeps.book (fits s setup g w keeps)
                        (checks s setup g w keeps) keeps.clear n j tx h;
                  }

  pub small_of : AreSmall s w
  small_of = record { initial = initial; taking = taking }
