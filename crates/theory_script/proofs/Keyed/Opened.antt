-- The script theorem of a position of a checked contract, whatever its keys are.
use Rattle.std.proofs.Common.{◌≡◌, ℕ, zero, suc, ◌+◌, ◌<◌, List, [], ◌∷◌, length, map, Bool, true, Option, Some, None, refl, sym, ap, ◌∙◌, subst, arith}
use Rattle.std.specs.Prelude.{nat_le, slice_get, reverse}
use Rattle.std.specs.Option.{option_map}
use Rattle.std.specs.List.{list_all}
use Rattle.std.proofs.lemmas.Bool.{and_parts, and_from}
use Rattle.std.proofs.lemmas.List.{length-map}
use Rattle.spec_terms.specs.Term as term
use Rattle.spec_terms.specs.Term.{Contract, branches}
use Rattle.spec_terms.specs.Core.{core, reveals_of, test_of}
use Rattle.spec_terms.specs.Value.{holds}
use Rattle.spec_terms.specs.Cost.{cost}
use Rattle.spec_terms.specs.declared.path.PathStep.{PathStep}
use Rattle.spec_compiler.specs.Keyed.Keys.{Keys, key_in}
use Rattle.spec_compiler.specs.Witness.{selection}
use Rattle.spec_compiler.specs.Scripts.{Demands, digest_of, demands_of, demands_from}
use Rattle.spec_compiler.specs.Keyed.Instance.{Instance, people, branch_path, branch_label, branch_keys, position_demands, position_script}
use Rattle.spec_compiler.specs.Keyed.Statements.{are_valid, are_secrets, secret_lengths, has_size, is_short, AreKeys, IsCompiled, Opens, OpensExactly, HasCost}
use Rattle.theory_calculus.proofs.Members.{all_map}
use Rattle.theory_script.proofs.Scripts.Demanded.{Unlocks, IsWell, AllWell, IsChecked}
use Rattle.theory_script.proofs.Checked.{IsSound, AllSound, is_good}
use Rattle.theory_script.proofs.Sizes.Covered.{covered}
use Rattle.theory_script.proofs.Sizes.Costs.{bytes_are, operations_are}
use Rattle.theory_script.proofs.Scripts.Predicates.{within_of_test}
use Rattle.theory_script.specs.Keyed.Limits.{MeetsNoLimit, ops_at}
use Rattle.theory_script.proofs.Scripts.Limits.{script_means}
use Rattle.theory_script.proofs.ScriptTheorem.{says, has_cost, keeps_limits}

-- ---- a position's demands

key_sizes : (hash : List ℕ → List ℕ) (keys : Keys) (contract : ℕ) (path : List PathStep) (parties : List (List ℕ)) → AreKeys hash keys
    → list_all (has_size 33) (map (λ party. key_in hash keys (branch_label contract path party)) parties) ≡ true
key_sizes hash keys contract path [] are_keys = refl
key_sizes hash keys contract path (party ∷ parties) are_keys =
    let size : has_size 33 (key_in hash keys (branch_label contract path party)) ≡ true = rw (are_keys (branch_label contract path party)) refl in
    and_from (has_size 33 (key_in hash keys (branch_label contract path party))) _ size (key_sizes hash keys contract path parties are_keys)

core_well : (c : term.Guarded) (keys : List (List ℕ)) (hashes : List (List ℕ × List ℕ)) → 0 < length keys → list_all (has_size 33) keys
    ≡ true → IsSound hashes c → IsWell (demands_of c keys hashes)
core_well c keys hashes some sizes s =
    let n = length-map (reveals_of c) (digest_of hashes) in
    record {
      same_length = sym n;
      known = covered (reveals_of c) (test_of c) s.known;
      bounded = s.bounded;
      some_key = some;
      digest_sizes = all_map (has_size 32) (digest_of hashes) (reveals_of c) ∙ s.sizes;
      key_sizes = sizes;
      no_test = λ e. s.no_test (sym n ∙ e);
    }

length_from : (keys : ℕ → List (List ℕ)) (hashes : List (List ℕ × List ℕ)) (i : ℕ) (bs : List term.Guarded) → length (demands_from keys hashes i bs) ≡ length bs
length_from keys hashes i [] = refl
length_from keys hashes i (b ∷ bs) = ap suc (length_from keys hashes (i + 1) bs)

-- which branch of the position asks for them
demands_at : (keys : ℕ → List (List ℕ)) (hashes : List (List ℕ × List ℕ)) (k i : ℕ) (bs : List term.Guarded)
    → slice_get (demands_from keys hashes k bs) i ≡ option_map (λ (b : term.Guarded). demands_of (core b) (keys (k + i)) hashes) (slice_get bs i)
demands_at keys hashes k i [] = refl
demands_at keys hashes k zero (b ∷ bs) = let e : k + 0 ≡ k = omega arith in rw e
demands_at keys hashes k (suc i) (b ∷ bs) = let e : k + suc i ≡ k + 1 + i = omega arith in rw e (demands_at keys hashes (k + 1) i bs)

module _ (hash : List ℕ → List ℕ) (keys : Keys) (s : Instance) (position : List PathStep) where
  abbrev keys_at : ℕ → List (List ℕ)
  keys_at i = branch_keys hash keys s (branch_path position i)

  one_each : (i : ℕ) → length (keys_at i) ≡ length (people s)
  one_each i = length-map (people s) (λ party. key_in hash keys (branch_label s.contract (branch_path position i) party))

  all_well : (i : ℕ) (bs : List term.Guarded) → AreKeys hash keys → 0 < length (people s) → AllSound s.hashes bs → AllWell (demands_from keys_at s.hashes i bs)
  all_well i [] are_keys some sound = tt
  all_well i (b ∷ bs) are_keys some sound = (
    core_well (core b) (keys_at i) s.hashes (omega (arith, some, one_each i))
        (key_sizes hash keys s.contract (branch_path position i) (people s) are_keys) sound.0,
    all_well (i + 1) bs are_keys some sound.1,
  )

  branch_demands : (choice : Contract) (i : ℕ) → slice_get (position_demands hash keys s position choice) i
      ≡ option_map (λ (b : term.Guarded). demands_of (core b) (keys_at i) s.hashes) (slice_get (branches choice) i)
  branch_demands choice i =
      let e : 0 + i ≡ i = omega arith in
      subst (λ (j : ℕ). slice_get (position_demands hash keys s position choice) i
      ≡ option_map (λ (b : term.Guarded). demands_of (core b) (keys_at j) s.hashes) (slice_get (branches choice) i)) e
      (demands_at keys_at s.hashes 0 i (branches choice))

  pub is_checked : (choice : Contract) → AreKeys hash keys → IsCompiled s position choice → IsChecked (position_demands hash keys s position choice)
  is_checked choice are_keys c =
      let good = is_good s position choice c in
      let fits = and_parts (nat_le (cost (length (people s)) choice).bytes 10000) (nat_le (cost (length (people s)) choice).operations 201) good.fits in
      record {
        some_branch = omega (arith, good.some_branch, length_from keys_at s.hashes 0 (branches choice));
        well = all_well 0 (branches choice) are_keys good.some_people good.sound;
        bytes = omega (arith, within_of_test _ _ fits.0, bytes_are (length (people s)) keys_at s.hashes one_each choice);
        operations = omega (arith, within_of_test _ _ fits.1, operations_are (length (people s)) keys_at s.hashes one_each choice);
      }

  -- ---- what opens it

  module _ (valid : List ℕ → List ℕ → Bool) (choice : Contract) where
    opens_with : (stack : List (List ℕ)) (u : Unlocks hash valid (position_demands hash keys s position choice) stack)
        (o : Option term.Guarded) → slice_get (branches choice) u.i ≡ o → Some u.b
        ≡ option_map (λ (b : term.Guarded). demands_of (core b) (keys_at u.i) s.hashes) o → Opens hash keys valid s position choice stack
    opens_with stack u None at e = cc
    opens_with stack u (Some b) at e =
        let same : u.b ≡ demands_of (core b) (keys_at u.i) s.hashes = cc in
        record {
          i = u.i;
          b = b;
          is_branch = at;
          selectors = u.selectors;
          strings = u.secrets;
          signatures = u.signatures;
          is_stack = u.is_stack;
          selects = u.selects ∙ ap (λ n. selection u.i n) (length_from keys_at s.hashes 0 (branches choice));
          fits = subst (λ (d : Demands). are_secrets hash u.secrets d.digests ≡ true) same u.fits;
          predicate = subst (λ (d : Demands). holds (secret_lengths d.names u.secrets) d.test ≡ true) same u.predicate;
          signed = subst (λ (d : Demands). are_valid valid u.signatures d.keys ≡ true) same u.signed;
        }

    pub opens_of : (stack : List (List ℕ)) → Unlocks hash valid (position_demands hash keys s position choice) stack
        → Opens hash keys valid s position choice stack
    opens_of stack u = opens_with stack u (slice_get (branches choice) u.i) refl (sym u.is_branch ∙ branch_demands choice u.i)

    pub unlocks_of : (stack : List (List ℕ)) → Opens hash keys valid s position choice stack
        → Unlocks hash valid (position_demands hash keys s position choice) stack
    unlocks_of stack o =
        record {
          i = o.i;
          b = demands_of (core o.b) (keys_at o.i) s.hashes;
          selectors = o.selectors;
          secrets = o.strings;
          signatures = o.signatures;
          is_branch = branch_demands choice o.i ∙ ap (option_map (λ (b : term.Guarded). demands_of (core b) (keys_at o.i) s.hashes)) o.is_branch;
          is_stack = o.is_stack;
          selects = o.selects ∙ ap (λ n. selection o.i n) (sym (length_from keys_at s.hashes 0 (branches choice)));
          fits = o.fits;
          predicate = o.predicate;
          signed = o.signed;
        }

    pub opens_exactly : (stack : List (List ℕ)) → AreKeys hash keys → IsCompiled s position choice → list_all is_short stack ≡ true
        → OpensExactly hash keys valid s position choice stack
    unfolding position_script
    opens_exactly stack are_keys c short =
        let u = says hash valid (position_demands hash keys s position choice) stack (is_checked choice are_keys c) short in
        record { true_opens = λ h. opens_of (reverse stack) (u.true_unlocks h); opens_true = λ o. u.unlocks_true (unlocks_of (reverse stack) o) }

  pub cost_is : (choice : Contract) → AreKeys hash keys → IsCompiled s position choice → HasCost hash keys s position choice
  unfolding position_script
  cost_is choice are_keys c =
      let checked = is_checked choice are_keys c in
      let size = has_cost (position_demands hash keys s position choice) checked in
      record {
        bytes = size.bytes ∙ bytes_are (length (people s)) keys_at s.hashes one_each choice;
        operations = size.operations ∙ operations_are (length (people s)) keys_at s.hashes one_each choice;
        few_bytes = omega (arith, size.bytes, checked.bytes);
        few_operations = omega (arith, size.operations, checked.operations);
        spells = size.spells;
      }

  pub no_limit_met : (choice : Contract) → AreKeys hash keys → IsCompiled s position choice → MeetsNoLimit hash keys s position choice
  unfolding position_script
  no_limit_met choice are_keys c =
      let checked = is_checked choice are_keys c in
      let size = cost_is choice are_keys c in
      let kept = keeps_limits (position_demands hash keys s position choice) checked in
      record {
        bytes = size.few_bytes;
        reads = size.spells;
        limits = kept.limits;
        few = kept.few;
        means = λ valid stack. script_means hash valid (position_script hash keys s position choice) (ops_at hash keys s position choice) stack
            size.few_bytes size.spells kept.limits;
      }
