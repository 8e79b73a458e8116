-- What a run's contract is compiled to can be shown.
use Rattle.std.proofs.Common.{◌≡◌, ◌<◌, ◌^◌, List, [], ◌∷◌, map, length, Some, refl, ap, arith}
use Rattle.std.specs.Prelude.{option_map}
use Rattle.std.specs.List.{AllByRecursion}
use Rattle.spec_terms.specs.declared.path.PathStep.{PathStep}
use Rattle.spec_compiler.specs.declared.prepared.Prepared.{Prepared}
use Rattle.spec_compiler.specs.declared.unsigned.Unsigned.{Unsigned}
use Rattle.spec_compiler.specs.Keyed.Keys.{by_plan}
use Rattle.spec_compiler.specs.Instance.{Instance}
use Rattle.spec_compiler.specs.Transactions.{tx_of, input_of, digest_of_spent, prepared}
use Rattle.spec_compiler.specs.Compilation.{compilation, path_transactions}
use Rattle.spec_compiler.specs.ByPath.{unsigned_at}
use Rattle.spec_run.specs.declared.event.Event.{Event}
use Rattle.spec_run.specs.Setup.{Setup}
use Rattle.spec_run.specs.Compiled.{compiled_instance}
use Rattle.spec_run.specs.Statements.{IsRun}
use Rattle.spec_run.specs.Translation.{last_world}
use Rattle.spec_tool.specs.declared.which.Which.{Which}
use Rattle.spec_tool.specs.declared.which.Which.TheVariants as names
use Rattle.spec_tool.specs.Listed.{Listed, listed_at, initial_listed, path_listed}
use Rattle.spec_tool.specs.Psbt.{is_unsigned}
use Rattle.theory_psbt.specs.Listed.{IsListed}
use Rattle.theory_psbt.proofs.ListedFits.{listed_fits}
use Rattle.theory_script.proofs.Keyed.InOrder.{paths_in_order, scripts_in_order}
use Rattle.theory_script.proofs.Listing.Transactions.{AreRight, transactions_right}
use Rattle.theory_text.proofs.ListFacts.{and_left}
use Rattle.theory_world.proofs.Contracts.Checking.{compiled_checked}
use Rattle.theory_world.proofs.Tests.{length_map}
use Rattle.theory_psbt_listed.proofs.InRuns.{listed_fit}
use Rattle.theory_plan_text.specs.Plan.{IsShownTx, IsPlannable}
use Rattle.theory_plan_text.proofs.SmallPaths.{IsSmall, branches_are_small, positions_are_small, by_paths}

-- a list of which both is true
two_facts : {X : Type 0} (P Q : X → Type 0) (xs : List X) → AllByRecursion P xs → AllByRecursion Q xs → AllByRecursion (λ x. P x × Q x) xs
two_facts P Q [] h k = tt
two_facts P Q (x ∷ xs) h k = ((h.0, k.0), two_facts P Q xs h.1 k.1)

module _ (s : Setup) (es : List Event) (run : IsRun s es) (instance : Instance)
    (c : compiled_instance s (last_world s es) 0 ≡ Some instance) where
  fits : (which : Which) (l : Listed) → listed_at s.hash instance which ≡ Some l → IsListed s.hash l
  fits which l e = (listed_fit s es run).last 0 instance which l c e

  shown : (l : Listed) → IsListed s.hash l → IsShownTx (prepared s.hash l.pending)
  shown l h =
      let whole = (listed_fits s.hash run.setup.hash [] l h).is in
      record {
        tx = h.tx;
        unsigned = and_left (is_unsigned (tx_of l.pending)) _ (and_left _ _ whole);
        few_inputs = few;
      }
    where
      few : length (prepared s.hash l.pending).digests < 2 ^ 64
      few =
          let a = length_map (digest_of_spent s.hash (tx_of l.pending)) l.pending.spends in
          let b = length_map input_of l.pending.spends in
          let f = h.tx.few_inputs in
          omega (arith, a, b, f)

  each_shown : (ps : List (List PathStep × Unsigned)) → AreRight (unsigned_at s.hash instance) ps
      → AllByRecursion (λ (p : List PathStep × Prepared). IsShownTx (p.1))
      (map {B = List PathStep × Prepared} (λ p. (p.0, prepared s.hash p.1)) ps)
  each_shown [] h = tt
  each_shown (p ∷ ps) h =
      let l = path_listed instance (p.0) (p.1) in
      (shown l (fits (names.At p.0) l (ap (option_map (path_listed instance p.0)) h.0)), each_shown ps h.1)

  pub plannable : IsPlannable (compilation s.hash instance)
  plannable =
      let well = compiled_checked s run.setup (last_world s es) 0 instance c in
      let all = (compilation s.hash instance).paths in
      record {
        init = shown (initial_listed s.hash instance) (fits names.Init (initial_listed s.hash instance) refl);
        paths = two_facts (λ (p : List PathStep × Prepared). IsSmall (p.0)) (λ (p : List PathStep × Prepared). IsShownTx (p.1)) all
            (by_paths all _ (paths_in_order s.hash by_plan instance) (branches_are_small instance.advert well))
            (each_shown (path_transactions s.hash instance) (transactions_right s.hash instance));
        scripts = by_paths (compilation s.hash instance).scripts _ (scripts_in_order s.hash by_plan instance)
            (positions_are_small instance.advert well);
      }
