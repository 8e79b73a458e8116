-- What is read off the lists of a compiled contract are its weights.
use Rattle.std.proofs.Common.{◌≡◌, ℕ, ◌+◌, ◌-◌, ◌*◌, List, [], ◌∷◌, length, map, Option, Some, None, refl, sym, ap, ◌∙◌}
use Rattle.std.specs.Option.{option_map, option_map_or}
use Rattle.spec_data.specs.Ranges.{least_secret_bytes, most_item_bytes}
use Rattle.spec_terms.specs.Advert.{Advert}
use Rattle.spec_terms.specs.Parties.{participants}
use Rattle.spec_terms.specs.Term.{Contract}
use Rattle.spec_terms.specs.declared.path.PathStep.{PathStep}
use Rattle.spec_compiler.specs.declared.prepared.Prepared.{Prepared}
use Rattle.spec_compiler.specs.declared.unsigned.Unsigned.{Unsigned}
use Rattle.spec_compiler.specs.Instance.{Instance}
use Rattle.spec_compiler.specs.Statements.{IsHash}
use Rattle.spec_compiler.specs.Transactions.{Standing, prepared, tx_of, input_of, initial_unsigned}
use Rattle.spec_compiler.specs.Compilation.{compilation, path_transactions}
use Rattle.spec_compiler.specs.ByPath.{position_at, unsigned_at}
use Rattle.spec_tool.specs.Weights.{weights, weight_with, path_weight, exactly, initial_weight, all_weights}
use Rattle.spec_tool.specs.Weights.{last_branch, position_of, choices_at, reveal_count}
use Rattle.theory_script.proofs.Listing.Transactions.{AreRight, transactions_right}
use Rattle.theory_script.proofs.Listing.OutputScripts.{scripts_are_listed}
use Rattle.theory_weights.specs.Sizes.{marked_weight, branch_bytes, deposit_bytes, initial_sized, script_size, bare_size, path_sized}
use Rattle.theory_weights.proofs.ByPosition.{weights_by_sizes}
use Rattle.bm_plan.proofs.Choices.{map_count}
use Rattle.bm_plan.specs.Listed.{listed_script, sizes, sized_with, listed_weight, listed_initial, listed_weights}

map_or_map : (o : Option (Standing × Contract))
    → option_map_or (λ script. length script) (option_map (λ (p : Standing × Contract). p.0.output.script) o) 0
    ≡ option_map_or (λ (p : Standing × Contract). length (p.0.output.script)) o 0
map_or_map None = refl
map_or_map (Some p) = refl

module _ (hash : List ℕ → List ℕ) (s : Instance) (size : IsHash hash) where
  script_is : (position : List PathStep) → listed_script (compilation hash s).scripts position ≡ script_size hash s position
  script_is position =
      ap (λ o. option_map_or (λ script. length script) o 0) (scripts_are_listed hash s position) ∙ map_or_map (position_at hash s position)

  with_is : (path : List PathStep) (d : Unsigned) → unsigned_at hash s path ≡ Some d → (n : ℕ)
      → sized_with (sizes s.advert (compilation hash s).scripts path (tx_of d)) n ≡ weight_with s.advert path n d
  with_is path d h n =
      let a = script_is (position_of path) in
      let b = map_count input_of d.spends in
      let c = (weights_by_sizes hash s size).paths path d h n in
      let e : sized_with (sizes s.advert (compilation hash s).scripts path (tx_of d)) n ≡ path_sized hash s path n d =
      (λ j. marked_weight (bare_size d)
      (branch_bytes (length (participants s.advert)) (reveal_count s.advert path) n (last_branch path) (choices_at s.advert path) (a j)
      + (b j - 1) * deposit_bytes)) in
      e ∙ sym c

  each_is : (ps : List (List PathStep × Unsigned)) → AreRight (unsigned_at hash s) ps
      → map (listed_weight s.advert (compilation hash s).scripts) (map (λ p. (p.0, prepared hash p.1)) ps)
      ≡ map (λ p. (p.0, path_weight s.advert (p.0) (p.1))) ps
  each_is [] r = refl
  each_is (p ∷ ps) r =
      let a = with_is (p.0) (p.1) r.0 least_secret_bytes in
      let b = with_is (p.0) (p.1) r.0 most_item_bytes in
      let c = each_is ps r.1 in
      λ j. (p.0, record { least = a j; most = b j }) ∷ c j

  initial_is : listed_initial (compilation hash s).init.tx ≡ exactly (initial_weight (initial_unsigned hash s))
  initial_is =
      let d = initial_unsigned hash s in
      let a = map_count input_of d.spends in
      let b = (weights_by_sizes hash s size).initial in
      ap (λ n. exactly (initial_sized (bare_size d) n)) a ∙ ap exactly (sym b)

  pub listed_are_weights :
      listed_weights s.advert (compilation hash s).init (compilation hash s).paths (compilation hash s).scripts ≡ weights hash s
  listed_are_weights =
      let a = initial_is in
      let b = each_is (path_transactions hash s) (transactions_right hash s) in
      λ j. all_weights (a j) (b j)

-- the same of lists that are those of a compiled contract
pub weights_by_lists : (hash : List ℕ → List ℕ) (s : Instance) → IsHash hash
    → (advert : Advert) (init : Prepared) (paths : List (List PathStep × Prepared)) (scripts : List (List PathStep × List ℕ))
    → s.advert ≡ advert → init ≡ (compilation hash s).init → paths ≡ (compilation hash s).paths → scripts ≡ (compilation hash s).scripts
    → listed_weights advert init paths scripts ≡ weights hash s
weights_by_lists hash s size advert init paths scripts a b p q =
    let a = sym a in
    let e : listed_weights advert init paths scripts
    ≡ listed_weights s.advert (compilation hash s).init (compilation hash s).paths (compilation hash s).scripts =
    (λ j. listed_weights (a j) (b j) (p j) (q j)) in
    e ∙ listed_are_weights hash s size
