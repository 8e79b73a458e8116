-- What is printed of a contract's transaction by what the contract is compiled to is what is defined.
use Rattle.std.proofs.Common.{◌≡◌, ℕ, List, [], Bool, true, false, Option, Some, None, refl, sym, ap, ◌∙◌}
use Rattle.std.specs.Prelude.{option_map, option_and_then, if◌then◌else◌}
use Rattle.std.specs.Option.{option_map_or}
use Rattle.spec_terms.specs.Term as term
use Rattle.spec_terms.specs.Advert.{Advert}
use Rattle.spec_terms.specs.Paths as paths
use Rattle.spec_terms.specs.Paths.{Subterm, as_branch, subterm_from, at}
use Rattle.spec_terms.specs.declared.path.PathStep.{PathStep}
use Rattle.spec_terms.specs.declared.path.PathStep.TheVariants.{Branch as To}
use Rattle.spec_bitcoin.specs.declared.tx.TxOut.{TxOut}
use Rattle.spec_bitcoin.specs.Keys.{Pair}
use Rattle.spec_compiler.specs.declared.prepared.Prepared.{Prepared}
use Rattle.spec_compiler.specs.Instance.{Instance, branch_path}
use Rattle.spec_compiler.specs.Transactions.{Standing, tx_of, prepared, branch_unsigned, root_standing}
use Rattle.spec_compiler.specs.Compilation.{compilation}
use Rattle.spec_compiler.specs.ByPath.{PathEnd, at_position, at_branch, next_end, end_at, as_unsigned, position_at}
use Rattle.spec_run.specs.Setup.{Setup, contract_at}
use Rattle.spec_run.specs.World.{World}
use Rattle.spec_run.specs.Compiled.{is_complete, instance_of, instance_if_complete, compiled_instance}
use Rattle.spec_tool.specs.declared.which.Which.{Which}
use Rattle.spec_tool.specs.declared.which.Which.TheVariants as names
use Rattle.spec_tool.specs.Listed.{path_listed, path_signers, branch_signers, listed_at}
use Rattle.spec_tool.specs.Psbt.{Psbt}
use Rattle.spec_tool.specs.Weights.{position_of}
use Rattle.spec_tool.specs.PsbtText.{psbt_line, listed_psbt, signed_inputs, setting_psbt, has_transaction, no_path_line, which_psbt}
use Rattle.theory_script.specs.Listed.{at_path}
use Rattle.theory_script.proofs.Listing.Stands.{IfAgrees, agrees_at, end_from-step}
use Rattle.theory_script.proofs.Listing.Transactions.{paths_are_listed}
use Rattle.theory_script.proofs.Listing.OutputScripts.{scripts_are_listed}
use Rattle.bm_compile.specs.Numbered.{Numbered, numbered}
use Rattle.bm_psbt_plan.specs.Parts.{output_at, found_psbt, path_psbt, set_told, compiled_told, psbt_told}
use Rattle.bm_psbt_plan.proofs.FoundOutputs.{paid, position_of-further, output_found, stands}
use Rattle.bm_psbt_plan.proofs.Signers.{init_is, path_is}

told_mapped : {A B C : Type 0} (f : B → C) (g : A → B) (o : Option A) (c : C)
    → option_map_or f (option_map g o) c ≡ option_map_or (λ a. f (g a)) o c
told_mapped f g None c = refl
told_mapped f g (Some a) c = refl

module _ (hash : List ℕ → List ℕ) (book : List Pair) (s : Instance) (path : List PathStep) where
  abbrev found_of : Option Prepared → Option TxOut → Option (List ℕ) → Option term.Guarded → Option Psbt
  found_of p output script b = found_psbt hash book s.contract s.advert path p output script b

  abbrev listed_of : Option PathEnd → Option Psbt
  listed_of o = option_map (listed_psbt hash book) (option_map (path_listed s path) (option_and_then (as_unsigned hash s) o))

  abbrev the_output : Option TxOut
  the_output = output_at (position_of path) (numbered hash s)

  abbrev the_script : Option (List ℕ)
  the_script = at_path (position_of path) (compilation hash s).scripts

  -- where no branch ends the path
  no_branch : (o : Option PathEnd) → end_at hash s path ≡ o → option_and_then (as_unsigned hash s) o ≡ None
      → found_of (at_path path (compilation hash s).paths) the_output the_script (at s.advert.root path) ≡ listed_of (end_at hash s path)
  no_branch o e f =
      let g : at_path path (compilation hash s).paths ≡ None =
      paths_are_listed hash s path ∙ ap (option_map (prepared hash)) (ap (option_and_then (as_unsigned hash s)) e ∙ f) in
      let h : option_and_then (as_unsigned hash s) (end_at hash s path) ≡ None = ap (option_and_then (as_unsigned hash s)) e ∙ f in
      ap (λ (p : Option Prepared). found_of p the_output the_script (at s.advert.root path)) g
      ∙ sym (ap (λ u. option_map (listed_psbt hash book) (option_map (path_listed s path) u)) h)

  -- where this branch of this position does
  one_branch : (here : Standing) (i : ℕ) (d b : term.Guarded) → end_at hash s path ≡ Some (at_branch here i d)
      → branch_path here.position i ≡ path → d ≡ b → at s.advert.root path ≡ Some b
      → found_of (at_path path (compilation hash s).paths) the_output the_script (at s.advert.root path) ≡ listed_of (end_at hash s path)
  one_branch here i d b e lies same there =
      let pending = branch_unsigned hash s here i d in
      let start = at_position (root_standing hash s) s.advert.root in
      let f : option_and_then (next_end hash s (To i)) (end_at hash s here.position) ≡ Some (at_branch here i d) =
      sym (end_from-step hash s start here.position (To i)) ∙ (ap (end_at hash s) lies ∙ e) in
      let st = stands hash s here i i (end_at hash s here.position) d f in
      let prefix : position_of path ≡ here.position = ap position_of (sym lies) ∙ position_of-further here.position (To i) in
      let standing : position_at hash s (position_of path) ≡ Some (here, st.choice) = ap (position_at hash s) prefix ∙ st.there in
      let p : at_path path (compilation hash s).paths ≡ Some (prepared hash pending) =
      paths_are_listed hash s path ∙ ap (λ o. option_map (prepared hash) (option_and_then (as_unsigned hash s) o)) e in
      let o : the_output ≡ Some (paid hash s here) = output_found hash s (position_of path) here st.choice standing in
      let q : the_script ≡ Some here.output.script =
      scripts_are_listed hash s (position_of path) ∙ ap (option_map (λ (x : Standing × term.Contract). x.0.output.script)) standing in
      let b' : at s.advert.root path ≡ Some d = there ∙ ap Some (sym same) in
      let signers : path_signers s path ≡ branch_signers s.contract s.advert path d =
      ap (λ x. option_map_or (branch_signers s.contract s.advert path) x []) b' in
      let listed : listed_psbt hash book (path_listed s path pending)
      ≡ record { tx = tx_of pending; inputs = signed_inputs hash book pending pending.spends (branch_signers s.contract s.advert path d) } =
      (λ j. record { tx = tx_of pending; inputs = signed_inputs hash book pending pending.spends (signers j) }) in
      let inputs = path_is hash book s path here i d in
      (λ j. found_of (p j) (o j) (q j) (b' j))
      ∙ ((λ j. Some (record { tx = tx_of pending; inputs = sym inputs j }))
      ∙ (ap Some (sym listed) ∙ sym (ap listed_of e)))

  by_ends : (o : Option PathEnd) (q : Option Subterm) → end_at hash s path ≡ o → subterm_from (paths.position s.advert.root) path ≡ q
      → IfAgrees hash s path o q
      → found_of (at_path path (compilation hash s).paths) the_output the_script (at s.advert.root path) ≡ listed_of (end_at hash s path)
  by_ends None q e f agrees = no_branch None e refl
  by_ends (Some (at_position here choice)) q e f agrees = no_branch (Some (at_position here choice)) e refl
  by_ends (Some (at_branch here i d)) None e f agrees = absurd agrees
  by_ends (Some (at_branch here i d)) (Some (paths.position c)) e f agrees = absurd agrees
  by_ends (Some (at_branch here i d)) (Some (paths.at_branch b)) e f agrees =
      one_branch here i d b e agrees.0 agrees.1 (ap (option_and_then as_branch) f)

  pub path_found : path_psbt hash book s.contract s.advert path (numbered hash s)
      ≡ option_map (listed_psbt hash book) (listed_at hash s (names.At path))
  path_found = by_ends (end_at hash s path) (subterm_from (paths.position s.advert.root) path) refl refl (agrees_at hash s path)

  path_told : set_told hash book s.contract s.advert (numbered hash s) (names.At path) ≡ setting_psbt hash book (names.At path) (Some s)
  path_told =
      ap (λ o. option_map_or psbt_line o (no_path_line (names.At path))) path_found
      ∙ told_mapped psbt_line (listed_psbt hash book) (listed_at hash s (names.At path)) (no_path_line (names.At path))

-- of a compiled contract
set_is : (hash : List ℕ → List ℕ) (book : List Pair) (s : Instance) (which : Which)
    → set_told hash book s.contract s.advert (numbered hash s) which ≡ setting_psbt hash book which (Some s)
set_is hash book s names.Init = ap psbt_line (init_is hash book s)
set_is hash book s (names.At path) = path_told hash book s path

-- ---- of a run's contract

module _ (hash : List ℕ → List ℕ) (w : World) (which : Which) (advert : Advert) where
  by_complete : (t : Bool) → compiled_told hash w.book advert (option_map (numbered hash) (if t then Some (instance_of w 0 advert) else None)) which
      ≡ setting_psbt hash w.book which (if t then Some (instance_of w 0 advert) else None)
  by_complete true = set_is hash w.book (instance_of w 0 advert) which
  by_complete false = refl

  told_is : psbt_told hash w.book advert (option_map (numbered hash) (instance_if_complete w 0 (Some advert))) which
      ≡ (if has_transaction (Some advert) which then setting_psbt hash w.book which (instance_if_complete w 0 (Some advert)) else no_path_line which)
  told_is =
      ap (λ (text : List ℕ). if has_transaction (Some advert) which then text else no_path_line which) (by_complete (is_complete w 0 advert))

pub told_of_run : (hash : List ℕ → List ℕ) (book : List Pair) (advert : Advert) (c : Option Numbered) (which : Which) (s : Setup) (w : World)
    → s.hash ≡ hash → contract_at s 0 ≡ Some advert → w.book ≡ book → c ≡ option_map (numbered s.hash) (compiled_instance s w 0)
    → psbt_told hash book advert c which ≡ which_psbt s w which
told_of_run hash book advert c which s w e f g h =
    let k : c ≡ option_map (numbered s.hash) (instance_if_complete w 0 (Some advert)) =
    h ∙ ap (λ a. option_map (numbered s.hash) (instance_if_complete w 0 a)) f in
    (λ i. psbt_told (sym e i) (sym g i) advert (k i) which)
    ∙ (told_is s.hash w which advert
    ∙ sym (ap (λ a. if has_transaction a which then setting_psbt s.hash w.book which (instance_if_complete w 0 a) else no_path_line which) f))
