-- The transaction of a branch of what is held, by what is found of it.
use Rattle.std.proofs.Common.{◌≡◌, ℕ, ◌<◌, List, [], ◌∷◌, ◌++◌, length, map, Option, Some, None, refl, sym, ap, ◌∙◌, arith, zero, suc}
use Rattle.std.specs.Prelude.{slice_get, option_map}
use Rattle.std.proofs.lemmas.Simd.{map-map}
use Rattle.spec_terms.specs.Advert.{Advert}
use Rattle.spec_terms.specs.Term as term
use Rattle.spec_terms.specs.Term.{Contract, branches}
use Rattle.spec_terms.specs.Core.{core, puts_of}
use Rattle.spec_terms.specs.Parties.{participants}
use Rattle.spec_terms.specs.Paths.{at, contract_under}
use Rattle.spec_terms.specs.declared.path.PathStep.TheVariants.{Branch as To}
use Rattle.spec_bitcoin.specs.Keys.{key_of, signature_of}
use Rattle.spec_compiler.specs.declared.prepared.Prepared.{Prepared}
use Rattle.spec_compiler.specs.Instance.{Instance, branch_label, position_script}
use Rattle.spec_compiler.specs.Transactions.{Standing, prepared, branch_unsigned}
use Rattle.spec_compiler.specs.ByPath.{prepared_at}
use Rattle.spec_compiler.specs.Witness.{witness_of}
use Rattle.spec_run.specs.Setup.{Setup, contract_at}
use Rattle.spec_run.specs.World.{ContractPosition, World, digests_at}
use Rattle.spec_run.specs.Compiled.{compiled_instance}
use Rattle.spec_run.specs.Ledger.{contract_in, branch_in, position_path, position_branch}
use Rattle.spec_run.specs.Signing.{first_digest, prepared_if_compiled}
use Rattle.spec_run.specs.Firing.{deposit_witnesses, branch_signatures, taking_of_parts, taking_transaction, taking_of_position, other_digests, with_witnesses}
use Rattle.bm_compile.specs.Numbered.{Numbered, numbered, script_at}
use Rattle.theory_script.proofs.Listing.Stands.{position_stands}
use Rattle.theory_world.proofs.Later.{IsCompiledAt, compiled_is}
use Rattle.theory_world.proofs.Contracts.Standing.{term_choice, term_branches, unsigned_of_branch}
use Rattle.bm_world_fire.specs.Filled.{deposits_items, owner_in, signed_by}
use Rattle.bm_world_fire.specs.Standing.{IsStanding}
use Rattle.bm_world_fire.specs.Taken.{shown_for, taking_with}

-- ---- witnesses

pub deposits_each : (s : Setup) (owners digests : List (List ℕ)) → deposits_items s.hash owners digests ≡ deposit_witnesses s owners digests
deposits_each s [] digests = refl
deposits_each s (owner ∷ owners) [] = refl
deposits_each s (owner ∷ owners) (digest ∷ digests) = ap (λ l. deposit_witnesses s (owner ∷ []) (digest ∷ []) ++ l) (deposits_each s owners digests)

get_within : {A : Type 0} (xs : List A) (i : ℕ) (x : A) → slice_get xs i ≡ Some x → i < length xs
get_within [] i x e = cc
get_within (y ∷ ys) zero x e = omega arith
get_within (y ∷ ys) (suc i) x e = let h = get_within ys i x e in omega (arith, h)

-- ---- what stands

module _ (s : Setup) (w : World) (held : ContractPosition) (is : IsStanding s w held) where
  abbrev st : Instance
  st = is.instance

  compiled : IsCompiledAt s w held.contract is.instance
  compiled = compiled_is s w held.contract is.instance is.compiled

  pub advert_there : contract_at s held.contract ≡ Some is.instance.advert
  advert_there = compiled.there ∙ ap (λ (y : Instance). Some y.advert) (sym compiled.is)

  pub number_is : is.instance.contract ≡ held.contract
  number_is = ap (λ (y : Instance). y.contract) compiled.is

  pub hashes_are : is.instance.hashes ≡ digests_at w.promises held.contract
  hashes_are = ap (λ (y : Instance). y.hashes) compiled.is

  pub choice_there : contract_under is.instance.advert.root held.position ≡ Some is.choice
  choice_there = term_choice s.hash is.instance held.position is.here is.choice is.stands

  chosen : contract_in (contract_at s held.contract) held.position ≡ Some is.choice
  chosen = ap (λ o. contract_in o held.position) advert_there ∙ choice_there

  pub script_there : script_at s.hash is.instance held.position ≡ Some (position_script s.hash is.instance held.position is.choice)
  script_there = ap (option_map (λ (p : Standing × Contract). p.0.output.script)) is.stands
      ∙ ap Some (position_stands s.hash is.instance held.position is.here is.choice is.stands).script

  pub number_of : (n : Numbered) → option_map (numbered s.hash) (compiled_instance s w held.contract) ≡ Some n → n ≡ numbered s.hash is.instance
  number_of n e =
      let x : (let y : Option Numbered = Some (numbered s.hash is.instance) in y) ≡ Some n = sym (ap (option_map (numbered s.hash)) is.compiled) ∙ e in
      let z : numbered s.hash is.instance ≡ n = cc in
      sym z

  pub advert_is : (a : Advert) → contract_at s held.contract ≡ Some a → a ≡ is.instance.advert
  advert_is a e = let x : (let y : Option Advert = Some a in y) ≡ Some is.instance.advert = sym e ∙ advert_there in cc

  -- where the branch isn't there
  pub taking_none : (j : ℕ) → position_branch s held j ≡ None → taking_of_position s w (Some held) j ≡ None
  taking_none j none = λ i. taking_of_parts s w held j (is.compiled i) (chosen i) (none i) (prepared_if_compiled s (is.compiled i) (position_path held j))

  pub script_is : (script : List ℕ) → Some script ≡ script_at s.hash is.instance held.position → script
      ≡ position_script s.hash is.instance held.position is.choice
  script_is script e =
      let x : (let y : Option (List ℕ) = Some script in y) ≡ Some (position_script s.hash is.instance held.position is.choice) = e ∙ script_there in
      cc

  module _ (j : ℕ) (b : term.Guarded) (found : position_branch s held j ≡ Some b) where
    pub branch_there : slice_get (branches is.choice) j ≡ Some b
    branch_there =
        let text : at is.instance.advert.root (held.position ++ To j ∷ []) ≡ Some b = ap (λ o. branch_in o (position_path held j)) (sym advert_there) ∙ found in
        sym (term_branches s.hash is.instance held.position is.here is.choice j is.stands) ∙ text

    pub within : j < length (branches is.choice)
    within = get_within (branches is.choice) j b branch_there

    abbrev pub made : Prepared
    made = prepared s.hash (branch_unsigned s.hash is.instance is.here j b)

    pub made_there : prepared_at s.hash is.instance (position_path held j) ≡ Some (prepared s.hash (branch_unsigned s.hash is.instance is.here j b))
    made_there = ap (option_map (prepared s.hash)) (unsigned_of_branch s.hash is.instance held.position is.here is.choice j b is.stands branch_there)

    pub made_is : (made : Prepared) → Some made ≡ prepared_at s.hash is.instance (position_path held j) → made
        ≡ prepared s.hash (branch_unsigned s.hash is.instance is.here j b)
    made_is made e =
        let x : (let y : Option Prepared = Some made in y) ≡ Some (prepared s.hash (branch_unsigned s.hash is.instance is.here j b)) =
        e ∙ made_there in
        cc

    pub some_digest : 0 < length (prepared s.hash (branch_unsigned s.hash is.instance is.here j b)).digests
    some_digest = omega arith

    signatures_are : (digest : List ℕ) → map (signed_by s.hash held.contract (position_path held j) digest)
        (participants is.instance.advert) ≡ branch_signatures s is.instance (position_path held j) digest
    signatures_are digest =
        ap (λ k. map (signed_by s.hash k (position_path held j) digest) (participants is.instance.advert)) (sym number_is)
        ∙ sym (map-map (λ key. signature_of key digest)
        (λ party. key_of s.hash (branch_label is.instance.contract (position_path held j) party)) (participants is.instance.advert))

    pub taking_whole : taking_of_position s w (Some held) j ≡ Some (taking_transaction s w is.instance held j is.choice b made)
    taking_whole = λ i. taking_of_parts s w held j (is.compiled i) (chosen i) (found i)
        ((ap (λ o. prepared_if_compiled s o (position_path held j)) is.compiled ∙ made_there) i)

    pub taking_is : Some (taking_with s w.posted held.contract is.instance.advert (digests_at w.promises held.contract)
        (position_path held j) j (length (branches is.choice)) b (prepared s.hash (branch_unsigned s.hash is.instance is.here j b))
        (position_script s.hash is.instance held.position is.choice))
        ≡ taking_of_position s w (Some held) j
    taking_is =
        let d = prepared s.hash (branch_unsigned s.hash is.instance is.here j b) in
        let script = position_script s.hash is.instance held.position is.choice in
        let with_hashes = ap (λ hs. taking_with s w.posted held.contract is.instance.advert hs
        (position_path held j) j (length (branches is.choice)) b d script) (sym hashes_are) in
        let signed = signatures_are (first_digest d) in
        let deposits = deposits_each s (map (owner_in is.instance.advert.pre) (puts_of (core b))) (other_digests d.digests) in
        let filled : taking_with s w.posted held.contract is.instance.advert is.instance.hashes
        (position_path held j) j (length (branches is.choice)) b d script ≡ taking_transaction s w is.instance held j is.choice b d =
        λ i. with_witnesses d.tx (witness_of (signed i) (shown_for s w.posted is.instance.hashes b) j (length (branches is.choice)) script ∷ deposits i) in
        ap Some (with_hashes ∙ filled) ∙ sym taking_whole
