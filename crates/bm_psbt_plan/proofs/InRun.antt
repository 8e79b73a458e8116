-- What the contract of a run lists is a partially signed transaction.
use Rattle.std.proofs.Common.{◌≡◌, ℕ, List, Option, Some, None, refl, sym, ap, ◌∙◌, subst}
use Rattle.std.specs.Prelude.{option_map}
use Rattle.spec_terms.specs.Advert.{Advert}
use Rattle.spec_bitcoin.specs.Keys.{Pair}
use Rattle.spec_compiler.specs.Instance.{Instance}
use Rattle.spec_data.specs.Hashes.{HashesBytes}
use Rattle.spec_run.specs.Setup.{Setup, contract_at}
use Rattle.spec_run.specs.World.{World}
use Rattle.spec_run.specs.Compiled.{compiled_instance}
use Rattle.spec_run.specs.Translation.{last_world}
use Rattle.spec_tool.specs.declared.which.Which.{Which}
use Rattle.spec_tool.specs.declared.which.Which.TheVariants as names
use Rattle.spec_tool.specs.Listed.{Listed, listed_at}
use Rattle.spec_tool.specs.PsbtText.{listed_psbt}
use Rattle.theory_script.proofs.Listing.Stands.{some_same}
use Rattle.theory_world.proofs.Later.{compiled_is}
use Rattle.theory_psbt.proofs.ListedFits.{listed_fits}
use Rattle.theory_psbt_listed.specs.InRuns.{ListsFitting}
use Rattle.theory_psbt_listed.proofs.InRuns.{listed_fit}
use Rattle.bm_compile.specs.Numbered.{Numbered, numbered}
use Rattle.bm_psbt_plan.specs.Parts.{named_psbt, IsOne}
use Rattle.bm_psbt_plan.specs.OfRun.{IsOfRun}
use Rattle.bm_psbt_plan.proofs.Signers.{init_is}
use Rattle.bm_psbt_plan.proofs.Telling.{path_found}

-- what is found of a name is what is listed by it
named_is : (hash : List ℕ → List ℕ) (book : List Pair) (st : Instance) (which : Which)
    → named_psbt hash book st.contract st.advert (numbered hash st) which ≡ option_map (listed_psbt hash book) (listed_at hash st which)
named_is hash book st names.Init = ap Some (init_is hash book st)
named_is hash book st (names.At path) = path_found hash book st path

module _ (s : Setup) (w : World) (fine : HashesBytes s.hash) (fits : ListsFitting s w) (book : List Pair) (which : Which) where
  listed_is : (st : Instance) → compiled_instance s w 0 ≡ Some st → (o : Option Listed) → listed_at s.hash st which ≡ o
      → IsOne (option_map (listed_psbt s.hash book) o)
  listed_is st c None e = tt
  listed_is st c (Some l) e = (listed_fits s.hash fine book l (fits 0 st which l c e)).is

  -- of a contract that is compiled so
  by_instance : (st : Instance) → compiled_instance s w 0 ≡ Some st
      → IsOne (named_psbt s.hash book st.contract st.advert (numbered s.hash st) which)
  by_instance st c = subst IsOne (sym (named_is s.hash book st which)) (listed_is st c (listed_at s.hash st which) refl)

  of_advert : (advert : Advert) → contract_at s 0 ≡ Some advert → (st : Instance) → compiled_instance s w 0 ≡ Some st
      → IsOne (named_psbt s.hash book 0 advert (numbered s.hash st) which)
  of_advert advert there st c =
      let at = compiled_is s w 0 st c in
      let number : st.contract ≡ 0 = ap (λ (y : Instance). y.contract) at.is in
      let same : st.advert ≡ advert = ap (λ (y : Instance). y.advert) at.is ∙ some_same (sym at.there ∙ there) in
      subst (λ (n : ℕ). IsOne (named_psbt s.hash book n advert (numbered s.hash st) which)) number
      (subst (λ (a : Advert). IsOne (named_psbt s.hash book st.contract a (numbered s.hash st) which)) same (by_instance st c))

  by_compiled : (advert : Advert) → contract_at s 0 ≡ Some advert → (o : Option Instance) → compiled_instance s w 0 ≡ o
      → (c : Numbered) → option_map (numbered s.hash) o ≡ Some c → IsOne (named_psbt s.hash book 0 advert c which)
  by_compiled advert there None e c f = absurd cc
  by_compiled advert there (Some st) e c f =
      subst (λ (n : Numbered). IsOne (named_psbt s.hash book 0 advert n which)) (some_same f) (of_advert advert there st e)

-- each transaction of what the contract of a run is compiled to
pub is_one : (hash : List ℕ → List ℕ) (advert : Advert) (compiled : Option Numbered) → IsOfRun hash advert compiled
    → (book : List Pair) (which : Which) (c : Numbered) → compiled ≡ Some c → IsOne (named_psbt hash book 0 advert c which)
is_one hash advert compiled r book which c e =
    let s = r.setup in
    let w = last_world s r.events in
    let fits = (listed_fit s r.events r.run).last in
    let f : option_map (numbered s.hash) (compiled_instance s w 0) ≡ Some c =
    ap (λ (h : List ℕ → List ℕ). option_map (numbered h) (compiled_instance s w 0)) r.hash_is ∙ (sym r.compiled_is ∙ e) in
    subst (λ (h : List ℕ → List ℕ). IsOne (named_psbt h book 0 advert c which)) r.hash_is
    (by_compiled s w r.run.setup.hash fits book which advert r.contract_is (compiled_instance s w 0) refl c f)
