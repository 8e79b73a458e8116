-- Initial transactions, by what their contracts are compiled to.
use Rattle.std.proofs.Common.{◌≡◌, ℕ, [], ◌∷◌, true, not, Option, Some, None, refl, sym, ap, ◌∙◌}
use Rattle.std.specs.Prelude.{option_map, is_some, if◌then◌else◌}
use Rattle.spec_data.specs.Lists.{first_reason}
use Rattle.spec_terms.specs.Advert.{Advert}
use Rattle.spec_bitcoin.specs.declared.tx.Tx.{Tx}
use Rattle.spec_compiler.specs.Instance.{Instance}
use Rattle.spec_compiler.specs.Transactions.{prepared, initial_unsigned}
use Rattle.spec_run.specs.declared.outcome.Reason.TheVariants as reason
use Rattle.spec_run.specs.Setup.{Setup, contract_at}
use Rattle.spec_run.specs.World.{World}
use Rattle.spec_run.specs.Compiled.{compiled_instance}
use Rattle.spec_run.specs.Firing.{with_witnesses, initial_by, initial_transaction, fire_init_row}
use Rattle.theory_world.proofs.Later.{compiled_is}
use Rattle.bm_compile.specs.Numbered.{Numbered, numbered}
use Rattle.bm_world_fire.specs.Filled.{initial_with, owners_in}
use Rattle.bm_world_fire.proofs.Taken.{deposits_each}

-- it is the initial transaction of this contract, which is compiled
pub record IsStarted (s : Setup) (w : World) (k : ℕ) (tx : Tx) : Type 0 where
  pub instance : Instance
  pub compiled : compiled_instance s w k ≡ Some instance
  pub is : tx ≡ initial_transaction s instance

pub started_is : (s : Setup) (w : World) (k : ℕ) (tx : Tx) → IsStarted s w k tx → Some tx ≡ initial_by s (compiled_instance s w k)
started_is s w k tx is = ap Some is.is ∙ sym (ap (initial_by s) is.compiled)

module _ (s : Setup) (w : World) (k : ℕ) where
  -- not compiled
  pub instance_none : option_map (numbered s.hash) (compiled_instance s w k) ≡ None → compiled_instance s w k ≡ None
  instance_none e = by_instance (compiled_instance s w k) e
    where
      by_instance : (o : Option Instance) → option_map (numbered s.hash) o ≡ None → o ≡ None
      by_instance None q = refl
      by_instance (Some st) q = cc

  -- compiled
  initial_some : (a : Advert) (n : Numbered) → contract_at s k ≡ Some a → option_map (numbered s.hash) (compiled_instance s w k)
      ≡ Some n → Some (initial_with s.hash a.pre n.init) ≡ initial_by s (compiled_instance s w k)
  initial_some a n there e = by_instance (compiled_instance s w k) refl e
    where
      by_instance : (o : Option Instance) → compiled_instance s w k ≡ o → option_map (numbered s.hash) o ≡ Some n
          → Some (initial_with s.hash a.pre n.init) ≡ initial_by s o
      by_instance None c q = cc
      by_instance (Some st) c q =
          let is = compiled_is s w k st c in
          let made : n ≡ numbered s.hash st = cc in
          let same : is.advert ≡ a = (let z : (let y : Option Advert = Some is.advert in y) ≡ Some a = sym is.there ∙ there in cc) in
          let text : st.advert ≡ a = ap (λ (y : Instance). y.advert) is.is ∙ same in
          let d = prepared s.hash (initial_unsigned s.hash st) in
          let filled = deposits_each s (owners_in st.advert.pre) d.digests in
          (λ i. Some (initial_with s.hash ((sym text i).pre) ((made i).init))) ∙ (λ i. Some (with_witnesses d.tx (filled i)))

  pub started : (a : Advert) (n : Numbered) → contract_at s k ≡ Some a → option_map (numbered s.hash) (compiled_instance s w k) ≡ Some n
      → (tx : Tx) → tx ≡ initial_with s.hash a.pre n.init → IsStarted s w k tx
  started a n there e tx is = by_instance (compiled_instance s w k) refl (initial_some a n there e)
    where
      by_instance : (o : Option Instance) → compiled_instance s w k ≡ o → Some (initial_with s.hash a.pre n.init) ≡ initial_by s o → IsStarted s w k tx
      by_instance None c q = cc
      by_instance (Some st) c q =
          let z : initial_with s.hash a.pre n.init ≡ initial_transaction s st = cc in
          record { instance = st; compiled = c; is = is ∙ z }

  -- ---- refusals

  pub refused_nowhere : contract_at s k ≡ None → Some reason.NoContract ≡ first_reason (fire_init_row s w k)
  refused_nowhere e =
      sym (ap (λ o. if not (is_some o) then Some reason.NoContract else first_reason ((not (is_some (compiled_instance s w k)), reason.NotCompiled) ∷ [])) e)

  pub refused_uncompiled : (a : Advert) → contract_at s k ≡ Some a → option_map (numbered s.hash) (compiled_instance s w k) ≡ None
      → Some reason.NotCompiled ≡ first_reason (fire_init_row s w k)
  refused_uncompiled a there e =
      sym (ap (λ o. if not (is_some o) then Some reason.NoContract else first_reason ((not (is_some (compiled_instance s w k)), reason.NotCompiled) ∷ [])) there
      ∙ ap (λ o. if not (is_some o) then Some reason.NotCompiled else None) (instance_none e))

  instance_some : (n : Numbered) (o : Option Instance) → option_map (numbered s.hash) o ≡ Some n → is_some o ≡ true
  instance_some n None e = cc
  instance_some n (Some st) e = refl

  pub passed : (a : Advert) (n : Numbered) → contract_at s k ≡ Some a → option_map (numbered s.hash) (compiled_instance s w k) ≡ Some n
      → None ≡ first_reason (fire_init_row s w k)
  passed a n there e =
      sym (ap (λ o. if not (is_some o) then Some reason.NoContract else first_reason ((not (is_some (compiled_instance s w k)), reason.NotCompiled) ∷ [])) there
      ∙ ap (λ b. if not b then Some reason.NotCompiled else None) (instance_some n (compiled_instance s w k) e))
