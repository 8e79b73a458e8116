-- Whether a party has endorsed, by what a contract is compiled to.
use Rattle.std.proofs.Common.{◌≡◌, ℕ, List, Bool, true, false, Option, Some, None, refl, sym, ap, ◌∙◌}
use Rattle.std.specs.Prelude.{option_map, if◌then◌else◌}
use Rattle.spec_terms.specs.Advert.{Advert}
use Rattle.spec_terms.specs.Precondition.{persistent, owners_of}
use Rattle.spec_nodes.specs.Nodes.{nodes_of}
use Rattle.spec_bitcoin.specs.Keys.{Pair}
use Rattle.spec_compiler.specs.Instance.{Instance, deposit_key}
use Rattle.spec_compiler.specs.Endorsements.{needed}
use Rattle.spec_run.specs.Setup.{Setup, contract_at}
use Rattle.spec_run.specs.World.{World}
use Rattle.spec_run.specs.Compiled.{compiled_instance, instance_if_complete, instance_of, is_complete}
use Rattle.spec_run.specs.Signing.{pairs_of_party, endorsing_pairs, initial_pairs}
use Rattle.spec_next.specs.Candidates.{are_signed, has_endorsed}
use Rattle.spec_next.specs.Hands.{are_in_book}
use Rattle.bm_compile.specs.Numbered.{Numbered, numbered}
use Rattle.bm_world_sign.specs.Instances.{IsShown}
use Rattle.bm_world_sign.specs.Starting.{pairs_by_key}
use Rattle.bm_world_sign.proofs.Signed.{initial_shown}

-- ---- what a contract is compiled with

compiled_with : (w : World) (k : ℕ) (advert : Advert) (b : Bool) (instance : Instance)
    → (if b then Some (instance_of w k advert) else None) ≡ Some instance → (instance.contract ≡ k) × (instance.advert ≡ advert)
compiled_with w k advert true instance h =
    let e : instance_of w k advert ≡ instance = some_is h in (ap (λ (x : Instance). x.contract) (sym e), ap (λ (x : Instance). x.advert) (sym e))
  where
    some_is : Some (instance_of w k advert) ≡ Some instance → instance_of w k advert ≡ instance
    some_is q = cc
compiled_with w k advert false instance h = cc

compiled_of : (s : Setup) (w : World) (k : ℕ) (advert : Advert) (instance : Instance) → contract_at s k ≡ Some advert
    → compiled_instance s w k ≡ Some instance → (instance.contract ≡ k) × (instance.advert ≡ advert)
compiled_of s w k advert instance e h =
    compiled_with w k advert (is_complete w k advert) instance (sym (ap (instance_if_complete w k) e) ∙ h)

-- ---- endorsed

-- no contract
pub endorsed_nowhere : (s : Setup) (w : World) (k : ℕ) (n : Numbered) (party : List ℕ) → None ≡ contract_at s k
    → Some n ≡ option_map (numbered s.hash) (compiled_instance s w k) → false ≡ has_endorsed s w (compiled_instance s w k) party
endorsed_nowhere s w k n party none h =
    let e : compiled_instance s w k ≡ None = ap (instance_if_complete w k) (sym none) in
    ap (λ o. has_endorsed s w o party) (sym e)

-- not compiled
pub endorsed_none : (s : Setup) (w : World) (o : Option Instance) (party : List ℕ) → None ≡ option_map (numbered s.hash) o
    → false ≡ has_endorsed s w o party
endorsed_none s w None party h = refl
endorsed_none s w (Some instance) party h = cc

-- the nodes of what a contract is compiled to
pub nodes_are : (s : Setup) (w : World) (k : ℕ) (advert : Advert) (n : Numbered) → Some advert ≡ contract_at s k
    → Some n ≡ option_map (numbered s.hash) (compiled_instance s w k) → n.nodes ≡ nodes_of advert.root
nodes_are s w k advert n e h = by_instance (compiled_instance s w k) refl
  where
    number_of : (i : Instance) → Some n ≡ Some (numbered s.hash i) → n ≡ numbered s.hash i
    number_of i q = cc

    by_instance : (o : Option Instance) → compiled_instance s w k ≡ o → n.nodes ≡ nodes_of advert.root
    by_instance None c = absurd (apart (h ∙ ap (option_map (numbered s.hash)) c))
      where
        apart : Some n ≡ option_map (numbered s.hash) None → ⊥
        apart q = cc
    by_instance (Some i) c =
        let p = compiled_of s w k advert i (sym e) c in
        ap (λ (x : Numbered). x.nodes) (number_of i (h ∙ ap (option_map (numbered s.hash)) c))
        ∙ ap (λ (a : Advert). nodes_of a.root) p.1

-- the pairs are those that the party endorses
pub pairs_are : (s : Setup) (w : World) (k : ℕ) (advert : Advert) (n : Numbered) (party : List ℕ) (pairs : List Pair)
    → Some advert ≡ contract_at s k → Some n ≡ option_map (numbered s.hash) (compiled_instance s w k)
    → ((i : Instance) → n ≡ numbered s.hash i → i.contract ≡ k → i.advert ≡ advert → pairs ≡ pairs_of_party party (needed s.hash i))
    → pairs ≡ endorsing_pairs s party (compiled_instance s w k)
pairs_are s w k advert n party pairs e h f = by_instance (compiled_instance s w k) refl
  where
    number_of : (i : Instance) → Some n ≡ Some (numbered s.hash i) → n ≡ numbered s.hash i
    number_of i q = cc

    by_instance : (o : Option Instance) → compiled_instance s w k ≡ o → pairs ≡ endorsing_pairs s party (compiled_instance s w k)
    by_instance None c = absurd (apart (h ∙ ap (option_map (numbered s.hash)) c))
      where
        apart : Some n ≡ option_map (numbered s.hash) None → ⊥
        apart q = cc
    by_instance (Some i) c =
        let p = compiled_of s w k advert i (sym e) c in
        f i (number_of i (h ∙ ap (option_map (numbered s.hash)) c)) p.0 p.1 ∙ ap (endorsing_pairs s party) (sym c)

-- the pairs of a party's deposits of the initial transaction that is found
abbrev pub pairs_found : Setup → Advert → Numbered → List ℕ → List Pair
pairs_found s advert n party = pairs_by_key (deposit_key s.hash party) party (owners_of (persistent advert.pre)) n.init.digests

-- the pairs are those that the party signs of the initial transaction
pub initials_are : (s : Setup) (w : World) (k : ℕ) (advert : Advert) (n : Numbered) (party : List ℕ) → Some advert ≡ contract_at s k
    → Some n ≡ option_map (numbered s.hash) (compiled_instance s w k)
    → pairs_found s advert n party ≡ initial_pairs s party (compiled_instance s w k)
initials_are s w k advert n party e h = by_instance (compiled_instance s w k) refl
  where
    number_of : (i : Instance) → Some n ≡ Some (numbered s.hash i) → n ≡ numbered s.hash i
    number_of i q = cc

    by_instance : (o : Option Instance) → compiled_instance s w k ≡ o → pairs_found s advert n party ≡ initial_pairs s party (compiled_instance s w k)
    by_instance None c = absurd (apart (h ∙ ap (option_map (numbered s.hash)) c))
      where
        apart : Some n ≡ option_map (numbered s.hash) None → ⊥
        apart q = cc
    by_instance (Some i) c =
        let p = compiled_of s w k advert i (sym e) c in
        initial_shown s k party (Some i) advert n
        (record { number = p.0; text = p.1; compilation = number_of i (h ∙ ap (option_map (numbered s.hash)) c) })
        ∙ ap (initial_pairs s party) (sym c)

-- no contract
pub initials_nowhere : (s : Setup) (w : World) (k : ℕ) (party : List ℕ) → None ≡ contract_at s k
    → false ≡ are_in_book w.book (initial_pairs s party (compiled_instance s w k))
initials_nowhere s w k party none =
    let e : compiled_instance s w k ≡ None = ap (instance_if_complete w k) (sym none) in
    ap (λ o. are_in_book w.book (initial_pairs s party o)) (sym e)

-- not compiled
pub initials_none : (s : Setup) (w : World) (o : Option Instance) (party : List ℕ) → None ≡ option_map (numbered s.hash) o
    → false ≡ are_in_book w.book (initial_pairs s party o)
initials_none s w None party h = refl
initials_none s w (Some instance) party h = cc

-- where all of these are signed, it has endorsed
pub endorsed_is : (s : Setup) (w : World) (o : Option Instance) (n : Numbered) (party : List ℕ) → Some n ≡ option_map (numbered s.hash) o
    → are_signed w.book (endorsing_pairs s party o) ≡ has_endorsed s w o party
endorsed_is s w None n party h = cc
endorsed_is s w (Some instance) n party h = refl
