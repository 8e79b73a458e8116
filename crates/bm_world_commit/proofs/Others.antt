-- What all contracts are compiled to, when one party more has committed.
use Rattle.std.proofs.Common.{◌≡◌, ℕ, zero, suc, ◌+◌, List, [], ◌∷◌, ◌++◌, Bool, true, false, Option, Some, None, refl, sym, ap, ◌∙◌, subst, arith}
use Rattle.std.specs.Prelude.{◌==◌, ◌&&◌, ◌||◌, if◌then◌else◌, option_map, slice_set}
use Rattle.std.proofs.lemmas.Bool.{or_from, both_ways}
use Rattle.spec_terms.specs.Advert.{Advert}
use Rattle.spec_terms.specs.Parties.{participants}
use Rattle.spec_compiler.specs.Instance.{Instance}
use Rattle.spec_run.specs.Setup.{Setup, contract_at, people_of, people_at}
use Rattle.spec_data.specs.Lists.{is_among}
use Rattle.spec_run.specs.World.{Promise, World, bindings_at, is_advertised, is_promise_of, has_promised, have_promised}
use Rattle.spec_run.specs.Compiled.{instance_of, instance_if_complete, compiled_instance}
use Rattle.bm_compile.specs.Numbered.{numbered}
use Rattle.bm_match.specs.Matches.{compiled_from, all_compiled}
use Rattle.bm_world_board.specs.Compiling.{placed}
use Rattle.bm_world_commit.specs.Entries.{entry_of}
use Rattle.theory_calculus.proofs.Names.{all_among}
use Rattle.theory_world.proofs.Tests.{any-append}
use Rattle.theory_world.proofs.Later.{compiled_is, digests-other}
use Rattle.theory_run.proofs.Events.AfterAdvert.{places_same}

-- ---- two worlds

module _ (s : Setup) (w next : World) where
  -- where they agree on every contract from number k on
  pub same_from : (k : ℕ) (adverts : List Advert) → ((i : ℕ) → compiled_instance s next (i + k) ≡ compiled_instance s w (i + k))
      → compiled_from s next k adverts ≡ compiled_from s w k adverts
  same_from k [] same = refl
  same_from k (a ∷ more) same =
      let tail = same_from (k + 1) more (λ i. let z : i + (k + 1) ≡ (i + 1) + k = omega arith in rw z (same (i + 1))) in
      let z : 0 + k ≡ k = omega arith in
      let head : compiled_instance s next k ≡ compiled_instance s w k = rw z at (same 0) in
      λ i. option_map (numbered s.hash) (head i) ∷ tail i

  -- where they agree on every contract but m places after number k
  pub but_one : (m k : ℕ) (adverts : List Advert) (st : Instance) → compiled_instance s next (m + k) ≡ Some st
      → ((j : ℕ) → ((m + k) == j) ≡ false → compiled_instance s next j ≡ compiled_instance s w j)
      → slice_set (compiled_from s w k adverts) m (Some (numbered s.hash st)) ≡ compiled_from s next k adverts
  but_one m k [] st h others = refl
  but_one zero k (a ∷ more) st h others =
      let z : 0 + k ≡ k = omega arith in
      let tail = same_from (k + 1) more (λ i. others (i + (k + 1)) (grind arith)) in
      let head : compiled_instance s next k ≡ Some st = rw z at h in
      λ i. option_map (numbered s.hash) (sym head i) ∷ sym tail i
  but_one (suc m) k (a ∷ more) st h others =
      let z : m + (k + 1) ≡ suc m + k = omega arith in
      let tail = but_one m (k + 1) more st (rw z h) (λ j f. others j (rw z at f)) in
      let head : compiled_instance s w k ≡ compiled_instance s next k = sym (others k (grind arith)) in
      λ i. option_map (numbered s.hash) (head i) ∷ tail i

-- ---- the world with one commitment more

module _ (s : Setup) (w : World) (p : Promise) where
  abbrev pub next : World
  next = record w { promises = w.promises ++ p ∷ [] }

  has_apart : (j : ℕ) → (p.contract == j) ≡ false → (party : List ℕ) → has_promised next j party ≡ has_promised w j party
  has_apart j f party = any-append (is_promise_of j party) w.promises (p ∷ []) ∙ rw f (by_test (has_promised w j party))
    where
      by_test : (b : Bool) → (b || false) ≡ b
      by_test true = refl
      by_test false = refl

  have_apart : (j : ℕ) → (p.contract == j) ≡ false → (parties : List (List ℕ)) → have_promised next j parties ≡ have_promised w j parties
  have_apart j f [] = refl
  have_apart j f (a ∷ more) = λ i. has_apart j f a i && have_apart j f more i

  -- every other contract is compiled as before
  pub instance_apart : (j : ℕ) → (p.contract == j) ≡ false → compiled_instance s next j ≡ compiled_instance s w j
  instance_apart j f = by_contract (contract_at s j)
    where
      by_contract : (o : Option Advert) → instance_if_complete next j o ≡ instance_if_complete w j o
      by_contract None = refl
      by_contract (Some a) =
          let places = places_same w next (bindings_at w.advertised j) refl in
          let hashes = digests-other w.promises (p ∷ []) j (or_from _ _ f refl) in
          let made : instance_of next j a ≡ instance_of w j a = λ i. record { contract = j; advert = a; bound = places i; hashes = hashes i } in
          λ i. if is_advertised w j && have_apart j f (participants a) i then Some (made i) else None

  -- its own contract wasn't compiled, where the party takes part and hadn't committed
  pub not_before : is_among p.party (people_at s p.contract) ≡ true → has_promised w p.contract p.party ≡ false → compiled_instance s w p.contract ≡ None
  not_before part new = by_instance (compiled_instance s w p.contract) refl
    where
      by_instance : (o : Option Instance) → compiled_instance s w p.contract ≡ o → o ≡ None
      by_instance None e = refl
      by_instance (Some st) e =
          let c = compiled_is s w p.contract st e in
          let there : is_among p.party (participants c.advert) ≡ true = ap (λ o. is_among p.party (people_of o)) (sym c.there) ∙ part in
          absurd (both_ways _ new (all_among (has_promised w p.contract) (participants c.advert) p.party c.promised there))

  -- so all is placed
  pub placed_all : is_among p.party (people_at s p.contract) ≡ true → has_promised w p.contract p.party ≡ false
      → placed (entry_of s.hash p.contract (compiled_instance s next p.contract)) (all_compiled s w) ≡ all_compiled s next
  placed_all part new = by_instance (compiled_instance s next p.contract) refl
    where
      before : compiled_instance s w p.contract ≡ None
      before = not_before part new

      same : compiled_instance s next p.contract ≡ None → (j : ℕ) (b : Bool) → (p.contract == j) ≡ b → compiled_instance s next j ≡ compiled_instance s w j
      same none j false f = instance_apart j f
      same none j true t = let e : p.contract ≡ j = grind (arith, t) in subst (λ n. compiled_instance s next n ≡ compiled_instance s w n) e (none ∙ sym before)

      by_instance : (o : Option Instance) → compiled_instance s next p.contract ≡ o
          → placed (entry_of s.hash p.contract o) (all_compiled s w) ≡ all_compiled s next
      by_instance None e = sym (same_from s w next 0 s.contracts (λ i. same e (i + 0) (p.contract == (i + 0)) refl))
      by_instance (Some st) e =
          let z : p.contract + 0 ≡ p.contract = omega arith in
          but_one s w next p.contract 0 s.contracts st (rw z e) (λ j f. instance_apart j (rw z at f))
