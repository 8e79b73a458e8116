-- What is told in the end, where an event told it.
use Rattle.std.proofs.Common.{◌≡◌, ℕ, List, [], ◌∷◌, ◌++◌, Bool, true, false, Option, Some, None, refl}
use Rattle.std.specs.Prelude.{◌==◌, is_some, if◌then◌else◌}
use Rattle.std.specs.List.{list_any}
use Rattle.std.specs.Option.{option_map, option_and_then}
use Rattle.std.proofs.lemmas.Bool.{and_from, or_parts, eq-eqb}
use Rattle.spec_data.specs.Lists.{look_up}
use Rattle.spec_calculus.specs.declared.parts.Advertised.{Advertised}
use Rattle.spec_run.specs.Setup.{Setup, is_honest, held_secret, bytes_or_none}
use Rattle.spec_run.specs.World.{Promise, is_promise_of, bindings_at}
use Rattle.spec_run.specs.Advertising.{arranged, or_else_this}
use Rattle.spec_run.specs.Committing.{is_secret_long, badly_long}
use Rattle.spec_run.specs.Revealing.{fitting}
use Rattle.spec_run.specs.Secrets.{secret_size, lengths_in_run}
use Rattle.theory_calculus.proofs.Names.{bytes_refl}
use Rattle.bm_exchange.specs.Exchanged.{digests_by}
use Rattle.bm_translate.specs.Lengths.{long_size, lengths_by, told_length}
use Rattle.bm_translate.specs.Moments.{AreHeard}
use Rattle.bm_translate.proofs.Strings.{length_is}

-- ---- adverts

pub bindings_told : (xs more : List Advertised) (t : Advertised) → list_any (λ a. a.contract == t.contract) xs ≡ false
    → bindings_at ((xs ++ t ∷ []) ++ more) t.contract ≡ t.bindings
bindings_told [] more t h = let e : (t.contract == t.contract) ≡ true = eq-eqb t.contract t.contract refl in rw e refl
bindings_told (x ∷ xs) more t h =
    let f = or_parts (x.contract == t.contract) (list_any (λ a. a.contract == t.contract) xs) h in
    rw f.0 (bindings_told xs more t f.1)

-- ---- commitments

pub digests_told : (ps more : List Promise) (p : Promise) → list_any (is_promise_of p.contract p.party) ps ≡ false
    → digests_by ((ps ++ p ∷ []) ++ more) p.contract p.party ≡ p.digests
digests_told [] more p h =
    let e : is_promise_of p.contract p.party p ≡ true = and_from _ _ (eq-eqb p.contract p.contract refl) (bytes_refl p.party) in
    rw e refl
digests_told (q ∷ ps) more p h =
    let f = or_parts (is_promise_of p.contract p.party q) (list_any (is_promise_of p.contract p.party) ps) h in
    rw f.0 (digests_told ps more p f.1)

-- ---- lengths

-- a secret that is held and has the size of one
held_long : (o : Option (List ℕ)) → is_secret_long (bytes_or_none o) ≡ true → option_and_then long_size o ≡ option_map secret_size o
held_long None h = refl
held_long (Some t) h = rw h refl

module _ (s : Setup) (messages posted : List (List ℕ)) (heard : AreHeard s.hash messages posted) (party : List ℕ) where
  one_length : (b : Bool) (name digest : List ℕ) → (b ≡ true → is_secret_long (bytes_or_none (held_secret s party name)) ≡ true)
      → (if b then option_and_then long_size (held_secret s party name) else told_length s.hash messages posted digest)
      ≡ (if b then option_map secret_size (held_secret s party name) else option_map secret_size (fitting s posted digest))
  one_length true name digest h = held_long (held_secret s party name) (h refl)
  one_length false name digest h = length_is s messages posted heard digest

  -- the first name, and the rest
  first_long : (b : Bool) (name : List ℕ) (names : List (List ℕ)) → is_some (if b then badly_long s party (name ∷ names) else None) ≡ false
      → (b ≡ true → is_secret_long (bytes_or_none (held_secret s party name)) ≡ true)
      × (is_some (if b then badly_long s party names else None) ≡ false)
  first_long false name names h = (λ e. cc, refl)
  first_long true name names h = by_test (is_secret_long (bytes_or_none (held_secret s party name))) refl h
    where
      by_test : (t : Bool) → is_secret_long (bytes_or_none (held_secret s party name)) ≡ t
          → is_some (if t then badly_long s party names else Some name) ≡ false
          → (true ≡ true → is_secret_long (bytes_or_none (held_secret s party name)) ≡ true)
          × (is_some (badly_long s party names) ≡ false)
      by_test true e k = (λ _. e, k)
      by_test false e k = cc

  -- the lengths of what a party commits, where an honest party's secrets have the size of one
  pub lengths_are : (names : List (List ℕ)) (entries : List (List ℕ × List ℕ))
      → is_some (if is_honest s party then badly_long s party names else None) ≡ false
      → lengths_by s.hash s.header messages posted party (arranged [] names entries) ≡ lengths_in_run s posted party (arranged [] names entries)
  lengths_are [] entries h = refl
  lengths_are (name ∷ names) entries h =
      let f = first_long (is_honest s party) name names h in
      let e = one_length (is_honest s party) name (or_else_this [] (look_up name entries)) f.0 in
      let ih = lengths_are names entries f.1 in
      λ i. (name, e i) ∷ ih i
