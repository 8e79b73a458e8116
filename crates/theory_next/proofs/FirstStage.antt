-- What is known of a run up to the beginning of its first contract, of which all participants are honest.
use Rattle.std.proofs.Common.{◌≡◌, ℕ, List, true, Some, None, sym, ap, ◌∙◌, subst}
use Rattle.std.specs.Prelude.{◌&&◌, is_some, is_none, slice_get}
use Rattle.spec_data.specs.Lists.{is_among}
use Rattle.spec_terms.specs.Advert.{Advert}
use Rattle.spec_terms.specs.Faults.{IsWellFormed}
use Rattle.spec_terms.specs.Parties.{participants}
use Rattle.spec_terms.specs.Precondition.{Holding, persistent}
use Rattle.spec_calculus.specs.Configuration.{Configuration}
use Rattle.spec_run.specs.declared.event.Event.{Event}
use Rattle.spec_run.specs.Setup.{Setup, contract_at, has_contract, takes_part, is_declared, is_honest}
use Rattle.spec_run.specs.World.{Output, World, is_deposit, is_advertised}
use Rattle.spec_run.specs.Setup.{people_of}
use Rattle.spec_run.specs.Steps.{names_deposit, is_bound_live}
use Rattle.spec_run.specs.Translation.{last_configuration, last_world}
use Rattle.spec_run.specs.Statements.{spends_with_leave}
use Rattle.theory_calculus.specs.Members.{Is_in}
use Rattle.theory_calculus.proofs.Names.{persistent_deposit}
use Rattle.theory_run.specs.KeptBook.{KeptBook}
use Rattle.theory_run.proofs.Following.{run_posts, KeptAfter, kept_at_end}
use Rattle.theory_offers.proofs.WholeRun.{KeptAll, opening_all, keeps_all}
use Rattle.theory_next.proofs.Onward.{GoesSoFar}

-- the only contract is this one, and everyone who takes part in it is declared and honest
pub record IsFirst (s : Setup) (advert : Advert) : Type 0 where
  pub there : contract_at s 0 ≡ Some advert
  pub only : (k : ℕ) (other : Advert) → contract_at s k ≡ Some other → k ≡ 0
  pub well : IsWellFormed advert
  pub declared : (party : List ℕ) → is_among party (participants advert) ≡ true → is_declared s party ≡ true
  pub honest : (party : List ℕ) → is_among party (participants advert) ≡ true → is_honest s party ≡ true

-- every output is live
pub record AllLive (w : World) : Type 0 where
  pub live : (n : ℕ) (o : Output) → slice_get w.outputs n ≡ Some o → o.live ≡ true

module _ (s : Setup) (advert : Advert) (first : IsFirst s advert) where
  pub has_first : has_contract s 0 ≡ true
  has_first = ap is_some first.there

  pub takes_part_in : (party : List ℕ) → is_among party (participants advert) ≡ true → takes_part s 0 party ≡ true
  takes_part_in party h = ap (λ o. is_among party (people_of o)) first.there ∙ h

-- what is kept at the end of a run
pub kept_so_far : (s : Setup) (es : List Event) → GoesSoFar s es
    → KeptAfter (KeptAll s (run_posts s es)) (last_configuration s es) (last_world s es)
kept_so_far s es so =
    let z = run_posts s es in
    kept_at_end s (spends_with_leave s) (KeptAll s z) es (keeps_all s so.run.setup z) so.run.events (opening_all s es so.run z)

-- ---- bound deposits

module _ (s : Setup) (advert : Advert) (first : IsFirst s advert) (g : Configuration) (w : World) (kept : KeptBook s g w)
    (told : is_advertised w 0 ≡ true) (all : AllLive w) where
  -- each persistent deposit is bound to a live one
  pub bound_live : (d : List ℕ × Holding) → Is_in d (persistent advert.pre) → is_bound_live w 0 d ≡ true
  bound_live d i =
      let fine = kept.adverts 0 told in
      let same : fine.advert ≡ advert = (let e = sym fine.there ∙ first.there in cc) in
      let bound = fine.bound (d.0) (d.1) (persistent_deposit fine.advert.pre (d.0, d.1)
      (subst (λ (a : Advert). Is_in (d.0, d.1) (persistent a.pre)) (sym same) i)) in
      ap (names_deposit w) bound.1 ∙ ap is_deposit bound.2.there ∙ is_free bound.2.output (all.live bound.0 bound.2.output bound.2.there)
      bound.2.free
    where
      is_free : (o : Output) → o.live ≡ true → o.holds ≡ None → (o.live && is_none o.holds) ≡ true
      is_free o e f = (λ i. e i && is_none (f i))
