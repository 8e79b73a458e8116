-- What every run keeps of its bindings: those of an advertised contract are to outputs that were made, and bind its deposits.
use Rattle.std.proofs.Common.{◌≡◌, ℕ, List, [], ◌∷◌, Bool, true, refl, sym, ap, subst, inl, inr}
use Rattle.std.specs.Prelude.{is_some}
use Rattle.std.specs.List.{list_all}
use Rattle.std.proofs.lemmas.Bool.{and_from}
use Rattle.spec_data.specs.Lists.{look_up}
use Rattle.spec_terms.specs.Precondition.{deposits}
use Rattle.spec_calculus.specs.Configuration.{Configuration}
use Rattle.spec_run.specs.Setup.{Setup, pre_of}
use Rattle.spec_run.specs.World.{World, bindings_at}
use Rattle.theory_calculus.specs.Members.{Is_in}
use Rattle.theory_run.specs.KeptRuns.{KeptBooks}
use Rattle.bm_world_commit.specs.Committed.{IsBoundAt}

every_in : {A : Type 0} (f : A → Bool) (xs : List A) → ((x : A) → Is_in x xs → f x ≡ true) → list_all f xs ≡ true
every_in f [] h = refl
every_in f (x ∷ xs) h = and_from _ _ (h x (inl refl)) (every_in f xs (λ y i. h y (inr i)))

pub bound_at : (s : Setup) (g : Configuration) (w : World) → KeptBooks s g w → (contract : ℕ) → IsBoundAt s w contract
bound_at s g w keeps contract = record {
  made = λ told. (keeps.book.adverts contract told).made;
  bound = λ told. (
      let fine = keeps.book.adverts contract told in
      let each : list_all (λ d. is_some (look_up (d.0) (bindings_at w.advertised contract))) (deposits fine.advert.pre) ≡ true =
      every_in _ (deposits fine.advert.pre) (λ d i. let b = fine.bound (d.0) (d.1) i in ap is_some b.1) in
      subst (λ pre. list_all (λ d. is_some (look_up (d.0) (bindings_at w.advertised contract))) (deposits pre) ≡ true) (ap pre_of (sym fine.there)) each
      );
}
