-- The candidates of a contract, put together one kind after another.
use Rattle.std.proofs.Common.{◌≡◌, ℕ, List, [], ◌∷◌, ◌++◌, map, ap, ◌∙◌, append_assoc}
use Rattle.std.specs.Prelude.{filter, flat_map}
use Rattle.spec_data.specs.Lists.{is_among}
use Rattle.spec_terms.specs.Advert.{Advert}
use Rattle.spec_terms.specs.Precondition.{deposits, persistent, secrets}
use Rattle.spec_terms.specs.declared.pre.Pre.{Pre}
use Rattle.spec_calculus.specs.Configuration.{Configuration}
use Rattle.spec_run.specs.declared.event.Event.{Event}
use Rattle.spec_run.specs.declared.event.Event.TheVariants as events
use Rattle.spec_run.specs.Setup.{Setup}
use Rattle.spec_run.specs.World.{World}
use Rattle.spec_next.specs.Bindings.{bindings_for}
use Rattle.spec_next.specs.Candidates.{committing, endorsing, starting, taking_active, actives_of, candidates_by}

regroup : (a x : Event) (c e s r t : List Event)
    → (((((([] ++ (a ∷ [])) ++ c) ++ e) ++ s) ++ (x ∷ [])) ++ r) ++ t ≡ a ∷ (c ++ (e ++ (s ++ (x ∷ (r ++ t)))))
regroup a x c e s r t = simp append_assoc

-- lists that each add to the one before
record Adding (first last : Event) (c e s r t f1 f2 f3 f4 f5 f6 f7 : List Event) : Type 0 where
  advertised : f1 ≡ [] ++ first ∷ []
  committed : f2 ≡ f1 ++ c
  endorsed : f3 ≡ f2 ++ e
  started : f4 ≡ f3 ++ s
  begun : f5 ≡ f4 ++ last ∷ []
  revealed : f6 ≡ f5 ++ r
  taken : f7 ≡ f6 ++ t

joined : (first last : Event) (c e s r t f1 f2 f3 f4 f5 f6 f7 : List Event) → Adding first last c e s r t f1 f2 f3 f4 f5 f6 f7
    → f7 ≡ first ∷ (c ++ (e ++ (s ++ (last ∷ (r ++ t)))))
joined first last c e s r t f1 f2 f3 f4 f5 f6 f7 a =
    a.taken
    ∙ ap (λ (f : List Event). f ++ t) (a.revealed
    ∙ ap (λ (f : List Event). f ++ r) (a.begun
    ∙ ap (λ (f : List Event). f ++ (last ∷ [])) (a.started
    ∙ ap (λ (f : List Event). f ++ s) (a.endorsed
    ∙ ap (λ (f : List Event). f ++ e) (a.committed
    ∙ ap (λ (f : List Event). f ++ c) a.advertised)))))
    ∙ regroup first last c e s r t

-- an empty list, and what each kind adds to it
pub listed : (s : Setup) (g : Configuration) (w : World) (k : ℕ) (advert : Advert) (people : List (List ℕ)) (pre : List Pre) (honest : List (List ℕ))
    (first : Event) (f0 f1 f2 f3 f4 f5 f6 f7 : List Event) → pre ≡ advert.pre → honest ≡ s.header.honest
    → first ≡ events.Advertise k (bindings_for g.deposits (deposits pre)) → f0 ≡ [] → f1 ≡ f0 ++ first ∷ []
    → f2 ≡ f1 ++ map (committing k) people → f3 ≡ f2 ++ endorsing s w k people → f4 ≡ f3 ++ starting g k (persistent pre) people
    → f5 ≡ f4 ++ events.FireInit k ∷ []
    → f6 ≡ f5 ++ map (λ (x : List ℕ × List ℕ). events.Reveal k (x.1) (x.0)) (filter (λ (x : List ℕ × List ℕ). is_among (x.1) honest) (secrets pre))
    → f7 ≡ f6 ++ flat_map (taking_active g people) (actives_of g k) → f7 ≡ candidates_by s g w k advert people
listed s g w k advert people pre honest first f0 f1 f2 f3 f4 f5 f6 f7 p h a none b c d e f r t =
    joined first (events.FireInit k) _ _ _ _ _ f1 f2 f3 f4 f5 f6 f7 (record {
      advertised = b ∙ ap (λ (xs : List Event). xs ++ (first ∷ [])) none;
      committed = c;
      endorsed = d;
      started = e;
      begun = f;
      revealed = r;
      taken = t;
    })
    ∙ (λ i. (a ∙ ap (λ (xs : List Pre). events.Advertise k (bindings_for g.deposits (deposits xs))) p) i
    ∷ (map (committing k) people
    ++ (endorsing s w k people
    ++ (starting g k (persistent (p i)) people
    ++ (events.FireInit k
    ∷ (map (λ (x : List ℕ × List ℕ). events.Reveal k (x.1) (x.0)) (filter (λ (x : List ℕ × List ℕ). is_among (x.1) (h i)) (secrets (p i)))
    ++ flat_map (taking_active g people) (actives_of g k)))))))
