-- What the offers rest on stays over each event that is done, with the steps that it stands for.
use Rattle.std.proofs.Common.{◌≡◌, ℕ, ◌≤◌, ◌+◌, List, [], ◌∷◌, ◌++◌, map, true, false, refl, ap}
use Rattle.std.specs.Prelude.{Option}
use Rattle.spec_data.specs.Lists.{is_among}
use Rattle.spec_bitcoin.specs.Keys.{Pair}
use Rattle.spec_calculus.specs.declared.parts.Revealed.{Revealed}
use Rattle.spec_calculus.specs.declared.step.Step.TheVariants as steps
use Rattle.spec_calculus.specs.Configuration.{Configuration}
use Rattle.spec_calculus.specs.Steps.{after_steps}
use Rattle.spec_run.specs.Setup.{Setup, people_at}
use Rattle.spec_run.specs.World.{World, is_advertised, has_promised}
use Rattle.spec_run.specs.Advertising.{arranged}
use Rattle.spec_run.specs.Committing.{secrets_at}
use Rattle.spec_run.specs.Signing.{signed_all}
use Rattle.spec_run.specs.Steps.{reveal_step}
use Rattle.theory_world.proofs.Book.{signed_more}
use Rattle.theory_run.proofs.Facts.Secrets.{after-reveals}
use Rattle.theory_run.specs.KeptBook.{KeptBook}
use Rattle.theory_offers.proofs.Basis.Offered.{KeptOffers}
use Rattle.theory_offers.proofs.Basis.Opening.{quiet_offers, mined_offers}
use Rattle.theory_offers.proofs.Basis.Told.{commit_offers}
use Rattle.theory_offers.proofs.Basis.Stepped.{constant_after}

-- pairs that nobody is asked for by the calculus: an endorsement, or what a dishonest party signs
pub signed_offers : (s : Setup) (g : Configuration) (w : World) (pairs : List Pair) (hashed posted : List (List ℕ)) → KeptOffers s g w
    → KeptOffers s g (record w { book = signed_all w.book pairs; hashed = hashed; posted = posted })
signed_offers s g w pairs hashed posted more =
    quiet_offers s g g w (signed_all w.book pairs) hashed posted more more.constant (λ k d h. signed_more w.book pairs k d h) refl refl

-- a string that is posted, and the secrets that it reveals
pub posted_offers : (s : Setup) (g : Configuration) (w : World) (xs : List Revealed) (hashed posted : List (List ℕ)) → KeptOffers s g w
    → KeptOffers s (after_steps g (map reveal_step xs)) (record w { hashed = hashed; posted = posted })
posted_offers s g w xs hashed posted more =
    let e = after-reveals xs g in
    quiet_offers s g (after_steps g (map reveal_step xs)) w w.book hashed posted more (constant_after s (map reveal_step xs) g more.constant) (λ k d h. h)
    (ap (λ (x : Configuration). x.init_authorised) e) (ap (λ (x : Configuration). x.branch_authorised) e)

-- a commitment, and the secrets that it reveals
pub committed_offers : (s : Setup) (g : Configuration) (w : World) (k : ℕ) (party : List ℕ) (entries : List (List ℕ × List ℕ))
    (lengths : List (List ℕ × Option ℕ)) (xs : List Revealed) (hashed posted : List (List ℕ)) → KeptBook s g w → KeptOffers s g w
    → is_advertised w k ≡ true → is_among party (people_at s k) ≡ true → has_promised w k party ≡ false
    → KeptOffers s (after_steps g (steps.Commit k party lengths ∷ map reveal_step xs))
    (record w {
      promises = w.promises ++ record { contract = k; party = party; digests = arranged [] (secrets_at s k party) entries }
          ∷ [];
      hashed = hashed;
      posted = posted;
    })
committed_offers s g w k party entries lengths xs hashed posted kept more adv part fresh =
    let h = after_steps g (steps.Commit k party lengths ∷ []) in
    let e = after-reveals xs h in
    commit_offers s g (after_steps g (steps.Commit k party lengths ∷ map reveal_step xs)) w k party entries hashed posted kept more
    (constant_after s (steps.Commit k party lengths ∷ map reveal_step xs) g more.constant)
    (ap (λ (x : Configuration). x.init_authorised) e) (ap (λ (x : Configuration). x.branch_authorised) e) adv part fresh

-- blocks
pub waited_offers : (s : Setup) (g : Configuration) (w : World) (blocks : ℕ) (hashed posted : List (List ℕ)) → KeptOffers s g w → w.tip + blocks ≤ 499999999
    → KeptOffers s (after_steps g (steps.Delay blocks ∷ [])) (record w { tip = w.tip + blocks; hashed = hashed; posted = posted })
waited_offers s g w blocks hashed posted more low =
    mined_offers s g (after_steps g (steps.Delay blocks ∷ [])) w (w.tip + blocks) hashed posted more
    (constant_after s (steps.Delay blocks ∷ []) g more.constant) low refl refl
