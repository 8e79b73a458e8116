-- What is told of events whose strings collide with none.
use Rattle.std.specs.Prelude.{ℕ, ◌+◌, List, [], ◌∷◌, flat_map, if◌then◌else◌, Option, Some, None}
use Rattle.spec_terms.specs.Advert.{Advert}
use Rattle.spec_terms.specs.Parties.{participants}
use Rattle.spec_calculus.specs.Configuration.{Configuration}
use Rattle.spec_run.specs.declared.event.Event.{Event}
use Rattle.spec_run.specs.declared.outcome.Outcome.{Outcome}
use Rattle.spec_run.specs.Setup.{Setup}
use Rattle.spec_run.specs.World.{World}
use Rattle.spec_run.specs.Pending.{guess, apply}
use Rattle.spec_run.specs.Event.{pending}
use Rattle.spec_next.specs.declared.outlook.Ruling.{Ruling}
use Rattle.spec_next.specs.declared.outlook.Ruling.TheVariants as rulings
use Rattle.spec_next.specs.declared.outlook.Prospect.{Prospect}
use Rattle.spec_next.specs.declared.outlook.Outlook.{Outlook}
use Rattle.spec_next.specs.Candidates.{candidates}
use Rattle.spec_next.specs.Prospects.{ruling_by, ruling_of, is_shown, is_over, outstanding, requirements_by, outlook_by}

-- the ruling of an outcome; without one the event halts
abbrev pub ruling_in : Option Outcome → Ruling
ruling_in None = rulings.Halts
ruling_in (Some outcome) = ruling_by outcome

-- what the event would come to, where its strings collide with none
abbrev pub calm_ruling : Setup → World → Event → Ruling
calm_ruling s w e = ruling_of (apply w (pending s w e) None (guess s w.posted (pending s w e).posts (pending s w e).allowed))

-- what is told of an event with this ruling, nothing where it isn't shown
abbrev pub told : Setup → Configuration → World → Event → Ruling → List Prospect
told s g w e r = if is_shown s w e r then record { event = e; ruling = r; requirements = requirements_by (outstanding s g w e) r } ∷ [] else []

abbrev pub foretold : Setup → Configuration → World → Event → List Prospect
foretold s g w e = told s g w e (calm_ruling s w e)

-- what is told of these events
abbrev pub all_foretold : Setup → Configuration → World → List Event → List Prospect
all_foretold s g w es = flat_map (foretold s g w) es

-- of contract k
abbrev pub foretold_outlook : Setup → Configuration → World → ℕ → Advert → Outlook
foretold_outlook s g w k advert = outlook_by g (is_over g w k) k (participants advert) (all_foretold s g w (candidates s g w k advert))

-- of the contracts from number k on
abbrev pub foretold_outlooks : Setup → Configuration → World → ℕ → List Advert → List Outlook
foretold_outlooks s g w k [] = []
foretold_outlooks s g w k (advert ∷ adverts) = foretold_outlook s g w k advert ∷ foretold_outlooks s g w (k + 1) adverts
