-- What a party itself signs in a run, event by event.
use Rattle.std.specs.Prelude.{ℕ, List, [], ◌∷◌, ◌++◌, Bool, false, if◌then◌else◌}
use Rattle.std.specs.Str.{bytes_eq}
use Rattle.spec_bitcoin.specs.Keys.{Pair, key_of}
use Rattle.spec_run.specs.declared.event.Event.{Event}
use Rattle.spec_run.specs.declared.event.Event.TheVariants as events
use Rattle.spec_run.specs.declared.outcome.Outcome.{Outcome}
use Rattle.spec_run.specs.Setup.{Setup}
use Rattle.spec_run.specs.World.{World, live_position_at}
use Rattle.spec_run.specs.Compiled.{compiled_instance}
use Rattle.spec_run.specs.Signing.{endorsing_pairs, initial_pairs, authorising_pairs}
use Rattle.spec_run.specs.Giving.{given_pairs}
use Rattle.spec_run.specs.Values.{is_refused}
use Rattle.spec_run.specs.Event.{opening_world}
use Rattle.spec_run.specs.Translation.{Turn, course}

-- whether the party signs by the event
abbrev pub is_signer : List ℕ → Event → Bool
is_signer party (events.Endorse contract a) = bytes_eq a party
is_signer party (events.Init contract a) = bytes_eq a party
is_signer party (events.Authorise a output branch) = bytes_eq a party
is_signer party (events.Sign a label digest) = bytes_eq a party
is_signer party (events.Give a inputs outputs) = bytes_eq a party
is_signer party _ = false

-- the pairs of key and digest that an event in this world signs, where it isn't refused
abbrev pub event_pairs : Setup → World → Event → List Pair
event_pairs s w (events.Endorse contract a) = endorsing_pairs s a (compiled_instance s w contract)
event_pairs s w (events.Init contract a) = initial_pairs s a (compiled_instance s w contract)
event_pairs s w (events.Authorise a output branch) = authorising_pairs s w a (live_position_at w output) branch
event_pairs s w (events.Sign a label digest) = (key_of s.hash label, digest) ∷ []
event_pairs s w (events.Give a inputs outputs) = given_pairs s w a inputs outputs
event_pairs s w _ = []

-- the pairs that an event with this outcome signs
abbrev pub signed_pairs : Setup → World → Event → Outcome → List Pair
signed_pairs s w e outcome = if is_refused outcome then [] else event_pairs s w e

-- those that the party signs by the event
abbrev pub own_pairs : Setup → List ℕ → World → Event → Outcome → List Pair
own_pairs s party w e outcome = if is_signer party e then signed_pairs s w e outcome else []

-- those that the party signs in these turns, which begin from this world
abbrev pub own_pairs_from : Setup → List ℕ → World → List Turn → List Pair
own_pairs_from s party w [] = []
own_pairs_from s party w (t ∷ ts) = own_pairs s party w t.event t.outcome ++ own_pairs_from s party t.world ts

-- the pairs that the party itself signs in a run
abbrev pub own_pairs_in : Setup → List ℕ → List Event → List Pair
own_pairs_in s party es = own_pairs_from s party (opening_world s) (course s es).turns
