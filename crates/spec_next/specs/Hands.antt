-- Signatures that are in the book by hand: they stand in for an event that would sign the same.
use Rattle.std.specs.Prelude.{List, [], ◌∷◌, Bool, false}
use Rattle.spec_bitcoin.specs.Keys.{Pair}
use Rattle.spec_run.specs.Setup.{Setup}
use Rattle.spec_run.specs.World.{World, live_position_at}
use Rattle.spec_run.specs.Compiled.{compiled_instance}
use Rattle.spec_run.specs.Signing.{initial_pairs, authorising_pairs}
use Rattle.spec_next.specs.declared.requirement.Requirement.{Requirement}
use Rattle.spec_next.specs.declared.requirement.Requirement.TheVariants as requirements
use Rattle.spec_next.specs.Candidates.{are_signed}

-- whether there are such pairs, and the book has all of them
abbrev pub are_in_book : List Pair → List Pair → Bool
are_in_book book [] = false
are_in_book book (p ∷ ps) = are_signed book (p ∷ ps)

-- whether all that the event would sign which gives what is missing is signed
abbrev pub is_in_hand : Setup → World → Requirement → Bool
is_in_hand s w (requirements.Start party k) = are_in_book w.book (initial_pairs s party (compiled_instance s w k))
is_in_hand s w (requirements.Authorisation party n i) = are_in_book w.book (authorising_pairs s w party (live_position_at w n) i)
is_in_hand s w _ = false
