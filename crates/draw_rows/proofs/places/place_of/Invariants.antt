use Rattle.std.proofs.Common.{◌≡◌, drop}
use Rattle.spec_page.specs.Moments.{place_of}
use Rattle.draw_rows.proofs.places.place_of.Given as goal

abbrev pub invariant-loop-place : goal.invariant-loop-place
invariant-loop-place l =
    place_of l.output (drop l.place-index l.places) ≡ place_of l.output l.places
