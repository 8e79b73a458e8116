use Rattle.std.proofs.Common.{◌≡◌, drop}
use Rattle.spec_page.specs.Moments.{with_active}
use Rattle.draw_rows.proofs.places.add_active.Given as goal

abbrev pub invariant-loop-contract : goal.invariant-loop-contract
invariant-loop-contract l =
    with_active l.places.items (drop l.contract-index l.active) ≡ with_active l.initial.places.items l.active
