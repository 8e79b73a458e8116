use Rattle.std.proofs.Common.{[], ap, ◌∙◌}
use Rattle.std.specs.Prelude.{map}
use Rattle.std.specs.List.{find}
use Rattle.spec_deal.specs.Transactions.{Required, is_at}
use Rattle.deal_signatures.specs.Agreeing.{is_same}
use Rattle.deal_signatures.specs.Keying.{signed_by}
use Rattle.deal_signatures.specs.Seen.{required_in}
use Rattle.deal_signatures.proofs.required.is_as_first.Goals as goal

pub returns : goal.returns
returns c =
    let place = c.args.place.now in
    c.is_same.ensures
    ∙ ap (is_same (required_in place))
    (c.in_ok-first.ensures []
    ∙ ap (λ tx. find (λ (w : Required). is_at w.spot (signed_by tx place.input place.key [])) (map required_in c.args.places.now))
    c.as_slice-tx.ensures)
