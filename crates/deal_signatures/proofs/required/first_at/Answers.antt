use Rattle.std.proofs.Common.{ap, ◌∙◌}
use Rattle.std.specs.Prelude.{option_map}
use Rattle.deal_signatures.specs.Keying.{signed_by}
use Rattle.deal_signatures.specs.Seen.{required_in}
use Rattle.deal_signatures.proofs.PlaceLemmas.{place_found}
use Rattle.deal_signatures.proofs.required.first_at.Goals as goal

pub returns : goal.returns
returns c = λ signature.
    ap (option_map required_in) c.find.ensures.found
    ∙ place_found c.args.places.now (signed_by c.args.tx.now c.args.input c.args.key.now signature) c.deref.result.now c.find.ensures.sized
    c.place_key.ensures.sized (c.deref.ensures.value ∙ c.in_ok-found_by.ensures.key)
