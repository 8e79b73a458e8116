use Rattle.std.proofs.Common.{sym, ap, ◌∙◌}
use Rattle.std.specs.Prelude.{map, is_some, option_map}
use Rattle.spec_deal.specs.Transactions.{Required, is_at}
use Rattle.deal_index.proofs.Finding.{any_found}
use Rattle.deal_signatures.specs.Keying.{signed_by}
use Rattle.deal_signatures.specs.Seen.{required_in}
use Rattle.deal_signatures.proofs.PlaceLemmas.{some_mapped}
use Rattle.deal_signatures.proofs.required.is_at.Goals as goal

pub returns : goal.returns
returns c = λ signature.
    let first = c.in_ok-first.first in
    c.is_some.ensures ∙ some_mapped (λ p. p.now) first ∙ some_mapped required_in (option_map (λ p. p.now) first)
    ∙ ap is_some (c.in_ok-first.ensures signature)
    ∙ sym (any_found (λ (w : Required). is_at w.spot (signed_by c.args.tx.now c.args.input c.args.key.now signature))
    (map required_in c.args.places.now))
