use Rattle.std.proofs.Common.{◌≡◌, ◌<◌, ◌^◌, subst, ◌∙◌}
use Rattle.deal_signatures.specs.Halves.{is_low_of}
use Rattle.deal_signatures.proofs.LowNumbers.{low_cut}
use Rattle.deal_signatures.proofs.numbers.is_low.Goals as goal

pub returns : goal.returns
returns c =
    c.is_low_of.ensures ∙ (λ j. is_low_of (c.number_of.ensures.number j) (c.number_of-2.ensures.number j))
    ∙ low_cut c.args.bytes.now c.split_at.result.0.now c.split_at.result.1.now c.saturating_sub.result c.split_at.ensures.front
    c.split_at.ensures.back c.saturating_sub.ensures
    (subst (λ n. n < 2 ^ 128) c.number_of-2.ensures.number c.number_of-2.ensures.below)
