-- The bytes of the least and of the greatest secret, each with its length before it.
use Rattle.std.proofs.Common.{◌≡◌, ◌*◌, refl, sym, ap}
use Rattle.spec_bitcoin.specs.Spelling.{compact}
use Rattle.bm_plan.specs.declared.sizes.Sizes.{Sizes}
use Rattle.theory_weights.specs.Sizes.{item_size}
use Rattle.bm_plan.specs.Listed.{with_secrets, sized_with}

least_item : item_size 16 ≡ 17
unfolding compact
least_item = refl

most_item : item_size 520 ≡ 523
unfolding compact
most_item = refl

pub with_least : (s : Sizes) → with_secrets s (s.secrets * 17) ≡ sized_with s 16
with_least s = ap (λ n. with_secrets s (s.secrets * n)) (sym least_item)

pub with_most : (s : Sizes) → with_secrets s (s.secrets * 523) ≡ sized_with s 520
with_most s = ap (λ n. with_secrets s (s.secrets * n)) (sym most_item)
