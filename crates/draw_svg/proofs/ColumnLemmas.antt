-- Columns with those of another row, column by column.
use Rattle.std.proofs.Common.{◌≡◌, ℕ, List, [], ◌∷◌, map, refl, ap, arith}
use Rattle.std.specs.Prelude.{max}
use Rattle.spec_page.specs.declared.svg_row.Cell.{Cell}
use Rattle.spec_page.specs.SvgItems.{items_size}
use Rattle.spec_page.specs.SvgLayout.{wider}
use Rattle.draw_svg.specs.Columns.{first_or, others}

zero_max : (n : ℕ) → n ≡ max 0 n
zero_max n = omega arith

pub wider_step : (ws : List ℕ) (c : Cell) (cs : List Cell)
    → wider ws (c ∷ cs) ≡ max (first_or 0 ws) (items_size c.items) ∷ wider (others ws) cs
wider_step [] c cs = ap (λ n. n ∷ map (λ d. items_size d.items) cs) (zero_max (items_size c.items))
wider_step (w ∷ ws) c cs = refl

pub wider_end : (ws : List ℕ) → wider ws [] ≡ ws
wider_end [] = refl
wider_end (w ∷ ws) = refl
