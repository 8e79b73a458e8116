-- What a walk along a path stands at.
use Rattle.spec_terms.specs.Paths.{Subterm, position, at_branch}
use Rattle.bm_syntax.specs.View.{guarded, contract}
use Rattle.bm_syntax.specs.declared.walk.Standing.{Standing}
use Rattle.bm_syntax.specs.declared.walk.Standing.TheVariants.{Position, Branch}

-- the subterm of the definitions that the walk stands at
abbrev pub subterm : Standing → Subterm
subterm (Position c) = position (contract c.now)
subterm (Branch b) = at_branch (guarded b.now)
