use Rattle.std.proofs.Common.{◌≡◌, sym, subst, true}
use Rattle.std.specs.Prelude.{IfSome}
use Rattle.bm_syntax.specs.View.{guarded}
use Rattle.deal_compile.specs.Parts.{has_known_puts}
use Rattle.deal_compile.proofs.Puts.{known_at, if_some_of}
use Rattle.deal_compile.proofs.transactions.branch_at.Goals as goal

pub returns-clause-known : goal.returns-clause-known
returns-clause-known c =
    let checked = c.args.checked.now in
    if_some_of (λ b. guarded b.now) (λ b. has_known_puts checked.pre b ≡ true) c.branch_of.result
    (subst (λ o. IfSome o (λ b. has_known_puts checked.pre b ≡ true)) (sym c.branch_of.ensures) (known_at checked c.args.path.now c.is_well_formed.ensures))
