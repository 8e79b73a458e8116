use Rattle.std.proofs.Common.{◌≡◌, ap, sym, ◌∙◌}
use Rattle.tests_compiler.proofs.contracts.compiled.Goals as goal

-- the deposits that were asked for are those of the contract
pub compile-requires : goal.compile-requires
compile-requires c =
    let same : c.deref.result.now ≡ c.args.checked.now.pre = c.deref.ensures.value ∙ ap (λ a. a.pre) (c.behind-checked.view_is ∙ c.advert.ensures.value) in
    record { bound = rw same at (sym c.are_bound.ensures ∙ c.if-not-are_bound.false) }
