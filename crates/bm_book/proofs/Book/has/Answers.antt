use Rattle.std.proofs.Common.{ap, ◌∙◌}
use Rattle.spec_data.specs.Lists.{is_among}
use Rattle.bm_book.proofs.Pairs.{is_signed}
use Rattle.bm_book.proofs.Book.has.Goals as goal

pub returns : goal.returns
returns c = rw (← c.self.view_is) (
    c.stands.ensures
    ∙ ap (λ e. is_among e c.self.inside.entries) c.entry_of.ensures.entry
    ∙ is_signed c.self.inside.entries c.args.key.now c.args.digest.now c.self.invariant c.entry_of.ensures.key)
