use Rattle.std.proofs.Common.{sym, ap, ◌∙◌}
use Rattle.spec_data.specs.Lists.{is_among}
use Rattle.spec_bitcoin.specs.Keys.{has_signed}
use Rattle.bm_book.specs.Entries.{pairs_of}
use Rattle.bm_book.proofs.Pairs.{is_signed, unsized_unsigned}
use Rattle.bm_book.proofs.Book.has_signed.Goals as goal

pub returns-in-Ok-clause-signed : goal.returns-in-Ok-clause-signed
returns-in-Ok-clause-signed c = rw (← c.self.view_is) (
    c.stands.ensures
    ∙ ap (λ e. is_among e c.self.inside.entries) c.entry_of.ensures.entry
    ∙ is_signed c.self.inside.entries c.in-Ok.key c.args.digest.now c.self.invariant c.entry_of.ensures.key
    ∙ ap (λ k. has_signed (pairs_of c.self.inside.entries) k c.args.digest.now) c.in-Ok.ensures.1.same)

pub returns-in-Err-clause-signed : goal.returns-in-Err-clause-signed
returns-in-Err-clause-signed c = rw (← c.self.view_is) (sym (unsized_unsigned c.self.inside.entries c.args.key.now c.args.digest.now c.self.invariant c.in-Err.ensures.1))
