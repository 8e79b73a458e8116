use Rattle.std.proofs.Common.{cond, ◌++◌, ◌∷◌, [], sym, ap, ◌∙◌}
use Rattle.spec_data.specs.Lists.{is_among}
use Rattle.bm_book.specs.Entries.{pairs_of}
use Rattle.bm_book.proofs.Pairs.{signed_again, pairs_of-once}
use Rattle.bm_book.proofs.Book.sign.Goals as goal

pub returns-then-stands_at-clause-ok : goal.returns-then-stands_at-clause-ok
returns-then-stands_at-clause-ok c =
    rw (← c.self.view_is)
    (signed_again c.self.inside.entries c.self.inside.next c.args.key c.args.digest c.entry_of-entry.result c.self.invariant
    c.entry_of-entry.ensures.key c.entry_of-entry.ensures.entry (sym c.stands_at.ensures ∙ c.if-stands_at.true))

pub returns-clause-ok : goal.returns-clause-ok
returns-clause-ok c =
    let before = c.self.inside.entries in
    rw (← c.self.view_is) (
    ap pairs_of c.in_ok-place.ensures.ok
    ∙ ap (λ e. pairs_of (cond (is_among e before) before (before ++ e ∷ []))) c.entry_of-entry.ensures.entry
    ∙ pairs_of-once before c.args.key c.args.digest c.self.invariant c.entry_of-entry.ensures.key)
