use Rattle.std.proofs.Common.{sym, ap, ◌∙◌}
use Rattle.bm_translate.specs.Shown.{strings_of}
use Rattle.bm_translate.proofs.Known.{none_noted, strings_kept}
use Rattle.bm_translate.proofs.watching.note_if_any.Goals as goal

pub returns-then-is_empty-clause-noted : goal.returns-then-is_empty-clause-noted
returns-then-is_empty-clause-noted c =
    none_noted c.args.shown.now c.args.watched.now.items (sym c.is_empty.ensures ∙ c.if-is_empty.true)

pub returns-clause-strings : goal.returns-clause-strings
returns-clause-strings c = ap strings_of c.note_shown.ensures ∙ strings_kept c.args.shown.now c.args.watched.now.items
