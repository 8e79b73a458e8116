use Rattle.std.proofs.Common.{List, Option, ap, ◌∙◌}
use Rattle.std.specs.Prelude.{option_map, find}
use Rattle.std.specs.Str.{bytes_eq}
use Rattle.spec_deal.specs.declared.entry.Shown.{Shown}
use Rattle.deal_secrets.specs.declared.strings.Entry.{Entry}
use Rattle.deal_secrets.specs.Seen.{shown_in}
use Rattle.deal_secrets.proofs.FoundStrings.{is_named, shown_found}
use Rattle.deal_secrets.proofs.strings.Strings.line_for.Goals as goal

pub returns : goal.returns
returns c =
    let entries = c.self.inside.entries in
    let line : Option Shown → _ = option_map (λ (x : Shown). x.line) in
    c.line_of.ensures
    ∙ ap (λ (o : Option Entry). line (option_map shown_in o)) c.find.ensures.found
    ∙ ap (λ key. line (option_map shown_in (find (is_named key) entries))) c.bytes.ensures.bytes
    ∙ ap line (shown_found entries c.args.name.now)
    ∙ ap (λ (xs : List Shown). line (find (λ (x : Shown). bytes_eq x.name c.args.name.now) xs)) c.self.view_is
