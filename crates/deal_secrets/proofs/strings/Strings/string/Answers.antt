use Rattle.std.proofs.Common.{◌≤◌, List, Option, length, ap, ◌∙◌}
use Rattle.std.specs.Prelude.{option_map, find}
use Rattle.std.specs.Str.{bytes_eq}
use Rattle.spec_data.specs.Ranges.{most_item_bytes}
use Rattle.spec_deal.specs.declared.entry.Shown.{Shown}
use Rattle.deal_secrets.specs.declared.strings.Entry.{Entry}
use Rattle.deal_secrets.specs.Seen.{shown_in}
use Rattle.deal_secrets.proofs.FoundStrings.{is_named, shown_found, short_found, if_some_of}
use Rattle.deal_secrets.proofs.strings.Strings.string.Goals as goal

pub returns-clause-string : goal.returns-clause-string
returns-clause-string c =
    let entries = c.self.inside.entries in
    let bytes : Option Shown → _ = option_map (λ (x : Shown). x.bytes) in
    c.bytes_of.ensures
    ∙ ap (λ (o : Option Entry). bytes (option_map shown_in o)) c.find.ensures.found
    ∙ ap (λ key. bytes (option_map shown_in (find (is_named key) entries))) c.bytes.ensures.bytes
    ∙ ap bytes (shown_found entries c.args.name.now)
    ∙ ap (λ (xs : List Shown). bytes (find (λ (x : Shown). bytes_eq x.name c.args.name.now) xs)) c.self.view_is

pub returns-clause-short : goal.returns-clause-short
returns-clause-short c =
    let entries = c.self.inside.entries in
    if_some_of (λ b. b.now) (λ bytes. length bytes ≤ most_item_bytes) c.bytes_of.result
    (short_found entries c.bytes.result.now (option_map (λ b. b.now) c.bytes_of.result) c.find.ensures.sized
    (c.bytes_of.ensures
    ∙ ap (λ (o : Option Entry). option_map (λ (x : Shown). x.bytes) (option_map shown_in o)) c.find.ensures.found))
