use Rattle.std.proofs.Common.{ap, ◌∙◌}
use Rattle.std.specs.Prelude.{option_map, find}
use Rattle.spec_deal.specs.declared.entry.Entry.{Entry}
use Rattle.spec_deal.specs.DealFile.{same_value}
use Rattle.deal_file.specs.declared.keying.Worth.{Worth}
use Rattle.deal_file.specs.Entries.{told}
use Rattle.deal_file.proofs.EntryLemmas.{worth_found, line_found}
use Rattle.deal_file.proofs.entries.Entries.line_of_value.Goals as goal

pub returns : goal.returns
returns c = λ value here sized unique.
    c.line_of.ensures ∙ ap (option_map (λ (w : Worth). w.line))
    (c.find.ensures.found
    ∙ worth_found (told c.args.self.now) c.args.self.now.worth value c.args.key.now c.requires c.find.ensures.sized here sized unique)
    ∙ line_found (find (λ (x : Entry). same_value x.value value) (told c.args.self.now))
