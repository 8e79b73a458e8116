use Rattle.std.proofs.Common.{ap, ◌∙◌}
use Rattle.std.specs.Prelude.{option_map}
use Rattle.deal_file.specs.Entries.{entry_in}
use Rattle.deal_file.proofs.EntryLemmas.{entry_found}
use Rattle.deal_file.proofs.entries.Entries.entry.Goals as goal

pub returns : goal.returns
returns c = λ what here.
    c.entry_of.ensures ∙ ap (option_map entry_in) c.find.ensures.found ∙ entry_found c.args.self.now.given what c.args.key.now here
