use Rattle.std.proofs.Common.{sym, subst}
use Rattle.spec_deal.specs.DealFile.{given_once}
use Rattle.deal_file.specs.Entries.{told}
use Rattle.deal_file.specs.Gives.{Added}
use Rattle.deal_file.proofs.EntryLemmas.{none_same}
use Rattle.deal_file.proofs.lines.take_other.Goals as goal

pub returns-clause-takes : goal.returns-clause-takes
returns-clause-takes c =
    subst (Added (told c.args.entries.now) (told c.push_other.new.self))
    (λ j. given_once (sym c.requires.first j) (sym (none_same (told c.args.entries.now) c.args.entry.value c.requires.unique) j) c.args.entry)
    c.in_ok-push_other.ensures.told
