use Rattle.std.proofs.Common.{◌≡◌, map, drop}
use Rattle.spec_terms.specs.Precondition.{names_of}
use Rattle.spec_deal.specs.Setting.{own_scripts}
use Rattle.deal_file.specs.Building.{onto_deal, whole}
use Rattle.deal_file.specs.Entries.{told, needed_in}
use Rattle.deal_file.proofs.whole.with_needs.Given as goal

abbrev pub invariant-loop-need : goal.invariant-loop-need
invariant-loop-need l = record {
  whole :
      onto_deal l.deal (whole (own_scripts l.deal) l.checked (told l.entries) (map needed_in (drop l.need-index l.needs)))
      ≡ onto_deal l.fn.start (whole (own_scripts l.fn.start) l.checked (told l.entries) (map needed_in l.needs));
  brought : l.brought ≡ names_of l.deal.wallets;
}
