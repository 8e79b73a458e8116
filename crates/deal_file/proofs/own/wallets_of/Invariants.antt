use Rattle.std.proofs.Common.{◌≡◌, ◌++◌, drop}
use Rattle.std.specs.List.{flat_map}
use Rattle.spec_terms.specs.Precondition.{deposits, names_of}
use Rattle.deal_file.specs.Building.{wallet_pair}
use Rattle.deal_file.specs.Entries.{told}
use Rattle.deal_file.proofs.own.wallets_of.Given as goal

abbrev pub invariant-loop-entry : goal.invariant-loop-entry
invariant-loop-entry l =
    l.scripts ++ flat_map (wallet_pair (told l.entries)) (names_of (deposits (drop l.entry-index l.pre)))
    ≡ flat_map (wallet_pair (told l.entries)) (names_of (deposits l.pre))
