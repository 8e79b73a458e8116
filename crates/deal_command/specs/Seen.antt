-- Commands of the code, as the definitions have them.
use Rattle.spec_deal.specs.Commands as deals
use Rattle.spec_chain.specs.Commands as spec
use Rattle.spec_chain.specs.Commands.{on_deal}
use Rattle.deal_command.specs.declared.command.DealCommand.{DealCommand}
use Rattle.deal_command.specs.declared.command.DealCommand.TheVariants as commands

abbrev pub command : DealCommand → spec.ChainCommand
command (commands.Keys contract) = on_deal (deals.keys contract.now)
command (commands.Plan contract deal) = on_deal (deals.plan contract.now deal.now)
command (commands.Psbts contract deal) = on_deal (deals.psbts contract.now deal.now)
command (commands.Psbt contract deal which) = on_deal (deals.psbt contract.now deal.now which)
command (commands.Missing contract deal signatures) = on_deal (deals.missing contract.now deal.now signatures.now)
command (commands.Held contract deal signatures) = on_deal (deals.held contract.now deal.now signatures.now)
command (commands.Finish contract deal which signatures) = on_deal (deals.finish contract.now deal.now which signatures.now)
command (commands.FinishWith contract deal which signatures secrets) =
    on_deal (deals.finish_with contract.now deal.now which signatures.now secrets.now)
command (commands.Fund contract deal) = on_deal (deals.fund contract.now deal.now)
command (commands.Warn contract deal) = on_deal (deals.warn contract.now deal.now)
command (commands.WarnWith contract deal secrets) = on_deal (deals.warn_with contract.now deal.now secrets.now)
command (commands.Ready contract deal signatures) = on_deal (deals.ready contract.now deal.now signatures.now)
command (commands.ReadyWith contract deal signatures secrets) =
    on_deal (deals.ready_with contract.now deal.now signatures.now secrets.now)
command (commands.Endorse contract deal party) = on_deal (deals.endorse contract.now deal.now party.now)
command (commands.Hashes contract secrets) = on_deal (deals.hashes contract.now secrets.now)
command (commands.Show contract deal) = spec.show contract.now deal.now
command (commands.State contract deal chain signatures) = spec.state contract.now deal.now chain.now signatures.now
command (commands.StateWith contract deal chain signatures secrets) =
    spec.state_with contract.now deal.now chain.now signatures.now secrets.now
