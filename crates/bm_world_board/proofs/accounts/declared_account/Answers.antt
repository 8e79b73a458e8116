use Rattle.std.proofs.Common.{sym, ap, ◌∙◌}
use Rattle.std.specs.Prelude.{is_some}
use Rattle.std.specs.List.{find}
use Rattle.std.specs.Option.{option_copied}
use Rattle.std.specs.Str.{bytes_eq}
use Rattle.bm_world_board.specs.declared.accounts.Account.{Account}
use Rattle.bm_world_board.proofs.Naming.{found_account}
use Rattle.bm_world_board.proofs.accounts.declared_account.Goals as goal

pub unreachable-requires : goal.unreachable-requires
unreachable-requires c =
    let none = sym c.account_at.ensures ∙ ap option_copied c.in_default.is in
    let x = sym (ap is_some none) ∙ c.requires in
    cc

pub returns : goal.returns
returns c = λ hash parties same.
    let party = c.args.party.now in
    found_account hash parties party c.in-Some.account.now
    (ap (λ l. find (λ (x : Account). bytes_eq x.party party) l) (sym same) ∙ sym c.account_at.ensures ∙ ap option_copied c.in-Some.is)
