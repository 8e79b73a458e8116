use Rattle.std.proofs.Common.{◌≡◌, None, ◌∙◌, sym, ap}
use Rattle.std.specs.Prelude.{option_map}
use Rattle.deal_compile.specs.Parts.{first_made}
use Rattle.deal_compile.proofs.circle.first_circle.Goals as goal

pub returns-in-None : goal.returns-in-None
returns-in-None g c =
    let none : first_made c.args.deal.now.deposits c.args.compiled.now.transactions ≡ None =
    (λ j. first_made (sym c.as_slice.ensures j) (sym c.as_slice-transactions.ensures j)) ∙ sym c.first_made.ensures
    ∙ ap (option_map (λ name. name.now)) c.in-None.is in
    rw none (rw (c.parties.ensures, c.as_slice-in-None.ensures, c.as_slice-in-None-2.ensures) at c.paid_here.ensures)
