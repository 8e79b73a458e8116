use Rattle.std.proofs.Common.{List, ℕ, map, sym, ap, ◌∙◌}
use Rattle.std.specs.Prelude.{option_map}
use Rattle.spec_data.specs.Lists.{look_up}
use Rattle.deal_follow.specs.Seen.{item_in}
use Rattle.deal_follow.specs.Showing.{string_in}
use Rattle.deal_follow.proofs.ShowLemmas.{digest_found}
use Rattle.deal_follow.proofs.showing.string_shown.Goals as goal

pub returns-in-Some : goal.returns-in-Some
returns-in-Some c =
    c.string_in.ensures
    ∙ ap (λ (digest : List ℕ). string_in digest (map item_in c.args.items.now))
    (digest_found c.args.board.now.deal.now.hashes c.args.name.now c.in-Some.digest.now
    (sym (sym (ap (option_map (λ d. d.now)) c.in-Some.is) ∙ c.digest_of.ensures ∙ ap (look_up c.args.name.now) c.as_slice.ensures)))
