use Rattle.std.proofs.Common.{◌≡◌, ◌≤◌, ◌∙◌, subst, sym, ap, arith}
use Rattle.std.specs.Prelude.{Some, IfOk}
use Rattle.serde_json.specs.Data.{depth}
use Rattle.serde_json.specs.Read.{max_depth, read}
use Rattle.serde_json.specs.Written.{has_float, compact_text}
use Rattle.spec_terms.specs.Precondition.{deposits}
use Rattle.spec_deal.specs.Setting.{deal_keys, deal_instance}
use Rattle.spec_json.specs.Values.{json_line}
use Rattle.deal_compile.proofs.Bound.{names_bound}
use Rattle.deal_show.proofs.Flat.{deal_flat}
use Rattle.deal_show.proofs.Low.{deal_low}
use Rattle.deal_show.proofs.ShownTold.{deal_told}
use Rattle.deal_show.proofs.text.shown_line.Goals as goal

pub told-requires : goal.told-requires
told-requires g c = names_bound (deposits c.args.checked.now.pre) c.args.deal.now.deposits c.requires.places

pub returns : goal.returns
returns g c =
    let hash = g.H.Hash32.digest_of c.args.hasher.now in
    let deal = c.args.deal.now in
    let s = deal_instance c.args.checked.now deal in
    let told = deal_told hash deal.network (deal_keys deal) s c.args.made.now.transactions c.requires.transactions in
    let flat = ap has_float told ∙ deal_flat hash deal.network (deal_keys deal) s in
    let seven = deal_low hash deal.network (deal_keys deal) s in
    let low = subst (λ d. depth d ≤ max_depth) (sym told) (omega (arith, seven)) in
    subst (λ d. IfOk c.told.result (λ text. (text.items ≡ json_line d) × (read (compact_text d) ≡ Some d))) told (c.told.ensures flat low)
