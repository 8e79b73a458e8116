use Rattle.std.proofs.Common.{◌≡◌, List, ◌++◌, map, sym, ap, ◌∙◌, append_assoc}
use Rattle.std.specs.List.{flat_map}
use Rattle.spec_terms.specs.Advert.{Advert}
use Rattle.spec_terms.specs.Order.{branch_paths}
use Rattle.spec_terms.specs.Parties.{participants}
use Rattle.spec_terms.specs.Precondition.{deposits, secrets, names_of}
use Rattle.spec_deal.specs.declared.deal.Needed.{Needed}
use Rattle.spec_deal.specs.declared.deal.Needed.TheVariants as needs
use Rattle.deal_file.specs.Needs.{party_need, path_needs}
use Rattle.deal_file.proofs.NeedLemmas.{needed_parts}
use Rattle.deal_file.proofs.needs.needed.Goals as goal

pub returns : goal.returns
returns c =
    let checked = c.args.checked.now in
    let first : c.deref.result.now ≡ checked.pre =
    c.deref.ensures.value ∙ ap (λ (a : Advert). a.pre) (c.behind-checked.view_is ∙ c.advert.ensures.value) in
    let second : c.deref-2.result.now ≡ checked.pre =
    c.deref-2.ensures.value ∙ ap (λ (a : Advert). a.pre) (c.behind-checked-2.view_is ∙ c.advert-2.ensures.value) in
    let parties = map party_need (participants checked) in
    let paths = flat_map (path_needs (participants checked)) (branch_paths checked.root) in
    let places = map needs.Deposit (names_of (deposits checked.pre)) in
    let hashes = map needs.Hash (names_of (secrets checked.pre)) in
    let one : c.put_parties.new.out.items ≡ parties =
    c.in_ok-put_parties.ensures ∙ (λ j. c.new-all.ensures.items j ++ map party_need (c.parties.ensures j)) in
    let two : c.put_branches.new.out.items ≡ parties ++ paths =
    c.in_ok-put_branches.ensures ∙ ap (λ (prefix : List Needed). prefix ++ paths) one in
    let three : c.put_deposits.new.out.items ≡ (parties ++ paths) ++ places =
    c.in_ok-put_deposits.ensures ∙ (λ j. two j ++ map needs.Deposit (names_of (deposits (first j)))) in
    c.in_ok-put_secrets.ensures ∙ (λ j. three j ++ map needs.Hash (names_of (secrets (second j))))
    ∙ append_assoc (parties ++ paths) places hashes ∙ append_assoc parties paths (places ++ hashes) ∙ sym (needed_parts checked)
