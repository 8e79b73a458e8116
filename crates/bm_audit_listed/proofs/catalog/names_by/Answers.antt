use Rattle.std.proofs.Common.{◌≡◌, List, [], IfOk, sym, ap, subst, ◌∙◌}
use Rattle.std.specs.Option.{option_copied}
use Rattle.bm_audit_listed.specs.Indexed.{places_or_none, found_at, places_from}
use Rattle.spec_bitcoin.specs.Spelling.{stripped}
use Rattle.bm_audit_listed.proofs.Naming.{names_found}
use Rattle.bm_audit_listed.proofs.catalog.names_by.Goals as goal

pub returns-in-Some : goal.returns-in-Some
returns-in-Some c =
    let cs = c.args.candidates.now in
    let tx = c.args.tx.now in
    let bytes = c.as_slice.ensures.value ∙ c.in_ok-key.ensures in
    let places : c.as_slice-in-Some.result.now ≡ places_from 0 (stripped tx) cs =
    c.as_slice-in-Some.ensures ∙ ap places_or_none (ap option_copied (sym c.in-Some.is) ∙ c.get.ensures.value)
    ∙ ap (found_at c.args.index.now) bytes ∙ c.requires.at (stripped tx) in
    subst (λ names. IfOk c.names_at.result (λ found. found ≡ names)) (names_found cs tx c.as_slice-in-Some.result.now places) c.names_at.ensures

pub returns : goal.returns
returns c =
    let cs = c.args.candidates.now in
    let tx = c.args.tx.now in
    let bytes = c.as_slice.ensures.value ∙ c.in_ok-key.ensures in
    let places : [] ≡ places_from 0 (stripped tx) cs =
    ap places_or_none (ap option_copied (sym c.in-None.is) ∙ c.get.ensures.value)
    ∙ ap (found_at c.args.index.now) bytes ∙ c.requires.at (stripped tx) in
    subst (λ names. IfOk c.names_at-in-None.result (λ found. found ≡ names)) (names_found cs tx [] places) c.names_at-in-None.ensures
