use Rattle.std.proofs.Common.{◌≡◌, List, [], ◌∷◌, ◌++◌, true, false, Some, None, sym, ap, ◌∙◌, arith}
use Rattle.std.specs.Prelude.{slice_get}
use Rattle.std.specs.Option.{option_copied}
use Rattle.spec_run.specs.Ledger.{same_bare}
use Rattle.spec_tool.specs.declared.which.Which.{Which}
use Rattle.bm_audit_listed.proofs.Naming.{put_none, put_other, put_one}
use Rattle.bm_audit_listed.proofs.catalog.put_name.Goals as goal

pub returns-in_default : goal.returns-in_default
returns-in_default c =
    let there : slice_get c.args.candidates.now c.args.place ≡ None = sym c.candidate_at.ensures ∙ ap option_copied c.in_default.is in
    put_none c.args.names.now c.args.candidates.now c.args.tx.now c.args.place there

pub returns-then-not-same_bare : goal.returns-then-not-same_bare
returns-then-not-same_bare c =
    let there : slice_get c.args.candidates.now c.args.place ≡ Some c.in-Some.candidate.now =
    sym c.candidate_at.ensures ∙ ap option_copied c.in-Some.is in
    let same : same_bare c.args.tx.now c.in-Some.candidate.now.tx ≡ false =
    first_of (cc (c.same_bare.ensures, c.if-not-same_bare.true), grind (arith, c.same_bare.ensures, c.if-not-same_bare.true)) in
    put_other c.args.names.now c.args.candidates.now c.args.tx.now c.args.place c.in-Some.candidate.now there same

pub returns : goal.returns
returns c =
    let there : slice_get c.args.candidates.now c.args.place ≡ Some c.in-Some.candidate.now =
    sym c.candidate_at.ensures ∙ ap option_copied c.in-Some.is in
    let same : same_bare c.args.tx.now c.in-Some.candidate.now.tx ≡ true =
    first_of (cc (c.same_bare.ensures, c.if-not-same_bare.false), grind (arith, c.same_bare.ensures, c.if-not-same_bare.false)) in
    put_one c.args.names.now c.args.candidates.now c.args.tx.now c.args.place c.in-Some.candidate.now c.push.new.self there same
    (c.in_ok-push.ensures.ok ∙ ap (λ (which : Which). c.args.names.now ++ which ∷ []) c.in_ok-copy.ensures)
