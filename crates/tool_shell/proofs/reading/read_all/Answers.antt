use Rattle.std.proofs.Common.{rules, true, ◌≡◌, ℕ, ◌+◌, List, [], ◌∷◌, ◌++◌, map, sym, ap, subst, ◌∙◌, arith, length, length-append}
use Rattle.std.specs.Borrow.{Bor}
use Rattle.spec_tool.specs.Reads.{Text, all_fit}
use Rattle.tool_shell.specs.Asked.{asked}
use Rattle.tool_shell.specs.Files.{taken, Went}
use Rattle.tool_shell.specs.Logs.{Logs}
use Rattle.tool_shell.proofs.Told.{on_err, asks_so_far, list_goes_on, list_fits, list_fails, list_asks, list_ends}
use Rattle.tool_shell.proofs.Logged.{log_goes_on, log_fails, log_shortages, log_prefix, log_ends, log_starts}
use Rattle.tool_shell.proofs.reading.read_all.Goals as goal

abbrev nothing : Bor (List ℕ) × ℕ
nothing = (record { ref_ptr = (0, 0); now = [] }, 0)

pub returns-in_err-text-clause-memory : goal.returns-in_err-text-clause-memory
returns-in_err-text-clause-memory g c =
    on_err c.from_residual.result _
    (list_asks (g.F.Files.told c.args.files.now) (g.F.Files.told c.loop-name.files) (g.F.Files.told c.read_one.new.files) c.args.list.now
    nothing c.loop-name.name-index
    c.loop-name.texts c.loop-name.invariant.counted c.loop-name-test.true c.loop-name.invariant.went c.loop-name.invariant.fit c.in_err-text.ensures.memory)

pub returns-in_err-text-clause-short : goal.returns-in_err-text-clause-short
returns-in_err-text-clause-short g c =
    on_err c.from_residual.result _
    (log_shortages (g.F.Files.log c.args.files.now) (g.F.Files.log c.loop-name.files) (g.F.Files.log c.read_one.new.files)
    (g.F.Files.taken c.args.files.now) (g.F.Files.taken c.loop-name.files) (g.F.Files.taken c.read_one.new.files) c.args.list.now nothing
    c.loop-name.name-index c.loop-name.texts
    c.loop-name.invariant.counted c.loop-name-test.true c.loop-name.invariant.logs c.in_err-text.ensures.short)

pub returns-in_default-clause-logged : goal.returns-in_default-clause-logged
returns-in_default-clause-logged g c =
    log_fails (g.F.Files.log c.args.files.now) (g.F.Files.log c.loop-name.files) (g.F.Files.log c.read_one.new.files)
    (g.F.Files.taken c.args.files.now) (g.F.Files.taken c.loop-name.files) (g.F.Files.taken c.read_one.new.files) c.args.list.now nothing
    c.loop-name.name-index c.loop-name.texts
    c.loop-name.invariant.counted c.loop-name-test.true c.loop-name.invariant.logs c.in_ok-text.field-0 c.in_default.is
    c.in_ok-text.ensures.logged

pub returns-in_default-clause-reads : goal.returns-in_default-clause-reads
returns-in_default-clause-reads g c =
    list_fails (g.F.Files.told c.args.files.now) (g.F.Files.told c.loop-name.files) (g.F.Files.told c.read_one.new.files) c.args.list.now
    nothing c.loop-name.name-index
    c.loop-name.texts c.loop-name.invariant.counted c.loop-name-test.true c.loop-name.invariant.went c.loop-name.invariant.fit
    c.in_ok-text.field-0 c.in_default.is c.in_ok-text.ensures.reads

pub returns-in_err-push-clause-memory : goal.returns-in_err-push-clause-memory
returns-in_err-push-clause-memory g c =
    on_err c.from_residual-in_err-push.result _
    (asks_so_far (g.F.Files.told c.args.files.now) (g.F.Files.told c.read_one.new.files) (map asked c.args.list.now) (c.loop-name.texts ++ c.in-Some.text ∷ [])
    (list_goes_on (g.F.Files.told c.args.files.now) (g.F.Files.told c.loop-name.files) (g.F.Files.told c.read_one.new.files) c.args.list.now
    nothing c.loop-name.name-index
    c.loop-name.texts c.loop-name.invariant.counted c.loop-name-test.true c.loop-name.invariant.went c.loop-name.invariant.fit c.in_ok-text.field-0 c.in-Some.text c.in-Some.is c.in_ok-text.ensures.reads))

pub returns-in_err-push-clause-short : goal.returns-in_err-push-clause-short
returns-in_err-push-clause-short g c =
    on_err c.from_residual-in_err-push.result _
    (log_prefix (g.F.Files.log c.args.files.now) (g.F.Files.log c.read_one.new.files) (g.F.Files.taken c.args.files.now)
    (g.F.Files.taken c.read_one.new.files)
    c.args.list.now (c.loop-name.texts ++ c.in-Some.text ∷ [])
    (let counted = c.loop-name.invariant.counted in let less = c.loop-name-test.true in
    let e : length (c.loop-name.texts ++ c.in-Some.text ∷ []) ≡ length c.loop-name.texts + 1 =
    length-append c.loop-name.texts (c.in-Some.text ∷ []) in
    omega (arith, counted, less, e))
    (log_goes_on (g.F.Files.log c.args.files.now) (g.F.Files.log c.loop-name.files) (g.F.Files.log c.read_one.new.files)
    (g.F.Files.taken c.args.files.now) (g.F.Files.taken c.loop-name.files) (g.F.Files.taken c.read_one.new.files) c.args.list.now nothing
    c.loop-name.name-index c.loop-name.texts
    c.loop-name.invariant.counted c.loop-name-test.true c.loop-name.invariant.logs c.in_ok-text.field-0 c.in-Some.text c.in-Some.is
    c.in_ok-text.ensures.logged))

pub loop-name-preserved : goal.loop-name-preserved
loop-name-preserved g c =
    let pushed : c.push.new.self ≡ c.loop-name.texts ++ c.in-Some.text ∷ [] = c.in_ok-push.ensures.ok in
    record {
      counted = ap length pushed ∙ length-append c.loop-name.texts (c.in-Some.text ∷ []) ∙ ap (λ (n : ℕ). n + 1) c.loop-name.invariant.counted;
      went = subst (λ (texts : List Text). Went (g.F.Files.told c.args.files.now) (g.F.Files.told c.read_one.new.files)
          (map asked c.args.list.now) texts) (sym pushed)
          (list_goes_on (g.F.Files.told c.args.files.now) (g.F.Files.told c.loop-name.files) (g.F.Files.told c.read_one.new.files)
          c.args.list.now nothing c.loop-name.name-index
          c.loop-name.texts c.loop-name.invariant.counted c.loop-name-test.true c.loop-name.invariant.went c.loop-name.invariant.fit c.in_ok-text.field-0 c.in-Some.text c.in-Some.is c.in_ok-text.ensures.reads);
      logs = subst (λ (texts : List Text). Logs (g.F.Files.log c.args.files.now) (g.F.Files.log c.read_one.new.files)
          (g.F.Files.taken c.args.files.now) (g.F.Files.taken c.read_one.new.files) (map asked c.args.list.now) (taken texts)) (sym pushed)
          (log_goes_on (g.F.Files.log c.args.files.now) (g.F.Files.log c.loop-name.files) (g.F.Files.log c.read_one.new.files)
          (g.F.Files.taken c.args.files.now) (g.F.Files.taken c.loop-name.files) (g.F.Files.taken c.read_one.new.files) c.args.list.now
          nothing c.loop-name.name-index c.loop-name.texts
          c.loop-name.invariant.counted c.loop-name-test.true c.loop-name.invariant.logs c.in_ok-text.field-0 c.in-Some.text c.in-Some.is
          c.in_ok-text.ensures.logged);
      fit = subst (λ (texts : List Text). all_fit (map asked c.args.list.now) texts ≡ true) (sym pushed)
          (list_fits (g.F.Files.told c.args.files.now) (g.F.Files.told c.loop-name.files) (g.F.Files.told c.read_one.new.files)
          c.args.list.now nothing c.loop-name.name-index
          c.loop-name.texts c.loop-name.invariant.counted c.loop-name-test.true c.loop-name.invariant.went c.loop-name.invariant.fit c.in_ok-text.field-0 c.in-Some.text c.in-Some.is c.in_ok-text.ensures.few);
      later = let so_far = c.loop-name.invariant.later in let more = c.read_one.ensures.later in omega (arith, so_far, more);
    }

pub returns-clause-reads : goal.returns-clause-reads
returns-clause-reads g c =
    list_ends (g.F.Files.told c.args.files.now) (g.F.Files.told c.loop-name.files) c.args.list.now c.loop-name.texts
    (let counted = c.loop-name.invariant.counted in let over = c.loop-name-test.false in let end = c.loop-name.auto.name-index-end in omega (arith, counted, over, end)) c.loop-name.invariant.went c.loop-name.invariant.fit

pub loop-name-init : goal.loop-name-init
loop-name-init g c = record {
  counted = search rules;
  went = search rules;
  fit = search rules;
  logs = log_starts _ _ _ _ c.new-texts.ensures;
  later = search rules;
}

pub returns-clause-logged : goal.returns-clause-logged
returns-clause-logged g c =
    log_ends (g.F.Files.log c.args.files.now) (g.F.Files.log c.loop-name.files) (g.F.Files.taken c.args.files.now)
    (g.F.Files.taken c.loop-name.files)
    (map asked c.args.list.now) c.loop-name.texts c.loop-name.invariant.logs
