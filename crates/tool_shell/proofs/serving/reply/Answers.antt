use Rattle.std.proofs.Common.{map, ap, ◌∙◌}
use Rattle.spec_tool.specs.Reads.{texts_read}
use Rattle.tool_shell.specs.Asked.{asked}
use Rattle.tool_shell.proofs.Ending.{replied, short_after}
use Rattle.tool_shell.proofs.serving.reply.Goals as goal

pub returns-clause-reply : goal.returns-clause-reply
returns-clause-reply g c =
    replied (λ reads. g.C.Call.answers (g.H.Hash32.digest_of c.args.hash) c.args.call.now (texts_read reads))
    (g.C.Call.asks c.args.call.now)
    (record {
      told = g.F.Files.told c.args.files.now;
      log = g.F.Files.log c.args.files.now;
      taken = g.F.Files.taken c.args.files.now;
      faults = g.F.Files.faults c.args.files.now;
    })
    (record {
      told = g.F.Files.told c.read_all.new.files;
      log = g.F.Files.log c.read_all.new.files;
      taken = g.F.Files.taken c.read_all.new.files;
      faults = g.F.Files.faults c.read_all.new.files;
    })
    (map asked c.as_slice.result.now) c.in_ok-reading.reading c.reply_to.result
    (ap (map asked) c.as_slice.ensures.value ∙ c.in_ok-list.ensures) c.in_ok-reading.ensures.reads c.in_ok-reading.ensures.logged
    c.in_ok-reading.ensures.rose c.reply_to.ensures

pub returns-clause-short : goal.returns-clause-short
returns-clause-short g c =
    short_after c.reply_to.result (g.F.Files.log c.args.files.now) (g.F.Files.log c.read_all.new.files)
    (g.F.Files.taken c.args.files.now) (g.F.Files.taken c.read_all.new.files) (map asked c.as_slice.result.now) _ _
    (ap (map asked) c.as_slice.ensures.value ∙ c.in_ok-list.ensures) c.in_ok-reading.ensures.logged
