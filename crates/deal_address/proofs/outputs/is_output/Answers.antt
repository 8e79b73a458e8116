use Rattle.std.proofs.Common.{sym, ap, ◌∙◌, length, arith}
use Rattle.std.specs.Prelude.{◌==◌}
use Rattle.std.proofs.Common.{eq-eqb}
use Rattle.spec_address.specs.Address.{pushes_version, version_of, is_program_size, are_bytes}
use Rattle.deal_address.proofs.Tests.{bytes_are, third_of}
use Rattle.deal_address.proofs.outputs.is_output.Goals as goal

pub returns : goal.returns
returns c =
    let size = c.args.size in
    let program = c.args.program.now in
    c.is_program_size.ensures ∙ ap (λ version. is_program_size version size) c.version_of.ensures
    ∙ third_of (pushes_version c.args.operation) (size == length program) (is_program_size (version_of c.args.operation) size) (are_bytes program)
    (sym c.if-not-pushes_version.ensures) (eq-eqb size (length program) c.if-size-program.false) (bytes_are program (λ i. let f = c.type_inv.program i in omega arith))
