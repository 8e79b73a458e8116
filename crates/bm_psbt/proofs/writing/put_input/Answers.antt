use Rattle.spec_tool.specs.PsbtBytes.{input_records}
use Rattle.bm_psbt.proofs.Written.{records_written, map_written}
use Rattle.bm_psbt.proofs.writing.put_input.Goals as goal

pub returns : goal.returns
returns c =
    map_written (input_records c.args.input.now) c.args.out.now.items c.put_witness.new.out.items c.push.new.self.items
    (records_written c.args.input.now c.args.out.now.items c.put_spent.new.out.items c.put_signatures.new.out.items c.put_all.new.out.items
    c.put_script.new.out.items c.put_witness.new.out.items
    c.in_ok-put_spent.ensures (rw c.as_slice.ensures at c.in_ok-put_signatures.ensures) c.in_ok-put_all.ensures c.in_ok-put_script.ensures
    c.in_ok-put_witness.ensures)
    c.in_ok-push.ensures.items
