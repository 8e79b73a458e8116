use Rattle.bm_psbt.proofs.Putting.{put_new, put_again}
use Rattle.bm_psbt.proofs.maps.put_record.Goals as goal

pub returns-in-Ok-None : goal.returns-in-Ok-None
returns-in-Ok-None c =
    put_new c.args.records.now.entries c.insert.new.self.entries
    c.args.bytes.now c.in-Ok.rest.now c.in-Ok-string_of.rest.now c.in-Ok.key c.in-Ok-string_of.value
    c.in-Ok.ensures c.in-Ok-string_of.ensures (rw c.in-Ok-None.field-0-is at c.in-Ok-None.ensures.old) c.in-Ok-None.ensures.entries

pub returns-in-Ok-Some : goal.returns-in-Ok-Some
returns-in-Ok-Some c =
    put_again c.args.records.now.entries c.args.bytes.now c.in-Ok.rest.now c.in-Ok-string_of.rest.now c.in-Ok.key c.in-Ok-string_of.value c.in-Ok-Some.field-0-0
    c.in-Ok.ensures c.in-Ok-string_of.ensures (rw c.in-Ok-Some.field-0-is at c.in-Ok-Some.ensures.old)
