use Rattle.std.proofs.Common.{ℕ, Ok, refl}
use Rattle.spec_next.specs.NextAnswer.{next_files, next_answer, form_of, party_of, read_next}
use Rattle.tool_shell.proofs.Seen.{seen as seen_as}
use Rattle.bitml_next.specs.Told.{seen}
use Rattle.bitml_next.proofs.Few.{few_call}
use Rattle.bitml_next.proofs.tool.next_tool.Goals as goal

pub serve-requires : goal.serve-requires
serve-requires g c = few_call c.call_of.result c.call_of.ensures.few

pub returns : goal.returns
returns g c =
    c.answers_tell_all.ensures (g.H.Hash32.digest_of c.args.hash) c.hashes_bytes.ensures _ _ _ c.serve.result
    (seen_as seen next_files (next_answer (g.H.Hash32.digest_of c.args.hash)) (λ call. next_files (seen call))
    (λ call. read_next (g.H.Hash32.digest_of c.args.hash) (form_of (seen call)) (party_of (seen call))) (λ reads. refl) (λ call. refl) (λ call reads. refl) {E = ℕ} _
    (Ok c.call_of.result) _ _ c.serve.result
    c.call_of.ensures.call tt c.serve.ensures)
