use Rattle.std.proofs.Common.{ℕ, Ok, refl}
use Rattle.tool_shell.proofs.Seen.{seen as seen_as}
use Rattle.bitml_draw.specs.DrawAnswer.{draw_files, draw_answer, drawn_read}
use Rattle.bitml_draw.specs.Drawn.{seen}
use Rattle.bitml_draw.proofs.Few.{few_call}
use Rattle.bitml_draw.proofs.tool.draw_tool.Goals as goal

pub serve-requires : goal.serve-requires
serve-requires g c = few_call c.call_of.result c.call_of.ensures.few

pub returns : goal.returns
returns g c =
    c.answers_draw_all.ensures (g.H.Hash32.digest_of c.args.hash) c.hashes_bytes.ensures _ _ _ c.serve.result
    (seen_as seen draw_files (draw_answer (g.H.Hash32.digest_of c.args.hash)) (λ call. draw_files (seen call))
    (λ call. drawn_read (g.H.Hash32.digest_of c.args.hash) (seen call)) (λ reads. refl) (λ call. refl) (λ call reads. refl) {E = ℕ} _
    (Ok c.call_of.result) _ _ c.serve.result c.call_of.ensures.call tt c.serve.ensures)
