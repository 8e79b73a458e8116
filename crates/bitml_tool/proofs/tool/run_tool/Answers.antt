use Rattle.std.proofs.Common.{map, string_bytes, Global, refl}
use Rattle.spec_tool.specs.Answers.{tool_answer, read_answer}
use Rattle.spec_tool.specs.Commands.{files_of}
use Rattle.tool_shell.proofs.Seen.{seen as seen_as}
use Rattle.bitml_tool.specs.Served.{seen}
use Rattle.bitml_tool.proofs.Commands.{few_of, served, served_call}
use Rattle.bitml_tool.proofs.tool.run_tool.Goals as goal

pub serve-requires : goal.serve-requires
serve-requires g c = served_call (map (string_bytes {Z = Global}) c.args.words.now) c.call_of.result c.call_of.ensures.command

pub returns : goal.returns
returns g c =
    c.answers_are_headlines.ensures (g.H.Hash32.digest_of c.args.hash) c.hashes_bytes.ensures _ _ _ c.serve.result
    (few_of _ (served (map (string_bytes {Z = Global}) c.args.words.now)))
    (seen_as seen files_of (tool_answer (g.H.Hash32.digest_of c.args.hash)) (λ call. files_of (seen call))
    (λ call. read_answer (g.H.Hash32.digest_of c.args.hash) (seen call)) (λ reads. refl) (λ call. refl) (λ call reads. refl) _
    c.call_of.result _ _ c.serve.result c.call_of.ensures.command c.call_of.ensures.memory c.serve.ensures)
