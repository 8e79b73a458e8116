use Rattle.std.proofs.Common.{◌≡◌, ◌++◌, drop}
use Rattle.std.specs.List.{flat_map}
use Rattle.bm_translate.specs.Shown.{told_of}
use Rattle.bm_translate.proofs.posts.put_inputs.Given as goal

-- what the inputs so far tell is shown, and what those of the rest tell will be
abbrev pub invariant-loop-input : goal.invariant-loop-input
invariant-loop-input l =
    l.shown ++ told_of l.secrets (flat_map (λ i. i.witness) (drop l.input-index l.inputs))
    ≡ l.fn.shown ++ told_of l.secrets (flat_map (λ i. i.witness) l.inputs)
