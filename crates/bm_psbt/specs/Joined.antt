-- Inputs that are joined one by one.
use Rattle.std.specs.Prelude.{List, [], ◌∷◌}
use Rattle.spec_tool.specs.declared.psbt.PsbtInput.{PsbtInput}
use Rattle.spec_tool.specs.PsbtBytes.{input_joined}

-- an input with the records of the first of others, if there is one
abbrev pub joined_head : PsbtInput → List PsbtInput → PsbtInput
joined_head a [] = a
joined_head a (b ∷ bs) = input_joined a b

-- without the first
abbrev pub tail_of : List PsbtInput → List PsbtInput
tail_of [] = []
tail_of (b ∷ bs) = bs
