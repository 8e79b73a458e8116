-- What the interpreter keeps: what is left to do of a script, resumed under the conditions of the open blocks.
use Rattle.std.specs.Prelude.{◌≡◌, List, [], ◌∷◌, Bool, true, false, ◌&&◌, if◌then◌else◌, Option, Some, None}
use Rattle.std.specs.Option.{option_and_then}
use Rattle.spec_bitcoin.specs.Trees.{Open, Outside, Inside, Unmatched, Section}
use Rattle.spec_bitcoin.specs.Effects.{Item, Stacks}
use Rattle.spec_bitcoin.specs.Meaning.{run, run_sections}

-- whether all conditions hold
abbrev pub all_hold : List Bool → Bool
all_hold [] = true
all_hold (c ∷ cs) = c && all_hold cs

-- what is left to do does this to the stacks, under these conditions, the innermost first
abbrev pub resume : (Item → Item) → (Item → Item → Bool) → Open → List Bool → Stacks → Option Stacks
resume hash valid (Outside items) [] s = run hash valid items s
resume hash valid (Outside items) (c ∷ cs) s = None
resume hash valid (Inside items others outer) [] s = None
resume hash valid (Inside items others outer) (c ∷ cs) s =
    option_and_then (resume hash valid outer cs) (if all_hold cs then run_sections hash valid (Section items others) c s else Some s)
resume hash valid Unmatched cs s = None

-- going on, with these conditions and stacks, is what the front of the operations does
pub record Does (hash : Item → Item) (valid : Item → Item → Bool) (prefix : Open → Open) (cs : List Bool)
    (s : Stacks) (goes_on : Bool) (cs' : List Bool) (s' : Stacks) : Type 0 where
  pub going : goes_on ≡ true → (o : Open) → resume hash valid (prefix o) cs s ≡ resume hash valid o cs' s'
  pub failing : goes_on ≡ false → (o : Open) → resume hash valid (prefix o) cs s ≡ None
