-- What is claimed of what never can come: it can't after any further lines, whatever is signed and told.
use Rattle.std.specs.Prelude.{◌≡◌, ℕ, List, [], ◌++◌, true, Some}
use Rattle.std.specs.List.{Contains}
use Rattle.spec_compiler.specs.Keyed.Keys.{Keys}
use Rattle.spec_compiler.specs.Keyed.Instance.{Instance}
use Rattle.spec_text.specs.Lines.{lines_of}
use Rattle.spec_tool.specs.declared.which.Which.{Which}
use Rattle.spec_tool.specs.Keyed.Listed.{Listed, listed_at}
use Rattle.spec_deal.specs.declared.entry.Shown.{Shown}
use Rattle.spec_deal.specs.declared.signed.Signed.{Signed}
use Rattle.theory_deal.specs.Finished.{do_fit}
use Rattle.spec_chain.specs.declared.requirement.Requirement.{Requirement}
use Rattle.spec_chain.specs.Chain.{Course, stands, follow_chain}
use Rattle.spec_chain.specs.Outstanding.{known, outstanding, is_never}

-- of these strings those with one hash are one
abbrev pub HaveOneHash : (List ℕ → List ℕ) → List Shown → Type 0
HaveOneHash hash strings = (x y : Shown) → Contains strings x → Contains strings y → hash x.bytes ≡ hash y.bytes → x.bytes ≡ y.bytes

-- a transaction below which a line `never` stands can't come after any lines that begin with these, with whatever signatures and strings,
-- where the strings of both calls don't collide
abbrev pub NeverComes : Type 0
NeverComes =
    (hash : List ℕ → List ℕ) (keys : Keys) (s : Instance) (text longer : List ℕ) (more : List (List ℕ))
    (course later : Course) (tip top : ℕ) (given new : List Signed) (strings told : List Shown) (which : Which) (l : Listed)
    (requirement : Requirement)
    → lines_of longer ≡ lines_of text ++ more
    → follow_chain hash keys s text ≡ stands course tip → follow_chain hash keys s longer ≡ stands later top
    → do_fit hash s strings ≡ true → do_fit hash s told ≡ true
    → HaveOneHash hash (known course.state strings ++ known later.state told)
    → listed_at hash keys s which ≡ Some l
    → Contains (outstanding hash keys s given (known course.state strings) course.state tip which) requirement → is_never requirement ≡ true
    → outstanding hash keys s new (known later.state told) later.state top which ≡ [] → ⊥
