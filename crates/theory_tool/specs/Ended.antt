-- What is claimed of the statuses with which calls end.
use Rattle.std.specs.Prelude.{◌≡◌, ℕ, List, [], ◌∷◌, Bool, true, false, Option, ◌↔◌}
use Rattle.spec_data.specs.Lists.{has_number}
use Rattle.spec_tool.specs.Reads.{Read}
use Rattle.spec_tool.specs.Commands.{Command}
use Rattle.spec_tool.specs.Answers.{tool_answer, ended}

-- the statuses with which a call may end that had memory enough: neither 5, nor 12, with which no call ends
abbrev pub call_statuses : List ℕ
call_statuses = 0 ∷ (1 ∷ (2 ∷ (3 ∷ (4 ∷ (6 ∷ (7 ∷ (8 ∷ (9 ∷ (10 ∷ (11 ∷ []))))))))))

pub record CallsEnd : Type 0 where
  -- 4 exactly where there was something to write and the write failed
  pub write_failed : (hash : List ℕ → List ℕ) (command : Option Command) (reads : List Read) (written : Bool)
      → (ended (tool_answer hash command reads) written ≡ 4)
      ↔ ((written ≡ false) × ((tool_answer hash command reads).text ≡ [] → ⊥))
  -- there is nothing to write exactly where a read failed
  pub nothing_to_write : (hash : List ℕ → List ℕ) (command : Option Command) (reads : List Read)
      → ((tool_answer hash command reads).text ≡ []) ↔ ((tool_answer hash command reads).status ≡ 3)
  -- the answer's own status where the write went through, or where there was nothing to write
  pub written : (hash : List ℕ → List ℕ) (command : Option Command) (reads : List Read)
      → ended (tool_answer hash command reads) true ≡ (tool_answer hash command reads).status
  pub nothing_written : (hash : List ℕ → List ℕ) (command : Option Command) (reads : List Read)
      → (tool_answer hash command reads).text ≡ []
      → ended (tool_answer hash command reads) false ≡ (tool_answer hash command reads).status
  pub known : (hash : List ℕ → List ℕ) (command : Option Command) (reads : List Read) (written : Bool)
      → has_number (ended (tool_answer hash command reads) written) call_statuses ≡ true
