-- Calls end with the status of their answer, or with 4 where a write fails.
use Rattle.std.proofs.Common.{◌≡◌, ℕ, ◌↔◌, Bool, true, false, List, [], ◌∷◌, length, Option, Some, None, refl, sym, ap, arith}
use Rattle.std.specs.Prelude.{◌||◌, ◌==◌, if◌then◌else◌}
use Rattle.std.proofs.lemmas.Bool.{false≢true, false_from_ne_true, eqb-true}
use Rattle.spec_data.specs.Lists.{has_number}
use Rattle.spec_tool.specs.Reads.{Read, Text, texts_read}
use Rattle.spec_tool.specs.Commands.{Command}
use Rattle.spec_tool.specs.Answers.{read_answer, tool_answer, ended}
use Rattle.theory_tool.specs.Ended.{call_statuses, CallsEnd}
use Rattle.theory_tool.proofs.Statuses.{apart, known}
use Rattle.theory_tool.proofs.Written.{tool_written}

-- the statuses of answers
abbrev answer_statuses : List ℕ
answer_statuses = 0 ∷ (1 ∷ (2 ∷ (3 ∷ (6 ∷ (7 ∷ (8 ∷ (9 ∷ (10 ∷ (11 ∷ [])))))))))

wider : (a b c d e f g h x y : Bool) → (a || (b || (c || (d || (e || (f || (g || (h || false)))))))) ≡ true
    → (a || (b || (x || (y || (c || (d || (e || (f || (g || (h || false)))))))))) ≡ true
wider a b c d e f g h x y k = grind arith

with_four : (a b x y c d e f g h z : Bool) → (a || (b || (x || (y || (c || (d || (e || (f || (g || (h || false)))))))))) ≡ true
    → (a || (b || (x || (y || (z || (c || (d || (e || (f || (g || (h || false))))))))))) ≡ true
with_four a b x y c d e f g h z k = grind arith

read_known : (hash : List ℕ → List ℕ) (command : Command) (o : Option (List Text))
    → has_number (read_answer hash command o).status answer_statuses ≡ true
read_known hash command None = refl
read_known hash command (Some texts) =
    let n = (read_answer hash command (Some texts)).status in
    wider (0 == n) (1 == n) (6 == n) (7 == n) (8 == n) (9 == n) (10 == n) (11 == n) (2 == n) (3 == n) (known hash command texts)

tool_known : (hash : List ℕ → List ℕ) (command : Option Command) (reads : List Read)
    → has_number (tool_answer hash command reads).status answer_statuses ≡ true
tool_known hash None reads = refl
tool_known hash (Some command) reads = read_known hash command (texts_read reads)

-- of a text that isn't empty and can't be written
four : (status b : ℕ) (bytes : List ℕ) → ended (record { status = status; text = b ∷ bytes }) false ≡ 4
four status b bytes =
    ap (λ (empty : Bool). if empty then status else 4)
    (false_from_ne_true (length (b ∷ bytes) == 0) (λ t. omega (arith, eqb-true (length (b ∷ bytes)) 0 t)))

-- of a printed answer with one of these statuses
fails : (status : ℕ) (text : List ℕ) → has_number status answer_statuses ≡ true → (written : Bool)
    → (ended (record { status = status; text = text }) written ≡ 4) ↔ ((written ≡ false) × (text ≡ [] → ⊥))
fails status text h true = (λ e. absurd (apart 4 answer_statuses refl status h e), λ p. absurd (false≢true (sym p.0)))
fails status [] h false = (λ e. absurd (apart 4 answer_statuses refl status h e), λ p. absurd (p.1 refl))
fails status (b ∷ bytes) h false = (λ e. (refl, λ k. cc), λ p. four status b bytes)

wide_known : (n : ℕ) → has_number n answer_statuses ≡ true → has_number n call_statuses ≡ true
wide_known n h = with_four (0 == n) (1 == n) (2 == n) (3 == n) (6 == n) (7 == n) (8 == n) (9 == n) (10 == n) (11 == n) (4 == n) h

ended_known : (status : ℕ) (text : List ℕ) → has_number status answer_statuses ≡ true → (written : Bool)
    → has_number (ended (record { status = status; text = text }) written) call_statuses ≡ true
ended_known status text h true = wide_known status h
ended_known status [] h false = wide_known status h
ended_known status (b ∷ bytes) h false = ap (λ (n : ℕ). has_number n call_statuses) (four status b bytes)

unwritten : (status : ℕ) (text : List ℕ) → text ≡ [] → ended (record { status = status; text = text }) false ≡ status
unwritten status [] h = refl
unwritten status (b ∷ bytes) h = cc

pub calls_end : CallsEnd
calls_end = record {
  write_failed = λ hash command reads written.
      let p = tool_answer hash command reads in
      fails p.status p.text (tool_known hash command reads) written;
  nothing_to_write = tool_written;
  written = λ hash command reads. refl;
  nothing_written = λ hash command reads h.
      let p = tool_answer hash command reads in
      unwritten p.status p.text h;
  known = λ hash command reads written.
      let p = tool_answer hash command reads in
      ended_known p.status p.text (tool_known hash command reads) written;
}
