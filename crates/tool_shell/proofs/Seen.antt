-- What is done of a call is done of the command that it is seen as.
use Rattle.std.proofs.Common.{◌≡◌, ℕ, true, List, [], Option, Some, None, Result, Ok, Err, refl, sym, ap, subst, append-nil, inl, inr}
use Rattle.std.specs.Prelude.{IfOk, OnErr, is_some, option_map}
use Rattle.spec_tool.specs.Reads.{Asked, Read, Text, texts_read}
use Rattle.spec_tool.specs.Commands.{Printed, usage}
use Rattle.bm_io.specs.Files.{Told}
use Rattle.tool_shell.specs.Answered.{AnswersByOrGivesUp, Answered}
use Rattle.tool_shell.specs.Around.{Around, Ends}
use Rattle.tool_shell.specs.Asked.{all_asked}
use Rattle.tool_shell.specs.Files.{AsksPrefix}
use Rattle.tool_shell.specs.Logs.{LogsPrefix}

-- equal answers
same_answers : (one other : List Read → Printed) (files : Option (List Asked)) (before now : Around) (status : ℕ)
    → ((reads : List Read) → one reads ≡ other reads) → AnswersByOrGivesUp one files before now status
    → AnswersByOrGivesUp other files before now status
same_answers one other files before now status e (inl a) = inl (record {
  reads = a.reads;
  made = a.made;
  logged = a.logged;
  told = a.told;
  unread = a.unread;
  ends = subst (λ (p : Printed). Ends p before.written now.written before.write_faults now.write_faults status) (e a.reads) a.ends;
})
same_answers one other files before now status e (inr g) = inr g

asks_none : (told : Option Told) (files : List Asked) → AsksPrefix told told files
asks_none None files = refl
asks_none (Some told) files = (0, ap (λ names. Some (record told { asked = names })) (sym (append-nil told.asked)))

-- before any file is read
gives_up_early : (answers : List Read → Printed) (files : Option (List Asked)) (before now : Around) (status : ℕ) → is_some files ≡ true
    → status ≡ 5 → now ≡ before → AnswersByOrGivesUp answers files before now status
gives_up_early answers files before now status some e same = inr (record {
  some = some;
  status_is = e;
  written = ap (λ (a : Around). a.written) same;
  logged = subst (λ (a : Around). LogsPrefix before.log a.log (all_asked files)) (sym same) ([], (sym (append-nil before.log), refl));
  told = subst (λ (a : Around). AsksPrefix before.told a.told (all_asked files)) (sym same)
      (asks_none before.told (all_asked files));
})

-- words that ask for files are a command
pub some_command : {K : Type 0} (files : K → List Asked) (o : Option K) → is_some (option_map files o) ≡ true → is_some o ≡ true
some_command files None e = e
some_command files (Some command) e = refl

some_files : {K : Type 0} (files : K → List Asked) (o : Option K) → is_some o ≡ true → is_some (option_map files o) ≡ true
some_files files None e = e
some_files files (Some command) e = refl

module _ {K C : Type 0} (see : C → K) (files : K → List Asked) (answers : Option K → List Read → Printed) (asks : C → List Asked)
    (replies : C → Option (List Text) → Printed) (none : (reads : List Read) → answers None reads ≡ usage)
    (same_files : (call : C) → asks call ≡ files (see call))
    (same : (call : C) (reads : List Read) → replies call (texts_read reads) ≡ answers (Some (see call)) reads) where
  pub seen : {E : Type 0} (command : Option K) (parsed : Result (Option C) E) (before now : Around) (status : ℕ)
      → IfOk parsed (λ call. option_map see call ≡ command) → OnErr parsed (is_some command ≡ true)
      → Answered asks replies parsed before now status → AnswersByOrGivesUp (answers command) (option_map files command) before now status
  seen command (Ok None) before now status e w h =
      subst (λ (k : Option K). AnswersByOrGivesUp (answers k) (option_map files k) before now status) e
      (same_answers _ (answers None) None before now status (λ reads. sym (none reads)) h)
  seen command (Ok (Some call)) before now status e w h =
      subst (λ (k : Option K). AnswersByOrGivesUp (answers k) (option_map files k) before now status) e
      (subst (λ (fs : List Asked). AnswersByOrGivesUp (answers (Some (see call))) (Some fs) before now status) (same_files call)
      (same_answers _ (answers (Some (see call))) (Some (asks call)) before now status (same call) h))
  seen command (Err error) before now status e w h =
      gives_up_early (answers command) (option_map files command) before now status (some_files files command w) h.0 h.1
