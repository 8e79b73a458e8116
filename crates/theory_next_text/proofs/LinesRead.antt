-- Each line of what may come next is read as what it says.
use Rattle.std.proofs.Common.{◌≡◌, ℕ, false, List, [], ◌∷◌, ◌++◌, map, Option, Some, refl, sym, ap, subst, ◌∙◌}
use Rattle.std.specs.Prelude.{flat_map, codes}
use Rattle.std.specs.Fmt.{decimal}
use Rattle.std.specs.List.{AllByRecursion}
use Rattle.spec_bitcoin.specs.Keys.{path_text}
use Rattle.spec_run.specs.declared.event.Event.{Event}
use Rattle.spec_run.specs.declared.outcome.Reason.{Reason}
use Rattle.spec_text.specs.Lines.{lines_of}
use Rattle.spec_text.specs.OutcomeText.{reason_text}
use Rattle.spec_text.specs.RunText.{output_text, event_text}
use Rattle.spec_text.specs.StepText.{branch_text}
use Rattle.spec_text.specs.Words.{◌>>=◌, all_of}
use Rattle.spec_next.specs.declared.lead.Lead.{Lead}
use Rattle.spec_next.specs.declared.outlook.Ruling.{Ruling}
use Rattle.spec_next.specs.declared.outlook.Ruling.TheVariants as rulings
use Rattle.spec_next.specs.OutlookText.{made_text}
use Rattle.spec_next.specs.RequirementText.{requirement_text}
use Rattle.spec_next.specs.Together.{together_text}
use Rattle.theory_text.proofs.Lines.LineBytes.{ends_line, lined, lines_again}
use Rattle.theory_text.proofs.Lines.PathsBack.{path_back}
use Rattle.theory_text.proofs.Lines.Separated.{Lacks}
use Rattle.theory_text.proofs.Options.{some}
use Rattle.theory_play_text.specs.Lines.{Words, number, reason_of}
use Rattle.theory_play_text.specs.Printable.{IsWide, IsNamed, IsSpelledEvent}
use Rattle.theory_play_text.proofs.LineWords.{IsPlain, ArePlain, known_word, line_of, cut_line, line_ends, plain_append}
use Rattle.theory_play_text.proofs.Paths.{path_plain}
use Rattle.theory_play_text.proofs.Reasons.{reason_read}
use Rattle.theory_play_text.proofs.WordsBack.{number_back, number_plain, name_back, name_plain}
use Rattle.theory_next_text.specs.Lines.{NextLine, next_said, next_line, event_in, ruling_said, has_sign}
use Rattle.theory_next_text.specs.Lines as line
use Rattle.theory_next_text.specs.Missing.{Lack}
use Rattle.theory_next_text.specs.Missing as lack
use Rattle.theory_next_text.specs.Sayable.{IsNext, IsRuling, IsLead}
use Rattle.theory_next_text.proofs.Events.{words_of_event, event_read, word_unsigned}
use Rattle.theory_next_text.proofs.Leads.{all_made_words, made_line, made_plain, leads_back}
use Rattle.theory_next_text.proofs.Needs.{Together, together_are, verb_of, commitments_read, endorsements_read, starts_read}
use Rattle.theory_next_text.proofs.Needs.{authorisations_read}
use Rattle.theory_next_text.proofs.Never.{IsAlone, alone_read}
use Rattle.theory_next_text.proofs.Words.{line_append}

-- ---- lines without their end

abbrev pub lack_text : Lack → List ℕ
lack_text (lack.one r) = requirement_text r
lack_text (lack.commitments ps k) = together_text ps (codes "commit") (decimal k)
lack_text (lack.endorsements ps k) = together_text ps (codes "endorse") (decimal k)
lack_text (lack.starts ps k) = together_text ps (codes "init") (decimal k)
lack_text (lack.authorisations ps n i) = together_text ps (codes "authorise") (branch_text n i)

abbrev pub ruling_text : Event → Ruling → List ℕ
ruling_text e rulings.Can = codes "can " ++ event_text e
ruling_text e (rulings.Cannot r) = codes "cannot " ++ (event_text e ++ (codes " " ++ reason_text r))
ruling_text e rulings.Halts = codes "cannot " ++ (event_text e ++ codes " halts")

abbrev pub line_text : NextLine → List ℕ
line_text (line.height n) = codes "height " ++ decimal n
line_text (line.contract k) = codes "contract " ++ decimal k
line_text (line.event e r) = ruling_text e r
line_text (line.leads l) = codes "path " ++ (path_text l.path ++ flat_map made_text l.made)
line_text (line.lacks l) = lack_text l
line_text (line.waits a) = codes "waits " ++ a

-- ---- what may be said

abbrev pub IsLack : Lack → Type 0
IsLack (lack.one r) = IsAlone r
IsLack (lack.commitments ps k) = AllByRecursion IsNamed ps × IsWide k
IsLack (lack.endorsements ps k) = AllByRecursion IsNamed ps × IsWide k
IsLack (lack.starts ps k) = AllByRecursion IsNamed ps × IsWide k
IsLack (lack.authorisations ps n i) = AllByRecursion IsNamed ps × IsWide n × IsWide i

abbrev a_lead : Lead → Option Lead
a_lead l = Some l

abbrev pub IsLine : List (List ℕ) → NextLine → Type 0
IsLine parties (line.height n) = IsWide n
IsLine parties (line.contract k) = IsWide k
IsLine parties (line.event e r) = IsSpelledEvent parties e × IsNext e × IsRuling r
IsLine parties (line.leads l) = IsLead (a_lead l)
IsLine parties (line.lacks l) = IsLack l
IsLine parties (line.waits a) = IsNamed a

abbrev says : NextLine → Option NextLine
says l = Some l

module _ (parties : List (List ℕ)) where
  -- a line that is one line, and is read as what it says
  record ReadsBack (l : NextLine) : Type 0 where
    one : Lacks ends_line (line_text l)
    back : next_line parties (line_text l) ≡ says l

  by_words : (l : NextLine) (word : List ℕ) (words : Words) → line_text l ≡ line_of (word ∷ words) → ArePlain (word ∷ words)
      → next_said parties (word ∷ words) ≡ says l → ReadsBack l
  by_words l word words are plain back = record {
    one = subst (Lacks ends_line) (sym are) (line_ends (word ∷ words) plain);
    back = ap (next_line parties) are ∙ (ap (next_said parties) (cut_line word words plain) ∙ back);
  }

  one_back : (make : ℕ → NextLine) (word : List ℕ) (n : ℕ) → line_text (make n) ≡ word ++ (32 ∷ decimal n) → IsPlain word
      → next_said parties (word ∷ decimal n ∷ []) ≡ (number (decimal n) >>= λ m. says (make m)) → IsWide n → ReadsBack (make n)
  one_back make word n are plain by h =
      by_words (make n) word (decimal n ∷ []) are (plain, (number_plain n h, tt))
      (by ∙ ap (λ o. o >>= λ m. says (make m)) (number_back n h))

  -- ---- events

  can_back : (e : Event) → IsSpelledEvent parties e → IsNext e → ReadsBack (line.event e rulings.Can)
  can_back e s n =
      let w = words_of_event e n in
      by_words _ (codes "can") (w.word ∷ w.words) (ap (λ (t : List ℕ). codes "can " ++ t) w.are) (known_word (codes "can") refl, w.plain)
      (ap (λ o. o >>= λ d. says (line.event d rulings.Can)) (event_read parties e w s))

  abbrev a_ruling : Ruling → Option Ruling
  a_ruling r = Some r

  -- with the words behind the event
  cannot_back : (e : Event) (r : Ruling) (text next : List ℕ) (more : Words) → IsSpelledEvent parties e → IsNext e
      → line_text (line.event e r) ≡ codes "cannot " ++ (event_text e ++ (32 ∷ text)) → text ≡ line_of (next ∷ more)
      → ArePlain (next ∷ more) → has_sign next ≡ false → ruling_said (next ∷ more) ≡ a_ruling r → ReadsBack (line.event e r)
  cannot_back e r text next more s n are tail plain unsigned back =
      let w = words_of_event e n in
      let whole : event_text e ++ (32 ∷ text) ≡ line_of (w.word ∷ (w.words ++ next ∷ more)) =
      (λ i. w.are i ++ (32 ∷ tail i)) ∙ line_append w.word w.words next more in
      by_words _ (codes "cannot") (w.word ∷ (w.words ++ next ∷ more))
      (are ∙ ap (λ (t : List ℕ). codes "cannot " ++ t) whole)
      (known_word (codes "cannot") refl, plain_append (w.word ∷ w.words) (next ∷ more) w.plain plain)
      (ap (λ (o : Option (Words × Words)). o >>= λ p. event_in parties (p.0) >>= λ d. ruling_said (p.1) >>= λ q. says (line.event d q))
      (w.cut next more unsigned)
      ∙ (ap (λ (o : Option Event). o >>= λ d. ruling_said (next ∷ more) >>= λ q. says (line.event d q)) (event_read parties e w s)
      ∙ ap (λ (o : Option Ruling). o >>= λ q. says (line.event e q)) back))

  reason_ruling : (r : Reason) (words : Words) → reason_of words ≡ some r → ruling_said words ≡ a_ruling (rulings.Cannot r)
  reason_ruling r words h = rw h refl

  event_back : (e : Event) (r : Ruling) → IsSpelledEvent parties e → IsNext e → IsRuling r → ReadsBack (line.event e r)
  event_back e rulings.Can s n h = can_back e s n
  event_back e (rulings.Cannot r) s n h =
      let i = reason_read r h in
      cannot_back e (rulings.Cannot r) (reason_text r) i.word i.words s n refl i.are i.plain (word_unsigned r i)
      (reason_ruling r (i.word ∷ i.words) i.back)
  event_back e rulings.Halts s n h =
      cannot_back e rulings.Halts (codes "halts") (codes "halts") [] s n refl refl (known_word (codes "halts") refl, tt) refl refl

  -- ---- branches

  leads_line : (l : Lead) → IsLead (a_lead l) → ReadsBack (line.leads l)
  leads_line l h =
      by_words _ (codes "path") (path_text l.path ∷ all_made_words l.made)
      (ap (λ (t : List ℕ). codes "path " ++ t) (made_line (path_text l.path) l.made))
      (known_word (codes "path") refl, (path_plain l.path h.0, made_plain l.made h.1))
      (leads_back l h.1 (path_back l.path h.0))

  -- ---- what is missing

  together_back : (l : Lack) (verb word : List ℕ) (words : Words) (ps : List (List ℕ))
      → lack_text l ≡ together_text ps verb (line_of (word ∷ words)) → Together verb word words ps l → ReadsBack (line.lacks l)
  together_back l verb word words ps are t =
      by_words _ (codes "needs") (ps ++ verb_of ps verb ∷ word ∷ words) (are ∙ together_are ps verb word words)
      (known_word (codes "needs") refl, t.plain) (ap (λ (o : Option Lack). o >>= λ m. says (line.lacks m)) t.back)

  lack_back : (l : Lack) → IsLack l → ReadsBack (line.lacks l)
  lack_back (lack.one r) h = let a = alone_read parties r h in by_words _ a.word a.words a.are a.plain a.back
  lack_back (lack.commitments ps k) h =
      together_back _ (codes "commit") (decimal k) [] ps refl (commitments_read ps k h.0 h.1)
  lack_back (lack.endorsements ps k) h =
      together_back _ (codes "endorse") (decimal k) [] ps refl (endorsements_read ps k h.0 h.1)
  lack_back (lack.starts ps k) h = together_back _ (codes "init") (decimal k) [] ps refl (starts_read ps k h.0 h.1)
  lack_back (lack.authorisations ps n i) h =
      together_back _ (codes "authorise") (output_text n) (decimal i ∷ []) ps refl (authorisations_read ps n i h.0 h.1 h.2)

  waits_back : (a : List ℕ) → IsNamed a → ReadsBack (line.waits a)
  waits_back a h =
      by_words _ (codes "waits") (a ∷ []) refl (known_word (codes "waits") refl, (name_plain a h, tt))
      (ap (λ o. o >>= λ b. says (line.waits b)) (name_back a h))

  line_back : (l : NextLine) → IsLine parties l → ReadsBack l
  line_back (line.height n) h = one_back (λ m. line.height m) (codes "height") n refl (known_word (codes "height") refl) refl h
  line_back (line.contract k) h = one_back (λ m. line.contract m) (codes "contract") k refl (known_word (codes "contract") refl) refl h
  line_back (line.event e r) h = event_back e r h.0 h.1 h.2
  line_back (line.leads l) h = leads_line l h
  line_back (line.lacks l) h = lack_back l h
  line_back (line.waits a) h = waits_back a h

  -- ---- all lines

  abbrev AreLines : List NextLine → Type 0
  AreLines ls = AllByRecursion (IsLine parties) ls

  lines_end : (ls : List NextLine) → AreLines ls → AllByRecursion (Lacks ends_line) (map line_text ls)
  lines_end [] h = tt
  lines_end (l ∷ ls) h = ((line_back l h.0).one, lines_end ls h.1)

  lines_back : (ls : List NextLine) → AreLines ls → all_of (next_line parties) (map line_text ls) ≡ some ls
  lines_back [] h = refl
  lines_back (l ∷ ls) h = rw ((line_back l h.0).back, lines_back ls h.1) refl

  -- the lines of their text are read as what they say
  pub text_back : (ls : List NextLine) → AreLines ls → all_of (next_line parties) (lines_of (lined (map line_text ls))) ≡ some ls
  text_back ls h = ap (all_of (next_line parties)) (lines_again (map line_text ls) (lines_end ls h)) ∙ lines_back ls h
