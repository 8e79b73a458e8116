-- The text of what may come next is that of lines that tell it, and is read as these.
use Rattle.std.proofs.Common.{◌≡◌, ℕ, Bool, true, false, List, [], ◌∷◌, ◌++◌, map, Option, Some, None, refl, sym, ap, subst, ◌∙◌, append_assoc}
use Rattle.std.specs.Prelude.{filter, flat_map, codes, if◌then◌else◌}
use Rattle.std.specs.Fmt.{decimal}
use Rattle.std.specs.List.{AllByRecursion}
use Rattle.spec_bitcoin.specs.Keys.{path_text}
use Rattle.spec_data.specs.Lists.{is_among}
use Rattle.spec_calculus.specs.Configuration.{Configuration}
use Rattle.spec_run.specs.declared.event.Event.{Event}
use Rattle.spec_run.specs.declared.event.Event.TheVariants as events
use Rattle.spec_run.specs.Setup.{Setup}
use Rattle.spec_run.specs.Translation.{last_configuration, last_world}
use Rattle.spec_text.specs.Lines.{lines_of}
use Rattle.spec_text.specs.OutcomeText.{reason_text}
use Rattle.spec_text.specs.RunText.{newline, event_text}
use Rattle.spec_text.specs.Words.{all_of}
use Rattle.spec_next.specs.declared.form.Form.{Form}
use Rattle.spec_next.specs.declared.form.Form.TheVariants as forms
use Rattle.spec_next.specs.declared.lead.Lead.{Lead}
use Rattle.spec_next.specs.declared.outlook.Outlook.{Outlook}
use Rattle.spec_next.specs.declared.outlook.Prospect.{Prospect}
use Rattle.spec_next.specs.declared.outlook.Ruling.{Ruling}
use Rattle.spec_next.specs.declared.outlook.Ruling.TheVariants as rulings
use Rattle.spec_next.specs.declared.requirement.Requirement.{Requirement}
use Rattle.spec_next.specs.declared.requirement.Requirement.TheVariants as requirements
use Rattle.spec_next.specs.Forms.{next_text}
use Rattle.spec_next.specs.Leads.{lead_at}
use Rattle.spec_next.specs.Listed.{before, by_party, from_branches, is_asked, is_before, is_due, is_for_party, is_meant, later_phase}
use Rattle.spec_next.specs.Listed.{listed_of, next_phase, of_party}
use Rattle.spec_next.specs.OutlookText.{ruling_line, prospect_line, lead_text, event_lead, before_text, branch_text, prospects_text}
use Rattle.spec_next.specs.OutlookText.{made_text, waits_line, outlook_text, outlooks_text}
use Rattle.spec_next.specs.Prospects.{awaited, outlooks}
use Rattle.spec_next.specs.Together.{with_line, once_onto, is_alike, named, parties_alike, joined_text, joined_line, requirements_text}
use Rattle.theory_text.proofs.Options.{some_is}
use Rattle.theory_play_text.specs.Printable.{IsNamed}
use Rattle.theory_next_text.specs.Lines.{NextLine, next_line, next_of}
use Rattle.theory_next_text.specs.Lines as line
use Rattle.theory_next_text.specs.Missing.{Lack}
use Rattle.theory_next_text.specs.Sayable.{IsRequirement, IsLead, IsLeading, IsProspect, IsOutlook, IsSayable}
use Rattle.theory_next_text.specs.Statements.{IsReadAs, OutlooksReadBack, SameOutlooksTellTheSame, NextIsReadBack}
use Rattle.theory_next_text.specs.Tells.{Just, Missing, lack_of, event_line, lead_line, made_lines, TellsBefore, TellsBranch, TellsProspects}
use Rattle.theory_next_text.specs.Tells.{TellsContract, TellsAll}
use Rattle.theory_next_text.proofs.LinesRead.{lack_text, line_text, IsLack, IsLine, text_back}
use Rattle.theory_next_text.proofs.Once.{Said, said_once, all_append}
use Rattle.theory_next_text.proofs.Told.{text_of, Told, told_just, told_line, told_then, told_each, told_map}

-- ---- lists

all_filter : {A : Type 0} (P : A → Type 0) (p : A → Bool) (xs : List A) → AllByRecursion P xs → AllByRecursion P (filter p xs)
all_filter P p [] h = tt
all_filter P p (x ∷ xs) h = by_test (p x) (all_filter P p xs h.1)
  where
    by_test : (t : Bool) → AllByRecursion P (filter p xs) → AllByRecursion P (if t then x ∷ filter p xs else filter p xs)
    by_test true k = (h.0, k)
    by_test false k = k

all_flat : {A B : Type 0} (P : A → Type 0) (Q : B → Type 0) (f : A → List B) → ((x : A) → P x → AllByRecursion Q (f x)) → (xs : List A)
    → AllByRecursion P xs → AllByRecursion Q (flat_map f xs)
all_flat P Q f g [] h = tt
all_flat P Q f g (x ∷ xs) h = all_append Q (f x) (flat_map f xs) (g x h.0) (all_flat P Q f g xs h.1)

all_map : {A B : Type 0} (P : A → Type 0) (Q : B → Type 0) (f : A → B) → ((x : A) → P x → Q (f x)) → (xs : List A)
    → AllByRecursion P xs → AllByRecursion Q (map f xs)
all_map P Q f g [] h = tt
all_map P Q f g (x ∷ xs) h = (g x h.0, all_map P Q f g xs h.1)

-- ---- what is missing

once_named : (seen names : List (List ℕ)) → AllByRecursion IsNamed seen → AllByRecursion IsNamed names
    → AllByRecursion IsNamed (once_onto seen names)
once_named seen [] h k = h
once_named seen (x ∷ xs) h k = once_named (with_line seen x) xs (by_test (is_among x seen)) k.1
  where
    by_test : (t : Bool) → AllByRecursion IsNamed (if t then seen else seen ++ x ∷ [])
    by_test true = h
    by_test false = all_append IsNamed seen (x ∷ []) h (k.0, tt)

awaited_named : (r : Requirement) → IsRequirement r → AllByRecursion IsNamed (named (awaited r))
awaited_named (requirements.Advert k) h = tt
awaited_named (requirements.Deposit x) h = tt
awaited_named (requirements.Gone x) h = tt
awaited_named requirements.NobodyHonest h = tt
awaited_named (requirements.Missing secret) h = tt
awaited_named (requirements.BadLength secret) h = tt
awaited_named (requirements.Repeated secret) h = tt
awaited_named (requirements.Digest party k secret) h = (h.0, tt)
awaited_named (requirements.Commitment party k) h = (h.0, tt)
awaited_named (requirements.Endorsement party k) h = (h.0, tt)
awaited_named (requirements.Start party k) h = (h.0, tt)
awaited_named (requirements.Beginning k) h = tt
awaited_named (requirements.Height height blocks) h = tt
awaited_named (requirements.Authorisation party n i) h = (h.0, tt)
awaited_named (requirements.Put x) h = tt
awaited_named (requirements.Secret party k secret) h = (h.0, tt)
awaited_named (requirements.Posted party secret) h = (h.0, tt)
awaited_named requirements.Predicate h = tt

module _ (all : List Requirement) (fine : AllByRecursion IsRequirement all) where
  alike_named : (r : Requirement) → AllByRecursion IsNamed (parties_alike all r)
  alike_named r =
      once_named [] (flat_map (λ other. named (awaited other)) (filter (λ other. is_alike r other) all)) tt
      (all_flat IsRequirement IsNamed (λ other. named (awaited other)) awaited_named (filter (λ other. is_alike r other) all)
      (all_filter IsRequirement (λ other. is_alike r other) all fine))

  lack_is : (r : Requirement) → IsRequirement r → IsLack (lack_of all r)
  lack_is (requirements.Advert k) h = h
  lack_is (requirements.Deposit x) h = h
  lack_is (requirements.Gone x) h = h
  lack_is requirements.NobodyHonest h = h
  lack_is (requirements.Missing secret) h = h
  lack_is (requirements.BadLength secret) h = h
  lack_is (requirements.Repeated secret) h = h
  lack_is (requirements.Digest party k secret) h = h
  lack_is (requirements.Commitment party k) h = (alike_named (requirements.Commitment party k), h.1)
  lack_is (requirements.Endorsement party k) h = (alike_named (requirements.Endorsement party k), h.1)
  lack_is (requirements.Start party k) h = (alike_named (requirements.Start party k), h.1)
  lack_is (requirements.Beginning k) h = h
  lack_is (requirements.Height height blocks) h = h
  lack_is (requirements.Authorisation party n i) h = (alike_named (requirements.Authorisation party n i), h.1, h.2)
  lack_is (requirements.Put x) h = h
  lack_is (requirements.Secret party k secret) h = h
  lack_is (requirements.Posted party secret) h = h
  lack_is requirements.Predicate h = h

lack_printed : (all : List Requirement) (r : Requirement) → joined_text all r ≡ lack_text (lack_of all r)
lack_printed all (requirements.Advert k) = refl
lack_printed all (requirements.Deposit x) = refl
lack_printed all (requirements.Gone x) = refl
lack_printed all requirements.NobodyHonest = refl
lack_printed all (requirements.Missing secret) = refl
lack_printed all (requirements.BadLength secret) = refl
lack_printed all (requirements.Repeated secret) = refl
lack_printed all (requirements.Digest party k secret) = refl
lack_printed all (requirements.Commitment party k) = refl
lack_printed all (requirements.Endorsement party k) = refl
lack_printed all (requirements.Start party k) = refl
lack_printed all (requirements.Beginning k) = refl
lack_printed all (requirements.Height height blocks) = refl
lack_printed all (requirements.Authorisation party n i) = refl
lack_printed all (requirements.Put x) = refl
lack_printed all (requirements.Secret party k secret) = refl
lack_printed all (requirements.Posted party secret) = refl
lack_printed all requirements.Predicate = refl

abbrev ended : Lack → List ℕ
ended l = lack_text l ++ newline

lacks_printed : (all rs : List Requirement) → map (joined_line all) rs ≡ map ended (map (lack_of all) rs)
lacks_printed all [] = refl
lacks_printed all (r ∷ rs) = λ i. (lack_printed all r i ++ newline) ∷ lacks_printed all rs i

abbrev lacks_lines : List Lack → List NextLine
lacks_lines ls = map (λ l. line.lacks l) ls

lacks_text : (ls : List Lack) → flat_map (λ l. l) (map ended ls) ≡ text_of (lacks_lines ls)
lacks_text [] = refl
lacks_text (l ∷ ls) = ap (λ (rest : List ℕ). ended l ++ rest) (lacks_text ls)

lacks_fine : (parties : List (List ℕ)) (ls : List Lack) → AllByRecursion IsLack ls → AllByRecursion (IsLine parties) (lacks_lines ls)
lacks_fine parties [] h = tt
lacks_fine parties (l ∷ ls) h = (h.0, lacks_fine parties ls h.1)

abbrev lack_in : Lack → List NextLine → Lack
lack_in other (line.lacks l ∷ ls) = l
lack_in other _ = other

module _ (parties : List (List ℕ)) where
  -- lines that are the same say the same
  lacks_apart : (a b : Lack) → IsLack a → IsLack b → ended a ≡ ended b → a ≡ b
  lacks_apart a b h k e =
      ap (lack_in a) (some_is (line.lacks a ∷ []) (line.lacks b ∷ [])
      (sym (text_back parties (line.lacks a ∷ []) (h, tt))
      ∙ (ap (λ (t : List ℕ). all_of (next_line parties) (lines_of (t ++ []))) e ∙ text_back parties (line.lacks b ∷ []) (k, tt))))

  told_missing : (required : List Requirement) → AllByRecursion IsRequirement required
      → Told parties (Missing required) (requirements_text required)
  told_missing required fine =
      let ls = map (lack_of required) required in
      let s : Said ended IsLack lacks_apart [] ls =
      said_once ended IsLack lacks_apart [] ls tt (all_map IsRequirement IsLack (lack_of required) (lack_is required fine) required fine) in
      record {
        lines = lacks_lines s.said;
        tells = record { said = s.said; once = s.firsts; are = refl };
        are = ap (λ (ts : List (List ℕ)). flat_map (λ l. l) (once_onto [] ts)) (lacks_printed required required)
            ∙ (ap (flat_map (λ l. l)) s.are ∙ lacks_text s.said);
        fine = lacks_fine parties s.said s.fine;
      }

  -- ---- events

  ruling_printed : (e : Event) (r : Ruling) → ruling_line e r ≡ line_text (line.event e r) ++ newline
  ruling_printed e rulings.Can = refl
  ruling_printed e (rulings.Cannot r) =
      ap (λ (t : List ℕ). codes "cannot " ++ t) (sym (append_assoc (event_text e) (32 ∷ reason_text r) newline))
  ruling_printed e rulings.Halts =
      ap (λ (t : List ℕ). codes "cannot " ++ t) (sym (append_assoc (event_text e) (codes " halts") newline))

  module _ (g : Configuration) where
    abbrev Fine : Prospect → Type 0
    Fine p = IsProspect parties g p

    told_before : (ps : List Prospect) → AllByRecursion Fine ps → Told parties (TellsBefore ps) (before_text ps)
    told_before ps h =
        told_then parties (flat_map prospect_line ps) (requirements_text (flat_map (λ p. p.requirements) ps))
        (told_map parties event_line Fine prospect_line (λ p. ruling_printed p.event p.ruling)
        (λ p f. (f.spelled, f.next, f.ruled)) ps h)
        (told_missing (flat_map (λ p. p.requirements) ps) (all_flat Fine IsRequirement (λ p. p.requirements) (λ p f. f.lacks) ps h))

    told_lead : (o : Option Lead) → IsLead o → Told parties (Just (lead_line o)) (lead_text o)
    told_lead None h = told_just parties [] [] refl tt
    told_lead (Some l) h =
        told_line parties (line.leads l) (lead_text (Some l))
        (ap (λ (t : List ℕ). codes "path " ++ t) (sym (append_assoc (path_text l.path) (flat_map made_text l.made) newline))) h

    told_made : (e : Event) → IsLeading g e → Told parties (Just (made_lines g e)) (event_lead g e)
    told_made (events.Advertise k bs) h = told_just parties [] [] refl tt
    told_made (events.Commit k a ds) h = told_just parties [] [] refl tt
    told_made (events.Endorse k a) h = told_just parties [] [] refl tt
    told_made (events.Init k a) h = told_just parties [] [] refl tt
    told_made (events.Authorise a n i) h = told_just parties [] [] refl tt
    told_made (events.Reveal k a x) h = told_just parties [] [] refl tt
    told_made (events.Post bytes) h = told_just parties [] [] refl tt
    told_made (events.Sign a l d) h = told_just parties [] [] refl tt
    told_made (events.Give a inputs outputs) h = told_just parties [] [] refl tt
    told_made (events.Append bytes) h = told_just parties [] [] refl tt
    told_made (events.FireInit k) h = told_just parties [] [] refl tt
    told_made (events.Fire n i) h = told_lead (lead_at g n i) h
    told_made (events.Mine n) h = told_just parties [] [] refl tt

    told_branch : (p : Prospect) → Fine p → Told parties (TellsBranch g p) (branch_text g p)
    told_branch p f =
        told_then parties (prospect_line p) (event_lead g p.event ++ requirements_text p.requirements)
        (told_line parties (event_line p) (prospect_line p) (ruling_printed p.event p.ruling) (f.spelled, f.next, f.ruled))
        (told_then parties (event_lead g p.event) (requirements_text p.requirements) (told_made p.event f.leads)
        (told_missing p.requirements f.lacks))

    told_prospects : (ps : List Prospect) → AllByRecursion Fine ps → Told parties (TellsProspects g ps) (prospects_text g ps)
    told_prospects ps h =
        told_then parties (before_text (before ps)) (flat_map (branch_text g) (from_branches ps))
        (told_before (before ps) (all_filter Fine is_before ps h))
        (told_each parties (TellsBranch g) Fine (branch_text g) told_branch (from_branches ps) (all_filter Fine _ ps h))

    -- ---- contracts

    listed_fine : (party : Option (List ℕ)) (o : Outlook) → AllByRecursion Fine o.prospects → AllByRecursion Fine (listed_of party o)
    listed_fine party o h =
        all_filter Fine (λ p. is_due (later_phase p) (next_phase (by_party party o.prospects))) (by_party party o.prospects)
        (all_filter Fine (λ p. is_asked party p) o.prospects h)

    told_contract : (party : Option (List ℕ)) (o : Outlook) → IsOutlook parties g o
        → Told parties (TellsContract party g o) (outlook_text party g o)
    told_contract party o f =
        told_then parties (codes "contract " ++ (decimal o.contract ++ newline))
        (prospects_text g (listed_of party o) ++ flat_map waits_line (of_party party o.waits))
        (told_line parties (line.contract o.contract) (codes "contract " ++ (decimal o.contract ++ newline)) refl f.contract)
        (told_then parties (prospects_text g (listed_of party o)) (flat_map waits_line (of_party party o.waits))
        (told_prospects (listed_of party o) (listed_fine party o f.prospects))
        (told_map parties (λ a. line.waits a) IsNamed waits_line (λ a. refl) (λ a h. h) (of_party party o.waits)
        (all_filter IsNamed (λ name. is_meant party name) o.waits f.waits)))

    told_all : (party : Option (List ℕ)) (os : List Outlook) → IsSayable parties g os
        → Told parties (TellsAll party g os) (outlooks_text party g os)
    told_all party os f =
        told_then parties (codes "height " ++ (decimal g.time ++ newline)) (flat_map (outlook_text party g) (filter (is_for_party party) os))
        (told_line parties (line.height g.time) (codes "height " ++ (decimal g.time ++ newline)) refl f.height)
        (told_each parties (TellsContract party g) (IsOutlook parties g) (outlook_text party g) (told_contract party)
        (filter (is_for_party party) os) (all_filter (IsOutlook parties g) (is_for_party party) os f.contracts))

-- ---- the whole text

abbrev some_lines : List NextLine → Option (List NextLine)
some_lines ls = Some ls

told_read : (parties : List (List ℕ)) (lines : List NextLine) (text : List ℕ) → text ≡ text_of lines → AllByRecursion (IsLine parties) lines
    → next_of parties text ≡ some_lines lines
unfolding next_of
told_read parties lines text are fine =
    ap (λ (t : List ℕ). all_of (next_line parties) (lines_of t)) are ∙ text_back parties lines fine

pub outlooks_back : OutlooksReadBack
outlooks_back parties party g os h =
    let t = told_all parties g party os h in
    record { lines = t.lines; read = told_read parties t.lines (outlooks_text party g os) t.are t.fine; tells = t.tells }

pub same_outlooks : SameOutlooksTellTheSame
same_outlooks parties party g h os others f k e =
    let a : IsReadAs parties party g os (outlooks_text party g os) = outlooks_back parties party g os f in
    let b : IsReadAs parties party h others (outlooks_text party h others) = outlooks_back parties party h others k in
    let same : b.lines ≡ a.lines = some_is b.lines a.lines (sym b.read ∙ (ap (next_of parties) (sym e) ∙ a.read)) in
    record { lines = a.lines; one = a.tells; other = subst (λ (ls : List NextLine). TellsAll party h others ls) same b.tells }

next_lines : (party : Option (List ℕ)) (s : Setup) (es : List Event)
    → next_text forms.Lines party s es
    ≡ outlooks_text party (last_configuration s es) (outlooks s (last_configuration s es) (last_world s es))
unfolding next_text
next_lines party s es = refl

pub next_back : NextIsReadBack
next_back form party s es text told lines h =
    let g = last_configuration s es in
    let os = outlooks s g (last_world s es) in
    subst (λ (t : List ℕ). IsReadAs s.header.parties party g os t)
    (sym (told ∙ ap (λ (f : Form). next_text f party s es) lines ∙ next_lines party s es))
    (outlooks_back s.header.parties party g os h)
