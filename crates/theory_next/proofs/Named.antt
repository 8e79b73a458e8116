-- A contract waits for a party exactly where a printed line names it for something that it can do now, or says that it can do what an event
-- lacks that isn't printed.
use Rattle.std.proofs.Common.{◌≡◌, ℕ, ◌<◌, List, [], ◌∷◌, ◌++◌, map, Bool, true, false, Option, Some, None, refl, sym, ap, ◌∙◌, subst, inl, inr, ◌⊎◌, arith, append_assoc}
use Rattle.std.specs.Prelude.{◌==◌, codes, flat_map, not, if◌then◌else◌}
use Rattle.std.specs.List.{Contains, filter, list_all}
use Rattle.std.specs.Fmt.{decimal}
use Rattle.std.specs.Str.{bytes_eq}
use Rattle.std.proofs.lemmas.Bool.{and_from, and_parts, or_left, eq-eqb}
use Rattle.std.proofs.lemmas.List.Concat.{flat_map-append}
use Rattle.spec_terms.specs.Advert.{Advert}
use Rattle.spec_terms.specs.Precondition.{Holding, persistent}
use Rattle.spec_calculus.specs.Configuration.{Configuration}
use Rattle.spec_calculus.specs.Beginning.{contract_at, participants_of, pre_of, is_init_authorised}
use Rattle.spec_compiler.specs.Instance.{Instance}
use Rattle.spec_run.specs.declared.event.Event.{Event}
use Rattle.spec_run.specs.declared.event.Event.TheVariants as events
use Rattle.spec_run.specs.Advertising.{deposit_names}
use Rattle.spec_run.specs.Committing.{secrets_at}
use Rattle.spec_run.specs.Compiled.{compiled_instance}
use Rattle.spec_run.specs.Setup.{Setup, is_honest}
use Rattle.spec_run.specs.World.{World, is_advertised}
use Rattle.spec_run.specs.Translation.{last_configuration, last_world}
use Rattle.spec_run.specs.Statements.{IsRun}
use Rattle.spec_text.specs.RunText.{newline}
use Rattle.spec_text.specs.StepText.{branch_text as branch_words}
use Rattle.spec_next.specs.declared.lead.Lead.{Lead}
use Rattle.spec_next.specs.declared.requirement.Requirement.{Requirement}
use Rattle.spec_next.specs.declared.requirement.Requirement.TheVariants as requirements
use Rattle.spec_next.specs.declared.outlook.Ruling.{Ruling}
use Rattle.spec_next.specs.declared.outlook.Ruling.TheVariants as rulings
use Rattle.spec_next.specs.declared.outlook.Prospect.{Prospect}
use Rattle.spec_next.specs.declared.outlook.Outlook.{Outlook}
use Rattle.spec_next.specs.Candidates.{has_endorsed, candidates}
use Rattle.spec_next.specs.Hands.{is_in_hand}
use Rattle.spec_next.specs.Leads.{lead_at}
use Rattle.spec_next.specs.Listed.{phase, is_later, before, from_branches, is_before, is_by, is_asked, by_party, is_meant, of_party, listed_of}
use Rattle.spec_next.specs.OutlookText.{prospect_line, ruling_line, lead_line, lead_text, event_lead, before_text, branch_text, prospects_text, waits_line, contract_line, outlook_text}
use Rattle.spec_next.specs.Prospects.{ruling, is_never, is_refused, is_lost, is_shown, is_over, requirements_by, outstanding, prospect, awaited, outlook}
use Rattle.spec_next.specs.Requirements.{Condition, agreed, isnt_gone, endorsed, endorsed_for, started, conditions, unmet, requirements_of}
use Rattle.spec_next.specs.Together.{spaced, ending, together_text, is_alike, parties_alike, joined_text, joined_line, requirements_text}
use Rattle.theory_calculus.specs.Members.{Is_in}
use Rattle.theory_calculus.proofs.Members.{in_left, in_right, in_filter, filter_has, in_from_contains, contains_from_in, all_in, all_append}
use Rattle.theory_calculus.proofs.Names.{bytes-true, bytes_refl}
use Rattle.theory_next.specs.Listed.{ComesLater}
use Rattle.theory_next.specs.Named.{requirement_lines, lead_lines, event_lines, branch_lines, all_missing, prospects_lines, printed_lines, in_lines}
use Rattle.theory_next.specs.Named.{NamesParty, IsTogether, IsNamed, IsOffered, MayWait, PrintsAll, WaitsByLines, WaitsAreNamed}
use Rattle.theory_next.specs.Waits.{IsIts, IsGivenBy, GivenByEvent, GivenByHand, CanGive}
use Rattle.theory_next.proofs.Asked.{events_asked}
use Rattle.theory_next.proofs.Complete.{in_flat_map, from_flat_map}
use Rattle.theory_next.proofs.Exact.{in_map, from_map, is_failing}
use Rattle.theory_next.proofs.Listed.{nothing_is_left_out}
use Rattle.theory_next.proofs.Never.{in_living, in_useful, lacks_condition}
use Rattle.theory_next.proofs.Said.{can_is_meant}
use Rattle.theory_next.proofs.Together.{lines_name_all}
use Rattle.theory_next.proofs.Waits.{committing_requirement, waits_are_meant}

-- ---- the text is its lines

lines_append : (xs ys : List (List ℕ)) → in_lines (xs ++ ys) ≡ in_lines xs ++ in_lines ys
lines_append xs ys = flat_map-append (λ (line : List ℕ). line) xs ys

lines_map : {A : Type 0} (f : A → List ℕ) (xs : List A) → flat_map f xs ≡ in_lines (map f xs)
lines_map f [] = refl
lines_map f (x ∷ xs) = ap (λ ys. f x ++ ys) (lines_map f xs)

lines_each : {A : Type 0} (f : A → List ℕ) (h : A → List (List ℕ)) → ((x : A) → f x ≡ in_lines (h x)) → (xs : List A)
    → flat_map f xs ≡ in_lines (flat_map h xs)
lines_each f h e [] = refl
lines_each f h e (x ∷ xs) = (λ i. e x i ++ lines_each f h e xs i) ∙ sym (lines_append (h x) (flat_map h xs))

nothing_behind : (xs : List ℕ) → xs ≡ xs ++ []
nothing_behind [] = refl
nothing_behind (x ∷ xs) = ap (λ (ys : List ℕ). x ∷ ys) (nothing_behind xs)

lead_is : (l : Option Lead) → lead_text l ≡ in_lines (lead_lines l)
lead_is None = refl
lead_is (Some l) = nothing_behind (lead_line l)

event_is : (g : Configuration) (e : Event) → event_lead g e ≡ in_lines (event_lines g e)
event_is g (events.Fire n i) = lead_is (lead_at g n i)
event_is g _ = refl

branch_is : (g : Configuration) (p : Prospect) → branch_text g p ≡ in_lines (branch_lines g p)
branch_is g p =
    ap (λ t. prospect_line p ++ t)
    (ap (λ t. t ++ requirements_text p.requirements) (event_is g p.event)
    ∙ sym (lines_append (event_lines g p.event) (requirement_lines p.requirements)))

before_is : (ps : List Prospect) → before_text ps ≡ in_lines (map prospect_line ps ++ requirement_lines (all_missing ps))
before_is ps =
    ap (λ t. t ++ requirements_text (all_missing ps)) (lines_map prospect_line ps)
    ∙ sym (lines_append (map prospect_line ps) (requirement_lines (all_missing ps)))

prospects_are : (g : Configuration) (ps : List Prospect) → prospects_text g ps ≡ in_lines (prospects_lines g ps)
prospects_are g ps =
    (λ i. before_is (before ps) i ++ lines_each (branch_text g) (branch_lines g) (branch_is g) (from_branches ps) i)
    ∙ sym (lines_append (map prospect_line (before ps) ++ requirement_lines (all_missing (before ps))) (flat_map (branch_lines g) (from_branches ps)))

text_is : (asker : Option (List ℕ)) (g : Configuration) (o : Outlook) → outlook_text asker g o ≡ in_lines (printed_lines asker g o)
text_is asker g o =
    ap (λ t. contract_line o.contract ++ t)
    ((λ i. prospects_are g (listed_of asker o) i ++ lines_map waits_line (of_party asker o.waits) i)
    ∙ sym (lines_append (prospects_lines g (listed_of asker o)) (map waits_line (of_party asker o.waits))))

-- ---- the lines that are printed

module _ (asker : Option (List ℕ)) (g : Configuration) (o : Outlook) where
  abbrev ps : List Prospect
  ps = listed_of asker o

  abbrev first : List (List ℕ)
  first = map prospect_line (before ps) ++ requirement_lines (all_missing (before ps))

  abbrev last : List (List ℕ)
  last = flat_map (branch_lines g) (from_branches ps)

  in_prospects : (line : List ℕ) → Is_in line (prospects_lines g ps) → Contains (printed_lines asker g o) line
  in_prospects line i =
      contains_from_in (printed_lines asker g o) line
      (inr (in_left line (prospects_lines g ps) (map waits_line (of_party asker o.waits)) i))

  -- of an event that is listed
  line_of : (p : Prospect) → Is_in p ps → Contains (printed_lines asker g o) (prospect_line p)
  line_of p i = by_place (is_before p) refl
    where
      by_place : (b : Bool) → is_before p ≡ b → Contains (printed_lines asker g o) (prospect_line p)
      by_place true e =
          in_prospects (prospect_line p)
          (in_left (prospect_line p) first last
          (in_left (prospect_line p) (map prospect_line (before ps)) (requirement_lines (all_missing (before ps)))
          (in_map prospect_line (before ps) p (filter_has is_before ps p i e))))
      by_place false e =
          in_prospects (prospect_line p)
          (in_right (prospect_line p) first last
          (in_flat_map (branch_lines g) (from_branches ps) p (prospect_line p) (filter_has (λ q. not (is_before q)) ps p i (ap not e)) (inl refl)))

  -- of what is missing for one
  line_is : (all : List Requirement) (x : Requirement) → Is_in x all → Is_in (joined_line all x) (requirement_lines all)
  line_is all x i =
      in_from_contains (requirement_lines all) (joined_line all x) ((lines_name_all all x).printed (contains_from_in all x i))

  record Printed (p : Prospect) (x : Requirement) : Type 0 where
    all : List Requirement
    together : IsTogether asker o all
    there : Is_in x all
    line : Contains (printed_lines asker g o) (joined_line all x)

  missing_of : (p : Prospect) (x : Requirement) → Is_in p ps → Is_in x p.requirements → Printed p x
  missing_of p x i m = by_place (is_before p) refl
    where
      by_place : (b : Bool) → is_before p ≡ b → Printed p x
      by_place true e =
          let there = in_flat_map (λ (q : Prospect). q.requirements) (before ps) p x (filter_has is_before ps p i e) m in
          let all = all_missing (before ps) in
          record {
            all = all;
            together = inl refl;
            there = there;
            line = in_prospects (joined_line all x)
                (in_left (joined_line all x) first last
                (in_right (joined_line all x) (map prospect_line (before ps)) (requirement_lines all) (line_is all x there)));
          }
      by_place false e =
          let f = filter_has (λ q. not (is_before q)) ps p i (ap not e) in
          let all = p.requirements in
          record {
            all = all;
            together = inr (p, contains_from_in (from_branches ps) p f, refl);
            there = m;
            line = in_prospects (joined_line all x)
                (in_right (joined_line all x) first last
                (in_flat_map (branch_lines g) (from_branches ps) p (joined_line all x) f
                (inr (in_right (joined_line all x) (event_lines g p.event) (requirement_lines all) (line_is all x m)))));
          }

  -- it is missing for an event that is listed
  record OfListed (x : Requirement) : Type 0 where
    one : Prospect
    there : Is_in one ps
    missing : Is_in x one.requirements

  of_listed : (all : List Requirement) (x : Requirement) → IsTogether asker o all → Is_in x all → OfListed x
  of_listed all x (inl e) i =
      let f = from_flat_map (λ (q : Prospect). q.requirements) (before ps) x (subst (λ xs. Is_in x xs) e i) in
      record { one = f.from; there = (in_filter is_before ps f.from f.there).0; missing = f.made }
  of_listed all x (inr t) i =
      let f = in_filter (λ q. not (is_before q)) ps t.0 (in_from_contains (from_branches ps) t.0 t.1) in
      record { one = t.0; there = f.0; missing = subst (λ xs. Is_in x xs) t.2 i }

-- ---- a line names whom it is for

-- the rest of several names begins with a blank
record Begins (text : List ℕ) : Type 0 where
  rest : List ℕ
  is : text ≡ codes " " ++ rest

begins : (names : List (List ℕ)) (rest : List ℕ) → Begins (flat_map spaced names ++ (codes " " ++ rest))
begins [] rest = record { rest = rest; is = refl }
begins (name ∷ names) rest = record {
  rest = name ++ (flat_map spaced names ++ (codes " " ++ rest));
  is = append_assoc (spaced name) (flat_map spaced names) (codes " " ++ rest);
}

among_names : (names : List (List ℕ)) (rest party : List ℕ) → Is_in party names → NamesParty (flat_map spaced names ++ (codes " " ++ rest)) party
among_names [] rest party h = absurd h
among_names (name ∷ names) rest party (inl e) =
    let b = begins names rest in
    record {
      front = [];
      back = b.rest;
      is = append_assoc (spaced name) (flat_map spaced names) (codes " " ++ rest) ∙ ap (λ t. spaced name ++ t) b.is
          ∙ ap (λ n. spaced n ++ (codes " " ++ b.rest)) (sym e);
    }
among_names (name ∷ names) rest party (inr i) =
    let r = among_names names rest party i in
    record {
      front = spaced name ++ r.front;
      back = r.back;
      is = append_assoc (spaced name) (flat_map spaced names) (codes " " ++ rest) ∙ ap (λ t. spaced name ++ t) r.is
          ∙ sym (append_assoc (spaced name) r.front (codes " " ++ (party ++ (codes " " ++ r.back))));
    }

-- text behind and before it changes nothing
behind : (line party more : List ℕ) → NamesParty line party → NamesParty (line ++ more) party
behind line party more n = record {
  front = n.front;
  back = n.back ++ more;
  is = ap (λ t. t ++ more) n.is
      ∙ append_assoc n.front (codes " " ++ (party ++ (codes " " ++ n.back))) more
      ∙ ap (λ t. n.front ++ (codes " " ++ t)) (append_assoc party (codes " " ++ n.back) more);
}

ahead_of : (first line party : List ℕ) → NamesParty line party → NamesParty (first ++ line) party
ahead_of first line party n = record {
  front = first ++ n.front;
  back = n.back;
  is = ap (λ t. first ++ t) n.is ∙ sym (append_assoc first n.front (codes " " ++ (party ++ (codes " " ++ n.back))));
}

-- ` of A ` names A
of_whom : (party rest : List ℕ) → NamesParty (codes " of " ++ (party ++ (codes " " ++ rest))) party
of_whom party rest = record { front = codes " of"; back = rest; is = refl }

several : (names : List (List ℕ)) (verb what party : List ℕ) → Is_in party names → NamesParty (together_text names verb what) party
several names verb what party i =
    ahead_of (codes "needs") (flat_map spaced names ++ (codes " " ++ (verb ++ (ending names ++ what)))) party
    (among_names names (verb ++ (ending names ++ what)) party i)

same_number : (n : ℕ) → (n == n) ≡ true
same_number n = eq-eqb n n refl

-- of those who lack the same, it is one
is_among_alike : (all : List Requirement) (x : Requirement) (party : List ℕ) → Is_in x all → is_alike x x ≡ true → awaited x ≡ Some party
    → Is_in party (parties_alike all x)
is_among_alike all x party i alike whose =
    in_from_contains (parties_alike all x) party
    (((lines_name_all all x).parties party).1 (record { other = x; there = contains_from_in all x i; alike = alike; its = whose }))

text_names : (all : List Requirement) (x : Requirement) (party : List ℕ) → Is_in x all → IsIts x party → NamesParty (joined_text all x) party
text_names all (requirements.Commitment who k) party i h =
    several (parties_alike all (requirements.Commitment who k)) (codes "commit") (decimal k) party
    (is_among_alike all (requirements.Commitment who k) party i (same_number k) (ap Some h))
text_names all (requirements.Endorsement who k) party i h =
    several (parties_alike all (requirements.Endorsement who k)) (codes "endorse") (decimal k) party
    (is_among_alike all (requirements.Endorsement who k) party i (same_number k) (ap Some h))
text_names all (requirements.Start who k) party i h =
    several (parties_alike all (requirements.Start who k)) (codes "init") (decimal k) party
    (is_among_alike all (requirements.Start who k) party i (same_number k) (ap Some h))
text_names all (requirements.Authorisation who n j) party i h =
    several (parties_alike all (requirements.Authorisation who n j)) (codes "authorise") (branch_words n j) party
    (is_among_alike all (requirements.Authorisation who n j) party i (and_from _ _ (same_number n) (same_number j)) (ap Some h))
text_names all (requirements.Digest who k secret) party i h =
    subst (NamesParty (joined_text all (requirements.Digest who k secret))) h
    (ahead_of (codes "needs digest ") _ who (ahead_of secret _ who (of_whom who _)))
text_names all (requirements.Secret who k secret) party i h =
    subst (NamesParty (joined_text all (requirements.Secret who k secret))) h
    (ahead_of (codes "needs secret ") _ who (ahead_of secret _ who (of_whom who _)))
text_names all (requirements.Posted who secret) party i h =
    subst (NamesParty (joined_text all (requirements.Posted who secret))) h
    (ahead_of (codes "needs secret ") _ who (ahead_of secret _ who (of_whom who _)))
text_names all _ party i h = absurd h

line_names : (all : List Requirement) (x : Requirement) (party : List ℕ) → Is_in x all → IsIts x party → NamesParty (joined_line all x) party
line_names all x party i h = behind (joined_text all x) party newline (text_names all x party i h)

-- ---- a secret to be posted is missing for branches alone

abbrev is_posted : Requirement → Bool
is_posted (requirements.Posted party secret) = true
is_posted _ = false

abbrev is_else : Condition → Bool
is_else c = not (is_posted (c.1))

all_else : {A : Type 0} (f : A → Condition) → ((x : A) → is_else (f x) ≡ true) → (xs : List A) → list_all is_else (map f xs) ≡ true
all_else f h [] = refl
all_else f h (x ∷ xs) = and_from _ _ (h x) (all_else f h xs)

else_agreed : (g : Configuration) (k : ℕ) → list_all is_else (agreed g k) ≡ true
else_agreed g k = all_else _ (λ x. refl) (participants_of (contract_at g.contracts k))

else_started : (g : Configuration) (k : ℕ) (ds : List (List ℕ × Holding)) → list_all is_else (started g k ds) ≡ true
else_started g k ds =
    all_append is_else
    (map (λ (d : List ℕ × Holding). (isnt_gone g k (d.0), requirements.Gone (d.0))) ds)
    (map (λ (d : List ℕ × Holding). (is_init_authorised g.init_authorised k (d.0), requirements.Start (d.1).owner k)) ds)
    (all_else _ (λ x. refl) ds) (all_else _ (λ x. refl) ds)

else_endorsed : (s : Setup) (w : World) (k : ℕ) (who : List ℕ) (o : Option Instance) (ps : List (List ℕ))
    → list_all is_else (endorsed_for s w k who o ps) ≡ true
else_endorsed s w k who None ps = refl
else_endorsed s w k who (Some instance) ps = by_honesty (is_honest s who)
  where
    by_honesty : (b : Bool) → list_all is_else (if b then endorsed s w k instance ps else []) ≡ true
    by_honesty true = all_else (λ (p : List ℕ). (has_endorsed s w (Some instance) p, requirements.Endorsement p k)) (λ y. refl) ps
    by_honesty false = refl

module _ (s : Setup) (g : Configuration) (w : World) (who secret : List ℕ) where
  abbrev posted : Requirement
  posted = requirements.Posted who secret

  never_posted : (e : Event) → list_all is_else (conditions s g w e) ≡ true → Is_in posted (unmet (conditions s g w e)) → ⊥
  never_posted e h i =
      let cs = conditions s g w e in
      let f = is_failing cs posted i in
      let t = all_in is_else cs f.condition h (in_from_contains cs f.condition f.there) in
      let d : is_posted (f.condition.1) ≡ true = ap is_posted f.outstanding in
      apart (is_posted (f.condition.1)) d t
    where
      apart : (b : Bool) → b ≡ true → not b ≡ true → ⊥
      apart true e h = cc
      apart false e h = cc

  -- anybody can bring it, and it has no phase
  record IsFree (e : Event) : Type 0 where
    by_all : (party : List ℕ) → is_by party e ≡ true
    no_phase : phase e ≡ None

  posting_branch : (e : Event) → Is_in posted (unmet (conditions s g w e)) → IsFree e
  posting_branch (events.Advertise k bindings) h =
      absurd (never_posted (events.Advertise k bindings) (all_else _ (λ x. refl) (deposit_names s k)) h)
  posting_branch (events.Commit k party digests) h =
      absurd (never_posted (events.Commit k party digests) (all_else _ (λ x. refl) (secrets_at s k party)) h)
  posting_branch (events.Endorse k party) h = absurd (never_posted (events.Endorse k party) (else_agreed g k) h)
  posting_branch (events.Init k party) h =
      let people = participants_of (contract_at g.contracts k) in
      let instance = compiled_instance s w k in
      absurd (never_posted (events.Init k party) (all_append is_else (agreed g k) (endorsed_for s w k party instance people)
      (else_agreed g k) (else_endorsed s w k party instance people)) h)
  posting_branch (events.FireInit k) h =
      let ds = persistent (pre_of (contract_at g.contracts k)) in
      absurd (never_posted (events.FireInit k) (all_append is_else (agreed g k) (started g k ds) (else_agreed g k) (else_started g k ds)) h)
  posting_branch (events.Reveal k party name) h = absurd (never_posted (events.Reveal k party name) refl h)
  posting_branch (events.Fire n i) h = record { by_all = λ party. refl; no_phase = refl }
  posting_branch (events.Authorise party n i) h = absurd h
  posting_branch (events.Post bytes) h = absurd h
  posting_branch (events.Sign party label digest) h = absurd h
  posting_branch (events.Give party inputs outputs) h = absurd h
  posting_branch (events.Append bytes) h = absurd h
  posting_branch (events.Mine blocks) h = absurd h

-- ---- whose events they are

meant_is : (asker : Option (List ℕ)) (party : List ℕ) (p : Prospect) → is_meant asker party ≡ true → is_by party p.event ≡ true
    → is_asked asker p ≡ true
meant_is None party p m h = refl
meant_is (Some who) party p m h =
    or_left _ _ (subst (λ (y : List ℕ). is_by y p.event ≡ true) (bytes-true party who m) h)

-- what gives what is the party's to give is the party's own event
own_event : (x : Requirement) (party : List ℕ) (e : Event) → IsIts x party → IsGivenBy x e → is_by party e ≡ true
own_event (requirements.Commitment who k) party e h q = ap (is_by party) q.1 ∙ subst (λ y. bytes_eq who y ≡ true) h (bytes_refl who)
own_event (requirements.Endorsement who k) party e h q = ap (is_by party) q ∙ subst (λ y. bytes_eq who y ≡ true) h (bytes_refl who)
own_event (requirements.Start who k) party e h q = ap (is_by party) q ∙ subst (λ y. bytes_eq who y ≡ true) h (bytes_refl who)
own_event (requirements.Authorisation who n i) party e h q = ap (is_by party) q ∙ subst (λ y. bytes_eq who y ≡ true) h (bytes_refl who)
own_event (requirements.Secret who k secret) party e h q = ap (is_by party) q ∙ subst (λ y. bytes_eq who y ≡ true) h (bytes_refl who)
own_event _ party e h q = absurd q

below_one : (n m : ℕ) → n ≡ 1 → m < n → m ≡ 0
below_one n m e h = omega (arith, e, h)

some_is : {a b : ℕ} → Some a ≡ Some b → a ≡ b
some_is q = cc

-- an event of the first phase advertises
record Advertises (e : Event) : Type 0 where
  contract : ℕ
  bindings : List (List ℕ × ℕ)
  is : e ≡ events.Advertise contract bindings

first_phase : (e : Event) → phase e ≡ Some 0 → Advertises e
first_phase (events.Advertise k bindings) h = record { contract = k; bindings = bindings; is = refl }
first_phase (events.Commit k party digests) h = let z : 1 ≡ 0 = some_is h in absurd (omega (arith, z))
first_phase (events.Endorse k party) h = let z : 2 ≡ 0 = some_is h in absurd (omega (arith, z))
first_phase (events.Init k party) h = let z : 3 ≡ 0 = some_is h in absurd (omega (arith, z))
first_phase (events.FireInit k) h = let z : 4 ≡ 0 = some_is h in absurd (omega (arith, z))
first_phase (events.Reveal k party secret) h = let z : 5 ≡ 0 = some_is h in absurd (omega (arith, z))
first_phase (events.Authorise party n i) h = cc
first_phase (events.Fire n i) h = cc
first_phase (events.Post bytes) h = cc
first_phase (events.Sign party label digest) h = cc
first_phase (events.Give party inputs outputs) h = cc
first_phase (events.Append bytes) h = cc
first_phase (events.Mine blocks) h = cc

-- ---- a contract after a run

module _ (s : Setup) (es : List Event) (run : IsRun s es) (asker : Option (List ℕ)) (k : ℕ) (c : Advert)
    (at : contract_at (last_configuration s es).contracts k ≡ Some c) where
  abbrev here : Configuration
  here = last_configuration s es

  abbrev now : World
  now = last_world s es

  abbrev o : Outlook
  o = outlook s here now k c

  abbrev all_events : List Event
  all_events = candidates s here now k c

  -- it is what a candidate comes to, which is shown
  record Stands (p : Prospect) : Type 0 where
    event : Event
    is : p ≡ prospect s here now event
    candidate : Is_in event all_events
    shown : is_shown s now event (ruling s now event) ≡ true

  stands : (p : Prospect) → Is_in p o.prospects → Stands p
  stands p i =
      let m = from_map (prospect s here now) (filter (λ e. is_shown s now e (ruling s now e)) all_events) p
      (in_useful (is_over here now k) _ p (in_living _ p i)) in
      let f = in_filter (λ e. is_shown s now e (ruling s now e)) all_events m.0 m.1 in
      record { event = m.0; is = m.2; candidate = f.0; shown = f.1 }

  -- what may come and is missing for it fails of its conditions
  fails_of : (x : Requirement) → is_never x ≡ false → (e : Event) → Is_in x (prospect s here now e).requirements
      → Is_in x (requirements_of s here now e)
  fails_of x may e h = by_ruling (ruling s now e) h
    where
      by_ruling : (r : Ruling) → Is_in x (requirements_by (outstanding s here now e) r) → Is_in x (requirements_of s here now e)
      by_ruling rulings.Can n = absurd n
      by_ruling (rulings.Cannot reason) n =
          (in_filter (λ y. not (is_in_hand s now y)) (requirements_of s here now e) x
          (lacks_condition reason (outstanding s here now e) x may n)).0
      by_ruling rulings.Halts n = absurd n

  -- the contract of an event that is asked
  of_advert : (j : ℕ) (bs : List (List ℕ × ℕ)) → Is_in (events.Advertise j bs) all_events → j ≡ k
  of_advert j bs i = ((events_asked.asked s here now k c (events.Advertise j bs)).0 (contains_from_in all_events (events.Advertise j bs) i)).0

  of_commit : (j : ℕ) (party : List ℕ) (ds : List (List ℕ × List ℕ)) → Is_in (events.Commit j party ds) all_events → j ≡ k
  of_commit j party ds i =
      ((events_asked.asked s here now k c (events.Commit j party ds)).0 (contains_from_in all_events (events.Commit j party ds) i)).0

  -- nothing that is refused goes before a commitment, once the contract is advertised
  none_sooner : is_advertised now k ≡ true → (p : Prospect) → phase p.event ≡ Some 1 → ComesLater (by_party asker o.prospects) p → ⊥
  none_sooner told p one l =
      let m : l.of_phase ≡ 1 = some_is (sym l.is_of ∙ one) in
      let z : l.sooner_phase ≡ 0 = below_one l.of_phase l.sooner_phase m l.before in
      let t = (nothing_is_left_out asker o).own l.sooner l.there in
      let st = stands l.sooner (in_from_contains o.prospects l.sooner t.0) in
      let ph : phase st.event ≡ Some 0 = ap (λ (q : Prospect). phase q.event) (sym st.is) ∙ l.is_sooner ∙ ap Some z in
      let a = first_phase st.event ph in
      let refused : is_refused (ruling s now st.event) ≡ true =
      ap (λ (q : Prospect). is_refused q.ruling) (sym st.is) ∙ (later_parts l.sooner l.may_come) in
      by_ruling st.event a (ruling s now st.event) refused st.candidate st.shown
    where
      later_parts : (q : Prospect) → is_later q ≡ true → is_refused q.ruling ≡ true
      later_parts q h = (and_parts (is_refused q.ruling) (not (is_lost q)) h).0

      by_ruling : (e : Event) (a : Advertises e) (r : Ruling) → is_refused r ≡ true → Is_in e all_events → is_shown s now e r ≡ true → ⊥
      by_ruling e a rulings.Can f i h = cc
      by_ruling e a rulings.Halts f i h = cc
      by_ruling e a (rulings.Cannot reason) f i h =
          let j = of_advert a.contract a.bindings (subst (λ (y : Event). Is_in y all_events) a.is i) in
          let free : not (is_advertised now a.contract) ≡ true =
          subst (λ (y : Event). is_shown s now y (rulings.Cannot reason) ≡ true) a.is h in
          apart (is_advertised now k) told (subst (λ (n : ℕ). not (is_advertised now n) ≡ true) j free)
        where
          apart : (b : Bool) → b ≡ true → not b ≡ true → ⊥
          apart true e h = cc
          apart false e h = cc

  -- an event for which something by hand is missing is printed for whom it is missing
  record IsOpen (p : Prospect) (party : List ℕ) : Type 0 where
    asked : is_asked asker p ≡ true
    none_later : ComesLater (by_party asker o.prospects) p → ⊥

  by_hand : (p : Prospect) (x : Requirement) (party : List ℕ) → Is_in p o.prospects → Is_in x p.requirements → IsIts x party
      → is_meant asker party ≡ true → GivenByHand s now x → IsOpen p party
  by_hand p (requirements.Digest who j secret) party i m h meant given =
      let st = stands p i in
      let n = fails_of (requirements.Digest who j secret) refl st.event (subst (λ (q : Prospect). Is_in (requirements.Digest who j secret) q.requirements) st.is m) in
      let u = committing_requirement s here now who j secret st.event n in
      let is_event : p.event ≡ events.Commit j who u.digests = ap (λ (q : Prospect). q.event) st.is ∙ u.is in
      let same : j ≡ k = of_commit j who u.digests (subst (λ (y : Event). Is_in y all_events) u.is st.candidate) in
      record {
        asked = meant_is asker party p meant
            (ap (is_by party) is_event ∙ subst (λ y. bytes_eq who y ≡ true) h (bytes_refl who));
        none_later = none_sooner (subst (λ (n : ℕ). is_advertised now n ≡ true) same given.advertised) p (ap phase is_event);
      }
  by_hand p (requirements.Posted who secret) party i m h meant given =
      let st = stands p i in
      let n = fails_of (requirements.Posted who secret) refl st.event (subst (λ (q : Prospect). Is_in (requirements.Posted who secret) q.requirements) st.is m) in
      let f = posting_branch s here now who secret st.event n in
      let is_event : p.event ≡ st.event = ap (λ (q : Prospect). q.event) st.is in
      record {
        asked = meant_is asker party p meant (ap (is_by party) is_event ∙ f.by_all party);
        none_later = λ l. no_phase_later (ap phase is_event ∙ f.no_phase) l;
      }
    where
      no_phase_later : phase p.event ≡ None → ComesLater (by_party asker o.prospects) p → ⊥
      no_phase_later e l = let z : None ≡ Some l.of_phase = sym e ∙ l.is_of in cc
  by_hand p _ party i m h meant given = absurd given

  -- an event that can come is printed, if it is asked for
  can_line : (p : Prospect) → Contains o.prospects p → is_asked asker p ≡ true → p.ruling ≡ rulings.Can → Is_in p (listed_of asker o)
  can_line p i a can = elim ((nothing_is_left_out asker o).all p i a) [
    | inl l ↦ in_from_contains (listed_of asker o) p l
    | inr l ↦ absurd (not_later l.later)
  ]
    where
      not_later : is_later p ≡ true → ⊥
      not_later h = let z : false ≡ true = sym (ap is_refused can) ∙ (and_parts (is_refused p.ruling) (not (is_lost p)) h).0 in cc

  -- ---- both ways

  named_by : (party : List ℕ) (give : CanGive s here now o party) → Is_in give.lacking (listed_of asker o) → IsNamed s here now asker o party
  named_by party give i =
      let p = missing_of asker here o give.lacking give.requirement i
      (in_from_contains give.lacking.requirements give.requirement give.outstanding) in
      record {
        all = p.all;
        together = p.together;
        requirement = give.requirement;
        there = contains_from_in p.all give.requirement p.there;
        line = p.line;
        names = line_names p.all give.requirement party p.there give.its;
        its = give.its;
        given = give.given;
      }

  offered_by : (party : List ℕ) → is_meant asker party ≡ true → (give : CanGive s here now o party)
      → (is_asked asker give.lacking ≡ false) ⊎ ComesLater (by_party asker o.prospects) give.lacking
      → GivenByEvent s here now o give.requirement → IsOffered s here now asker o party
  offered_by party meant give left e =
      let p = prospect s here now e.event in
      let can : p.ruling ≡ rulings.Can = (can_is_meant s now e.event).1 e.goes in
      let asked : is_asked asker p ≡ true = meant_is asker party p meant (own_event give.requirement party e.event give.its e.gives_it) in
      let i = can_line p e.listed asked can in
      record {
        event = e.event;
        line = subst (λ t. Contains (printed_lines asker here o) t) (ap (ruling_line e.event) can) (line_of asker here o p i);
        goes = e.goes;
        lacking = give.lacking;
        ahead = give.shown;
        left_out = left;
        requirement = give.requirement;
        outstanding = give.outstanding;
        its = give.its;
        gives_it = e.gives_it;
        listed = e.listed;
      }

  -- what is missing is printed, or its event is left out
  printed_or : (p : Prospect) → Contains o.prospects p
      → Is_in p (listed_of asker o) ⊎ ((is_asked asker p ≡ false) ⊎ ComesLater (by_party asker o.prospects) p)
  printed_or p i = by_test (is_asked asker p) refl
    where
      by_test : (b : Bool) → is_asked asker p ≡ b → Is_in p (listed_of asker o) ⊎ ((is_asked asker p ≡ false) ⊎ ComesLater (by_party asker o.prospects) p)
      by_test false e = inr (inl e)
      by_test true e = elim ((nothing_is_left_out asker o).all p i e) [
        | inl l ↦ inl (in_from_contains (listed_of asker o) p l)
        | inr l ↦ inr (inr l)
      ]

  by_lines : (party : List ℕ) → is_meant asker party ≡ true → (give : CanGive s here now o party)
      → IsNamed s here now asker o party ⊎ IsOffered s here now asker o party
  by_lines party meant give = elim (printed_or give.lacking give.shown) [
    | inl i ↦ inl (named_by party give i)
    | inr left ↦ by_giver left give.given
  ]
    where
      hidden : IsOpen give.lacking party → (is_asked asker give.lacking ≡ false) ⊎ ComesLater (by_party asker o.prospects) give.lacking → ⊥
      hidden t (inl e) = let z : true ≡ false = sym t.asked ∙ e in cc
      hidden t (inr l) = t.none_later l

      by_giver : (is_asked asker give.lacking ≡ false) ⊎ ComesLater (by_party asker o.prospects) give.lacking
          → GivenByEvent s here now o give.requirement ⊎ GivenByHand s now give.requirement
          → IsNamed s here now asker o party ⊎ IsOffered s here now asker o party
      by_giver left (inl e) = inr (offered_by party meant give left e)
      by_giver left (inr h) =
          absurd (hidden (by_hand give.lacking give.requirement party (in_from_contains o.prospects give.lacking give.shown)
          (in_from_contains give.lacking.requirements give.requirement give.outstanding) give.its meant h) left)

  gives_named : (party : List ℕ) → IsNamed s here now asker o party → CanGive s here now o party
  gives_named party n =
      let l = of_listed asker here o n.all n.requirement n.together (in_from_contains n.all n.requirement n.there) in
      record {
        lacking = l.one;
        shown = ((nothing_is_left_out asker o).own l.one (contains_from_in (listed_of asker o) l.one l.there)).0;
        requirement = n.requirement;
        outstanding = contains_from_in l.one.requirements n.requirement l.missing;
        its = n.its;
        given = n.given;
      }

  gives_offered : (party : List ℕ) → IsOffered s here now asker o party → CanGive s here now o party
  gives_offered party n = record {
    lacking = n.lacking;
    shown = n.ahead;
    requirement = n.requirement;
    outstanding = n.outstanding;
    its = n.its;
    given = inl (record { event = n.event; gives_it = n.gives_it; listed = n.listed; goes = n.goes });
  }

  -- `waits A` is printed exactly where A may wait and can give something
  forth : (party : List ℕ) → Contains (of_party asker o.waits) party → MayWait asker c party × CanGive s here now o party
  forth party h =
      let f = in_filter (λ name. is_meant asker name) o.waits party (in_from_contains (of_party asker o.waits) party h) in
      let t = ((waits_are_meant s es run k c at).waits party).0 (contains_from_in o.waits party f.0) in
      (record { meant = f.1; participant = t.0 }, t.1)

  back : (party : List ℕ) → MayWait asker c party → CanGive s here now o party → Contains (of_party asker o.waits) party
  back party may give =
      contains_from_in (of_party asker o.waits) party
      (filter_has (λ name. is_meant asker name) o.waits party
      (in_from_contains o.waits party (((waits_are_meant s es run k c at).waits party).1 (may.participant, give))) may.meant)

  pub waits_by_lines : WaitsByLines s here now asker k c
  waits_by_lines = record {
    text = text_is asker here o;
    waits = λ party. (
      λ h. let f = forth party h in (f.0, by_lines party f.0.meant f.1),
      λ h. back party h.0 (by_either party h.1),
    );
    plainly = λ prints party. (
      λ h. let f = forth party h in (f.0, plain prints party f.1),
      λ h. back party h.0 (gives_named party h.1),
    );
  }
    where
      by_either : (party : List ℕ) → IsNamed s here now asker o party ⊎ IsOffered s here now asker o party → CanGive s here now o party
      by_either party (inl n) = gives_named party n
      by_either party (inr n) = gives_offered party n

      plain : PrintsAll asker o → (party : List ℕ) (give : CanGive s here now o party) → IsNamed s here now asker o party
      plain prints party give = elim (printed_or give.lacking give.shown) [
        | inl i ↦ named_by party give i
        | inr left ↦ elim left [
          | inl e ↦ (let z : true ≡ false = sym (prints.asked give.lacking give.shown) ∙ e in cc)
          | inr l ↦ absurd (prints.none_later give.lacking l)
        ]
      ]

pub waits_are_named : WaitsAreNamed
waits_are_named s es run asker k c at = waits_by_lines s es run asker k c at
