-- An audit of all compiled transactions finds nothing absent, and a contract of which nothing is missing is endorsed.
use Rattle.std.proofs.Common.{◌≡◌, ℕ, ◌+◌, List, [], ◌∷◌, ◌++◌, map, Bool, true, false, Option, Some, None, refl, sym, ap, ◌∙◌, subst, inl}
use Rattle.std.specs.Prelude.{not, if◌then◌else◌}
use Rattle.std.specs.List.{Contains, filter, flat_map}
use Rattle.std.specs.Option.{option_map_or}
use Rattle.std.proofs.lemmas.Bool.{and_from}
use Rattle.spec_data.specs.Digits.{read_hex}
use Rattle.spec_terms.specs.Term as term
use Rattle.spec_terms.specs.Advert.{Advert}
use Rattle.spec_terms.specs.Core.{core, puts_of, is_asked}
use Rattle.spec_terms.specs.Parties.{participants}
use Rattle.spec_terms.specs.Paths.{at}
use Rattle.spec_terms.specs.declared.path.PathStep.{PathStep}
use Rattle.spec_bitcoin.specs.declared.label.Label.{Label}
use Rattle.spec_bitcoin.specs.declared.tx.Tx.{Tx}
use Rattle.spec_bitcoin.specs.Keys.{Pair, key_of, has_signed}
use Rattle.spec_bitcoin.specs.Spelling.{Spells}
use Rattle.spec_compiler.specs.Instance.{Instance, branch_label}
use Rattle.spec_compiler.specs.declared.unsigned.Spent.{Spent}
use Rattle.spec_compiler.specs.declared.unsigned.Unsigned.{Unsigned}
use Rattle.spec_compiler.specs.declared.prepared.Prepared.{Prepared}
use Rattle.spec_compiler.specs.Transactions.{tx_of, digest_of_spent, prepared}
use Rattle.spec_compiler.specs.Compilation.{path_transactions}
use Rattle.spec_compiler.specs.Endorsements.{Need, put_owner, branch_needs, put_needs, needs_of, path_needs, is_met, all_met, is_endorsed}
use Rattle.spec_run.specs.Setup.{Setup}
use Rattle.spec_run.specs.World.{World}
use Rattle.spec_run.specs.Compiled.{compiled_instance}
use Rattle.spec_text.specs.Lines.{lines_of, words_of}
use Rattle.spec_tool.specs.declared.which.Which.{Which}
use Rattle.spec_tool.specs.declared.which.Which.TheVariants as names
use Rattle.spec_tool.specs.declared.finding.Kind.{Kind}
use Rattle.spec_tool.specs.declared.finding.Kind.TheVariants as kinds
use Rattle.spec_tool.specs.Listed.{Listed, deposit_signer, branch_signers, initial_listed, path_listed, listed}
use Rattle.spec_tool.specs.Audit.{names_in, Missing, missing_labels, missing_inputs, missing_of, listed_by, audit_report}
use Rattle.theory_calculus.proofs.Members.{all_append, contains_from_in}
use Rattle.theory_bitcoin.proofs.Top.{one_transaction}
use Rattle.theory_script.proofs.Listing.Stands.{some_same}
use Rattle.theory_audit.specs.Audited.{IsNamed, IsHexOf, IsKind, NamedNowhere}
use Rattle.theory_audit.specs.Nothing.{IsGiven, NothingLacks}
use Rattle.theory_audit.proofs.Audited.{audits_find}

-- ---- nothing is absent

-- a line says one thing
one_hex : (line bytes other : List ℕ) → IsHexOf line bytes → IsHexOf line other → bytes ≡ other
one_hex line bytes other a b =
    let words : a.0 ∷ [] ≡ b.0 ∷ [] = sym a.1 ∙ b.1 in
    let word : a.0 ≡ b.0 = cc in
    some_same (sym a.2 ∙ (ap read_hex word ∙ b.2))

module _ (s : Setup) (w : World) (k : ℕ) (line bytes : List ℕ) (tx : Tx) (which : Which) (hex : IsHexOf line bytes)
    (spelled : Spells bytes tx)
    (named : IsNamed s w k tx which) where
  -- what is said of a line that spells the transaction names it
  kind_names : (n : ℕ) (kind : Kind) → IsKind s w k line kind → Contains (names_in (record { line = n; kind = kind })) which
  kind_names n kinds.NotHex h = absurd (h bytes hex)
  kind_names n (kinds.Bad place) h =
      let same = one_hex line bytes h.0 hex h.1 in
      absurd (h.2.none tx (subst (λ x. Spells x tx) same spelled))
  kind_names n (kinds.Read all now) h =
      let same = one_hex line h.bytes bytes h.hex hex in
      let it : h.tx ≡ tx = one_transaction bytes h.tx tx (subst (λ x. Spells x h.tx) same h.spelled) spelled in
      h.all_named which (subst (λ x. IsNamed s w k x which) (sym it) named)

some_word : (line bytes : List ℕ) → IsHexOf line bytes → words_of line ≡ [] → ⊥
some_word line bytes h e = let z : h.0 ∷ [] ≡ [] = sym h.1 ∙ e in cc

first_in : {A : Type 0} (xs : List A) → ((x : A) → Contains xs x → ⊥) → xs ≡ []
first_in [] h = refl
first_in (x ∷ xs) h = absurd (h x (contains_from_in (x ∷ xs) x (inl refl)))

module _ (s : Setup) (w : World) (k : ℕ) (text : List ℕ) where
  abbrev lines : List (List ℕ)
  lines = lines_of text

  is_named : (which : Which) → IsGiven s w k lines which → NamedNowhere (audit_report s w k text).findings which → ⊥
  is_named which g none =
      let found = (audits_find.finds s w k text).findings.none_left_out g.number g.line g.there (some_word g.line g.bytes g.hex) in
      none found.0 found.1 (kind_names s w k g.line g.bytes g.tx which g.hex g.spelled g.named found.0.line found.0.kind found.2.kind)

-- ---- nothing is missing

parts_nothing : {A : Type 0} (xs ys : List A) → xs ++ ys ≡ [] → (xs ≡ []) × (ys ≡ [])
parts_nothing [] ys h = (refl, h)
parts_nothing (x ∷ xs) ys h = cc

map_nothing : {A B : Type 0} (f : A → B) (xs : List A) → map f xs ≡ [] → xs ≡ []
map_nothing f [] h = refl
map_nothing f (x ∷ xs) h = cc

module _ (hash : List ℕ → List ℕ) (book : List Pair) (contract : ℕ) (advert : Advert) (path : List PathStep) (tx : Tx) where
  abbrev lacking : ℕ → List Spent → List (List Label) → List Missing
  lacking n spends signers = missing_inputs hash book (names.At path) tx n spends signers

  abbrev digests : List Spent → List (List ℕ)
  digests spends = map (digest_of_spent hash tx) spends

  -- a label whose signature isn't missing
  signed_first : (label : Label) (labels : List Label) (digest : List ℕ) → missing_labels hash book (label ∷ labels) digest ≡ []
      → (has_signed book (key_of hash label) digest ≡ true) × (missing_labels hash book labels digest ≡ [])
  signed_first label labels digest h = by_test (has_signed book (key_of hash label) digest) refl h
    where
      by_test : (b : Bool) → has_signed book (key_of hash label) digest ≡ b
          → (if not b then label ∷ missing_labels hash book labels digest else missing_labels hash book labels digest) ≡ []
          → (has_signed book (key_of hash label) digest ≡ true) × (missing_labels hash book labels digest ≡ [])
      by_test true e x = (e, x)
      by_test false e x = cc

  abbrev need_by : List ℕ → List ℕ → Need
  need_by digest party = record { path = path; party = party; key = key_of hash (branch_label contract path party); digest = digest }

  abbrev unasked : term.Guarded → List (List ℕ) → List (List ℕ)
  unasked b parties = filter (λ party. not (is_asked b party)) parties

  branch_met : (b : term.Guarded) (digest : List ℕ) (parties : List (List ℕ))
      → missing_labels hash book (map (branch_label contract path) parties) digest ≡ []
      → all_met book (map (need_by digest) (unasked b parties)) ≡ true
  branch_met b digest [] h = refl
  branch_met b digest (p ∷ ps) h =
      let r = signed_first (branch_label contract path p) (map (branch_label contract path) ps) digest h in
      by_asked (is_asked b p) r.0 (branch_met b digest ps r.1)
    where
      by_asked : (t : Bool) → has_signed book (key_of hash (branch_label contract path p)) digest ≡ true
          → all_met book (map (need_by digest) (unasked b ps)) ≡ true
          → all_met book (map (need_by digest) (if not t then p ∷ unasked b ps else unasked b ps)) ≡ true
      by_asked true e f = f
      by_asked false e f = and_from _ _ e f

  abbrev put_signers : List (List ℕ) → List (List Label)
  put_signers puts = map (λ name. deposit_signer (put_owner advert name)) puts

  puts_met : (puts : List (List ℕ)) (spends : List Spent) (n : ℕ) → lacking n spends (put_signers puts) ≡ []
      → all_met book (put_needs hash advert path puts (digests spends)) ≡ true
  puts_met [] spends n h = refl
  puts_met (name ∷ puts) [] n h = refl
  puts_met (name ∷ puts) (x ∷ spends) n h =
      let signers = deposit_signer (put_owner advert name) in
      let digest = digest_of_spent hash tx x in
      let here = missing_labels hash book signers digest in
      let p = parts_nothing (map {B = Missing} (λ label. (names.At path, n, label)) here) (lacking (n + 1) spends (put_signers puts)) h in
      let e = map_nothing {B = Missing} (λ label. (names.At path, n, label)) here p.0 in
      and_from _ _ (signed_first _ [] digest e).0 (puts_met puts spends (n + 1) p.1)

  path_met : (b : term.Guarded) (spends : List Spent) → lacking 0 spends (branch_signers contract advert path b) ≡ []
      → all_met book (needs_of hash contract advert path b (digests spends)) ≡ true
  path_met b [] h = refl
  path_met b (x ∷ spends) h =
      let labels = map (branch_label contract path) (participants advert) in
      let digest = digest_of_spent hash tx x in
      let here = missing_labels hash book labels digest in
      let puts = puts_of (core b) in
      let p = parts_nothing (map {B = Missing} (λ label. (names.At path, 0, label)) here) (lacking (0 + 1) spends (put_signers puts)) h in
      let e = map_nothing {B = Missing} (λ label. (names.At path, 0, label)) here p.0 in
      all_append (is_met book) (branch_needs hash contract advert path b digest) (put_needs hash advert path puts (digests spends))
      (branch_met b digest (participants advert) e) (puts_met puts spends (0 + 1) p.1)

  found_met : (o : Option term.Guarded) (spends : List Spent)
      → lacking 0 spends (option_map_or (branch_signers contract advert path) o []) ≡ []
      → all_met book (option_map_or (λ b. needs_of hash contract advert path b (digests spends)) o []) ≡ true
  found_met None spends h = refl
  found_met (Some b) spends h = path_met b spends h

module _ (hash : List ℕ → List ℕ) (instance : Instance) (book : List Pair) where
  abbrev of_listed : Listed → List Missing
  of_listed l = missing_inputs hash book l.which (tx_of l.pending) 0 l.pending.spends l.signers

  entries_met : (es : List (List PathStep × Unsigned)) → flat_map of_listed (map (λ p. path_listed instance (p.0) (p.1)) es) ≡ []
      → all_met book (flat_map (λ (p : List PathStep × Prepared). path_needs hash instance.contract instance.advert p.0 p.1)
      (map {B = List PathStep × Prepared} (λ p. (p.0, prepared hash p.1)) es)) ≡ true
  entries_met [] h = refl
  entries_met (e ∷ es) h =
      let first = path_listed instance (e.0) (e.1) in
      let p = parts_nothing (of_listed first) (flat_map of_listed (map (λ q. path_listed instance (q.0) (q.1)) es)) h in
      all_append (is_met book) (path_needs hash instance.contract instance.advert e.0 (prepared hash e.1)) _
      (found_met hash book instance.contract instance.advert (e.0) (tx_of (e.1)) (at instance.advert.root (e.0)) (e.1).spends p.0)
      (entries_met es p.1)

  all_endorsed : missing_of hash book (listed hash instance) ≡ [] → is_endorsed hash instance book ≡ true
  all_endorsed h =
      let paths = path_transactions hash instance in
      entries_met paths (parts_nothing (of_listed (initial_listed hash instance))
      (flat_map of_listed (map (λ p. path_listed instance (p.0) (p.1)) paths)) h).1

endorsed : (s : Setup) (w : World) (instance : Instance) (o : Option Instance) → o ≡ Some instance
    → missing_of s.hash w.book (listed_by s o) ≡ [] → is_endorsed s.hash instance w.book ≡ true
endorsed s w instance o e none =
    all_endorsed s.hash instance w.book (ap (λ x. missing_of s.hash w.book (listed_by s x)) (sym e) ∙ none)

pub nothing_lacks : NothingLacks
nothing_lacks = record {
  none_absent = λ s w k text given.
      first_in (audit_report s w k text).absent (λ which h.
      let a = (audits_find.finds s w k text).absent.none_added which h in
      is_named s w k text which (given which a.0.0 a.0.1) a.1);
  none_missing = λ s w k text instance compiled none. endorsed s w instance (compiled_instance s w k) compiled none;
}
