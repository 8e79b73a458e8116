-- Every string that is known is one that a secret of the contract may have.
use Rattle.std.proofs.Common.{◌≡◌, ℕ, ◌+◌, List, [], ◌∷◌, ◌++◌, map, true, Option, Some, None, refl, sym, subst, inl, inr}
use Rattle.std.specs.List.{find}
use Rattle.std.specs.Option.{option_map}
use Rattle.std.specs.Str.{bytes_eq}
use Rattle.std.proofs.lemmas.Bool.{and_parts}
use Rattle.spec_data.specs.Hashes.{IsBytes}
use Rattle.spec_data.specs.Lists.{is_among}
use Rattle.spec_data.specs.Messages.{noted}
use Rattle.spec_terms.specs.Faults.{IsWellFormed}
use Rattle.spec_compiler.specs.Keyed.Keys.{Keys}
use Rattle.spec_compiler.specs.Keyed.Instance.{Instance}
use Rattle.spec_compiler.specs.Keyed.Statements.{is_secret}
use Rattle.spec_compiler.specs.Scripts.{digest_of}
use Rattle.spec_text.specs.Lines.{lines_of}
use Rattle.spec_deal.specs.declared.entry.Shown.{Shown}
use Rattle.spec_deal.specs.declared.fault.SecretFault.{SecretFault}
use Rattle.spec_deal.specs.Needed.{needed_secrets}
use Rattle.spec_deal.specs.SecretFile.{shows, refused, collided, has_length, read_behind, string_for}
use Rattle.spec_deal.specs.Transactions.{transactions}
use Rattle.spec_chain.specs.Chain.{Course, stands, follow_chain, opening_course}
use Rattle.spec_chain.specs.ChainFile.{read_chain}
use Rattle.spec_chain.specs.Outstanding.{known}
use Rattle.theory_calculus.specs.Members.{Is_in}
use Rattle.theory_calculus.proofs.Members.{all_in, found}
use Rattle.theory_calculus.proofs.Names.{bytes-true}
use Rattle.theory_text.proofs.Lines.Hex.{read_hex_is}
use Rattle.theory_deal.specs.Finished.{do_fit}
use Rattle.theory_deal.specs.SecretLines.{SecretFilesAreRead, SecretsAre, SecretsCome, shown_in}
use Rattle.theory_chain.proofs.ChainRuns.{confirmed_spelled}
use Rattle.theory_chain.proofs.Courses.{followed_exactly}
use Rattle.theory_chain.proofs.Deals.Whole.{from_map}
use Rattle.theory_chain.proofs.Stays.{known_fit}
use Rattle.theory_state_text.proofs.Named.{Each, each_append, each_one, CourseNamed, along, deposits_are_named}
use Rattle.theory_state_text.proofs.ReadBack.{IsKnown}

-- ---- a file of secrets

-- a string that is taken is of bytes, and a secret's
pub record StringFine (s : Instance) (x : Shown) : Type 0 where
  pub bytes : IsBytes x.bytes
  pub secret : is_among x.name (needed_secrets s.advert) ≡ true

module _ (hash : List ℕ → List ℕ) (s : Instance) where
  taken_fine : (messages : List (List ℕ)) (taken : List Shown) (n : ℕ) (lines : List (List ℕ)) (strings : List Shown)
      → SecretsCome hash s messages taken n lines (shows strings) → Each (StringFine s) taken → Each (StringFine s) strings
  taken_fine messages taken n [] strings e h = subst (Each (StringFine s)) (same e) h
    where
      same : shows strings ≡ shows taken → taken ≡ strings
      same f = cc
  taken_fine messages taken n (line ∷ lines) strings (inl r) h = taken_fine messages taken (n + 1) lines strings r.1 h
  taken_fine messages taken n (line ∷ lines) strings (inr (inl r)) h =
      let named = ((r.2).alone.hashed.fresh).named in
      taken_fine (noted messages (r.1)) (taken ++ shown_in n (r.0) (r.1) ∷ []) (n + 1) lines strings r.3
      (each_append (StringFine s) taken (shown_in n (r.0) (r.1) ∷ []) h
      (each_one (StringFine s) (shown_in n (r.0) (r.1))
      (record { bytes = (read_hex_is named.word (r.1) named.digits).bytes; secret = named.needed })))
  taken_fine messages taken n (line ∷ lines) strings (inr (inr (inl r))) h = absurd (no r.2)
    where
      no : {f : SecretFault} → shows strings ≡ refused f → ⊥
      no e = cc
  taken_fine messages taken n (line ∷ lines) strings (inr (inr (inr r))) h = absurd (no r.3)
    where
      no : {a b : List ℕ} → shows strings ≡ collided a b → ⊥
      no e = cc

  pub file_fine : SecretFilesAreRead → (messages : List (List ℕ)) (text : List ℕ) (strings : List Shown)
      → read_behind hash s messages text ≡ shows strings → Each (StringFine s) strings
  file_fine t messages text strings e = by_size ((t.behind hash s messages text (shows strings)).0 e)
    where
      by_size : SecretsAre hash s messages text (shows strings) → Each (StringFine s) strings
      by_size (inl r) = absurd (no r.1)
        where
          no : {f : SecretFault} → shows strings ≡ refused f → ⊥
          no e = cc
      by_size (inr r) = taken_fine messages [] 1 (lines_of text) strings r.1 (λ x i. absurd i)

-- ---- what is known

module _ (hash : List ℕ → List ℕ) (keys : Keys) (s : Instance) (well : IsWellFormed s.advert) (chain : List ℕ) (course : Course) (tip : ℕ)
    (followed : follow_chain hash keys s chain ≡ stands course tip) where
  pub course_named : CourseNamed s.advert course
  course_named =
      let leads = ((followed_exactly hash keys s chain course tip).0 followed).2 in
      along hash s well (transactions hash keys s) (read_chain chain).confirmed (opening_course hash keys s) course leads
      (confirmed_spelled hash keys s chain course tip followed)
      (record {
        live = deposits_are_named hash s well;
        made = λ o i. absurd i;
        history = λ h i. absurd i;
        shown = λ p i. absurd i;
      })

  module _ (strings : List Shown) (fit : do_fit hash s strings ≡ true) (fine : Each (StringFine s) strings) where
    abbrev as_given : List ℕ × List ℕ → Shown
    as_given p = record { line = 0; name = p.0; bytes = p.1 }

    all_fine : Each (StringFine s) (known course.state strings)
    all_fine = each_append (StringFine s) (map as_given course.state.shown) strings of_shown fine
      where
        of_shown : Each (StringFine s) (map as_given course.state.shown)
        of_shown x i =
            let r = from_map as_given course.state.shown x i in
            let f = course_named.shown r.0 r.1 in
            subst (StringFine s) (sym r.2) (record { bytes = f.bytes; secret = f.secret })

    of_entry : (x : Shown) → Is_in x (known course.state strings) → IsKnown hash s x.name x.bytes
    of_entry x i =
        let f = all_fine x i in
        let all = known_fit hash keys s chain course tip strings followed fit in
        let good = all_in (λ (y : Shown). is_secret hash y.bytes (digest_of s.hashes y.name)) (known course.state strings) x all i in
        let p = and_parts (has_length x.bytes) (bytes_eq (hash x.bytes) (digest_of s.hashes x.name)) good in
        record { needed = f.secret; bytes_are = f.bytes; long = p.0; fits = p.1 }

    pub known_fine : (name bytes : List ℕ) → string_for (known course.state strings) name ≡ Some bytes → IsKnown hash s name bytes
    known_fine name bytes e = by_entry (find (λ (x : Shown). bytes_eq x.name name) (known course.state strings)) refl e
      where
        by_entry : (o : Option Shown) → find (λ (x : Shown). bytes_eq x.name name) (known course.state strings) ≡ o
            → option_map (λ (x : Shown). x.bytes) o ≡ Some bytes → IsKnown hash s name bytes
        by_entry None f g = cc
        by_entry (Some x) f g =
            let r = found (λ (y : Shown). bytes_eq y.name name) (known course.state strings) x f in
            let value : x.bytes ≡ bytes = cc in
            subst (λ (b : List ℕ). IsKnown hash s name b) value
            (subst (λ (a : List ℕ). IsKnown hash s a x.bytes) (bytes-true x.name name r.1) (of_entry x r.0))
