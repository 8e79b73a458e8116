-- Each line that isn't empty has its finding, which says what the line is, in order.
use Rattle.std.proofs.Common.{◌≡◌, ℕ, zero, suc, ◌+◌, ◌≤◌, List, [], ◌∷◌, Bool, Option, Some, None, Result, Ok, Err, refl, sym, ap, ◌∙◌}
use Rattle.std.proofs.Common.{subst, inl, inr, arith}
use Rattle.std.specs.Prelude.{slice_get}
use Rattle.std.specs.List.{Contains, filter}
use Rattle.std.specs.Option.{option_map_or}
use Rattle.spec_data.specs.Digits.{read_hex}
use Rattle.spec_bitcoin.specs.declared.tx.Tx.{Tx}
use Rattle.spec_bitcoin.specs.declared.verdict.Verdict.{Verdict}
use Rattle.spec_bitcoin.specs.declared.verdict.Verdict.TheVariants as verdicts
use Rattle.spec_bitcoin.specs.Reading.{transaction_of}
use Rattle.spec_compiler.specs.Transactions.{tx_of}
use Rattle.spec_run.specs.Setup.{Setup}
use Rattle.spec_run.specs.World.{World}
use Rattle.spec_run.specs.Ledger.{same_bare, verdict_in, Kind, Begins, Takes, Moves, kind_of}
use Rattle.spec_text.specs.Lines.{words_of}
use Rattle.spec_tool.specs.declared.which.Which.{Which}
use Rattle.spec_tool.specs.declared.finding.Kind.{Kind as LineKind}
use Rattle.spec_tool.specs.declared.finding.Finding.{Finding}
use Rattle.spec_tool.specs.Listed.{Listed}
use Rattle.spec_tool.specs.Audit.{Given, given_by, given_bytes, given_words, given_line, listed_in, names_among, now_by, now_for}
use Rattle.spec_tool.specs.Audit.{kind_given, finding, findings_from}
use Rattle.theory_calculus.specs.Members.{Is_in}
use Rattle.theory_calculus.proofs.Members.{in_from_contains, contains_from_in, in_filter, filter_has}
use Rattle.theory_bitcoin.proofs.Top.{fault_is_first, read_is_spelled}
use Rattle.theory_script.proofs.Listing.Stands.{some_same}
use Rattle.theory_text.proofs.Lines.Hex.{read_hex_is}
use Rattle.theory_world.proofs.Contracts.Endorsed.{in_map}
use Rattle.theory_run.proofs.Accepted.Unmade.{in_images}
use Rattle.theory_audit.specs.Audited.{IsNamed, IsNow, IsHexOf, IsKind, IsFindingOf, Ascend, AreFindings}
use Rattle.theory_audit.proofs.Lists.{order_filter, order_map}
use Rattle.theory_audit.proofs.Names.{compiled_there, there_compiled}

-- ---- what the ledger says

now_accepted : (s : Setup) (w : World) (tx : Tx) (spent made : List ℕ) → verdict_in s w tx ≡ verdicts.Accepted spent made → (k : Kind)
    → kind_of s w tx spent ≡ k → IsNow s w tx (now_by k)
now_accepted s w tx spent made v (Begins contract) e = (spent, made, v, e)
now_accepted s w tx spent made v (Takes held output branch) e = (spent, made, v, (held, e))
now_accepted s w tx spent made v Moves e = (spent, made, v, e)

now_said : (s : Setup) (w : World) (tx : Tx) (v : Verdict) → verdict_in s w tx ≡ v → IsNow s w tx (now_for s w tx v)
now_said s w tx (verdicts.Accepted spent made) e = now_accepted s w tx spent made e (kind_of s w tx spent) refl
now_said s w tx (verdicts.Refused refusal) e = e

module _ (s : Setup) (w : World) (k : ℕ) where
  abbrev all : List Listed
  all = listed_in s w k

  -- ---- names

  abbrev which_of : Listed → Which
  which_of l = l.which

  abbrev is_it : Tx → Listed → Bool
  is_it tx l = same_bare tx (tx_of l.pending)

  named : (tx : Tx) (which : Which) → Contains (names_among all tx) which → IsNamed s w k tx which
  named tx which h =
      let m = in_map which_of (filter (is_it tx) all) which (in_from_contains (names_among all tx) which h) in
      let f = in_filter (is_it tx) all m.0 m.1 in
      subst (IsNamed s w k tx) (sym m.2) (record { listed = m.0; compiled = there_compiled s w k m.0 f.0; same = f.1 })

  all_named : (tx : Tx) (which : Which) → IsNamed s w k tx which → Contains (names_among all tx) which
  all_named tx which h =
      let c = compiled_there s w k which h.listed h.compiled in
      let i = in_images which_of (filter (is_it tx) all) h.listed (filter_has (is_it tx) all h.listed c.0 h.same) in
      contains_from_in (names_among all tx) which (subst (λ x. Is_in x (names_among all tx)) c.1 i)

  -- ---- lines

  -- what is said of a line, or that it is empty
  abbrev IsSaid : List ℕ → Option LineKind → Type 0
  IsSaid line None = words_of line ≡ []
  IsSaid line (Some kind) = (words_of line ≡ [] → ⊥) × IsKind s w k line kind

  abbrev said_of : Given → Option LineKind
  said_of g = kind_given s w all g

  some_words : (line word : List ℕ) (words : List (List ℕ)) → words_of line ≡ word ∷ words → words_of line ≡ [] → ⊥
  some_words line word words h e = let z : word ∷ words ≡ [] = sym h ∙ e in cc

  said_bytes : (line word : List ℕ) → words_of line ≡ word ∷ [] → (bytes : List ℕ) → read_hex word ≡ Some bytes → (r : Result Tx ℕ)
      → transaction_of bytes ≡ r → IsSaid line (said_of (given_by r))
  said_bytes line word h bytes e (Ok tx) is =
      let fits = (read_hex_is word bytes e).bytes in (
        some_words line word [] h,
        record {
          bytes = bytes;
          tx = tx;
          hex = (word, h, e);
          spelled = read_is_spelled bytes tx fits is;
          named = named tx;
          all_named = all_named tx;
          in_order = order_map which_of (filter (is_it tx) all) all (order_filter (is_it tx) all);
          now = now_said s w tx (verdict_in s w tx) refl;
        },
      )
  said_bytes line word h bytes e (Err place) is =
      let fits = (read_hex_is word bytes e).bytes in
      (some_words line word [] h, (bytes, (word, h, e), fault_is_first bytes place fits is))

  -- two ways to cut a line into words are one
  same_word : (line word other : List ℕ) → words_of line ≡ word ∷ [] → words_of line ≡ other ∷ [] → other ≡ word
  same_word line word other h e = let z : other ∷ [] ≡ word ∷ [] = sym e ∙ h in cc

  not_hex : (line word : List ℕ) → words_of line ≡ word ∷ [] → read_hex word ≡ None → (bytes : List ℕ) → IsHexOf line bytes → ⊥
  not_hex line word h e bytes x =
      let z : None ≡ Some bytes = sym e ∙ (ap read_hex (sym (same_word line word x.0 h x.1)) ∙ x.2) in cc

  said_word : (line word : List ℕ) → words_of line ≡ word ∷ [] → (o : Option (List ℕ)) → read_hex word ≡ o
      → IsSaid line (said_of (given_bytes o))
  said_word line word h None e = (some_words line word [] h, not_hex line word h e)
  said_word line word h (Some bytes) e = said_bytes line word h bytes e (transaction_of bytes) refl

  more_words : (line word other : List ℕ) (words : List (List ℕ)) → words_of line ≡ word ∷ other ∷ words → (bytes : List ℕ)
      → IsHexOf line bytes → ⊥
  more_words line word other words h bytes x = let z : word ∷ other ∷ words ≡ x.0 ∷ [] = sym h ∙ x.1 in cc

  said_words : (line : List ℕ) (words : List (List ℕ)) → words_of line ≡ words → IsSaid line (said_of (given_words words))
  said_words line [] h = h
  said_words line (word ∷ []) h = said_word line word h (read_hex word) refl
  said_words line (word ∷ (other ∷ words)) h = (some_words line word (other ∷ words) h, more_words line word other words h)

  said : (line : List ℕ) → IsSaid line (said_of (given_line line))
  said line = said_words line (words_of line) refl

  -- ---- findings

  abbrev found : ℕ → List (List ℕ) → List Finding
  found n lines = findings_from s w all n lines

  -- the finding is of line n of these, which have the numbers from k on
  record IsOf (from : ℕ) (lines : List (List ℕ)) (f : Finding) (n : ℕ) (line : List ℕ) : Type 0 where
    there : slice_get lines n ≡ Some line
    number : f.line ≡ from + n
    some_word : words_of line ≡ [] → ⊥
    kind : IsKind s w k line f.kind

  of_later : (from : ℕ) (first : List ℕ) (lines : List (List ℕ)) (f : Finding) (n : ℕ) (line : List ℕ) → IsOf (from + 1) lines f n line
      → IsOf from (first ∷ lines) f (suc n) line
  of_later from first lines f n line h = record {
    there = h.there;
    number = omega (arith, h.number);
    some_word = h.some_word;
    kind = h.kind;
  }

  of_first : (from : ℕ) (line : List ℕ) (lines : List (List ℕ)) (kind : LineKind) → (words_of line ≡ [] → ⊥) → IsKind s w k line kind
      → IsOf from (line ∷ lines) (finding from kind) 0 line
  of_first from line lines kind some is = record { there = refl; number = omega arith; some_word = some; kind = is }

  abbrev IsOfSome : ℕ → List (List ℕ) → Finding → Type 0
  IsOfSome from lines f = (n : ℕ) × (line : List ℕ) × IsOf from lines f n line

  abbrev with_said : ℕ → List (List ℕ) → Option LineKind → List Finding
  with_said from lines o = option_map_or (λ kind. finding from kind ∷ found (from + 1) lines) o (found (from + 1) lines)

  later_of : (from : ℕ) (line : List ℕ) (lines : List (List ℕ)) (f : Finding) → IsOfSome (from + 1) lines f → IsOfSome from (line ∷ lines) f
  later_of from line lines f h = (suc h.0, h.1, of_later from line lines f h.0 h.1 h.2)

  none_added : (lines : List (List ℕ)) (from : ℕ) (f : Finding) → Is_in f (found from lines) → IsOfSome from lines f
  none_added [] from f i = absurd i
  none_added (line ∷ lines) from f i = by_said (said_of (given_line line)) (said line) i (none_added lines (from + 1) f)
    where
      by_said : (o : Option LineKind) → IsSaid line o → Is_in f (with_said from lines o)
          → (Is_in f (found (from + 1) lines) → IsOfSome (from + 1) lines f) → IsOfSome from (line ∷ lines) f
      by_said None h j later = later_of from line lines f (later j)
      by_said (Some kind) h (inl e) later =
          subst (IsOfSome from (line ∷ lines)) (sym e) (0, line, of_first from line lines kind h.0 h.1)
      by_said (Some kind) h (inr j) later = later_of from line lines f (later j)

  abbrev HasFinding : ℕ → List (List ℕ) → ℕ → List ℕ → List Finding → Type 0
  HasFinding from lines n line fs = (f : Finding) × Is_in f fs × IsOf from lines f n line

  keep_finding : (from n : ℕ) (first line : List ℕ) (lines : List (List ℕ)) (o : Option LineKind)
      → HasFinding (from + 1) lines n line (found (from + 1) lines) → HasFinding from (first ∷ lines) (suc n) line (with_said from lines o)
  keep_finding from n first line lines None h = (h.0, h.1, of_later from first lines h.0 n line h.2)
  keep_finding from n first line lines (Some kind) h = (h.0, inr h.1, of_later from first lines h.0 n line h.2)

  none_left_out : (lines : List (List ℕ)) (from n : ℕ) (line : List ℕ) → slice_get lines n ≡ Some line → (words_of line ≡ [] → ⊥)
      → HasFinding from lines n line (found from lines)
  none_left_out [] from n line e some = cc
  none_left_out (first ∷ lines) from zero line e some =
      let same : first ≡ line = some_same e in
      subst (λ x. HasFinding from (first ∷ lines) 0 x (found from (first ∷ lines))) same
      (by_said (said_of (given_line first)) (said first) (subst (λ x. words_of x ≡ [] → ⊥) (sym same) some))
    where
      by_said : (o : Option LineKind) → IsSaid first o → (words_of first ≡ [] → ⊥)
          → HasFinding from (first ∷ lines) 0 first (with_said from lines o)
      by_said None h some' = absurd (some' h)
      by_said (Some kind) h some' = (finding from kind, inl refl, of_first from first lines kind h.0 h.1)
  none_left_out (first ∷ lines) from (suc n) line e some =
      keep_finding from n first line lines (said_of (given_line first)) (none_left_out lines (from + 1) n line e some)

  lower : (fs : List Finding) (m n : ℕ) → m ≤ n → Ascend n fs → Ascend m fs
  lower [] m n h a = tt
  lower (f ∷ fs) m n h a = (omega (arith, h, a.0), a.1)

  ascends : (lines : List (List ℕ)) (from : ℕ) → Ascend from (found from lines)
  ascends [] from = tt
  ascends (line ∷ lines) from = by_said (said_of (given_line line)) (ascends lines (from + 1))
    where
      by_said : (o : Option LineKind) → Ascend (from + 1) (found (from + 1) lines) → Ascend from (with_said from lines o)
      by_said None h = lower (found (from + 1) lines) from (from + 1) (omega arith) h
      by_said (Some kind) h = (omega arith, h)

  finding_of : (lines : List (List ℕ)) (f : Finding) (n : ℕ) (line : List ℕ) → IsOf 1 lines f n line → IsFindingOf s w k lines f n line
  finding_of lines f n line h =
      record { there = h.there; number = omega (arith, h.number); some_word = h.some_word; kind = h.kind }

  pub all_found : (lines : List (List ℕ)) → AreFindings s w k lines (found 1 lines)
  all_found lines = record {
    none_added = λ f h. let r = none_added lines 1 f (in_from_contains (found 1 lines) f h) in (r.0, r.1, finding_of lines f r.0 r.1 r.2);
    none_left_out = λ n line e some.
        let r = none_left_out lines 1 n line e some in
        (r.0, contains_from_in (found 1 lines) r.0 r.1, finding_of lines r.0 n line r.2);
    in_order = ascends lines 1;
  }
