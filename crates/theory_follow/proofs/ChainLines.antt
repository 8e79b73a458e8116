-- A chain file comes to what its lines come to.
use Rattle.std.proofs.Common.{◌≡◌, ℕ, ◌+◌, ◌<◌, ◌≤◌, List, [], ◌∷◌, length, Bool, true, false, Option, Some, None}
use Rattle.std.proofs.Common.{refl, sym, ap, subst, ◌∙◌, inl, inr, cond, arith}
use Rattle.std.specs.Prelude.{nat_lt}
use Rattle.std.proofs.lemmas.Bool.Decides.{nat_tests}
use Rattle.spec_data.specs.Messages.{collision}
use Rattle.spec_bitcoin.specs.declared.tx.Tx.{Tx}
use Rattle.spec_compiler.specs.Keyed.Instance.{Instance}
use Rattle.spec_text.specs.Lines.{lines_of, words_of}
use Rattle.spec_deal.specs.declared.transaction.Transaction.{Transaction}
use Rattle.spec_deal.specs.Transactions.{transactions}
use Rattle.spec_chain.specs.declared.fault.ChainReason.{ChainReason}
use Rattle.spec_chain.specs.declared.fault.ChainFault.TheVariants as faults
use Rattle.spec_chain.specs.declared.reading.Confirmed.{Confirmed}
use Rattle.spec_chain.specs.declared.reading.Line.{Line}
use Rattle.spec_chain.specs.declared.reading.Line.TheVariants.{Empty, Bad, Rises, Confirms}
use Rattle.spec_chain.specs.declared.reading.Reading.{Reading}
use Rattle.spec_chain.specs.Chain.{Course, Followed, refused, collided, transaction_strings, gone_on, follow, follow_chain, opening_course}
use Rattle.spec_chain.specs.ChainFile.{line_says, read_lines}
use Rattle.spec_chain.specs.Refusals.{refusal}
use Rattle.spec_chain.specs.Sizes.{most_chain_bytes}
use Rattle.theory_chain.specs.Files.{GivesTx}
use Rattle.theory_chain.specs.Reasons.{BadExactly}
use Rattle.theory_chain.proofs.FileReads.{goes_on, read_behind}
use Rattle.theory_chain.proofs.LineReads.{Says, said, height_said, tx_said, empty_said, bad_said}
use Rattle.theory_follow.specs.ChainLines.{on_line, LinesCome, ChainIs, ChainsCome}

module _ (bad : BadExactly) (hash : List ℕ → List ℕ) (s : Instance) (ts : List Transaction) where
  -- what a reading comes to, behind a course
  abbrev followed : Reading → Course → Followed
  followed r course = follow hash s ts r.fault r.tip course r.confirmed

  abbrev Pair : Type 0
  Pair = Option (List ℕ × List ℕ)

  -- what comes of a transaction behind which this is read, by whether its strings collide and whether it is bad
  abbrev taken : Reading → Course → Confirmed → Pair → Option ChainReason → Followed
  taken r course c pair reason = elim pair [
    | Some p ↦ collided (p.0) (p.1)
    | None ↦ elim reason [
      | Some x ↦ refused (faults.Line c.line x)
      | None ↦ followed r (gone_on hash s ts course c)
    ]
  ]

  abbrev pair_of : Course → Tx → Pair
  pair_of course tx = collision hash course.messages (transaction_strings hash tx)

  abbrev bad_by : Course → ℕ → Tx → Option ChainReason
  bad_by course height tx = refusal hash s ts course.state height tx

  -- a transaction is read before what stands behind it
  one_more : (n height : ℕ) (lines : List (List ℕ)) (course : Course) (tx : Tx)
      → followed (goes_on [] n height lines (Confirms tx)) course
      ≡ taken (read_lines [] (n + 1) height lines) course (on_line n height tx) (pair_of course tx) (bad_by course height tx)
  one_more n height lines course tx = ap (λ (r : Reading). followed r course) (read_behind (on_line n height tx ∷ []) (n + 1) height lines)

  -- ---- what it comes to is so

  abbrev Later : ℕ → List (List ℕ) → Type 0
  Later n lines = (h : ℕ) (c : Course) → LinesCome hash s ts n h c lines (followed (read_lines [] n h lines) c)

  tx_comes : (n height : ℕ) (course : Course) (line : List ℕ) (lines : List (List ℕ)) (tx : Tx) → GivesTx height (words_of line) tx
      → Later (n + 1) lines → (pair : Pair) → pair_of course tx ≡ pair → (reason : Option ChainReason) → bad_by course height tx ≡ reason
      → LinesCome hash s ts n height course (line ∷ lines)
      (taken (read_lines [] (n + 1) height lines) course (on_line n height tx) pair reason)
  tx_comes n height course line lines tx k later (Some p) e reason f =
      inr (inr (inr (inr (inl (p.0, p.1, record { tx = tx; gives = k; pair = e }, refl)))))
  tx_comes n height course line lines tx k later None e (Some reason) f =
      inr (inr (inr (inl (
        tx,
        reason,
        record { gives = k; calm = e },
        ((bad hash s ts course.state height tx).0 reason).0 f,
        refl,
      ))))
  tx_comes n height course line lines tx k later None e None f =
      inr (inr (inl (
        tx,
        record { gives = k; calm = e },
        (bad hash s ts course.state height tx).1.0 f,
        later height (gone_on hash s ts course (on_line n height tx)),
      )))

  comes : (n height : ℕ) (course : Course) (lines : List (List ℕ))
      → LinesCome hash s ts n height course lines (followed (read_lines [] n height lines) course)
  comes n height course [] = refl
  comes n height course (line ∷ lines) =
      by_line (line_says height (words_of line)) (said height (words_of line)) (λ h c. comes (n + 1) h c lines)
    where
      by_line : (says : Line) → Says height (words_of line) says → Later (n + 1) lines
          → LinesCome hash s ts n height course (line ∷ lines) (followed (goes_on [] n height lines says) course)
      by_line Empty k later = inl (k, later height course)
      by_line (Rises next) k later = inr (inl (next, k, later next course))
      by_line (Bad reason) k later = inr (inr (inr (inr (inr (reason, k, refl)))))
      by_line (Confirms tx) k later =
          subst (LinesCome hash s ts n height course (line ∷ lines)) (sym (one_more n height lines course tx))
          (tx_comes n height course line lines tx k later (pair_of course tx) refl (bad_by course height tx) refl)

  -- ---- and nothing else is

  tx_is : (n height : ℕ) (course : Course) (line : List ℕ) (lines : List (List ℕ)) (tx : Tx) → GivesTx height (words_of line) tx
      → (pair : Pair) → pair_of course tx ≡ pair → (reason : Option ChainReason) → bad_by course height tx ≡ reason
      → followed (read_lines [] n height (line ∷ lines)) course
      ≡ taken (read_lines [] (n + 1) height lines) course (on_line n height tx) pair reason
  tx_is n height course line lines tx k pair e reason f =
      ap (λ (says : Line). followed (goes_on [] n height lines says) course) (tx_said height (words_of line) tx k)
      ∙ one_more n height lines course tx
      ∙ (λ i. taken (read_lines [] (n + 1) height lines) course (on_line n height tx) (e i) (f i))

  is : (n height : ℕ) (course : Course) (lines : List (List ℕ)) (f : Followed) → LinesCome hash s ts n height course lines f
      → followed (read_lines [] n height lines) course ≡ f
  is n height course [] f h = sym h
  is n height course (line ∷ lines) f (inl h) =
      ap (λ (says : Line). followed (goes_on [] n height lines says) course) (empty_said height (words_of line) h.0)
      ∙ is (n + 1) height course lines f h.1
  is n height course (line ∷ lines) f (inr (inl h)) =
      ap (λ (says : Line). followed (goes_on [] n height lines says) course) (height_said height (words_of line) h.0 h.1)
      ∙ is (n + 1) h.0 course lines f h.2
  is n height course (line ∷ lines) f (inr (inr (inl h))) =
      tx_is n height course line lines h.0 h.1.gives None h.1.calm None ((bad hash s ts course.state height h.0).1.1 h.2)
      ∙ is (n + 1) height (gone_on hash s ts course (on_line n height h.0)) lines f h.3
  is n height course (line ∷ lines) f (inr (inr (inr (inl h)))) =
      tx_is n height course line lines h.0 h.2.gives None h.2.calm (Some h.1) (((bad hash s ts course.state height h.0).0 h.1).1 h.3)
      ∙ sym h.4
  is n height course (line ∷ lines) f (inr (inr (inr (inr (inl h))))) =
      tx_is n height course line lines h.2.tx h.2.gives (Some (h.0, h.1)) h.2.pair (bad_by course height h.2.tx) refl ∙ sym h.3
  is n height course (line ∷ lines) f (inr (inr (inr (inr (inr h))))) =
      ap (λ (says : Line). followed (goes_on [] n height lines says) course) (bad_said height (words_of line) h.0 h.1) ∙ sym h.2

-- ---- files

too_many : (text : List ℕ) → nat_lt most_chain_bytes (length text) ≡ true → most_chain_bytes < length text
too_many text e = grind (arith, nat_tests)

few : (text : List ℕ) → nat_lt most_chain_bytes (length text) ≡ false → length text ≤ most_chain_bytes
few text e = grind (arith, nat_tests)

is_many : (text : List ℕ) → most_chain_bytes < length text → nat_lt most_chain_bytes (length text) ≡ true
is_many text h = grind (arith, nat_tests)

is_few : (text : List ℕ) → length text ≤ most_chain_bytes → nat_lt most_chain_bytes (length text) ≡ false
is_few text h = grind (arith, nat_tests)

pub chains_come : BadExactly → ChainsCome
chains_come bad hash keys s text result = (there, back)
  where
    ts : List Transaction
    ts = transactions hash keys s

    start : Course
    start = opening_course hash keys s

    too_long : Reading
    too_long = record { confirmed = []; tip = 0; fault = Some faults.Size }

    there : follow_chain hash keys s text ≡ result → ChainIs hash keys s text result
    there e = by_size (nat_lt most_chain_bytes (length text)) refl e
      where
        by_size : (b : Bool) → nat_lt most_chain_bytes (length text) ≡ b
            → followed bad hash s (transactions hash keys s) (cond b too_long (read_lines [] 1 0 (lines_of text))) (opening_course hash keys s) ≡ result
            → ChainIs hash keys s text result
        by_size true k h = inl (too_many text k, sym h)
        by_size false k h =
            inr (few text k, subst (LinesCome hash s ts 1 0 start (lines_of text)) h (comes bad hash s ts 1 0 start (lines_of text)))

    back : ChainIs hash keys s text result → follow_chain hash keys s text ≡ result
    back (inl h) =
        ap (λ (b : Bool). followed bad hash s ts (cond b too_long (read_lines [] 1 0 (lines_of text))) start) (is_many text h.0) ∙ sym h.1
    back (inr h) =
        ap (λ (b : Bool). followed bad hash s ts (cond b too_long (read_lines [] 1 0 (lines_of text))) start) (is_few text h.0)
        ∙ is bad hash s ts 1 0 start (lines_of text) result h.1
