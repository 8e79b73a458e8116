-- What is kept of signatures, outputs and contracts is kept by every transaction that the ledger accepts.
use Rattle.std.proofs.Common.{◌≡◌, ℕ, ◌≤◌, List, [], ◌++◌, length, true, Some, None, refl, sym, ◌∙◌, append-nil}
use Rattle.spec_data.specs.Lists.{is_among}
use Rattle.spec_bitcoin.specs.declared.tx.Tx.{Tx}
use Rattle.spec_calculus.specs.Configuration.{Configuration}
use Rattle.spec_calculus.specs.Beginning.{is_init_authorised}
use Rattle.spec_calculus.specs.Branches.{has_branch_authorised}
use Rattle.spec_compiler.specs.Instance.{Instance}
use Rattle.spec_run.specs.Setup.{Setup}
use Rattle.spec_data.specs.Messages.{noted_all, collision}
use Rattle.spec_run.specs.World.{World}
use Rattle.spec_run.specs.Compiled.{instance_of, compiled_instance}
use Rattle.spec_run.specs.Conditions.{HashesBytes}
use Rattle.spec_run.specs.Pending.{applied}
use Rattle.spec_run.specs.Ledger.{items_of, strings_of, kind_of, appended, accepted}
use Rattle.theory_world.specs.Transactions.{IsNumbered}
use Rattle.theory_world.proofs.Ledger.Preimages.{numbered_few}
use Rattle.theory_world.specs.KeptApart.{NoCollision}
use Rattle.theory_world.proofs.Hashed.{no_collision, among_left, all_more, all_new}
use Rattle.theory_world.proofs.Ledger.Worth.{IsAccepted}
use Rattle.theory_world.proofs.Later.{lasts_spent, compiled_is, compiled_from, compiled_stays}
use Rattle.theory_world.proofs.Ledger.Accepting.{accepting}
use Rattle.theory_run.specs.KeptBook.{KeptBook}
use Rattle.theory_run.proofs.Facts.Kept.{Frame}
use Rattle.theory_run.proofs.Accepted.Spending.{TransactionsFit, Checked}
use Rattle.theory_run.proofs.Accepted.Kinded.{accept_kept}

-- the messages before it may be fewer than those of the world whose signatures it has: those of an event that signs and hands in at once are of before it
module _ (s : Setup) (size : HashesBytes s.hash) (few_contracts : length s.contracts ≤ 16) (g g' : Configuration) (w : World)
    (kept : KeptBook s g w) (fit : TransactionsFit s w) (check : Checked s w)
    (inits : (k : ℕ) (x : List ℕ) → is_init_authorised g.init_authorised k x ≡ true → is_init_authorised g'.init_authorised k x ≡ true)
    (asked : (n i : ℕ) (a : List ℕ) → has_branch_authorised g.branch_authorised n i a ≡ true → has_branch_authorised g'.branch_authorised n i a ≡ true)
    (tx : Tx) (fits : IsNumbered tx) (spent : List ℕ) (is : IsAccepted s w tx spent) (seen posts : List (List ℕ))
    (clear : NoCollision s.hash seen) (apart : collision s.hash seen (strings_of s w tx ++ items_of tx) ≡ None)
    (sub : (t : List ℕ) → is_among t w.hashed ≡ true → is_among t (noted_all seen (strings_of s w tx ++ items_of tx)) ≡ true) where
  -- the world after it
  abbrev pub next : World
  next = record (appended s w tx spent (kind_of s w tx spent)) { hashed = noted_all seen (strings_of s w tx ++ items_of tx); posted = posts }

  -- contracts that are compiled stay as they are
  pub stays : (k : ℕ) (st : Instance) → compiled_instance s w k ≡ Some st → compiled_instance s next k ≡ Some st
  stays k st h =
      let c = compiled_is s w k st h in
      compiled_stays s w next [] [] k st (sym (append-nil w.advertised)) (sym (append-nil w.promises)) (lasts_spent spent w.outputs _)
      (kept.adverts k c.advertised).made refl h

  -- and no others are
  pub no_others : (k : ℕ) (st : Instance) → compiled_instance s next k ≡ Some st → compiled_instance s w k ≡ Some st
  no_others k st h =
      let c = compiled_is s next k st h in
      let x : compiled_instance s w k ≡ Some (instance_of w k c.advert) = compiled_from s w k c.advert c.there c.advertised c.promised in
      let y : compiled_instance s next k ≡ Some (instance_of w k c.advert) = stays k (instance_of w k c.advert) x in
      x ∙ sym y ∙ h

  frame : Frame s g g' w next
  frame = record {
    outputs = lasts_spent spent w.outputs _;
    book = λ k d h. h;
    hashed = sub;
    compiled = stays;
    bindings = λ k h. refl;
    inits = inits;
    asked = asked;
  }

  pub joined_kept : KeptBook s g' next
  joined_kept =
      accept_kept s size few_contracts g w kept fit check (noted_all seen (strings_of s w tx ++ items_of tx))
      (no_collision s.hash seen (strings_of s w tx ++ items_of tx) clear apart) sub
      tx fits spent (accepting s w tx spent is)
      (record { heard = λ t h. all_new seen (strings_of s w tx ++ items_of tx) t (among_left t (strings_of s w tx) (items_of tx) h) })
      g' next refl frame refl (numbered_few tx fits) no_others (λ k h. h) refl

-- where nothing is signed with it
module _ (s : Setup) (size : HashesBytes s.hash) (few_contracts : length s.contracts ≤ 16) (g g' : Configuration) (w : World)
    (kept : KeptBook s g w) (fit : TransactionsFit s w) (check : Checked s w)
    (inits : (k : ℕ) (x : List ℕ) → is_init_authorised g.init_authorised k x ≡ true → is_init_authorised g'.init_authorised k x ≡ true)
    (asked : (n i : ℕ) (a : List ℕ) → has_branch_authorised g.branch_authorised n i a ≡ true → has_branch_authorised g'.branch_authorised n i a ≡ true)
    (tx : Tx) (fits : IsNumbered tx) (spent : List ℕ) (is : IsAccepted s w tx spent)
    (clear : NoCollision s.hash w.hashed) (apart : collision s.hash w.hashed (strings_of s w tx ++ items_of tx) ≡ None) where
  pub reached_kept : KeptBook s g' (applied w (accepted s w tx spent))
  reached_kept = joined_kept s size few_contracts g g' w kept fit check inits asked tx fits spent is w.hashed (w.posted ++ items_of tx)
      clear apart (λ t h. all_more w.hashed (strings_of s w tx ++ items_of tx) t h)
