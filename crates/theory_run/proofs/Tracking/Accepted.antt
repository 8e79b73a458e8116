-- The configuration tracks the world where the ledger accepts a transaction.
use Rattle.std.proofs.Common.{◌≡◌, ℕ, List, ◌++◌, true, Some, None, refl, sym, ap, ◌∙◌, subst, length, ◌≤◌}
use Rattle.spec_data.specs.Lists.{is_among}
use Rattle.spec_bitcoin.specs.declared.tx.Tx.{Tx}
use Rattle.spec_calculus.specs.Configuration.{Configuration}
use Rattle.spec_calculus.specs.Steps.{after_steps, Legal}
use Rattle.spec_run.specs.declared.event.Event.{Event}
use Rattle.spec_run.specs.Setup.{Setup}
use Rattle.spec_data.specs.Messages.{noted_all, collision}
use Rattle.spec_run.specs.World.{World}
use Rattle.spec_run.specs.Conditions.{IsSetup}
use Rattle.spec_run.specs.Pending.{applied, guess}
use Rattle.spec_run.specs.Secrets.{all_secrets, newly_shown}
use Rattle.spec_bitcoin.specs.Digests.{txid}
use Rattle.spec_run.specs.Ledger.{items_of, strings_of, accepted, kind_of, new_position, spend_from, made_from}
use Rattle.spec_run.specs.Steps.{accepted_steps}
use Rattle.spec_bitcoin.specs.Keys.{Pair}
use Rattle.theory_world.specs.KeptApart.{NoCollision}
use Rattle.theory_world.proofs.Hashed.{no_collision, among_left, among_right, all_new}
use Rattle.theory_run.proofs.Facts.Secrets.{different_secrets, after-reveals}
use Rattle.theory_world.proofs.Ledger.Worth.{IsAccepted}
use Rattle.theory_world.specs.Transactions.{IsNumbered as Numbered}
use Rattle.theory_world.proofs.Ledger.Accepting.{Accepting, accepting, HeardAll}
use Rattle.theory_run.specs.KeptSecrets.{KeptSecrets}
use Rattle.theory_run.proofs.Facts.KeptSecrets.{Begins}
use Rattle.theory_run.proofs.Facts.Posting.{Posted, posted}
use Rattle.theory_run.specs.KeptPromises.{PromisesNamed}
use Rattle.theory_run.specs.KeptBook.{KeptBook}
use Rattle.theory_run.proofs.Accepted.Spending.{TransactionsFit, Checked}
use Rattle.theory_run.proofs.Steps.Followed.{accepted_legal, accepted_frame, accepted_money, accepted_secrets, accepted_constant}
use Rattle.theory_world.proofs.Bookless.{kind_same, steps_same}
use Rattle.theory_run.specs.Tracks.{AgreeOnMoney, Tracks}
use Rattle.theory_run.proofs.Tracking.Tracked.{IsTracked}

-- the book may have more pairs than before the event, and what is kept may rest on more messages
module _ (s : Setup) (setup : IsSetup s) (z : List (List ℕ)) (apart : different_secrets (all_secrets s) ≡ true) (g : Configuration)
    (w : World) (tracks : Tracks s z g w) (book : List Pair) (known : List (List ℕ))
    (kept : KeptBook s g (record w { book = book; hashed = known })) (fit : TransactionsFit s (record w { book = book; hashed = known }))
    (check : Checked s (record w { book = book; hashed = known })) (named : PromisesNamed s w.promises)
    (tx : Tx) (fits : Numbered tx) (spent : List ℕ) (is : IsAccepted s (record w { book = book; hashed = known }) tx spent)
    (clear : collision s.hash w.hashed (strings_of s w tx ++ items_of tx) ≡ None) (unguessed : guess s w.posted (items_of tx) None ≡ None)
    (within : (t : List ℕ) → is_among t known ≡ true → is_among t (noted_all w.hashed (strings_of s w tx ++ items_of tx)) ≡ true) where
  abbrev seen : World
  seen = record w { book = book; hashed = known }

  abbrev pub next : World
  next = applied w (accepted s (record w { book = book }) tx spent)

  abbrev heard : List (List ℕ)
  heard = noted_all w.hashed (strings_of s w tx ++ items_of tx)

  no_more_collision : NoCollision s.hash heard
  no_more_collision = no_collision s.hash w.hashed (strings_of s w tx ++ items_of tx) tracks.secrets.clear clear

  all : HeardAll s seen heard tx
  all = record { heard = λ t h. all_new w.hashed (strings_of s w tx ++ items_of tx) t (among_left t (strings_of s w tx) (items_of tx) h) }

  module _ (begins : Begins z next.posted) where
    shows : Posted s z apart g w next None
    shows = posted s z apart g w next (strings_of s w tx ++ items_of tx) (items_of tx) None tracks.secrets refl refl refl clear unguessed
        begins (λ t h. among_right t (strings_of s w tx) (items_of tx) h) (λ a n t h o. cc)

    secrets_mid : KeptSecrets s z (record g { revealed = g.revealed ++ newly_shown s seen next }) next
    secrets_mid = subst (λ c. KeptSecrets s z c next) (after-reveals (newly_shown s w next) g) shows.kept

    posts : (u : List ℕ) → is_among u (items_of tx) ≡ true → is_among u next.posted ≡ true
    posts u h = among_right u w.posted (items_of tx) h

    money : AgreeOnMoney s g seen
    money = record {
      time = tracks.money.time;
      next = tracks.money.next;
      deposits = tracks.money.deposits;
      active = tracks.money.active;
      moves = tracks.money.moves;
    }

    abbrev few : length s.contracts ≤ 16
    few = setup.few_contracts

    acc : Accepting s seen tx spent
    acc = accepting s seen tx spent is

    legal_seen : Legal g (accepted_steps s g seen next spent (Some tx))
    legal_seen = accepted_legal s setup.hash few g seen kept fit check heard no_more_collision within tx fits spent acc all tracks.constant
        money tracks.advertised z next secrets_mid begins named refl posts shows.legal

    tracks_seen : Tracks s z (after_steps g (accepted_steps s g seen next spent (Some tx))) next
    tracks_seen =
        let frame = accepted_frame s setup.hash few g seen kept fit check heard no_more_collision
        within tx fits spent acc all tracks.constant money tracks.advertised z next secrets_mid begins named refl posts shows.legal in
        record {
          money = accepted_money s setup.hash few g seen kept fit check heard no_more_collision within tx fits spent acc all tracks.constant
              money tracks.advertised z next secrets_mid begins named refl posts shows.legal refl
              (ap (λ k. spend_from 0 spent w.outputs ++ made_from (new_position s k) (txid s.hash tx) 0 tx.outputs) (kinds ∙ sym kinds_seen));
          secrets = accepted_secrets s setup.hash few g seen kept fit check heard no_more_collision within tx fits spent acc all
              tracks.constant money tracks.advertised z next secrets_mid begins named refl posts shows.legal;
          constant = accepted_constant s setup.hash few g seen kept fit check heard no_more_collision within tx fits spent acc all
              tracks.constant money tracks.advertised z next secrets_mid begins named refl posts shows.legal;
          advertised = frame.advertised ∙ tracks.advertised;
        }
      where
        kinds : kind_of s (record w { book = book }) tx spent ≡ kind_of s w tx spent
        kinds = kind_same s w book w.hashed tx spent

        kinds_seen : kind_of s seen tx spent ≡ kind_of s w tx spent
        kinds_seen = kind_same s w book known tx spent

    -- whatever event handed it in
    pub accepted_tracked : (e : Event) → IsTracked s z g w e (accepted s (record w { book = book }) tx spent)
    accepted_tracked e =
        let same = steps_same s w book known g next spent (Some tx) in
        record { legal = subst (Legal g) same legal_seen; tracks = subst (λ xs. Tracks s z (after_steps g xs) next) same tracks_seen }
