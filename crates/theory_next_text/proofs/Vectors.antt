-- Lines of the page on what can happen next, read.
use Rattle.std.proofs.Common.{◌≡◌, ℕ, List, [], ◌∷◌, ◌++◌, Option, Some, None, refl, arith}
use Rattle.std.specs.Prelude.{flat_map, codes}
use Rattle.std.specs.Fmt.{digits}
use Rattle.spec_terms.specs.Readable.{is_name}
use Rattle.spec_terms.specs.declared.path.PathStep.TheVariants.{Branch as To, Part as Into}
use Rattle.spec_bitcoin.specs.declared.verdict.Refusal.TheVariants as refusal
use Rattle.spec_calculus.specs.Configuration.{Configuration}
use Rattle.spec_run.specs.declared.event.Event.TheVariants as events
use Rattle.spec_run.specs.declared.outcome.Reason.TheVariants as reason
use Rattle.spec_next.specs.declared.lead.Made.TheVariants as makes
use Rattle.spec_next.specs.declared.outlook.Outlook.{Outlook}
use Rattle.spec_next.specs.declared.outlook.Ruling.TheVariants as rulings
use Rattle.spec_next.specs.declared.requirement.Requirement.TheVariants as requirements
use Rattle.spec_text.specs.RunText.{newline}
use Rattle.theory_play_text.specs.Printable.{IsWide}
use Rattle.theory_next_text.specs.Lines.{NextLine, next_of}
use Rattle.theory_next_text.specs.Lines as line
use Rattle.theory_next_text.specs.Missing as lack
use Rattle.theory_next_text.specs.Sayable.{IsSayable}

abbrev some_lines : List NextLine → Option (List NextLine)
some_lines ls = Some ls

abbrev parties : List (List ℕ)
parties = codes "Buyer" ∷ codes "Seller" ∷ codes "Mediator" ∷ []

abbrev text : List (List ℕ) → List ℕ
text lines = flat_map (λ l. l ++ newline) lines

escrow : next_of parties (text (codes "height 0" ∷ codes "contract 0" ∷ codes "can fire #3 0" ∷ codes "path r.0 pays Seller 100"
    ∷ codes "cannot fire #3 2 NotFinal" ∷ codes "path r.2 to r.2/0 3 to r.2/1 97" ∷ codes "needs height 1000 by mine 1000"
    ∷ codes "needs Mediator authorises #3 2" ∷ codes "waits Seller" ∷ []))
    ≡ some_lines (line.height 0 ∷ line.contract 0 ∷ line.event (events.Fire 3 0) rulings.Can
    ∷ line.leads (record { path = To 0 ∷ []; made = makes.Paid (codes "Seller") 100 ∷ [] })
    ∷ line.event (events.Fire 3 2) (rulings.Cannot (reason.Ledger refusal.NotFinal))
    ∷ line.leads (record {
      path = To 2 ∷ [];
      made = makes.Led (To 2 ∷ Into 0 ∷ []) 3 ∷ makes.Led (To 2 ∷ Into 1 ∷ []) 97 ∷ [];
    })
    ∷ line.lacks (lack.one (requirements.Height 1000 1000)) ∷ line.lacks (lack.authorisations (codes "Mediator" ∷ []) 3 2)
    ∷ line.waits (codes "Seller") ∷ [])
unfolding next_of is_name
escrow = refl

-- names that are words of such lines, too
names : next_of (codes "commit" ∷ codes "halts" ∷ []) (text (codes "needs commit halts commit 0" ∷ codes "needs digest commits 1"
    ∷ codes "cannot commit 0 halts halts" ∷ codes "cannot commit 0 commit NoSecret halts" ∷ codes "needs fire init 2"
    ∷ codes "needs fire inits 2" ∷ []))
    ≡ some_lines (line.lacks (lack.commitments (codes "commit" ∷ codes "halts" ∷ []) 0)
    ∷ line.lacks (lack.commitments (codes "digest" ∷ []) 1)
    ∷ line.event (events.Commit 0 (codes "halts") []) rulings.Halts
    ∷ line.event (events.Commit 0 (codes "commit") []) (rulings.Cannot (reason.NoSecret (codes "halts")))
    ∷ line.lacks (lack.one (requirements.Beginning 2)) ∷ line.lacks (lack.starts (codes "fire" ∷ []) 2) ∷ [])
unfolding next_of is_name
names = refl

-- and what is no such line
abbrev unread : Option (List NextLine)
unread = None

wrong : next_of parties (text (codes "needs Seller commit 0" ∷ [])) ≡ unread
unfolding next_of is_name
wrong = refl

-- a contract of which a party may commit once it is advertised: all of it may be said
abbrev waiting : Outlook
waiting = record {
  contract = 0;
  parties = parties;
  prospects = record {
    event = events.Commit 0 (codes "Seller") [];
    ruling = rulings.Cannot reason.NotAdvertised;
    requirements = requirements.Advert 0 ∷ [];
  } ∷ [];
  waits = codes "Seller" ∷ [];
}

sayable : (g : Configuration) → IsWide g.time → IsSayable parties g (waiting ∷ [])
unfolding is_name digits
sayable g h = record {
  height = h;
  contracts = (
    record {
      contract = omega arith;
      prospects = (
        record {
          spelled = record { read = refl; one_line = refl };
          next = (omega arith, refl, refl);
          ruled = tt;
          leads = tt;
          lacks = (omega arith, tt);
        },
        tt,
      );
      waits = (refl, tt);
    },
    tt,
  );
}
