-- What a command answers that reads a deal is what it answers of the deal that is taken.
use Rattle.std.proofs.Common.{◌≡◌, ℕ, true, List, None, refl, sym, ap, subst, ◌∙◌}
use Rattle.std.specs.Prelude.{IfOk, Result, Ok, Err}
use Rattle.std.proofs.lemmas.Bool.{false≢true}
use Rattle.spec_tool.specs.Commands.{Printed}
use Rattle.spec_terms.specs.Advert.{Advert}
use Rattle.spec_text.specs.Refusals.{Judged}
use Rattle.spec_tool.specs.Answers.{contract_in}
use Rattle.spec_tool.specs.Reads.{Text, text_at}
use Rattle.spec_deal.specs.declared.deal.Deal.{Deal}
use Rattle.spec_deal.specs.declared.fault.DealFault.{DealFault}
use Rattle.spec_tool.specs.Replies.{printed}
use Rattle.spec_tool.specs.declared.reply.Reply.{Reply}
use Rattle.spec_deal.specs.Answers.{with_advert, with_deal, with_shown_deal, of_deal, of_shown_deal, deal_in, deal_text_answer}
use Rattle.spec_deal.specs.Commands as commands
use Rattle.spec_deal.specs.Commands.{DealCommand}
use Rattle.spec_deal.specs.Verifier.{secp256k1}
use Rattle.spec_chain.specs.Answers.{chain_text_answer}
use Rattle.spec_chain.specs.Commands as chains
use Rattle.spec_chain.specs.Commands.{ChainCommand, on_deal}
use Rattle.theory_deal.specs.Causes.{reads_deal as reads_its_deal}
use Rattle.bitml_deal.specs.Later.{deal_later_answer, reads_deal, later_answer}
use Rattle.bitml_deal.specs.Opens.{Answer, shown_answered, IsTaken, Leads}
use Rattle.bitml_deal.specs.declared.opening.Compiled.{Compiled}
use Rattle.bitml_deal.specs.declared.opening.Opening.{Opening}
use Rattle.bitml_deal.specs.declared.opening.Opening.TheVariants.{Refused, Taken}

-- a command that shows no address answers the same whatever the network
same_shown : (hash : List ℕ → List ℕ) (answer : Answer) (texts : List Text)
    → of_deal secp256k1 hash answer texts ≡ of_shown_deal secp256k1 hash (λ network. answer) texts
same_shown hash answer texts = by_contract (contract_in (text_at texts 0))
  where
    by_deal : (advert : Advert) (r : Result Deal DealFault)
        → with_deal hash answer advert r ≡ with_shown_deal hash (λ network. answer) advert r
    by_deal advert (Ok deal) = refl
    by_deal advert (Err fault) = refl

    by_contract : (c : Judged Advert)
        → with_advert (λ advert. with_deal hash answer advert (deal_in secp256k1 advert (text_at texts 1))) c
        ≡ with_advert (λ advert. with_shown_deal hash (λ network. answer) advert (deal_in secp256k1 advert (text_at texts 1))) c
    by_contract (Ok advert) = by_deal advert (deal_in secp256k1 advert (text_at texts 1))
    by_contract (Err why) = refl

deal_answer_is : (hash : List ℕ → List ℕ) (command : DealCommand) (texts : List Text) → reads_its_deal command ≡ true
    → deal_text_answer secp256k1 hash command texts ≡ of_shown_deal secp256k1 hash (deal_later_answer hash command texts) texts
deal_answer_is hash (commands.keys contract) texts e = absurd (false≢true e)
deal_answer_is hash (commands.plan contract deal) texts e = refl
deal_answer_is hash (commands.psbts contract deal) texts e =
    same_shown hash (deal_later_answer hash (commands.psbts contract deal) texts None) texts
deal_answer_is hash (commands.psbt contract deal which) texts e =
    same_shown hash (deal_later_answer hash (commands.psbt contract deal which) texts None) texts
deal_answer_is hash (commands.missing contract deal signatures) texts e =
    same_shown hash (deal_later_answer hash (commands.missing contract deal signatures) texts None) texts
deal_answer_is hash (commands.held contract deal signatures) texts e =
    same_shown hash (deal_later_answer hash (commands.held contract deal signatures) texts None) texts
deal_answer_is hash (commands.finish contract deal which signatures) texts e =
    same_shown hash (deal_later_answer hash (commands.finish contract deal which signatures) texts None) texts
deal_answer_is hash (commands.finish_with contract deal which signatures secrets) texts e =
    same_shown hash (deal_later_answer hash (commands.finish_with contract deal which signatures secrets) texts None) texts
deal_answer_is hash (commands.fund contract deal) texts e = absurd (false≢true e)
deal_answer_is hash (commands.warn contract deal) texts e =
    same_shown hash (deal_later_answer hash (commands.warn contract deal) texts None) texts
deal_answer_is hash (commands.warn_with contract deal secrets) texts e =
    same_shown hash (deal_later_answer hash (commands.warn_with contract deal secrets) texts None) texts
deal_answer_is hash (commands.ready contract deal signatures) texts e =
    same_shown hash (deal_later_answer hash (commands.ready contract deal signatures) texts None) texts
deal_answer_is hash (commands.ready_with contract deal signatures secrets) texts e =
    same_shown hash (deal_later_answer hash (commands.ready_with contract deal signatures secrets) texts None) texts
deal_answer_is hash (commands.endorse contract deal party) texts e =
    same_shown hash (deal_later_answer hash (commands.endorse contract deal party) texts None) texts
deal_answer_is hash (commands.hashes contract secrets) texts e = absurd (false≢true e)

answer_is : (hash : List ℕ → List ℕ) (command : ChainCommand) (texts : List Text) → reads_deal command ≡ true
    → chain_text_answer secp256k1 hash command texts ≡ of_shown_deal secp256k1 hash (later_answer hash command texts) texts
answer_is hash (on_deal command) texts e = deal_answer_is hash command texts e
answer_is hash (chains.show contract deal) texts e = refl
answer_is hash (chains.state contract deal chain signatures) texts e =
    same_shown hash (later_answer hash (chains.state contract deal chain signatures) texts None) texts
answer_is hash (chains.state_with contract deal chain signatures secrets) texts e =
    same_shown hash (later_answer hash (chains.state_with contract deal chain signatures secrets) texts None) texts

-- the reply to a deal that was taken
taken_by : {E : Type 0} (hash there : List ℕ → List ℕ) (command : ChainCommand) (texts : List Text) (messages : List (List ℕ))
    (opening : Opening) (c : Compiled) (r : Result Reply E)
    → reads_deal command ≡ true → there ≡ hash → opening ≡ Taken c
    → Leads hash (λ answer. of_shown_deal secp256k1 hash answer texts) messages opening
    → IfOk r (λ reply. printed reply ≡ shown_answered (later_answer there command texts) c)
    → IfOk r (λ reply. printed reply ≡ chain_text_answer secp256k1 hash command texts)
taken_by hash there command texts messages opening c r reads same taken leads h =
    let here : IsTaken hash (λ answer. of_shown_deal secp256k1 hash answer texts) messages c =
    subst (λ (o : Opening). Leads hash (λ answer. of_shown_deal secp256k1 hash answer texts) messages o) taken leads in
    let is : chain_text_answer secp256k1 hash command texts ≡ shown_answered (later_answer hash command texts) c =
    answer_is hash command texts reads ∙ here.answer_is (later_answer hash command texts) in
    subst (λ (p : Printed). IfOk r (λ reply. printed reply ≡ p))
    (ap (λ (f : List ℕ → List ℕ). shown_answered (later_answer f command texts) c) same ∙ sym is) h

-- the same where three values have one hash function
pub taken_reply : {E : Type 0} (hash first there : List ℕ → List ℕ) (command : ChainCommand) (texts : List Text)
    (messages : List (List ℕ)) (opening : Opening) (c : Compiled) (r : Result Reply E)
    → reads_deal command ≡ true → first ≡ hash → there ≡ first → opening ≡ Taken c
    → Leads first (λ answer. of_shown_deal secp256k1 first answer texts) messages opening
    → IfOk r (λ reply. printed reply ≡ shown_answered (later_answer there command texts) c)
    → IfOk r (λ reply. printed reply ≡ chain_text_answer secp256k1 hash command texts)
taken_reply hash first there command texts messages opening c r reads one other taken leads h =
    subst (λ (f : List ℕ → List ℕ). IfOk r (λ reply. printed reply ≡ chain_text_answer secp256k1 f command texts)) one
    (taken_by first there command texts messages opening c r reads other taken leads h)

-- the reply where none was taken
pub refused_reply : (hash first : List ℕ → List ℕ) (command : ChainCommand) (texts : List Text) (messages : List (List ℕ)) (opening : Opening)
    (reply : Reply)
    → reads_deal command ≡ true → first ≡ hash → opening ≡ Refused reply
    → Leads first (λ answer. of_shown_deal secp256k1 first answer texts) messages opening
    → printed reply ≡ chain_text_answer secp256k1 hash command texts
refused_reply hash first command texts messages opening reply reads one refused leads =
    let here : Leads first (λ answer. of_shown_deal secp256k1 first answer texts) messages (Refused reply) =
    subst (λ (o : Opening). Leads first (λ answer. of_shown_deal secp256k1 first answer texts) messages o) refused leads in
    sym (here (later_answer first command texts)) ∙ sym (answer_is first command texts reads)
    ∙ ap (λ (f : List ℕ → List ℕ). chain_text_answer secp256k1 f command texts) one
