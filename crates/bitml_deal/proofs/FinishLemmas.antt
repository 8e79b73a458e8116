-- What is answered where a transaction is finished, or isn't.
use Rattle.std.proofs.Common.{◌≡◌, ℕ, List, Option, Some, None, refl, sym, ap, subst, ◌∙◌}
use Rattle.std.specs.Prelude.{IfOk, Result, Ok, Err}
use Rattle.spec_compiler.specs.Keyed.Keys.{Keys}
use Rattle.spec_compiler.specs.Keyed.Instance.{Instance}
use Rattle.spec_tool.specs.Reads.{Text}
use Rattle.spec_deal.specs.declared.finish.FinishRefusal.{FinishRefusal}
use Rattle.spec_deal.specs.declared.transaction.Transaction.{Transaction}
use Rattle.spec_deal.specs.Answers.{signatures_in, unless_refused}
use Rattle.spec_deal.specs.SignatureFile.{read_given}
use Rattle.spec_deal.specs.Transactions.{transactions}
use Rattle.spec_tool.specs.Replies.{printed}
use Rattle.spec_tool.specs.declared.reply.Reply.{Reply}
use Rattle.deal_finish.specs.declared.error.FinishError.{FinishError}
use Rattle.deal_finish.specs.declared.error.FinishError.TheVariants as finishes
use Rattle.deal_finish.specs.Finishes.{Refuses}
use Rattle.spec_deal.specs.declared.fault.SignatureFault.{SignatureFault}
use Rattle.spec_deal.specs.Verifier.{secp256k1}
use Rattle.deal_signatures.specs.declared.error.SignatureError.{SignatureError}
use Rattle.deal_signatures.specs.declared.error.SignatureError.TheVariants as files
use Rattle.deal_signatures.specs.Gives as signatures
use Rattle.bitml_deal.specs.Later.{given_in, IsUnfinished}

-- the code says why
pub unfinished_is : {E : Type 0} (error : FinishError) (why : Option FinishRefusal) (bytes : List ℕ) (r : Result Reply E)
    → Refuses error why → IfOk r (λ reply. IsUnfinished error (printed reply))
    → IfOk r (λ reply. printed reply ≡ unless_refused why bytes)
unfinished_is (finishes.Refused refusal) why bytes (Ok reply) e h = h ∙ sym (ap (λ o. unless_refused o bytes) e)
unfinished_is finishes.Memory why bytes (Ok reply) e h = absurd h
unfinished_is error why bytes (Err requirement) e h = tt

-- the signatures of a file, by the transactions
pub given_is : (hash : List ℕ → List ℕ) (keys : Keys) (s : Instance) (ts : List Transaction) (text : Text) → ts ≡ transactions hash keys s
    → signatures_in secp256k1 hash keys s text ≡ given_in ts text
given_is hash keys s ts None same = refl
given_is hash keys s ts (Some bytes) same = ap (λ x. read_given secp256k1 x bytes) (sym same)

-- why a file of signatures is refused
pub refused_for : {Y : Type 0} (error : SignatureError) (fault : SignatureFault) (read : Result Y SignatureFault) → signatures.Refuses error read
    → error ≡ files.Refused fault → read ≡ Err fault
refused_for error fault read h e = subst (λ (x : SignatureError). signatures.Refuses x read) e h
