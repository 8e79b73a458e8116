-- Witnesses that are put into their inputs as they are read.
use Rattle.std.proofs.Common.{◌≡◌, ℕ, zero, suc, ◌+◌, ◌-◌, List, [], ◌∷◌, ◌++◌, length, Bool, true, false, Result, Ok, Err, refl, sym, ap, ◌∙◌, arith, append-nil}
use Rattle.std.specs.Prelude.{◌||◌}
use Rattle.spec_bitcoin.specs.declared.tx.TxIn.{TxIn}
use Rattle.spec_bitcoin.specs.Spelling.{is_filled}
use Rattle.spec_bitcoin.specs.Reading.{◌>>=◌, Body, byte_where, choose, is_one, is_zero, plain_at, marked_at, witness_at, witnesses_at, with_witnesses, may_be}
use Rattle.bm_tx.specs.declared.fault.ReadError.{ReadError}
use Rattle.bm_tx.specs.declared.fault.ReadError.TheVariants.{Memory, Bad}
use Rattle.bm_tx.specs.Giving.{Fails, Gives, filled_at, after_marker}
use Rattle.bm_tx.proofs.Loop.{with_prefix, regroup}

-- ---- one input after another

less_one : (items is : List TxIn) (i : TxIn) (left : ℕ) → items ≡ i ∷ is → left ≡ length items → left - 1 ≡ length is
less_one items is i left cut count = let n : length items ≡ suc (length is) = ap length cut in omega (arith, n, count)

pub filled_goes_on : (prefix next items is : List TxIn) (i new : TxIn) (left : ℕ) (seen now : Bool) (bytes : List ℕ) (w : List (List ℕ))
    (after : List ℕ) (total : Result (List TxIn × List ℕ) ℕ)
    → items ≡ i ∷ is → left ≡ length items → new ≡ record i { witness = w } → now ≡ seen || is_filled w → next ≡ prefix ++ new ∷ []
    → witness_at (may_be (left - 1) seen) bytes ≡ Ok (w, after)
    → with_prefix prefix (filled_at items seen bytes) ≡ total → with_prefix next (filled_at is now after) ≡ total
unfolding filled_at
filled_goes_on prefix next items is i new left seen now bytes w after total cut count filled flag pushed h so_far =
    let less : left - 1 ≡ length is = less_one items is i left cut count in
    let reads : witness_at (may_be (length is) seen) bytes ≡ Ok (w, after) = rw (← less) h in
    let one : with_prefix prefix (filled_at (i ∷ is) seen bytes)
    ≡ with_prefix (prefix ++ record i { witness = w } ∷ []) (filled_at is (seen || is_filled w) after) =
    rw reads (regroup prefix (record i { witness = w }) (filled_at is (seen || is_filled w) after)) in
    rw (pushed, filled, flag) (sym one ∙ ap (λ l. with_prefix prefix (filled_at l seen bytes)) (sym cut) ∙ so_far)

pub filled_ends : (e : ReadError) (prefix items is : List TxIn) (i : TxIn) (left : ℕ) (seen : Bool) (bytes : List ℕ) (total : Result (List TxIn × List ℕ) ℕ)
    → items ≡ i ∷ is → left ≡ length items → Fails e (witness_at (may_be (left - 1) seen) bytes)
    → with_prefix prefix (filled_at items seen bytes) ≡ total → Fails e total
unfolding filled_at
filled_ends Memory prefix items is i left seen bytes total cut count h so_far = tt
filled_ends (Bad k) prefix items is i left seen bytes total cut count h so_far =
    let less : left - 1 ≡ length is = less_one items is i left cut count in
    let stops : witness_at (may_be (length is) seen) bytes ≡ Err k = rw (← less) h in
    let one : with_prefix prefix (filled_at (i ∷ is) seen bytes) ≡ Err k = rw stops refl in
    sym so_far ∙ ap (λ l. with_prefix prefix (filled_at l seen bytes)) cut ∙ one

pub filled_done : (prefix items : List TxIn) (seen : Bool) (bytes : List ℕ) (total : Result (List TxIn × List ℕ) ℕ) → items ≡ []
    → with_prefix prefix (filled_at items seen bytes) ≡ total → total ≡ Ok (prefix, bytes)
unfolding filled_at
filled_done prefix items seen bytes total none so_far =
    let one : with_prefix prefix (filled_at [] seen bytes) ≡ Ok (prefix, bytes) =
    ap (λ (l : List TxIn). let r : Result (List TxIn × List ℕ) ℕ = Ok (l, bytes) in r) (append-nil prefix) in
    sym so_far ∙ ap (λ l. with_prefix prefix (filled_at l seen bytes)) none ∙ one

-- ---- the same as reading all witnesses first

abbrev then_put : List TxIn → Result (List (List (List ℕ)) × List ℕ) ℕ → Result (List TxIn × List ℕ) ℕ
then_put is read = read >>= λ ws. Ok (with_witnesses is ws.0, ws.1)

abbrev then_first : TxIn → Result (List TxIn × List ℕ) ℕ → Result (List TxIn × List ℕ) ℕ
then_first i read = read >>= λ others. Ok (i ∷ others.0, others.1)

put_first : (i : TxIn) (is : List TxIn) (w : List (List ℕ)) (read : Result (List (List (List ℕ)) × List ℕ) ℕ)
    → then_put (i ∷ is) (read >>= λ ws. Ok (w ∷ ws.0, ws.1)) ≡ then_first (record i { witness = w }) (then_put is read)
put_first i is w (Ok ws) = refl
put_first i is w (Err e) = refl

filled_after : (i : TxIn) (is : List TxIn) (seen : Bool)
    → ((now : Bool) (bytes : List ℕ) → filled_at is now bytes ≡ then_put is (witnesses_at (length is) now bytes)) → (read : Result (List (List ℕ) × List ℕ) ℕ)
    → (read >>= λ w. then_first (record i { witness = w.0 }) (filled_at is (seen || is_filled w.0) w.1))
    ≡ then_put (i ∷ is) (read >>= λ w. witnesses_at (length is) (seen || is_filled w.0) w.1 >>= λ ws. Ok (w.0 ∷ ws.0, ws.1))
filled_after i is seen others (Err e) = refl
filled_after i is seen others (Ok w) =
    ap (then_first (record i { witness = w.0 })) (others (seen || is_filled w.0) w.1)
    ∙ sym (put_first i is w.0 (witnesses_at (length is) (seen || is_filled w.0) w.1))

filled_is : (is : List TxIn) (seen : Bool) (bytes : List ℕ) → filled_at is seen bytes ≡ then_put is (witnesses_at (length is) seen bytes)
unfolding filled_at witnesses_at
filled_is [] seen bytes = refl
filled_is (i ∷ is) seen bytes = filled_after i is seen (filled_is is) (witness_at (may_be (length is) seen) bytes)

-- ---- after the marker

put_outputs : (body : Body × List ℕ) (read : Result (List (List (List ℕ)) × List ℕ) ℕ)
    → (then_put body.0.0 read >>= λ inputs. let r : Result (Body × List ℕ) ℕ = Ok ((inputs.0, body.0.1), inputs.1) in r)
    ≡ (read >>= λ ws. let r : Result (Body × List ℕ) ℕ = Ok ((with_witnesses body.0.0 ws.0, body.0.1), ws.1) in r)
put_outputs body (Ok ws) = refl
put_outputs body (Err e) = refl

after_body : (read : Result (Body × List ℕ) ℕ)
    → (read >>= λ body. filled_at body.0.0 false body.1 >>= λ inputs. let r : Result (Body × List ℕ) ℕ = Ok ((inputs.0, body.0.1), inputs.1) in r)
    ≡ (read >>= λ body. witnesses_at (length body.0.0) false body.1 >>= λ ws. let r : Result (Body × List ℕ) ℕ =
    Ok ((with_witnesses body.0.0 ws.0, body.0.1), ws.1) in r)
after_body (Ok body) = rw (filled_is body.0.0 false body.1) (put_outputs body (witnesses_at (length body.0.0) false body.1))
after_body (Err e) = refl

after_flag : (read : Result (ℕ × List ℕ) ℕ)
    → (read >>= λ flag. plain_at flag.1 >>= λ body. filled_at body.0.0 false body.1 >>= λ inputs. let r : Result (Body × List ℕ) ℕ =
    Ok ((inputs.0, body.0.1), inputs.1) in r)
    ≡ (read >>= λ flag. plain_at flag.1 >>= λ body. witnesses_at (length body.0.0) false body.1 >>= λ ws. let r : Result (Body × List ℕ) ℕ =
    Ok ((with_witnesses body.0.0 ws.0, body.0.1), ws.1) in r)
after_flag (Ok flag) = after_body (plain_at flag.1)
after_flag (Err e) = refl

marked_zero : (rest : List ℕ) → after_marker rest ≡ marked_at (0 ∷ rest)
unfolding marked_at
marked_zero rest = after_flag (byte_where is_one rest)

gives_same : {X : Type 0} (view : X → Body × List ℕ) (r : Result X ReadError) (a b : Result (Body × List ℕ) ℕ) → a ≡ b → Gives view r a → Gives view r b
gives_same view r a b e h = rw (← e) h

-- where the first byte is the marker
pub gives_marked : {X : Type 0} (view : X → Body × List ℕ) (r : Result X ReadError) (bytes rest : List ℕ) (b : ℕ) → bytes ≡ b ∷ rest → b ≡ 0
    → Gives view r (after_marker rest) → Gives view r (choose is_zero marked_at plain_at bytes)
gives_marked view r bytes rest b cut is h =
    let one : choose is_zero marked_at plain_at (0 ∷ rest) ≡ choose is_zero marked_at plain_at bytes =
    ap (λ (n : ℕ). choose is_zero marked_at plain_at (n ∷ rest)) (sym is) ∙ ap (choose is_zero marked_at plain_at) (sym cut) in
    gives_same view r (after_marker rest) (choose is_zero marked_at plain_at bytes) (marked_zero rest ∙ one) h
