-- Entries of a precondition that are read one after another, by the room that is left.
use Rattle.std.proofs.Common.{◌≡◌, ℕ, zero, suc, ◌+◌, Bool, true, false, List, [], ◌∷◌, ◌++◌, Ok, Err, refl, sym, ap, ◌∙◌, arith, append_assoc, subst}
use Rattle.spec_terms.specs.declared.pre.Pre.{Pre}
use Rattle.spec_text.specs.declared.stop.Stop.{Stop}
use Rattle.spec_text.specs.declared.lexeme.Lexeme.{Lexeme}
use Rattle.spec_text.specs.Reading.{Reads, ◌>>=◌, token_by}
use Rattle.spec_text.specs.ReadAdvert.{Room, entry_at, entries_at, entries_go_on}
use Rattle.bm_reader.specs.declared.error.ReadError.{ReadError}
use Rattle.bm_reader.specs.declared.error.ReadError.TheVariants as reads
use Rattle.bm_reader.specs.Gives.{Fails}
use Rattle.bm_reader.specs.Entries.{with_entries, added}

abbrev pub Entries : Type 0
Entries = Reads (List Pre)

-- entries so far with the room behind them
abbrev pub Added : Type 0
Added = (List Pre × Room) × List Lexeme

-- ---- a step, in the words of the definition

-- what is read behind an entry, where so many may come
abbrev entries_behind : ℕ → (Pre × Room) × List Lexeme → Entries
entries_behind n p = token_by entries_go_on (p.1) >>= λ o. elim (o.0) [ true ↦ entries_at n (p.0.1) (o.1) >>= λ r. Ok (p.0.0 ∷ r.0, r.1) | false ↦ Ok (p.0.0 ∷ [], o.1) ]

-- the same behind entries so far
abbrev pub all_behind : ℕ → Added → Entries
all_behind n p = token_by entries_go_on (p.1) >>= λ o. elim (o.0) [ true ↦ with_entries (p.0.0) (entries_at n (p.0.1) (o.1)) | false ↦ Ok (p.0.0, o.1) ]

regroup : (prefix : List Pre) (p : Pre) (read : Entries) → with_entries prefix (with_entries (p ∷ []) read) ≡ with_entries (prefix ++ p ∷ []) read
regroup prefix p (Ok x) = ap (λ (ps : List Pre). let a : Entries = Ok (ps, x.1) in a) (sym (append_assoc prefix (p ∷ []) (x.0)))
regroup prefix p (Err stop) = refl

more_behind : (n : ℕ) (prefix : List Pre) (p : Pre) (left : Room) (more : Bool) (rest : List Lexeme)
    → with_entries prefix (elim more [ true ↦ entries_at n left rest >>= λ r. let z : List Pre × List Lexeme = (p ∷ r.0, r.1) in let a : Entries = Ok z in a | false ↦ Ok (p ∷ [], rest) ])
    ≡ elim more [ true ↦ with_entries (prefix ++ p ∷ []) (entries_at n left rest) | false ↦ Ok (prefix ++ p ∷ [], rest) ]
more_behind n prefix p left true rest = regroup prefix p (entries_at n left rest)
more_behind n prefix p left false rest = refl

token_behind : (n : ℕ) (prefix : List Pre) (p : Pre) (left : Room) (read : Reads Bool)
    → with_entries prefix (read >>= λ o. elim (o.0) [ true ↦ entries_at n left (o.1) >>= λ r. let z : List Pre × List Lexeme = (p ∷ r.0, r.1) in let a : Entries = Ok z in a | false ↦ Ok (p ∷ [], o.1) ])
    ≡ (read >>= λ o. elim (o.0) [ true ↦ with_entries (prefix ++ p ∷ []) (entries_at n left (o.1)) | false ↦ let a : Entries = Ok (prefix ++ p ∷ [], o.1) in a ])
token_behind n prefix p left (Ok o) = more_behind n prefix p left (o.0) (o.1)
token_behind n prefix p left (Err stop) = refl

behind_added : (n : ℕ) (prefix : List Pre) (read : Reads (Pre × Room)) → with_entries prefix (read >>= entries_behind n) ≡ (added prefix read >>= all_behind n)
behind_added n prefix (Ok p) = token_behind n prefix (p.0.0) (p.0.1) (token_by entries_go_on (p.1))
behind_added n prefix (Err stop) = refl

step : (n : ℕ) (prefix : List Pre) (r : Room) (ts : List Lexeme) → with_entries prefix (entries_at (suc n) r ts)
    ≡ (added prefix (entry_at r ts) >>= all_behind n)
unfolding entries_at
step n prefix r ts = behind_added n prefix (entry_at r ts)

-- ---- the step, by the room

-- where an entry was read
step_read : (m : ℕ) (prefix items : List Pre) (r left : Room) (ts after : List Lexeme) → r.0 + r.1 ≡ m → (left.0 + left.1) + 1 ≡ r.0 + r.1
    → added prefix (entry_at r ts) ≡ Ok ((items, left), after)
    → with_entries prefix (entries_at m r ts) ≡ all_behind (left.0 + left.1) ((items, left), after)
step_read zero prefix items r left ts after sum less h = absurd (omega arith)
step_read (suc n) prefix items r left ts after sum less h =
    let k : n ≡ left.0 + left.1 = omega arith in
    let behind : Reads (List Pre × Room) → Entries = λ read. read >>= all_behind n in
    step n prefix r ts ∙ (ap behind h ∙ ap (λ (j : ℕ). all_behind j ((items, left), after)) k)

-- where none was
none_read : (prefix : List Pre) (stop : Stop) (read : Reads (Pre × Room)) → added prefix read ≡ Err stop → with_entries prefix (read >>= λ p. let z : List Pre × List Lexeme = (p.0.0 ∷ [], p.1) in let a : Entries = Ok z in a) ≡ Err stop
none_read prefix stop (Ok p) h = let Y : Type 0 = Reads (List Pre × Room) in let left : Y = Ok ((prefix ++ p.0.0 ∷ [], p.0.1), p.1) in let right : Y = Err stop in let e : left ≡ right = h in absurd cc
none_read prefix stop (Err other) h = let Y : Type 0 = Reads (List Pre × Room) in let left : Y = Err other in let right : Y = Err stop in let e : left ≡ right = h in let same : other ≡ stop = cc in rw same refl

step_stops : (m : ℕ) (prefix : List Pre) (r : Room) (ts : List Lexeme) (stop : Stop) → r.0 + r.1 ≡ m → added prefix (entry_at r ts)
    ≡ Err stop → with_entries prefix (entries_at m r ts) ≡ Err stop
unfolding entries_at
step_stops zero prefix r ts stop sum h =
    let d : r.0 ≡ 0 = omega arith in
    let s : r.1 ≡ 0 = omega arith in
    let none : Room = (0, 0) in
    let e : r ≡ none = λ i. (d i, s i) in
    let Stops : Room → Type 0 = λ x. added prefix (entry_at x ts) ≡ Err stop in
    none_read prefix stop (entry_at none ts) (subst Stops e h)
step_stops (suc n) prefix r ts stop sum h =
    let behind : Reads (List Pre × Room) → Entries = λ read. read >>= all_behind n in
    step n prefix r ts ∙ ap behind h

-- ---- what the loop owes

pub entry_fails : (error : ReadError) (prefix : List Pre) (r : Room) (ts : List Lexeme) (total : Entries)
    → Fails error (added prefix (entry_at r ts)) → with_entries prefix (entries_at (r.0 + r.1) r ts) ≡ total → Fails error total
entry_fails reads.Memory prefix r ts total h so_far = tt
entry_fails (reads.Stop stop) prefix r ts total h so_far = sym so_far ∙ step_stops (r.0 + r.1) prefix r ts stop refl h

pub end_fails : (error : ReadError) (prefix items : List Pre) (r left : Room) (ts after : List Lexeme) (total : Entries)
    → (left.0 + left.1) + 1 ≡ r.0 + r.1 → added prefix (entry_at r ts) ≡ Ok ((items, left), after)
    → Fails error (token_by entries_go_on after) → with_entries prefix (entries_at (r.0 + r.1) r ts) ≡ total → Fails error total
end_fails reads.Memory prefix items r left ts after total less h e so_far = tt
end_fails (reads.Stop stop) prefix items r left ts after total less h e so_far =
    sym so_far ∙ (step_read (r.0 + r.1) prefix items r left ts after refl less h ∙ rw e refl)

pub entries_end : (prefix items : List Pre) (r left : Room) (ts after rest : List Lexeme) (total : Entries) → (left.0 + left.1) + 1
    ≡ r.0 + r.1 → added prefix (entry_at r ts) ≡ Ok ((items, left), after)
    → token_by entries_go_on after ≡ Ok (false, rest) → with_entries prefix (entries_at (r.0 + r.1) r ts) ≡ total → total ≡ Ok (items, rest)
entries_end prefix items r left ts after rest total less h e so_far = sym so_far ∙ (step_read (r.0 + r.1) prefix items r left ts after refl less h ∙ rw e refl)

pub entries_go : (prefix items : List Pre) (r left : Room) (ts after rest : List Lexeme) (total : Entries) → (left.0 + left.1) + 1
    ≡ r.0 + r.1 → added prefix (entry_at r ts) ≡ Ok ((items, left), after)
    → token_by entries_go_on after ≡ Ok (true, rest) → with_entries prefix (entries_at (r.0 + r.1) r ts) ≡ total
    → with_entries items (entries_at (left.0 + left.1) left rest) ≡ total
entries_go prefix items r left ts after rest total less h e so_far =
    let one : with_entries prefix (entries_at (r.0 + r.1) r ts) ≡ with_entries items (entries_at (left.0 + left.1) left rest) = step_read (r.0 + r.1) prefix items r left ts after refl less h ∙ rw e refl in
    sym one ∙ so_far
