-- What the readers of the entries of a precondition tell.
use Rattle.std.proofs.Common.{◌≡◌, ℕ, zero, suc, Bool, true, false, List, [], ◌∷◌, ◌++◌, length, Result, Ok, Err, refl, sym, ap, subst, ◌∙◌, append_assoc}
use Rattle.std.proofs.lemmas.List.{append-nil}
use Rattle.spec_terms.specs.declared.pre.Pre.{Pre}
use Rattle.spec_terms.specs.declared.pre.Pre.TheVariants.{Persistent, Volatile, Secret}
use Rattle.spec_terms.specs.declared.limit.Limit.{Limit}
use Rattle.spec_data.specs.Ranges.{max_money}
use Rattle.spec_text.specs.declared.stop.Stop.{Stop}
use Rattle.spec_text.specs.declared.stop.Stop.TheVariants as stops
use Rattle.spec_text.specs.declared.token.Keyword.TheVariants as word
use Rattle.spec_text.specs.declared.token.Symbol.TheVariants as mark
use Rattle.spec_text.specs.declared.lexeme.Lexeme.{Lexeme}
use Rattle.spec_text.specs.declared.lexeme.Lexeme.TheVariants.{Keyword as keyword, Symbol as symbol, Name as name, Number as number}
use Rattle.spec_text.specs.Grammar.{entry, more_entries}
use Rattle.spec_text.specs.Reading.{Reads, ◌>>=◌, taken, above}
use Rattle.spec_text.specs.ReadAdvert.{EntryKind, persistent, volatile, secret, an_entry_kind, head_at, deposit_of, deposit_at, secret_at, entry_rest_at, Room, room_after, is_full, entry_limit, room_for, entry_at, entries_go_on, entries_at}
use Rattle.theory_bitcoin.proofs.Languages.{Taken, Some_text, Nothing, Seq}
use Rattle.theory_text.proofs.Told.Tells.{Told, Exact, Clear, pure, seq, transfer, before, stopped_in, moved}
use Rattle.theory_text.proofs.Told.FirstToken.{stands_itself}
use Rattle.theory_text.proofs.Told.Sees.{Sees, As, token, clear_as, marks, is_mark, that, the_symbol, named, the_name, numbered, the_number}
use Rattle.theory_text.proofs.Told.Clears.{Clear_to, clear_to, clear_of, clear_pure, clear_seq, clear_from, clear_zero}
use Rattle.theory_text.proofs.Told.CountedTexts.{clear_after}

-- ---- the head of an entry

abbrev kind_token : EntryKind → Lexeme
kind_token persistent = symbol mark.Bang
kind_token volatile = symbol mark.Question
kind_token secret = keyword word.Secret

kind_takes : (c : Lexeme) (k : EntryKind) → an_entry_kind c ≡ taken k → c ≡ kind_token k
kind_takes (symbol mark.Bang) persistent h = refl
kind_takes (symbol mark.Question) volatile h = refl
kind_takes (keyword word.Secret) secret h = refl
kind_takes c k h = absurd cc

kind_back : (k : EntryKind) → an_entry_kind (kind_token k) ≡ taken k
kind_back persistent = refl
kind_back volatile = refl
kind_back secret = refl

kind_low : (c : Lexeme) (w : Limit) → an_entry_kind c ≡ above w → ⊥
kind_low (symbol mark.Bang) w h = absurd cc
kind_low (symbol mark.Question) w h = absurd cc
kind_low (keyword word.Secret) w h = absurd cc
kind_low c w h = absurd cc

kind_mark : (k : EntryKind) → is_mark (kind_token k) ≡ true
kind_mark persistent = refl
kind_mark volatile = refl
kind_mark secret = refl

the_kind : Sees kind_token an_entry_kind
the_kind = marks secret kind_takes kind_back kind_low kind_mark

abbrev Head : List Lexeme → List ℕ × EntryKind → Type 0
Head = Seq (As named) (λ a. Seq (As (that (symbol mark.Colon))) (λ u. Seq (As kind_token) (λ k. Nothing (a, k))))

a_head : Exact Head head_at
unfolding head_at
a_head =
    seq (clear_as the_name) (token the_name) (λ a t l.
    seq (clear_as (the_symbol mark.Colon refl)) (token (the_symbol mark.Colon refl)) (λ c u m.
    seq (clear_as the_kind) (token the_kind) (λ k w q.
    pure (a, k))))

head_clear_to : (n : ℕ) → Clear_to n Head
head_clear_to n = clear_seq (clear_to (clear_as the_name))
    (λ a. clear_seq (clear_to (clear_as (the_symbol mark.Colon refl))) (λ c. clear_seq (clear_to (clear_as the_kind)) (λ k. clear_pure (a, k))))

head_text : (t : List Lexeme) (h : List ℕ × EntryKind) → Head t h → t ≡ name (h.0) ∷ symbol mark.Colon ∷ kind_token (h.1) ∷ []
head_text t h s =
    let r = s.back.back in
    let is : t ≡ name s.value ∷ symbol mark.Colon ∷ kind_token r.value ∷ [] =
    s.parts ∙ rw (s.prefix.single, s.back.parts, s.back.prefix.single, r.parts, r.prefix.single, r.back.empty) refl in
    is ∙ ap (λ (z : List ℕ × EntryKind). name (z.0) ∷ symbol mark.Colon ∷ kind_token (z.1) ∷ []) r.back.same

-- ---- the rest of an entry

abbrev Deposit : Bool → List ℕ → List Lexeme → Pre → Type 0
Deposit persists party = Seq (As numbered) (λ v. Seq (As (that (symbol mark.At))) (λ u. Seq (As named) (λ x. Nothing (deposit_of persists party v x))))

abbrev EntryRest : EntryKind → List ℕ → List Lexeme → Pre → Type 0
EntryRest persistent party = Deposit true party
EntryRest volatile party = Deposit false party
EntryRest secret party = Seq (As named) (λ x. Nothing (Secret party x))

a_deposit : (persists : Bool) (party : List ℕ) → Exact (Deposit persists party) (deposit_at persists party)
unfolding deposit_at
a_deposit persists party =
    seq (clear_as (the_number max_money)) (token (the_number max_money)) (λ v t l.
    seq (clear_as (the_symbol mark.At refl)) (token (the_symbol mark.At refl)) (λ o u m.
    seq (clear_as the_name) (token the_name) (λ x w q.
    pure (deposit_of persists party v x))))

a_secret : (party : List ℕ) → Exact (EntryRest secret party) (secret_at party)
unfolding secret_at
a_secret party = seq (clear_as the_name) (token the_name) (λ x t l. pure (Secret party x))

an_entry_rest : (k : EntryKind) (party : List ℕ) → Exact (EntryRest k party) (entry_rest_at k party)
an_entry_rest persistent party = a_deposit true party
an_entry_rest volatile party = a_deposit false party
an_entry_rest secret party = a_secret party

deposit_clear : (n : ℕ) (persists : Bool) (party : List ℕ) → Clear_to n (Deposit persists party)
deposit_clear n persists party =
    clear_seq (clear_to (clear_as (the_number max_money)))
    (λ v. clear_seq (clear_to (clear_as (the_symbol mark.At refl)))
    (λ o. clear_seq (clear_to (clear_as the_name)) (λ x. clear_pure (deposit_of persists party v x))))

entry_rest_clear : (n : ℕ) (k : EntryKind) (party : List ℕ) → Clear_to n (EntryRest k party)
entry_rest_clear n persistent party = deposit_clear n true party
entry_rest_clear n volatile party = deposit_clear n false party
entry_rest_clear n secret party = clear_seq (clear_to (clear_as the_name)) (λ x. clear_pure (Secret party x))

-- ---- an entry

abbrev pub kind_of : Pre → EntryKind
kind_of (Persistent party value deposit) = persistent
kind_of (Volatile party value deposit) = volatile
kind_of (Secret party x) = secret

-- an entry, and the room after it
abbrev EntryText : Room → List Lexeme → Pre × Room → Type 0
EntryText room t v = (t ≡ entry (v.0)) × (v.1 ≡ room_after (kind_of (v.0)) room)

abbrev EntryLast : Room → List ℕ × EntryKind → List Lexeme → Pre × Room → Type 0
EntryLast room h = Seq (EntryRest (h.1) (h.0)) (λ p. Nothing (p, room_after (h.1) room))

abbrev EntrySeq : Room → List Lexeme → Pre × Room → Type 0
EntrySeq room = Seq Head (EntryLast room)

deposit_text : (persists : Bool) (party : List ℕ) (t : List Lexeme) (p : Pre) → Deposit persists party t p → (v : ℕ) × (x : List ℕ)
    × (t ≡ number v ∷ symbol mark.At ∷ name x ∷ []) × (deposit_of persists party v x ≡ p)
deposit_text persists party t p s =
    let r = s.back.back in
    let is : t ≡ number s.value ∷ symbol mark.At ∷ name r.value ∷ [] =
    s.parts ∙ rw (s.prefix.single, s.back.parts, s.back.prefix.single, r.parts, r.prefix.single, r.back.empty) refl in
    (s.value, r.value, is, r.back.same)

entry_rest_to : (k : EntryKind) (party : List ℕ) (t u : List Lexeme) (room : Room) (p : Pre) → t ≡ name party ∷ symbol mark.Colon
    ∷ kind_token k ∷ u → EntryRest k party u p → EntryText room t (p, room_after k room)
entry_rest_to persistent party t u room p is s =
    let d = deposit_text true party u p s in
    subst (λ (z : Pre). EntryText room t (z, room_after persistent room)) d.3
    (is ∙ ap (λ (z : List Lexeme). name party ∷ symbol mark.Colon ∷ symbol mark.Bang ∷ z) d.2, refl)
entry_rest_to volatile party t u room p is s =
    let d = deposit_text false party u p s in
    subst (λ (z : Pre). EntryText room t (z, room_after volatile room)) d.3
    (is ∙ ap (λ (z : List Lexeme). name party ∷ symbol mark.Colon ∷ symbol mark.Question ∷ z) d.2, refl)
entry_rest_to secret party t u room p is s =
    let text : u ≡ name s.value ∷ [] = s.parts ∙ rw (s.prefix.single, s.back.empty) refl in
    subst (λ (z : Pre). EntryText room t (z, room_after secret room)) s.back.same
    (is ∙ ap (λ (z : List Lexeme). name party ∷ symbol mark.Colon ∷ keyword word.Secret ∷ z) text, refl)

entry_to : (room : Room) (t : List Lexeme) (v : Pre × Room) → EntrySeq room t v → EntryText room t v
entry_to room t v s =
    let h = s.value in
    let is : t ≡ name h.0 ∷ symbol mark.Colon ∷ kind_token h.1 ∷ s.back.first =
    s.parts ∙ rw (head_text s.first s.value s.prefix, s.back.parts, s.back.back.empty, append-nil s.back.first) refl in
    subst (EntryText room t) s.back.back.same (entry_rest_to h.1 h.0 t s.back.first room s.back.value is s.back.prefix)

head_of : (party : List ℕ) (k : EntryKind) → Head (name party ∷ symbol mark.Colon ∷ kind_token k ∷ []) (party, k)
head_of party k = record {
  first = name party ∷ [];
  second = symbol mark.Colon ∷ kind_token k ∷ [];
  value = party;
  parts = refl;
  prefix = record { single = refl };
  back = record {
    first = symbol mark.Colon ∷ [];
    second = kind_token k ∷ [];
    value = tt;
    parts = refl;
    prefix = record { single = refl };
    back = record {
      first = kind_token k ∷ [];
      second = [];
      value = k;
      parts = refl;
      prefix = record { single = refl };
      back = record {
        empty = refl;
        same = refl;
      };
    };
  };
}

deposit_is : (persists : Bool) (party : List ℕ) (v : ℕ) (x : List ℕ)
    → Deposit persists party (number v ∷ symbol mark.At ∷ name x ∷ []) (deposit_of persists party v x)
deposit_is persists party v x = record {
  first = number v ∷ [];
  second = symbol mark.At ∷ name x ∷ [];
  value = v;
  parts = refl;
  prefix = record { single = refl };
  back = record {
    first = symbol mark.At ∷ [];
    second = name x ∷ [];
    value = tt;
    parts = refl;
    prefix = record { single = refl };
    back = record { first = name x ∷ []; second = []; value = x; parts = refl; prefix = record { single = refl }; back = record { empty = refl; same = refl } };
  };
}

entry_seq : (room : Room) (t : List Lexeme) (party : List ℕ) (k : EntryKind) (u : List Lexeme) (p : Pre) (r : Room) → t ≡ name party
    ∷ symbol mark.Colon ∷ kind_token k ∷ u → EntryRest k party u p → r ≡ room_after k room → EntrySeq room t (p, r)
entry_seq room t party k u p r is l e = record {
  first = name party ∷ symbol mark.Colon ∷ kind_token k ∷ [];
  second = u;
  value = (party, k);
  parts = is;
  prefix = head_of party k;
  back = record {
    first = u;
    second = [];
    value = p;
    parts = sym
        (append-nil u);
    prefix = l;
    back = record { empty = refl; same = ap (λ (z : Room). (p, z)) (sym e) };
  };
}

entry_of : (room : Room) (t : List Lexeme) (p : Pre) (r : Room) → t ≡ entry p → r ≡ room_after (kind_of p) room → EntrySeq room t (p, r)
entry_of room t (Persistent party v x) r is e =
    entry_seq room t party persistent (number v ∷ symbol mark.At ∷ name x ∷ []) (Persistent party v x) r is (deposit_is true party v x) e
entry_of room t (Volatile party v x) r is e =
    entry_seq room t party volatile (number v ∷ symbol mark.At ∷ name x ∷ []) (Volatile party v x) r is (deposit_is false party v x) e
entry_of room t (Secret party x) r is e =
    entry_seq room t party secret (name x ∷ []) (Secret party x) r is
    (record { first = name x ∷ []; second = []; value = x; parts = refl; prefix = record { single = refl }; back = record { empty = refl; same = refl } }) e

entry_from : (room : Room) (t : List Lexeme) (v : Pre × Room) → EntryText room t v → EntrySeq room t v
entry_from room t v l = entry_of room t (v.0) (v.1) (l.0) (l.1)

entry_clear_to : (n : ℕ) (room : Room) → Clear_to n (EntryText room)
entry_clear_to n room = clear_from (EntryText room) (entry_from room)
    (clear_seq (head_clear_to n) (λ h. clear_seq (entry_rest_clear n (h.1) (h.0)) (λ p. clear_pure (p, room_after (h.1) room))))

-- ---- the reader of an entry

an_entry_last : (room : Room) (h : List ℕ × EntryKind)
    → Exact (EntryLast room h) (λ ts. entry_rest_at (h.1) (h.0) ts >>= λ p. Ok ((p.0, room_after (h.1) room), p.1))
an_entry_last room h = seq (clear_of (λ n. entry_rest_clear n (h.1) (h.0))) (an_entry_rest (h.1) (h.0)) (λ p t l. pure (p, room_after (h.1) room))

head_clear : Clear Head
head_clear = clear_of head_clear_to

no_room_told : (room : Room) (ts : List Lexeme) (h : List ℕ × EntryKind) (rest : List Lexeme) (w : Limit) → Taken Head ts h rest
    → Told (EntryText room) ts (Err (stops.Limit w (length ts)))
no_room_told room ts h rest w t =
    let is : ts ≡ name h.0 ∷ symbol mark.Colon ∷ kind_token h.1 ∷ rest = t.parts ∙ ap (λ (z : List Lexeme). z ++ rest) (head_text t.text h t.spelled) in
    record {
      prefix = [];
      next = name h.0;
      after = symbol mark.Colon ∷ kind_token h.1 ∷ rest;
      parts = is;
      left_is = sym (ap length is);
      meant = name h.0;
      stands = stands_itself (name h.0);
      more = symbol mark.Colon ∷ keyword word.Secret ∷ name [] ∷ [];
      value = (Secret h.0 [], room_after secret room);
      begins = (refl, refl);
    }

room_told : (room : Room) (ts : List Lexeme) (h : List ℕ × EntryKind) (rest : List Lexeme) (full : Bool) → Taken Head ts h rest
    → Told (EntryText room) ts (room_for (h.1) full (length ts) >>= λ r. entry_rest_at (h.1) (h.0) rest >>= λ p. Ok ((p.0, room_after (h.1) room), p.1))
room_told room ts h rest true t = no_room_told room ts h rest (entry_limit (h.1)) t
room_told room ts h rest false t =
    let r = entry_rest_at (h.1) (h.0) rest >>= λ p. Ok ((p.0, room_after (h.1) room), p.1) in
    moved (EntrySeq room) (EntryText room) ts (entry_to room) (entry_from room) r
    (before Head (EntryLast room) head_clear ts h rest t r ((an_entry_last room h).tells rest).told)

entry_by : (room : Room) (ts : List Lexeme) (r : Result ((List ℕ × EntryKind) × List Lexeme) Stop) → Told Head ts r
    → Told (EntryText room) ts (r >>= λ h. room_for (h.0.1) (is_full (h.0.1) room) (length ts) >>= λ q. entry_rest_at (h.0.1) (h.0.0) (h.1)
    >>= λ p. Ok ((p.0, room_after (h.0.1) room), p.1))
entry_by room ts (Ok x) t = room_told room ts (x.0) (x.1) (is_full (x.0.1) room) t
entry_by room ts (Err e) s =
    moved (EntrySeq room) (EntryText room) ts (entry_to room) (entry_from room) (Err e)
    (stopped_in Head (EntryLast room) head_clear (λ h t l. (an_entry_last room h).some) ts e s)

an_entry : (room : Room) → Exact (EntryText room) (entry_at room)
unfolding entry_at
an_entry room = record {
  some = record {
    text = name [] ∷ symbol mark.Colon ∷ keyword word.Secret ∷ name []
        ∷ [];
    value = (Secret [] [], room_after secret room);
    spelled = (refl, refl);
  };
  tells = λ ts. record { told = entry_by room ts (head_at ts) (a_head.tells ts).told };
}

-- ---- all entries

abbrev bar_token : Bool → Lexeme
bar_token true = symbol mark.Bar
bar_token false = symbol mark.RightBrace

bar_takes : (c : Lexeme) (o : Bool) → entries_go_on c ≡ taken o → c ≡ bar_token o
bar_takes (symbol mark.Bar) true h = refl
bar_takes (symbol mark.RightBrace) false h = refl
bar_takes c o h = absurd cc

bar_back : (o : Bool) → entries_go_on (bar_token o) ≡ taken o
bar_back true = refl
bar_back false = refl

bar_low : (c : Lexeme) (w : Limit) → entries_go_on c ≡ above w → ⊥
bar_low (symbol mark.Bar) w h = absurd cc
bar_low (symbol mark.RightBrace) w h = absurd cc
bar_low c w h = absurd cc

bar_mark : (o : Bool) → is_mark (bar_token o) ≡ true
bar_mark true = refl
bar_mark false = refl

the_bar : Sees bar_token entries_go_on
the_bar = marks true bar_takes bar_back bar_low bar_mark

-- entries and the brace that closes
abbrev pub Entries : List Lexeme → List Pre → Type 0
Entries t [] = ⊥
Entries t (p ∷ ps) = t ≡ entry p ++ (more_entries ps ++ symbol mark.RightBrace ∷ [])

abbrev EntriesRest : Pre × Room → Bool → List Lexeme → List Pre → Type 0
EntriesRest p true = Seq Entries (λ r. Nothing (p.0 ∷ r))
EntriesRest p false = Nothing (p.0 ∷ [])

abbrev EntriesSeq : Room → List Lexeme → List Pre → Type 0
EntriesSeq room = Seq (EntryText room) (λ p. Seq (As bar_token) (EntriesRest p))

more_entries_of : (u : List Lexeme) (ps : List Pre) → Entries u ps → symbol mark.Bar ∷ u ≡ more_entries ps ++ symbol mark.RightBrace ∷ []
more_entries_of u [] l = absurd l
more_entries_of u (p ∷ ps) l = ap (λ (z : List Lexeme). symbol mark.Bar ∷ z) (l ∙ sym (append_assoc (entry p) (more_entries ps) (symbol mark.RightBrace ∷ [])))

entries_end : (t ts : List Lexeme) (p : Pre × Room) (o : Bool) (v : List Pre) → t ≡ entry (p.0) ++ bar_token o ∷ ts → EntriesRest p o ts v → Entries t v
entries_end t ts p false v is k = subst (Entries t) k.same (is ∙ ap (λ (z : List Lexeme). entry (p.0) ++ symbol mark.RightBrace ∷ z) k.empty)
entries_end t ts p true v is k =
    let text : ts ≡ k.first = k.parts ∙ rw (k.back.empty, append-nil k.first) refl in
    subst (Entries t) k.back.same (is ∙ ap (λ (z : List Lexeme). entry (p.0) ++ symbol mark.Bar ∷ z) text
    ∙ ap (λ (z : List Lexeme). entry (p.0) ++ z) (more_entries_of k.first k.value k.prefix))

entries_to : (room : Room) (t : List Lexeme) (v : List Pre) → EntriesSeq room t v → Entries t v
entries_to room t v s =
    let is : t ≡ entry s.value.0 ++ bar_token s.back.value ∷ s.back.second = s.parts ∙ rw (s.prefix.0, s.back.parts, s.back.prefix.single) refl in
    entries_end t s.back.second s.value s.back.value v is s.back.back

entries_from : (room : Room) (t : List Lexeme) (v : List Pre) → Entries t v → EntriesSeq room t v
entries_from room t [] l = absurd l
entries_from room t (p ∷ []) l = record {
  first = entry p;
  second = symbol mark.RightBrace ∷ [];
  value = (p, room_after (kind_of p) room);
  parts = l;
  prefix = (refl, refl);
  back = record {
    first = symbol mark.RightBrace
        ∷ [];
    second = [];
    value = false;
    parts = refl;
    prefix = record { single = refl };
    back = record { empty = refl; same = refl };
  };
}
entries_from room t (p ∷ q ∷ ps) l =
    let rest : List Lexeme = entry q ++ (more_entries ps ++ symbol mark.RightBrace ∷ []) in
    let is : t ≡ entry p ++ symbol mark.Bar ∷ rest =
    l ∙ ap (λ (z : List Lexeme). entry p ++ symbol mark.Bar ∷ z) (append_assoc (entry q) (more_entries ps) (symbol mark.RightBrace ∷ [])) in
    record {
      first = entry p;
      second = symbol mark.Bar ∷ rest;
      value = (p, room_after (kind_of p) room);
      parts = is;
      prefix = (refl, refl);
      back = record {
        first = symbol mark.Bar ∷ [];
        second = rest;
        value = true;
        parts = refl;
        prefix = record { single = refl };
        back = record { first = rest; second = []; value = q ∷ ps; parts = sym (append-nil rest); prefix = refl; back = record { empty = refl; same = refl } };
      };
    }

entry_some : (p : Pre) → [] ≡ entry p → ⊥
entry_some (Persistent party v x) h = absurd cc
entry_some (Volatile party v x) h = absurd cc
entry_some (Secret party x) h = absurd cc

nothing_before : (p : Pre) (u : List Lexeme) → [] ≡ entry p ++ u → ⊥
nothing_before (Persistent party v x) u h = absurd cc
nothing_before (Volatile party v x) u h = absurd cc
nothing_before (Secret party x) u h = absurd cc

entries_nothing : (ps : List Pre) → Entries [] ps → ⊥
entries_nothing [] l = l
entries_nothing (p ∷ ps) l = nothing_before p _ l

entries_rest_clear : (n : ℕ) → Clear_to n Entries → (p : Pre × Room) (o : Bool) → Clear_to n (EntriesRest p o)
entries_rest_clear n h p true = clear_seq h (λ r. clear_pure (p.0 ∷ r))
entries_rest_clear n h p false = clear_pure (p.0 ∷ [])

entries_clear_to : (n : ℕ) → Clear_to n Entries
entries_clear_to zero = clear_zero Entries entries_nothing
entries_clear_to (suc n) = clear_from Entries (entries_from (0, 0))
    (clear_after (EntryText (0, 0)) (λ p. Seq (As bar_token) (EntriesRest p)) (λ v l. entry_some (v.0) (l.0)) (entry_clear_to (suc n) (0, 0))
    (λ p. clear_seq (clear_to (clear_as the_bar)) (entries_rest_clear n (entries_clear_to n) p)))

pub entries_clear : Clear Entries
entries_clear = clear_of entries_clear_to

entry_clear : (room : Room) → Clear (EntryText room)
entry_clear room = clear_of (λ n. entry_clear_to n room)

-- ---- the reader of all entries

some_entries : Some_text Entries
some_entries =
    record { text = name [] ∷ symbol mark.Colon ∷ keyword word.Secret ∷ name [] ∷ symbol mark.RightBrace ∷ []; value = Secret [] [] ∷ []; spelled = refl }

some_rest : (p : Pre × Room) → Some_text (Seq (As bar_token) (EntriesRest p))
some_rest p = record {
  text = symbol mark.RightBrace ∷ [];
  value = p.0 ∷ [];
  spelled = record {
    first = symbol mark.RightBrace
        ∷ [];
    second = [];
    value = false;
    parts = refl;
    prefix = record { single = refl };
    back = record { empty = refl; same = refl };
  };
}

abbrev read_as : {A : Type 0} → A → Result A Stop
read_as x = Ok x

stays_full : (k : EntryKind) → is_full k (0, 0) ≡ true
stays_full persistent = refl
stays_full volatile = refl
stays_full secret = refl

room_closed : (k : EntryKind) (full : Bool) (n : ℕ) (r : Result (Pre × List Lexeme) Stop) (x : (Pre × Room) × List Lexeme) → full ≡ true
    → (room_for k full n >>= λ q. r >>= λ p. Ok ((p.0, room_after k (0, 0)), p.1)) ≡ read_as x → ⊥
room_closed k true n r x h e = absurd cc
room_closed k false n r x h e = absurd cc

never_read : (n : ℕ) (r : Result ((List ℕ × EntryKind) × List Lexeme) Stop) (x : (Pre × Room) × List Lexeme)
    → (r >>= λ h. room_for (h.0.1) (is_full (h.0.1) (0, 0)) n >>= λ q. entry_rest_at (h.0.1) (h.0.0) (h.1) >>= λ p. Ok
    ((p.0, room_after (h.0.1) (0, 0)), p.1)) ≡ read_as x → ⊥
never_read n (Ok y) x e = room_closed (y.0.1) (is_full (y.0.1) (0, 0)) n (entry_rest_at (y.0.1) (y.0.0) (y.1)) x (stays_full (y.0.1)) e
never_read n (Err d) x e = absurd cc

none_read : (ts : List Lexeme) (x : (Pre × Room) × List Lexeme) → entry_at (0, 0) ts ≡ read_as x → ⊥
unfolding entry_at
none_read ts x e = never_read (length ts) (head_at ts) x e

last_told : (ts : List Lexeme) (r : Result ((Pre × Room) × List Lexeme) Stop) → entry_at (0, 0) ts ≡ r → Told (EntryText (0, 0)) ts r
    → Told Entries ts (r >>= λ p. Ok (p.0.0 ∷ [], p.1))
last_told ts (Ok x) is t = absurd (none_read ts x is)
last_told ts (Err e) is s = moved (EntriesSeq (0, 0)) Entries ts (entries_to (0, 0)) (entries_from (0, 0)) (Err e)
    (stopped_in (EntryText (0, 0)) (λ p. Seq (As bar_token) (EntriesRest p)) (entry_clear (0, 0)) (λ p t l. some_rest p) ts e s)

abbrev entries_rest_at : ℕ → Pre × Room → Bool → List Lexeme → Reads (List Pre)
entries_rest_at n p o ts = elim o [
  | true ↦ entries_at n (p.1) ts >>= λ r. Ok (p.0 ∷ r.0, r.1)
  | false ↦ Ok (p.0 ∷ [], ts)
]

an_entries_rest : (n : ℕ) (p : Pre × Room) → Exact Entries (entries_at n (p.1)) → (o : Bool) → Exact (EntriesRest p o) (entries_rest_at n p o)
an_entries_rest n p h true = seq entries_clear h (λ r t l. pure (p.0 ∷ r))
an_entries_rest n p h false = pure (p.0 ∷ [])

-- entries are read exactly
pub entries_exact : (n : ℕ) (room : Room) → Exact Entries (entries_at n room)
unfolding entries_at
entries_exact zero room =
    record { some = some_entries; tells = λ ts. record { told = last_told ts (entry_at (0, 0) ts) refl ((an_entry (0, 0)).tells ts).told } }
entries_exact (suc n) room = transfer Entries (entries_to room) (entries_from room)
    (seq (entry_clear room) (an_entry room) (λ p t l.
    seq (clear_as the_bar) (token the_bar) (λ o u m.
    an_entries_rest n p (entries_exact n (p.1)) o)))
