-- An image stands for one list of changes at most, and what its bytes stand for while a record is written.
use Rattle.wal_journal.proofs.Common.{◌≡◌, ℕ, ◌+◌, ◌<◌, ◌≤◌, ◌^◌, List, [], ◌∷◌, ◌++◌, length, take, drop, refl, sym, ap, ◌∙◌, subst, arith, length-append, w32, from_be_bytes, take_at, drop_at, append_assoc, from_be_bytes-to_be_bytes_4, Part, most_bytes, Contents, Call, Put, no_contents, after_call, after_calls, size_text, Fields, fields, fields_text, spelling, IsWholeRecord, AreWholeRecords, records, Stands, part_byte, ◌≢◌, inl, inr, get_or, cases_eq, drop-drop, drop_more, take-append-drop, IsLawfulCall, AreLawful, lawful-append, Agrees, put_at, BeforeGate, Accepts, EitherWay, IsReady}
use Rattle.std.specs.Prelude.{⊤}
use Rattle.std.proofs.Math.Seq.{get_or-append_seam}
use Rattle.wal_journal.proofs.Moments.{front_same, back_same, length-put, put_agrees, agrees_trans, agrees_wider, get_or-put}

-- two texts of one length at the front of the same bytes
pub split_same : (a b r s : List ℕ) → length a ≡ length b → a ++ r ≡ b ++ s → (a ≡ b) × (r ≡ s)
split_same a b r s long same = (
  sym (take_at a r (length a) refl) ∙ ap (λ (l : List ℕ). take (length a) l) same ∙ take_at b s (length a) (sym long),
  sym (drop_at a r (length a) refl) ∙ ap (λ (l : List ℕ). drop (length a) l) same ∙ drop_at b s (length a) (sym long),
)

pub size_long : (n : ℕ) → length (size_text n) ≡ 4
unfolding size_text
size_long n = refl

pub size_read : (n : ℕ) → n < 2 ^ 32 → from_be_bytes w32 (size_text n) ≡ n
unfolding size_text
size_read n small = from_be_bytes-to_be_bytes_4 n small

pub size_once : (m n : ℕ) → m < 2 ^ 32 → n < 2 ^ 32 → size_text m ≡ size_text n → m ≡ n
size_once m n small other same = sym (size_read m small) ∙ ap (λ (l : List ℕ). from_be_bytes w32 l) same ∙ size_read n other

-- a text and what follows it, field by field
pub text_parts : (f : Fields) (r : List ℕ) → fields_text f ++ r ≡ f.kind ∷ (f.id ++ (f.part ∷ (size_text (length f.bytes) ++ (f.bytes ++ r))))
text_parts f r =
    let size = size_text (length f.bytes) in
    cc (append_assoc f.id (f.part ∷ (size ++ f.bytes)) r, append_assoc size f.bytes r)

-- a kind, an identifier, a part and a size at the front of the same bytes
pub parts_once : (k l p q m n : ℕ) (i j r s : List ℕ) → length i ≡ length j → m < 2 ^ 32 → n < 2 ^ 32
    → k ∷ (i ++ (p ∷ (size_text m ++ r))) ≡ l ∷ (j ++ (q ∷ (size_text n ++ s)))
    → (k ≡ l) × (i ≡ j) × (p ≡ q) × (m ≡ n) × (r ≡ s)
parts_once k l p q m n i j r s long small less same =
    let ids = split_same i j (p ∷ (size_text m ++ r)) (q ∷ (size_text n ++ s)) long cc in
    let sizes = split_same (size_text m) (size_text n) r s (size_long m ∙ sym (size_long n)) cc in
    (cc, ids.0, cc, size_once m n small less sizes.0, sizes.1)

-- the byte of a part tells which part it is
pub part_once : (a b : Part) → part_byte a ≡ part_byte b → a ≡ b
part_once a b same = grind arith

-- the change with these fields
fields_once : (c d : Call) → fields c ≡ fields d → c ≡ d
fields_once c d same = grind (arith, part_once)

pub whole_id : (c : Call) → IsWholeRecord c → length (fields c).id ≡ 32
whole_id (Put id part bytes) whole = whole.0
whole_id c whole = whole

pub whole_size : (c : Call) → IsWholeRecord c → length (fields c).bytes ≤ most_bytes
whole_size (Put id part bytes) whole = whole.2
whole_size c whole = omega arith

-- 38 bytes, and those of a put
pub spelling_size : (c : Call) → length (fields c).id ≡ 32 → length (spelling c) ≡ 38 + length (fields c).bytes
spelling_size c long =
    let f = fields c in
    let size = size_text (length f.bytes) in
    omega (arith, length-append f.id (f.part ∷ (size ++ f.bytes)), length-append size f.bytes, size_long (length f.bytes), long)

pub spelling_long : (c : Call) → IsWholeRecord c → length (spelling c) ≡ 38 + length (fields c).bytes
spelling_long c whole = spelling_size c (whole_id c whole)

-- two records at the front of the same bytes are one
pub one_spelling : (c d : Call) (r s : List ℕ) → IsWholeRecord c → IsWholeRecord d → spelling c ++ r ≡ spelling d ++ s
    → (c ≡ d) × (r ≡ s)
one_spelling c d r s whole other same =
    let f = fields c in
    let g = fields d in
    let parts =
    parts_once f.kind g.kind f.part g.part (length f.bytes) (length g.bytes) f.id g.id (f.bytes ++ r) (g.bytes ++ s)
    (whole_id c whole ∙ sym (whole_id d other)) (omega (arith, whole_size c whole)) (omega (arith, whole_size d other))
    (sym (text_parts f r) ∙ same ∙ text_parts g s) in
    let bytes = split_same f.bytes g.bytes r s parts.3 parts.4 in
    (fields_once c d (λ i. record { kind = parts.0 i; id = parts.1 i; part = parts.2 i; bytes = bytes.0 i }), bytes.1)

-- the records of more changes follow
pub records-append : (a b : List Call) → records (a ++ b) ≡ records a ++ records b
records-append [] b = refl
records-append (c ∷ a) b = ap (λ (l : List ℕ). 1 ∷ l) (ap (λ (l : List ℕ). spelling c ++ l) (records-append a b) ∙ sym (append_assoc (spelling c) (records a) (records b)))

-- no record of a change that may come next stands at the front of these bytes, with a byte behind it
abbrev pub Ends : (Contents → Call → Type 0) → Contents → List ℕ → Type 0
Ends May held bytes =
    (c : Call) (next : ℕ) (rest : List ℕ) → IsWholeRecord c → May held c → bytes ≡ 1 ∷ (spelling c ++ next ∷ rest) → ⊥

-- the first byte of records and a gate
first_byte : (changes : List Call) (gate : ℕ) (rest : List ℕ) → (next : ℕ) × (more : List ℕ) × (records changes ++ gate ∷ rest ≡ next ∷ more)
first_byte [] gate rest = (gate, rest, refl)
first_byte (c ∷ changes) gate rest = (1, (spelling c ++ records changes) ++ gate ∷ rest, refl)

-- changes that may come, one after the other
module _ (May : Contents → Call → Type 0) (All : Contents → List Call → Type 0)
    (parts : (held : Contents) (c : Call) (more : List Call) → All held (c ∷ more)
    → May held c × All (after_call held c) more) where
  no_more : (held : Contents) (c : Call) (b : List Call) (h : ℕ) (r s : List ℕ) → Ends May held r → IsWholeRecord c
      → All held (c ∷ b) → r ≡ records (c ∷ b) ++ h ∷ s → ⊥
  no_more held c b h r s ends whole all same =
      let first = first_byte b h s in
      ends c first.0 first.1 whole (parts held c b all).0
      (cc (same, first.2, append_assoc (spelling c) (records b) (h ∷ s)))

  -- the records up to an end are those of one list
  pub one_end : (held : Contents) (a b : List Call) (g h : ℕ) (r s : List ℕ) → AreWholeRecords a → AreWholeRecords b
      → All held a → All held b → Ends May (after_calls held a) (g ∷ r) → Ends May (after_calls held b) (h ∷ s)
      → records a ++ g ∷ r ≡ records b ++ h ∷ s → (a ≡ b) × (g ≡ h)
  one_end held [] [] g h r s wa wb la lb ends stops same = (refl, cc)
  one_end held [] (d ∷ b) g h r s wa wb la lb ends stops same = absurd (no_more held d b h (g ∷ r) s ends wb.0 lb same)
  one_end held (c ∷ a) [] g h r s wa wb la lb ends stops same =
      absurd (no_more held c a g (h ∷ s) r stops wa.0 la (sym same))
  one_end held (c ∷ a) (d ∷ b) g h r s wa wb la lb ends stops same =
      let first = one_spelling c d (records a ++ g ∷ r) (records b ++ h ∷ s) wa.0 wb.0
      (cc (append_assoc (spelling c) (records a) (g ∷ r), append_assoc (spelling d) (records b) (h ∷ s))) in
      let there = subst (λ (e : Call). All (after_call held e) b × Ends May (after_calls (after_call held e) b) (h ∷ s))
      (sym first.0) ((parts held d b lb).1, stops) in
      let rest = one_end (after_call held c) a b g h r s wa.1 wb.1 (parts held c a la).1 there.0 ends there.1 first.1 in
      (cc, rest.1)

-- in one image stand no two lists of changes
pub stands_once : (image : List ℕ) (changes others : List Call) → Stands image changes → Stands image others → changes ≡ others
stands_once image changes others a b =
    (one_end (λ held c. ⊤) (λ held l. ⊤) (λ held c more all. (tt, tt)) no_contents changes others a.gate b.gate
    a.rest b.rest a.whole b.whole tt tt (λ c next rest whole may is. a.closed cc)
    (λ c next rest whole may is. b.closed cc) (sym a.is ∙ b.is)).0

-- the record of one change more has its gate and its text
pub length-records-push : (changes : List Call) (c : Call) → length (records (changes ++ c ∷ [])) ≡ length (records changes) + 1 + length (spelling c)
length-records-push changes c =
    omega (arith, ap length (records-append changes (c ∷ [])), length-append (records changes) (1 ∷ (spelling c ++ [])), length-append (spelling c) [])

-- ---- what the bytes of a disk stand for while a record is written

-- bytes put behind a front
put_front : (front text more : List ℕ) (n : ℕ) → length front ≡ n → put_at n text (front ++ more) ≡ front ++ (text ++ drop (length text) more)
put_front front text more n long =
    cc (
      take_at front more n long,
      drop_at front more n long,
      drop-drop (length text) n (front ++ more),
      append_assoc front text (drop (length text) more),
    )

-- one more record
pub records-push : (changes : List Call) (c : Call) (rest : List ℕ) → records (changes ++ c ∷ []) ++ rest ≡ records changes ++ 1 ∷ (spelling c ++ rest)
records-push changes c rest =
    cc (
      records-append changes (c ∷ []),
      append_assoc (records changes) (1 ∷ (spelling c ++ [])) rest,
      append_assoc (spelling c) [] rest,
    )

pub whole-push : (changes : List Call) (c : Call) → AreWholeRecords changes → IsWholeRecord c → AreWholeRecords (changes ++ c ∷ [])
whole-push [] c whole is = (is, tt)
whole-push (d ∷ changes) c whole is = (whole.0, whole-push changes c whole.1 is)

pub lawful-push : (changes : List Call) (c : Call) → AreLawful no_contents changes → IsLawfulCall (after_calls no_contents changes) c → AreLawful no_contents (changes ++ c ∷ [])
lawful-push changes c lawful is = (lawful-append no_contents changes (c ∷ [])).1 (lawful, (is, tt))

module _ (front : List ℕ) (gate tail : ℕ) (rest : List ℕ) (long : length front ≡ tail) where
  gated_long : length (front ++ gate ∷ []) ≡ tail + 1
  gated_long = omega (arith, long, length-append front (gate ∷ []))

  -- a text is put behind the gate
  staged : (text : List ℕ) → put_at (tail + 1) text (front ++ gate ∷ rest) ≡ front ++ gate ∷ (text ++ drop (length text) rest)
  staged text =
      cc (
        put_front (front ++ gate ∷ []) text rest (tail + 1) gated_long,
        append_assoc front (gate ∷ []) rest,
        append_assoc front (gate ∷ []) (text ++ drop (length text) rest),
      )

  -- what is behind the gate may be anything
  torn_behind : (n : ℕ) (image : List ℕ) → Agrees ((tail + 1, n) ∷ []) (front ++ gate ∷ rest) image → image ≡ front ++ gate ∷ drop (tail + 1) image
  torn_behind n image agrees =
      cc (
        take-append-drop (tail + 1) image,
        front_same (tail + 1) n (front ++ gate ∷ rest) image agrees,
        take_at (front ++ gate ∷ []) rest (tail + 1) gated_long,
        append_assoc front (gate ∷ []) rest,
        append_assoc front (gate ∷ []) (drop (tail + 1) image),
      )

  -- the gate may be anything
  torn_gate : (image : List ℕ) → Agrees ((tail, 1) ∷ []) (front ++ gate ∷ rest) image → image ≡ front ++ get_or image tail 0 ∷ rest
  torn_gate image agrees =
      cc (
        take-append-drop tail image,
        front_same tail 1 (front ++ gate ∷ rest) image agrees,
        take_at front (gate ∷ rest) tail long,
        drop_more image tail 0 (omega (arith, agrees.long, long, length-append front (gate ∷ rest))),
        back_same tail 1 (front ++ gate ∷ rest) image agrees,
        drop_at (front ++ gate ∷ []) rest (tail + 1) gated_long,
        append_assoc front (gate ∷ []) rest,
      )

module _ {tail : ℕ} {old text : List ℕ} {changes : List Call} {c : Call} (ready : IsReady old tail text changes c) where
  behind : List ℕ
  behind = drop (length text) ready.accepts.stands.rest

  -- the record stands whole behind its gate
  is_staged : put_at (tail + 1) text old ≡ records changes ++ ready.accepts.stands.gate ∷ (spelling c ++ 0 ∷ behind)
  unfolding behind
  is_staged =
      let stands = ready.accepts.stands in
      cc (
        stands.is,
        staged (records changes) stands.gate tail stands.rest ready.at text,
        ready.text_is,
        append_assoc (spelling c) (0 ∷ []) (drop (length text) stands.rest),
      )

  -- the changes stand in front of a closed gate, and this one too where its gate is open
  without_it : (image : List ℕ) (g : ℕ) (rest : List ℕ) → image ≡ records changes ++ g ∷ rest → g ≢ 1
      → Accepts image changes
  without_it image g rest is closed = record {
    stands = record { whole = ready.accepts.stands.whole; gate = g; rest = rest; is = is; closed = closed };
    lawful = ready.accepts.lawful;
  }

  with_it : (image rest : List ℕ) → image ≡ records changes ++ 1 ∷ (spelling c ++ 0 ∷ rest)
      → Accepts image (changes ++ c ∷ [])
  with_it image rest shown = record {
    stands = record {
      whole = whole-push changes c ready.accepts.stands.whole ready.whole;
      gate = 0;
      rest = rest;
      is = cc (shown, records-push changes c (0 ∷ rest));
      closed = λ one. absurd (omega (arith, one));
    };
    lawful = lawful-push changes c ready.accepts.lawful ready.lawful;
  }

  -- the disk after its record was written
  pub accepts_more : (new : List ℕ) → new ≡ put_at tail (1 ∷ []) (put_at (tail + 1) text old)
      → Accepts new (changes ++ c ∷ [])
  accepts_more new written =
      let gate = ready.accepts.stands.gate in
      let opened = put_front (records changes) (1 ∷ []) (gate ∷ (spelling c ++ 0 ∷ behind)) tail ready.at in
      with_it new behind (cc (written, is_staged, opened))

  -- a crash on the way leaves the changes from before, with this one or without
  pub either_way : (image : List ℕ) → BeforeGate tail text old image → EitherWay changes c image
  either_way image (inl torn) =
      let stands = ready.accepts.stands in
      inl (without_it image stands.gate (drop (tail + 1) image) (torn_behind (records changes) stands.gate tail
      stands.rest ready.at (length text) image (rw (← stands.is) torn)) stands.closed)
  either_way image (inr torn) =
      let shown = torn_gate (records changes) ready.accepts.stands.gate tail (spelling c ++ 0 ∷ behind) ready.at image
      (rw (← is_staged) torn) in
      elim (cases_eq (get_or image tail 0) 1) [
        | inl one ↦ inr (with_it image behind (cc (shown, one)))
        | inr shut ↦ inl (without_it image (get_or image tail 0) (spelling c ++ 0 ∷ behind) shown shut)
      ]

-- no other bytes are written than those of the gate and of the text behind it
pub torn_only : (tail : ℕ) (text old image : List ℕ) → tail + 1 + length text ≤ length old → BeforeGate tail text old image → Agrees ((tail, 1 + length text) ∷ []) old image
torn_only tail text old image fits (inl torn) = agrees_wider (omega arith) (omega arith) torn
torn_only tail text old image fits (inr torn) =
    agrees_trans (agrees_wider (omega arith) (omega arith) (put_agrees (tail + 1) text old _ fits refl))
    (agrees_wider (omega arith) (omega arith) torn)

-- a text behind the byte 1, put at the tail, changes no other place
pub append_only : (tail : ℕ) (text old new : List ℕ) → tail + 1 + length text ≤ length old
    → new ≡ put_at tail (1 ∷ []) (put_at (tail + 1) text old) → Agrees ((tail, 1 + length text) ∷ []) old new
append_only tail text old new fits written =
    let within : tail + 1 ≤ length (put_at (tail + 1) text old) =
    omega (arith, length-put (tail + 1) text old fits, fits) in
    torn_only tail text old new fits (inr (put_agrees tail (1 ∷ []) _ new within written))

-- the gate behind a record that was written is that which the text ends with
pub gate_behind : (tail : ℕ) (text front old : List ℕ) → tail + 1 + length text ≤ length old → text ≡ front ++ 0 ∷ [] → get_or (put_at tail (1 ∷ []) (put_at (tail + 1) text old)) (tail + length text) 0 ≡ 0
gate_behind tail text front old fits is =
    let mid : List ℕ = put_at (tail + 1) text old in
    let long : length text ≡ length front + 1 = ap length is ∙ length-append front (0 ∷ []) in
    let opened =
    put_agrees tail (1 ∷ []) mid (put_at tail (1 ∷ []) mid)
    (omega (arith, length-put (tail + 1) text old fits, fits)) refl in
    let at : tail + length text ≡ (tail + 1) + length front = omega (arith, long) in
    let put = get_or-put (tail + 1) text old (length front) (omega (arith, fits)) (omega (arith, long)) in
    rw (opened.outside (tail + length text) (λ is. grind arith), at, put, is) (get_or-append_seam front 0 [] 0)
