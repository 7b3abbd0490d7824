-- A text splits into words in one way.
use Rattle.walrus_c.proofs.Common.{◌≡◌, ◌⊎◌, ℕ, ◌+◌, ◌<◌, ◌≤◌, List, [], ◌∷◌, ◌++◌, length, drop, slice_index_or, refl, ap, inl, inr, arith, length-append, IsUtf8, append_assoc, HasNoZero, AreWords, AreNoWords, ReadSoFar, add-one}
use Rattle.std.proofs.Math.ListN.{drop_of_length-le}
use Rattle.std.proofs.Math.Seq.{drop-cons}
use Rattle.std.proofs.lemmas.List.{append-nil, nil_from_length}

-- a word with one byte more that is not zero
quiet_more : (word : List ℕ) (byte : ℕ) → HasNoZero word → 0 < byte → HasNoZero (word ++ byte ∷ [])
quiet_more [] byte quiet some = (some, tt)
quiet_more (x ∷ xs) byte quiet some = (quiet.0, quiet_more xs byte quiet.1 some)

-- in a word there is no zero byte
none_within : (word front rest : List ℕ) → HasNoZero word → word ≡ front ++ 0 ∷ rest → ⊥
none_within [] front rest quiet e = omega (arith, ap length e, length-append front (0 ∷ rest))
none_within (x ∷ xs) [] rest quiet e = grind arith
none_within (x ∷ xs) (y ∷ ys) rest quiet e = none_within xs ys rest quiet.1 cc

-- two words before the first zero byte of one text are the same
one_word : (one other rest left : List ℕ) → HasNoZero one → HasNoZero other → one ++ 0 ∷ rest ≡ other ++ 0 ∷ left → (one ≡ other) × (rest ≡ left)
one_word [] [] rest left quiet silent e = (refl, cc)
one_word [] (y ∷ ys) rest left quiet silent e = absurd (grind arith)
one_word (x ∷ xs) [] rest left quiet silent e = absurd (grind arith)
one_word (x ∷ xs) (y ∷ ys) rest left quiet silent e =
    let more = one_word xs ys rest left quiet.1 silent.1 cc in (cc, more.1)

-- nothing is read yet
pub at_first : (text : List ℕ) → ReadSoFar [] [] text text
at_first text = record { quiet = tt; goes_on = λ rest are. are; only = λ all are. (all, are) }

-- a byte of a word
pub byte_more : (words : List (List ℕ)) (word left text : List ℕ) (byte : ℕ) → 0 < byte → ReadSoFar words word (byte ∷ left) text
    → ReadSoFar words (word ++ byte ∷ []) left text
byte_more words word left text byte some so =
    let e : (word ++ byte ∷ []) ++ left ≡ word ++ byte ∷ left = append_assoc word (byte ∷ []) left in
    record {
      quiet = quiet_more word byte so.quiet some;
      goes_on = λ rest are. so.goes_on rest (rw e at are);
      only = λ all are. let found = so.only all are in (found.0, rw e found.1);
    }

-- the word at the front of words, where a zero byte ends it
ended : (word left : List ℕ) (all : List (List ℕ)) → HasNoZero word → AreWords all (word ++ 0 ∷ left)
    → IsUtf8 word × ((rest : List (List ℕ)) × AreWords rest left)
ended word left [] quiet are = absurd (omega (arith, ap length are, length-append word (0 ∷ left)))
ended word left (first ∷ rest) quiet are =
    let same = one_word word first left are.2.0 quiet are.1 are.2.1 in
    (rw same.0 are.0, (rest, rw same.1 are.2.2))

-- the end of a word
pub word_more : (words : List (List ℕ)) (word left text : List ℕ) → IsUtf8 word → ReadSoFar words word (0 ∷ left) text
    → ReadSoFar (words ++ word ∷ []) [] left text
word_more words word left text utf so = record {
  quiet = tt;
  goes_on = λ rest are. rw append_assoc (so.goes_on (word ∷ rest) (utf, so.quiet, (left, refl, are)));
  only = λ all are. let found = so.only all are in (ended word left found.0 so.quiet found.1).1;
}

-- a word that is no text
pub no_text : (words : List (List ℕ)) (word left text : List ℕ) → (IsUtf8 word → ⊥) → ReadSoFar words word (0 ∷ left) text → AreNoWords text
no_text words word left text bad so = λ all are. let found = so.only all are in bad (ended word left found.0 so.quiet found.1).0

-- all was read
pub read_whole : (words : List (List ℕ)) (text : List ℕ) → ReadSoFar words [] [] text → AreWords words text
read_whole words text so = rw append-nil at (so.goes_on [] refl)

-- the last word has no end
pub no_end : (words : List (List ℕ)) (word text : List ℕ) → 0 < length word → ReadSoFar words word [] text → AreNoWords text
no_end words word text some so = λ all are.
    let found = so.only all are in
    lacks found.0 (rw append-nil at found.1) where
      lacks : (rest : List (List ℕ)) → AreWords rest word → ⊥
      lacks [] are = omega (arith, ap length are, some)
      lacks (first ∷ rest) are = none_within word first are.2.0 so.quiet are.2.1

-- ---- a byte more, as the code takes it

-- the end of a word that was put behind the others
pub word_added : (words : List (List ℕ)) {new : List (List ℕ)} {word held cleared : List ℕ} {byte : ℕ} → byte ≡ 0
    → held ≡ word
    → (new ≡ words ++ held ∷ []) × IsUtf8 held → cleared ≡ [] → (left text : List ℕ) → ReadSoFar words word (byte ∷ left) text
    → ReadSoFar new cleared left text
word_added words zero is added none left text so =
    rw (none, added.0, is) (word_more words _ left text (rw is at added.1) (rw zero at so))

-- the end of a word that is no text, or for which there is no memory
pub word_refused : {words : List (List ℕ)} {word held : List ℕ} {byte status : ℕ} → byte ≡ 0 → held ≡ word
    → (status ≡ 5) ⊎ ((status ≡ 11) × (IsUtf8 held → ⊥))
    → (status ≡ 5) ⊎ ((status ≡ 11) × ((left text : List ℕ) → ReadSoFar words word (byte ∷ left) text → AreNoWords text))
word_refused zero is (inl e) = inl e
word_refused zero is (inr bad) =
    inr (bad.0, λ left text so. no_text _ _ left text (λ utf. bad.1 (rw is utf)) (rw zero at so))

-- a byte of a word that was put behind the others
pub byte_added : {words : List (List ℕ)} (word : List ℕ) {new : List ℕ} {byte : ℕ} → 0 < byte → new ≡ word ++ byte ∷ []
    → (left text : List ℕ)
    → ReadSoFar words word (byte ∷ left) text → ReadSoFar words new left text
byte_added word some same left text so = rw same (byte_more _ word left text _ some so)

module _ {words : List (List ℕ)} {word : List ℕ} (text : List ℕ) (done : ℕ)
    (so : ReadSoFar words word (drop done text) text) where
  -- what was read of a text, with the next byte apart
  pub next_byte : (other : ℕ) → done < length text
      → ReadSoFar words word (slice_index_or text done other ∷ drop (done + 1) text) text
  next_byte other within = rw (add-one, ← drop-cons text done other within) so

  -- a byte for which there is no memory, or at which the text is no words
  pub byte_refused : (other : ℕ) {status : ℕ} → done < length text
      → (status ≡ 5) ⊎ ((status ≡ 11) × ((left whole : List ℕ)
      → ReadSoFar words word (slice_index_or text done other ∷ left) whole → AreNoWords whole))
      → (status ≡ 5) ⊎ ((status ≡ 11) × AreNoWords text)
  byte_refused other within (inl e) = inl e
  byte_refused other within (inr bad) = inr (bad.0, bad.1 (drop (done + 1) text) text (next_byte other within))

  -- where all is read
  at_last : length text ≤ done → ReadSoFar words word [] text
  at_last past = rw (drop_of_length-le text past) at so

  -- and no word is begun
  pub none_begun : length text ≤ done → length word ≡ 0 → AreWords words text
  none_begun past empty =
      read_whole words text (rw (nil_from_length word empty) at (at_last past))

  pub one_begun : length text ≤ done → 0 < length word → AreNoWords text
  one_begun past some = no_end words word text some (at_last past)

-- where nothing is read yet
pub at_start : {words : List (List ℕ)} {word : List ℕ} (text : List ℕ) → words ≡ [] → word ≡ []
    → ReadSoFar words word text text
at_start text none empty = rw (none, empty) (at_first text)

-- A text is words in one way.
pub one_split : (words others : List (List ℕ)) (text : List ℕ) → AreWords words text → AreWords others text → words ≡ others
one_split [] [] text are also = refl
one_split [] (word ∷ others) text are also =
    absurd (omega (arith, ap length are, ap length also.2.1, length-append word (0 ∷ also.2.0)))
one_split (word ∷ words) [] text are also =
    absurd (omega (arith, ap length also, ap length are.2.1, length-append word (0 ∷ are.2.0)))
one_split (word ∷ words) (other ∷ others) text are also =
    let both = one_word word other are.2.0 also.2.0 are.1 also.1 cc in
    let rest = one_split words others also.2.0 (rw both.1 at are.2.2) also.2.2 in
    cc
