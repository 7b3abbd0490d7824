-- Bytes are one stream, or malformed at one place.
use Rattle.wal_run.proofs.Common.{◌≡◌, ℕ, List, [], ◌∷◌, ◌++◌, length, refl, sym, ap, ◌∙◌, arith, append_assoc, append-nil, length-append, nil_from_length, envelope, IsPayload, IsStream, IsMalformed, one_envelope}

-- no whole envelope stands at the front
abbrev BeginsNot : List ℕ → Type 0
BeginsNot rest = (sender : ℕ) (payload after : List ℕ) → IsPayload payload → rest ≡ envelope sender payload ++ after → ⊥

none_begins : BeginsNot []
none_begins sender payload after fits same =
    omega (arith, ap length same, length-append payload after)

-- whole envelopes at the front, behind which none stands, are the same ones, and as many bytes
one_front : (ps qs : List (List ℕ)) (front rest other behind : List ℕ) → IsStream ps front → IsStream qs other → BeginsNot rest → BeginsNot behind
    → front ++ rest ≡ other ++ behind → (ps ≡ qs) × (length front ≡ length other)
one_front [] [] front rest other behind is also none nothing same = (refl, ap length is ∙ sym (ap length also))
one_front [] (q ∷ qs) front rest other behind is (sender, more, fits, parts, stream) none nothing same =
    absurd (none sender q (more ++ behind) fits (rw (is, parts, append_assoc (envelope sender q) more behind) at same))
one_front (p ∷ ps) [] front rest other behind (sender, more, fits, parts, stream) also none nothing same =
    absurd (nothing sender p (more ++ rest) fits
    (rw (also, parts, append_assoc (envelope sender p) more rest) at (sym same)))
one_front (p ∷ ps) (q ∷ qs) front rest other behind (sender, more, fits, parts, stream) (from, further, fit, pieces, follows) none nothing same =
    let here : front ++ rest ≡ envelope sender p ++ (more ++ rest) = ap (λ (x : List ℕ). x ++ rest) parts ∙ append_assoc (envelope sender p) more rest in
    let there : front ++ rest ≡ envelope from q ++ (further ++ behind) =
    rw (same, pieces) (append_assoc (envelope from q) further behind) in
    let one = one_envelope (front ++ rest) sender from p q (more ++ rest) (further ++ behind) fits fit here there in
    let others = one_front ps qs more rest further behind stream follows none nothing one.1 in
    let long = length-append q further in (
      cc (one.0, others.0),
      omega (arith, ap length one.0, ap length parts, ap length pieces, others.1, length-append p more, long),
    )

-- the payloads of a stream are the only ones
pub one_stream : (ps qs : List (List ℕ)) (bytes : List ℕ) → IsStream ps bytes → IsStream qs bytes → ps ≡ qs
one_stream ps qs bytes is also = (one_front ps qs bytes [] bytes [] is also none_begins none_begins refl).0

-- a stream is not malformed
pub not_malformed : (ps : List (List ℕ)) (place : ℕ) (bytes : List ℕ) → IsStream ps bytes → IsMalformed place bytes → ⊥
not_malformed ps place bytes is bad =
    let same = (one_front ps bad.payloads bytes [] bad.front bad.rest is bad.whole none_begins bad.unfit (append-nil bytes ∙ bad.parts)).1 in
    bad.more (nil_from_length bad.rest (omega (arith, same, ap length bad.parts, length-append bad.front bad.rest)))

-- and what is malformed is so at one place
pub one_place : (i j : ℕ) (bytes : List ℕ) → IsMalformed i bytes → IsMalformed j bytes → i ≡ j
one_place i j bytes a b =
    let same = (one_front a.payloads b.payloads a.front a.rest b.front b.rest a.whole b.whole a.unfit b.unfit (sym a.parts ∙ b.parts)).1 in
    sym a.size ∙ same ∙ b.size
