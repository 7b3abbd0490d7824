-- Where the texts of two metadata part.
use Rattle.wal_commit.proofs.Common.{◌≡◌, ◌≢◌, ℕ, ◌+◌, ◌^◌, ◌<◌, List, ◌++◌, length, get_or, take, drop, refl, ap, ap₂, sym, ◌∙◌, arith, w16, from_be_bytes, Format, One, Two, BlobMetadata, IsMetadata, format_text, metadata_text-injective, wide16, append_back, append_front, head_text, held_pairs, identifier_of, identifier_tag, identifier_text, pair_root}
use Rattle.wal_commit.proofs.Commitments.{metadata_text-parts, length-head}

-- ---- what an identifier digests

-- the identifier is the digest of its text
pub identifier_is : (digest : List ℕ → List ℕ) (m : BlobMetadata) → identifier_of digest m ≡ digest (identifier_text digest m)
unfolding identifier_of
identifier_is digest m = refl

-- texts of metadata of one identifier have one digest
pub one_digest : (digest : List ℕ → List ℕ) (a b : BlobMetadata) (s t : List ℕ) → identifier_of digest a ≡ identifier_of digest b →
    s ≡ identifier_text digest a → t ≡ identifier_text digest b → digest s ≡ digest t
one_digest digest a b s t one s_is t_is =
    ap digest s_is ∙ sym (identifier_is digest a) ∙ one ∙ identifier_is digest b ∙ ap digest (sym t_is)

-- the first byte of the text tells the formats apart
one_tag : (a b : Format) → identifier_tag a ≡ identifier_tag b → a ≡ b
one_tag a b same = grind arith

pub same_formats : (digest : List ℕ → List ℕ) (a b : BlobMetadata) → identifier_text digest a ≡ identifier_text digest b → a.format ≡ b.format
same_formats digest a b same = one_tag a.format b.format (ap (λ (t : List ℕ). get_or t 0 0) same)

long_heads : (a b : BlobMetadata) → a.format ≡ b.format → length (head_text a.format a.f a.length) ≡ length (head_text b.format b.f b.length)
long_heads a b same =
    length-head a.format a.f a.length ∙ ap (λ (format : Format). length (format_text format) + 10) same ∙ sym (length-head b.format b.f b.length)

-- metadata whose identifiers digest one text have the same numbers, and one root over their pairs
pub same_heads : (digest : List ℕ → List ℕ) (a b : BlobMetadata) → identifier_text digest a ≡ identifier_text digest b
    → head_text a.format a.f a.length ≡ head_text b.format b.f b.length
same_heads digest a b same =
    append_front (head_text a.format a.f a.length) (head_text b.format b.f b.length) (pair_root digest a) (pair_root digest b)
    (long_heads a b (same_formats digest a b same)) (ap (drop 1) same)

pub same_roots : (digest : List ℕ → List ℕ) (a b : BlobMetadata) → identifier_text digest a ≡ identifier_text digest b → pair_root digest a ≡ pair_root digest b
same_roots digest a b same =
    append_back (head_text a.format a.f a.length) (head_text b.format b.f b.length) (pair_root digest a) (pair_root digest b)
    (long_heads a b (same_formats digest a b same)) (ap (drop 1) same)

-- f stands behind the format
abbrev f_in : Format → List ℕ → ℕ
f_in format head = from_be_bytes w16 (take 2 (drop (length (format_text format)) head))

read_f : (format : Format) (f l : ℕ) → f < 2 ^ 16 → f_in format (head_text format f l) ≡ f
read_f One f l small = wide16.again f small
read_f Two f l small = wide16.again f small

pub same_faults : (digest : List ℕ → List ℕ) (a b : BlobMetadata) → IsMetadata a → IsMetadata b → identifier_text digest a ≡ identifier_text digest b → a.f ≡ b.f
same_faults digest a b is_a is_b same =
    sym (read_f a.format a.f a.length (omega (arith, is_a.shape.1)))
    ∙ ap (f_in a.format) (same_heads digest a b same)
    ∙ ap (λ (format : Format). f_in format (head_text b.format b.f b.length)) (same_formats digest a b same)
    ∙ read_f b.format b.f b.length (omega (arith, is_b.shape.1))

-- different metadata of the same numbers have different pairs
pub pairs_apart : (a b : BlobMetadata) → IsMetadata a → IsMetadata b → a ≢ b → head_text a.format a.f a.length ≡ head_text b.format b.f b.length →
    held_pairs a ≢ held_pairs b
pairs_apart a b is_a is_b differ heads pairs =
    differ (metadata_text-injective a b is_a is_b (metadata_text-parts a ∙ ap₂ ◌++◌ heads pairs ∙ sym (metadata_text-parts b)))
