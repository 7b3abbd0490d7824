-- The codewords of slivers that are committed under one root.
use Rattle.wal_extract.proofs.Common.{◌≡◌, ◌≢◌, ℕ, List, IsShape, symbol_size, BlobMetadata, symbol_size-least, root_over, HoldsSliver}
use Rattle.wal_shape.specs.declared.axis.Axis.{Axis}
use Rattle.wal_matrix.specs.Word.{IsWordOf}
use Rattle.wal_matrix.proofs.ToolsLaws.{symbol_size-longest}
use Rattle.wal_extract.specs.Slivers.{HaveOneRoot}

-- the only codeword of each has one root
pub one_root : (digest : List ℕ → List ℕ) (f kept_a kept_b s : ℕ) (axis : Axis) (a b x y : List ℕ) → (h : HaveOneRoot digest f axis a b) → kept_a ≡ f → kept_b ≡ f → s ≡ h.size →
    ((other : List ℕ) → IsWordOf axis kept_a s a other → other ≡ x) → ((other : List ℕ) → IsWordOf axis kept_b s b other → other ≡ y) →
    root_over digest s x ≡ root_over digest s y
one_root digest f kept_a kept_b s axis a b x y h a_is b_is s_is only_x only_y =
    rw (← only_x h.word_a (rw (a_is, s_is) h.is_a), ← only_y h.word_b (rw (b_is, s_is) h.is_b), s_is) h.root

-- their codewords differ
pub words_apart : (axis : Axis) (f kept_a kept_b s : ℕ) (a b x y : List ℕ) → a ≢ b → kept_a ≡ f → kept_b ≡ f → IsWordOf axis kept_a s a x → IsWordOf axis kept_b s b y → x ≢ y
words_apart axis f kept_a kept_b s a b x y apart a_is b_is is_a is_b same =
    apart (rw (← is_a.begins, ← is_b.begins, a_is, b_is, same))

-- slivers that a metadata commits at one place have one root
pub held_one_root : (digest : List ℕ → List ℕ) (m : BlobMetadata) (axis : Axis) (index : ℕ) (a b : List ℕ) → IsShape m.f m.length →
    HoldsSliver digest m axis index a → HoldsSliver digest m axis index b → HaveOneRoot digest m.f axis a b
held_one_root digest m axis index a b shape held_a held_b =
    let least = symbol_size-least m.f m.length in
    record {
      size = symbol_size m.f m.length;
      even = least.even;
      least = least.positive;
      most = symbol_size-longest m.f m.length shape.2;
      long_a = held_a.size;
      long_b = held_b.size;
      word_a = held_a.word;
      word_b = held_b.word;
      is_a = held_a.is_word;
      is_b = held_b.is_word;
      root = cc (held_a.root, held_b.root);
    }
