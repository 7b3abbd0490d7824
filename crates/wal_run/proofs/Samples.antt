-- The sample of a number has one schedule, whose run has one summary, or ends in a collision: one result of the command on it.
use Rattle.wal_run.proofs.Common.{◌≡◌, inr, ℕ, List, [], ◌∷◌, map, refl, sym, ap, ◌∙◌, arith, AllByRecursion, BlobId, IsIdentifierOf, Schedule, Line, Content, IsResult, collision, success, Told, collides, succeeds}
use Rattle.wal_shape.specs.declared.shape.Format.TheVariants.{One}
use Rattle.wal_schedule.specs.Sample.{IsSample}
use Rattle.wal_world.specs.declared.summary.Summary.{Summary}
use Rattle.wal_world.specs.declared.summary.Summed.{Summed}
use Rattle.wal_world.specs.declared.summary.Summed.TheVariants as summed
use Rattle.wal_world.specs.Summary.{IsSummary}
use Rattle.wal_run.specs.Sampling.{SumsUp, sampling, summary_text}
use Rattle.wal_run.specs.inside.Sampling.{IsSumText}
use Rattle.wal_run.proofs.Blobs.{one_identifier}
use Rattle.wal_run.proofs.CommandLaws.{Determined, Same, both_collide, same, told_so}
use Rattle.wal_run.proofs.RunCollisions.{ends_with, not_stopped, one_going}

-- ---- what the code sums up

-- what the run comes to is the result
pub sum_is : (digest : List ℕ → List ℕ) (number : ℕ) (sum : Summed) → SumsUp digest number sum → (status : ℕ) (text : List ℕ) → IsSumText sum status text
    → IsResult digest (sampling digest number) [] status text
sum_is digest number (summed.Whole summary) comes status text is = rw is.0 (success text (tt, refl, (summary, comes, is.1)))
sum_is digest number (summed.Collision clash) comes status text is =
    rw is.0 (collision clash.left clash.right text
    (ends_with digest comes.0 comes.2.0 clash.left clash.right comes.2.1 comes.2.2 comes.2.3)
    (record { front = []; clashes = inr (tt, refl, (comes, refl)); whole = is.1 }))

-- ---- one result

-- things of the same bytes, each with its identifier, are the same, where nothing else is in them
one_list : {B : Type 0} (xs ys : List B) (id bytes : B → List ℕ) (Is : List ℕ → List ℕ → Type 0) (once : (z i j : List ℕ) → Is z i → Is z j → i ≡ j)
    (one : (x y : B) → id x ≡ id y → bytes x ≡ bytes y → x ≡ y) → map bytes xs ≡ map bytes ys
    → AllByRecursion (λ b. Is (bytes b) (id b)) xs → AllByRecursion (λ b. Is (bytes b) (id b)) ys → xs ≡ ys
one_list [] [] id bytes Is once one e a b = refl
one_list (x ∷ xs) (y ∷ ys) id bytes Is once one e a b =
    let same : bytes x ≡ bytes y = cc in
    let names : id x ≡ id y = once (bytes y) (id x) (id y) (rw same at a.0) b.0 in
    rw (one x y names same, one_list xs ys id bytes Is once one (cc) a.1 b.1) refl
one_list xs ys id bytes Is once one e a b = absurd cc

abbrev id_of : List ℕ → BlobId
id_of bytes = record { 0 = bytes }

one_sample : (digest : List ℕ → List ℕ) (number : ℕ) (s t : Schedule) → IsSample digest number s → IsSample digest number t → s ≡ t
one_sample digest number s t a b =
    let blobs = one_list a.0 b.0 (λ x. x.id.0) (λ x. x.bytes) (λ z i. IsIdentifierOf digest One 2 z i) (λ z i j. one_identifier digest One 2 z i j)
    (λ x y id bytes. ap (λ (z : List ℕ). record x { id = id_of z }) id ∙ ap (λ (z : List ℕ). record y { bytes = z }) bytes)
    (a.1.bytes ∙ sym b.1.bytes) a.1.identified b.1.identified in
    cc (a.2, b.2, blobs)

one_summary : (lines : List Line) (s t : Summary) → IsSummary lines s → IsSummary lines t → s ≡ t
one_summary lines s t a b = grind arith

module _ (digest : List ℕ → List ℕ) (number : ℕ) where
  never_both : (summary : Summary) (left right : List ℕ) → SumsUp digest number (summed.Whole summary)
      → SumsUp digest number (summed.Collision (record { left = left; right = right })) → ⊥
  never_both summary left right a b =
      not_stopped digest a.0 b.0 a.2.0 b.2.0 (one_sample digest number a.0 b.0 a.1 b.1) a.2.1 b.2.1 a.2.2 b.2.2

  one_sum : (content : Content (sampling digest number).grammar) (s : ℕ) (x : List ℕ) (t : ℕ) (y : List ℕ)
      → Told digest (sampling digest number) content s x → Told digest (sampling digest number) content t y → Same s x t y
  one_sum content _ _ _ _ (succeeds x (s, of_s, x_is)) (succeeds y (t, of_t, y_is)) =
      let same_run = one_sample digest number of_s.0 of_t.0 of_s.1 of_t.1 in
      let lines = one_going digest of_s.0 of_t.0 of_s.2.0 of_t.2.0 same_run of_s.2.1 of_t.2.1 of_s.2.2 in
      let one = one_summary of_t.2.0 s t (rw lines at of_s.2.3) of_t.2.3 in
      same _ _ _ _ refl (x_is ∙ ap summary_text one ∙ sym y_is)
  one_sum content _ _ _ _ (succeeds x a) (collides l r front clash b) = absurd (never_both a.0 l r a.1 b.0)
  one_sum content _ _ _ _ (collides l r front clash a) (succeeds y b) = absurd (never_both b.0 l r b.1 a.0)
  one_sum content _ _ _ _ (collides l r front clash a) (collides m n behind other b) =
      both_collide _ _ _ _ front (record { left = l; right = r }) (record { left = m; right = n }) refl refl refl (rw (a.1, b.1) refl)
  one_sum content s x t y a b =
      let so = told_so digest (sampling digest number) content in absurd (grind (arith, so s x a, so t y b))

pub sampled_once : (digest : List ℕ → List ℕ) (number : ℕ) → Determined digest (sampling digest number)
sampled_once digest number input none spells s x t y a b = one_sum digest number none s x t y a b
