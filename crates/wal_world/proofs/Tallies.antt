-- Tallies of one more line, and what a summary takes from them.
use Rattle.wal_world.proofs.Common.{◌≡◌, ℕ, suc, ◌+◌, ◌-◌, ◌^◌, ◌≤◌, ◌<◌, ◌||◌, min, Bool, true, false, cond, List, [], ◌∷◌, ◌++◌, length, length-append, fold, sum_by, filter_map, Option, Some, None, option_map, option_to_list, is_some, unwrap_or, btree_set_len, BTreeSet, refl, sym, ap, ap₂, subst, ◌∙◌, append-nil, arith, cons_option, reduce, texts_ties, IsFromIterResult, IsOrderedSet, Updates, BlobId, id_cmp, id_eq, Line, ids_total, certified_in, bytes_in, sliver_in, holders_in, IsSummary, Counts, IsTally, Tally, Summary}
use Rattle.std.specs.Ordering.{eq_by_cmp}
use Rattle.std.specs.Set.{distinct_count, is_member, unique_keys}
use Rattle.std.proofs.lemmas.Cmp.{eq_by_cmp_equiv}
use Rattle.std.proofs.lemmas.List.Elements.{filter_map-append}
use Rattle.std.proofs.lemmas.List.Folds.{list_any-append}
use Rattle.std.proofs.lemmas.List.Sums.{fold-append, sum_by-append}
use Rattle.std.proofs.lemmas.Map.Views.{btree_set_len-from_list, btree_set_len-le_from_list}

module _ {Y : Type 0} (h : Line → Option Y) where
  one_at_most : (o : Option Y) → cons_option o [] ≡ option_to_list o
  one_at_most o = grind arith

  -- what the lines give, and what one more line gives
  given_push : (lines : List Line) (said : Line) → filter_map h (lines ++ said ∷ []) ≡ filter_map h lines ++ option_to_list (h said)
  given_push lines said = filter_map-append h lines (said ∷ []) ∙ ap (λ (l : List Y). filter_map h lines ++ l) (one_at_most (h said))

  -- no line gives more than one thing
  one_more_length : (o : Option Y) (given : List Y) (n : ℕ) → length given ≤ n → length (cons_option o given) ≤ suc n
  one_more_length o given n few = grind arith

  given_few : (lines : List Line) → length (filter_map h lines) ≤ length lines
  given_few [] = omega arith
  given_few (said ∷ lines) = one_more_length (h said) (filter_map h lines) (length lines) (given_few lines)

  counted_one : (o : Option Y) → length (option_to_list o) ≡ cond (is_some o) 1 0
  counted_one o = grind arith

  -- the count of what the lines give
  count_push : (lines : List Line) (said : Line) (n : ℕ) → n ≡ length (filter_map h lines) → n + cond (is_some (h said)) 1 0 ≡ length (filter_map h (lines ++ said ∷ []))
  count_push lines said n is =
      omega (arith, is, ap (λ (l : List Y). length l) (given_push lines said), length-append (filter_map h lines) (option_to_list (h said)), counted_one (h said))

-- a flag of a size is that of what has it
sized_flag : (o : Option (List ℕ)) → is_some (option_map length o) ≡ is_some o
sized_flag o = grind arith

sum_one_more : (all : List (List ℕ)) (o : Option (List ℕ)) → sum_by length (all ++ option_to_list o) ≡ sum_by length all + unwrap_or (option_map length o) 0
sum_one_more all o = grind (arith, sum_by-append length all (option_to_list o))

sum_push : (lines : List Line) (said : Line) (n : ℕ) → n ≡ min (sum_by length (filter_map bytes_in lines)) (2 ^ 64 - 1)
    → min (n + unwrap_or (option_map length (bytes_in said)) 0) (2 ^ 64 - 1) ≡ min (sum_by length (filter_map bytes_in (lines ++ said ∷ []))) (2 ^ 64 - 1)
sum_push lines said n is =
    omega (arith, is, ap (λ (l : List (List ℕ)). sum_by length l) (given_push bytes_in lines said), sum_one_more (filter_map bytes_in lines) (bytes_in said))

-- the least of some numbers and of one more
least_more : (ks : List ℕ) (o : Option ℕ) → reduce min (option_to_list (reduce min ks) ++ option_to_list o) ≡ reduce min (ks ++ option_to_list o)
least_more [] None = refl
least_more [] (Some k) = refl
least_more (x ∷ ks) None = ap (λ l. Some (fold min x l)) (sym (append-nil ks))
least_more (x ∷ ks) (Some k) = ap (λ n. Some n) (sym (fold-append min x ks (k ∷ [])))

least_push : (lines : List Line) (said : Line) (least : Option ℕ) → least ≡ reduce min (filter_map holders_in lines)
    → reduce min (option_to_list least ++ option_to_list (holders_in said)) ≡ reduce min (filter_map holders_in (lines ++ said ∷ []))
least_push lines said least is =
    ap (λ (o : Option ℕ). reduce min (option_to_list o ++ option_to_list (holders_in said))) is
    ∙ least_more (filter_map holders_in lines) (holders_in said)
    ∙ ap (λ (l : List ℕ). reduce min l) (sym (given_push holders_in lines said))

-- sets of identifiers
among_first : (b c : Bool) → cond b true c ≡ (c || (b || false))
among_first b c = grind arith

-- a set with one identifier more is that of the list with it
pub put_one : (seen : List BlobId) (old new : BTreeSet BlobId) (id : BlobId) → IsFromIterResult id_cmp seen old → Updates id_cmp old new id true → IsOrderedSet id_cmp new
    → IsFromIterResult id_cmp (seen ++ id ∷ []) new
put_one seen old new id from put ordered = (
  λ q. put.0 q
      ∙ ap₂ (λ b c. cond b true c) ((eq_by_cmp_equiv ids_total).symm id q) (from.0 q)
      ∙ among_first (eq_by_cmp id_cmp q id) (is_member (eq_by_cmp id_cmp) seen q)
      ∙ sym (list_any-append (eq_by_cmp id_cmp q) seen (id ∷ [])),
  ordered,
)

members_same : (ids : List BlobId) (q : BlobId) → is_member id_eq ids q ≡ is_member (eq_by_cmp id_cmp) ids q
members_same [] q = refl
members_same (x ∷ ids) q = ap₂ (λ a b. a || b) (texts_ties q.0 x.0) (members_same ids q)

unique_same : (ids : List BlobId) → unique_keys id_eq ids ≡ unique_keys (eq_by_cmp id_cmp) ids
unique_same [] = refl
unique_same (x ∷ ids) = ap₂ (λ b (l : List BlobId). cond b l (x ∷ l)) (members_same ids x) (unique_same ids)

distinct_same : (ids : List BlobId) (set : BTreeSet BlobId) → IsFromIterResult id_cmp ids set → btree_set_len set ≡ distinct_count id_eq ids
distinct_same ids set from = btree_set_len-from_list ids_total ids set from ∙ ap (λ (l : List BlobId). length l) (sym (unique_same ids))

-- one more line
pub tally_push : (said : Line) (before after : Tally) (size : Option ℕ) → after.events ≡ before.events + 1
    → ((seen : List BlobId) → IsFromIterResult id_cmp seen before.certified → IsFromIterResult id_cmp (seen ++ option_to_list (certified_in said)) after.certified)
    → size ≡ option_map length (bytes_in said) → after.reads ≡ before.reads + cond (is_some size) 1 0 → after.bytes ≡ min (before.bytes + unwrap_or size 0) (2 ^ 64 - 1)
    → after.recovered ≡ before.recovered + cond (is_some (sliver_in said)) 1 0
    → after.least_holders ≡ reduce min (option_to_list before.least_holders ++ option_to_list (holders_in said)) → Counts said before after
tally_push said before after size events certified sized reads bytes recovered least lines is =
    let flag : is_some size ≡ is_some (bytes_in said) = ap (λ (o : Option ℕ). is_some o) sized ∙ sized_flag (bytes_in said) in
    record {
      events = omega (arith, events, is.events, length-append lines (said ∷ []));
      certified = subst (λ (l : List BlobId). IsFromIterResult id_cmp l after.certified) (sym (given_push certified_in lines said)) (certified (filter_map certified_in lines) is.certified);
      reads = reads ∙ ap (λ b. before.reads + cond b 1 0) flag ∙ count_push bytes_in lines said before.reads is.reads;
      bytes = bytes ∙ ap (λ (o : Option ℕ). min (before.bytes + unwrap_or o 0) (2 ^ 64 - 1)) sized ∙ sum_push lines said before.bytes is.bytes;
      recovered = recovered ∙ count_push sliver_in lines said before.recovered is.recovered;
      least_holders = least ∙ least_push lines said before.least_holders is.least_holders;
    }

-- there is room for one more line
pub record HasRoom (t : Tally) : Type 0 where
  pub events : t.events < 65536
  pub reads : t.reads < 65536
  pub recovered : t.recovered < 65536

-- a tally of fewer than 65536 lines has room
pub has_room : (lines : List Line) (t : Tally) → IsTally lines t → length lines < 65536 → HasRoom t
has_room lines t is few = record {
  events = omega (arith, is.events, few);
  reads = omega (arith, is.reads, given_few bytes_in lines, few);
  recovered = omega (arith, is.recovered, given_few sliver_in lines, few);
}

pub few_certified : (lines : List Line) (t : Tally) → IsTally lines t → length lines ≤ 65536 → btree_set_len t.certified ≤ 65536
few_certified lines t is few =
    omega (arith, btree_set_len-le_from_list ids_total (filter_map certified_in lines) t.certified is.certified, given_few certified_in lines, few)

-- the summary of a tally
pub tally_summary : (t : Tally) (s : Summary) → s.events ≡ t.events → s.certified ≡ btree_set_len t.certified → s.reads ≡ t.reads → s.bytes ≡ t.bytes → s.recovered ≡ t.recovered
    → s.least_holders ≡ unwrap_or t.least_holders 0 → (lines : List Line) → IsTally lines t → IsSummary lines s
tally_summary t s events certified reads bytes recovered least lines is = record {
  events = events ∙ is.events;
  certified = certified ∙ distinct_same (filter_map certified_in lines) t.certified is.certified;
  reads = reads ∙ is.reads;
  bytes = bytes ∙ is.bytes;
  recovered = recovered ∙ is.recovered;
  least_holders = least ∙ ap (λ (o : Option ℕ). unwrap_or o 0) is.least_holders;
}
