-- What is held under each identifier once one of them changed.
use Rattle.wal_shard.proofs.Common.{inl, inr, cases_Bool, ◌≡◌, Bool, true, cond, Option, Some, None, sym, ap, ◌∙◌, subst, unwrap_or, arith, eq_by_cmp, is_eq, get-insert, get-remove, get-retain_keys, BlobId, id_cmp, Parts, no_parts, is_empty, Contents, parts_at, with_parts}
use Rattle.std.specs.Cmp.{tied_itself}
use Rattle.std.specs.FinMap as map
use Rattle.wal_store.proofs.IdentifierLaws.{ids_total, exact_ids}

-- identifiers that test alike are one
pub same_id : (q id : BlobId) → eq_by_cmp id_cmp q id ≡ true → q ≡ id
same_id q id e = exact_ids q id (grind arith)

-- the contents are the same but for one identifier, under which these parts are held
pub record ChangesAt (old : Contents) (id : BlobId) (p : Parts) (new : Contents) : Type 0 where
  pub at : (q : BlobId) → parts_at new q ≡ cond (eq_by_cmp id_cmp q id) p (parts_at old q)

parts_if : (b : Bool) (x y : Option Parts) → unwrap_or (cond b x y) no_parts ≡ cond b (unwrap_or x no_parts) (unwrap_or y no_parts)
parts_if b x y = grind arith

pub insert_changes : (c : Contents) (id : BlobId) (p : Parts) → ChangesAt c id p (map.insert c id p)
insert_changes c id p = record { at = λ q. ap (λ o. unwrap_or o no_parts) (get-insert ids_total c id p q) ∙ parts_if (eq_by_cmp id_cmp q id) (Some p) (map.get c q) }

pub remove_changes : (c : Contents) (id : BlobId) → ChangesAt c id no_parts (map.remove c id)
remove_changes c id = record { at = λ q. ap (λ o. unwrap_or o no_parts) (get-remove ids_total c id q) ∙ parts_if (eq_by_cmp id_cmp q id) None (map.get c q) }

-- parts of which none is there are no parts
nothing : (p : Parts) → is_empty p ≡ true → no_parts ≡ p
nothing p e = grind arith

pub with_parts_changes : (c : Contents) (id : BlobId) (p : Parts) → ChangesAt c id p (with_parts c id p)
with_parts_changes c id p = elim (cases_Bool (is_empty p)) [
  | inl none ↦ rw none (subst (λ x. ChangesAt c id x (map.remove c id)) (nothing p none) (remove_changes c id))
  | inr some ↦ rw some (insert_changes c id p)
]

-- after a change of one identifier's parts, it has these parts
pub changed_there : (c n : Contents) (id : BlobId) (p : Parts) → ChangesAt c id p n → parts_at n id ≡ p
changed_there c n id p h = h.at id ∙ ap (λ (b : Bool). cond b p (parts_at c id)) (ap is_eq (tied_itself ids_total id))

-- what is held where only some identifiers are retained
pub retained : (c : Contents) (keeps : BlobId → Bool) (q : BlobId) → parts_at (map.retain_keys c keeps) q ≡ cond (keeps q) (parts_at c q) no_parts
retained c keeps q =
    ap (λ o. unwrap_or o no_parts) (get-retain_keys c keeps q (λ x e. ap keeps (sym (exact_ids q x e))))
    ∙ parts_if (keeps q) (map.get c q) None
