-- The parts of payloads, which are gone through once their metadata comes.
use Rattle.wal_reader.proofs.Common.{◌≡◌, ℕ, List, [], ◌∷◌, ◌++◌, refl, sym, ◌∙◌, append_assoc, Known, CarriesNoPart, HasParts, Sifts, none, kept, dropped, append-nil}
use Rattle.wal_reader.proofs.KnownLaws.{parts_past}

-- the parts of some payloads, and of more
pub sift_both : (id : List ℕ) (parts payloads more behind : List (List ℕ)) → Sifts id parts payloads
    → Sifts id more behind → Sifts id (parts ++ more) (payloads ++ behind)
sift_both id parts payloads more behind none rest = rest
sift_both id parts payloads more behind (kept p ps qs is first) rest =
    kept p (ps ++ more) (qs ++ behind) is (sift_both id ps qs more behind first rest)
sift_both id parts payloads more behind (dropped p ps qs is first) rest =
    dropped p (ps ++ more) (qs ++ behind) is (sift_both id ps qs more behind first rest)

-- the parts that are left are those of the payloads behind some whose parts are held
pub record Reaches (digest : List ℕ → List ℕ) (id : List ℕ) (k : Known) (parts payloads : List (List ℕ)) : Type 0 where
  pub done : List (List ℕ)
  pub left : List (List ℕ)
  pub all : payloads ≡ done ++ left
  pub held : HasParts digest id k done
  pub sifts : Sifts id parts left

-- a payload without a part
past_one : (digest : List ℕ → List ℕ) (id : List ℕ) (k : Known) (done : List (List ℕ)) (payload : List ℕ) → CarriesNoPart id payload
    → HasParts digest id k done → HasParts digest id k (done ++ payload ∷ [])
past_one digest id k done payload idle was =
    parts_past digest id k done payload (λ index bytes carries. idle.0 index bytes carries.0) (λ p carries. idle.1 p carries.0) was

-- the payloads without parts before the next part are passed, and it is taken
next_part : (digest : List ℕ → List ℕ) (id : List ℕ) (old new : Known) (part : List ℕ)
    (parts payloads done left : List (List ℕ))
    → ((done : List (List ℕ)) → HasParts digest id old done → HasParts digest id new (done ++ part ∷ []))
    → payloads ≡ done ++ left → HasParts digest id old done → Sifts id (part ∷ parts) left
    → Reaches digest id new parts payloads
next_part digest id old new part parts payloads done left takes all held (kept p ps qs is rest) =
    let seam = all ∙ sym (append_assoc done (part ∷ []) qs) in
    record { done = done ++ part ∷ []; left = qs; all = seam; held = takes done held; sifts = rest }
next_part digest id old new part parts payloads done left takes all held (dropped p ps qs idle rest) =
    next_part digest id old new part parts payloads (done ++ p ∷ []) qs takes
    (all ∙ sym (append_assoc done (p ∷ []) qs)) (past_one digest id old done p idle held) rest

-- and those behind the last part
pub no_part : (digest : List ℕ → List ℕ) (id : List ℕ) (k : Known) (payloads done left : List (List ℕ)) → payloads ≡ done ++ left
    → HasParts digest id k done → Sifts id [] left → HasParts digest id k payloads
no_part digest id k payloads done left all held none = rw (all, append-nil done) held
no_part digest id k payloads done left all held (dropped p ps qs idle rest) =
    no_part digest id k payloads (done ++ p ∷ []) qs (all ∙ sym (append_assoc done (p ∷ []) qs)) (past_one digest id k done p idle held) rest

-- one part more is taken
pub reaches_more : (digest : List ℕ → List ℕ) (id : List ℕ) (old new : Known) (part : List ℕ) (parts payloads : List (List ℕ))
    → ((done : List (List ℕ)) → HasParts digest id old done → HasParts digest id new (done ++ part ∷ []))
    → Reaches digest id old (part ∷ parts) payloads → Reaches digest id new parts payloads
reaches_more digest id old new part parts payloads takes was =
    next_part digest id old new part parts payloads was.done was.left takes was.all was.held was.sifts

-- before the first part, and behind the last
pub reaches_none : (digest : List ℕ → List ℕ) (id : List ℕ) (k : Known) (parts payloads : List (List ℕ)) → HasParts digest id k [] → Sifts id parts payloads
    → Reaches digest id k parts payloads
reaches_none digest id k parts payloads empty sifts = record { done = []; left = payloads; all = refl; held = empty; sifts = sifts }

pub reaches_all : (digest : List ℕ → List ℕ) (id : List ℕ) (k : Known) (payloads : List (List ℕ)) → Reaches digest id k [] payloads → HasParts digest id k payloads
reaches_all digest id k payloads was = no_part digest id k payloads was.done was.left was.all was.held was.sifts
