-- Two keeps under one contract, and the same calls.
use Rattle.wal_store.proofs.Common.{◌≡◌, ◌≢◌, ℕ, ◌<◌, ◌≤◌, Bool, false, Option, Some, List, [], ◌∷◌, ◌++◌, ◌⊎◌, inl, inr, ◌↔◌, Ok, Err, IsOk, OnOk, OnErr, All, refl, sym, ap, ◌∙◌, subst, arith, append_assoc, All-nil, All-cons, All-head, All-tail, All-append, BlobId, Part, Full, Memory, Contents, with_bytes, free_of, needed_for, HasRoom, IsPutAnswer, PutAnswer, Call, Put, after_call, after_calls, AreLawful, after_put, RunsTo, Continues, NoneWants, WantsNext, GoTogether, ◌+◌, length, take, drop, sum, drop-drop, take-length, sum_by-cons}
use Rattle.std.proofs.Math.Seq.{take-add}
use Rattle.wal_store.specs.Copies.{copies}

not_both : (limit : Option ℕ) (m : Contents) (id : BlobId) (bytes : List ℕ) (needed free : ℕ) → HasRoom (free_of limit m) (needed_for m id bytes) → free_of limit m ≡ Some free → needed ≡ needed_for m id bytes → free < needed → ⊥
not_both limit m id bytes needed free room is need full =
    let fits : needed_for m id bytes ≤ free = subst (λ o. HasRoom o (needed_for m id bytes)) is room in
    absurd (omega arith)

pub puts_agree : (limit : Option ℕ) (l r : Bool) (m : Contents) (id : BlobId) (bytes : List ℕ) (a b : PutAnswer) → IsPutAnswer limit l m id bytes a → IsPutAnswer limit r m id bytes b → a ≢ Err Memory → b ≢ Err Memory → a ≡ b
puts_agree limit l r m id bytes (Ok x) (Err (Full n f)) p q some other = absurd (not_both limit m id bytes n f p q.0 q.1 q.2)
puts_agree limit l r m id bytes (Err (Full n f)) (Ok y) p q some other = absurd (not_both limit m id bytes n f q p.0 p.1 p.2)
puts_agree limit l r m id bytes (Err (Full n f)) (Err (Full k g)) p q some other = cc (p.0, p.1, q.0, q.1)
puts_agree limit l r m id bytes a b p q some other = grind arith

abbrev has_memory : PutAnswer → Type 0
has_memory answer = answer ≢ Err Memory

pub runs_agree : (limit : Option ℕ) (l r : Bool) (old m n : Contents) (calls : List Call) (xs ys : List PutAnswer) → RunsTo limit l old calls xs m → RunsTo limit r old calls ys n → NoneWants xs → NoneWants ys → (xs ≡ ys) × (m ≡ n)
runs_agree limit l r old m n [] [] [] p q some other = (refl, p ∙ sym q)
runs_agree limit l r old m n (Put id part bytes ∷ calls) (a ∷ xs) (b ∷ ys) p q some other =
    let same : a ≡ b =
    puts_agree limit l r old id bytes a b p.0 q.0 (All-head has_memory a xs some) (All-head has_memory b ys other) in
    let rest = runs_agree limit l r (after_put old id part bytes a) m n calls xs ys p.1 (rw same q.1)
    (All-tail has_memory a xs some) (All-tail has_memory b ys other) in
    (cc (same, rest.0), rest.1)
runs_agree limit l r old m n (Put id part bytes ∷ calls) xs ys p q some other = grind arith
runs_agree limit l r old m n (call ∷ calls) xs ys p q some other =
    runs_agree limit l r (after_call old call) m n calls xs ys p q some other
runs_agree limit l r old m n [] xs ys p q some other = grind arith

no_want : (limit : Option ℕ) (m : Contents) (id : BlobId) (bytes : List ℕ) (a : PutAnswer) → IsPutAnswer limit false m id bytes a → a ≢ Err Memory
no_want limit m id bytes a p is = grind arith

-- no answer of a run that may not want memory wants it
pub never_wants : (limit : Option ℕ) (old new : Contents) (calls : List Call) (xs : List PutAnswer) → RunsTo limit false old calls xs new → NoneWants xs
never_wants limit old new [] [] p = All-nil has_memory
never_wants limit old new (Put id part bytes ∷ calls) (a ∷ xs) p =
    All-cons has_memory a xs (no_want limit old id bytes a p.0)
    (never_wants limit (after_put old id part bytes a) new calls xs p.1)
never_wants limit old new (Put id part bytes ∷ calls) [] p = absurd p
never_wants limit old new [] (a ∷ xs) p = absurd p
never_wants limit old new (call ∷ calls) xs p = never_wants limit (after_call old call) new calls xs p

-- one call after a run
pub join_runs : (limit : Option ℕ) (w : Bool) (old new : Contents) (call : Call) (more : List PutAnswer)
    → RunsTo limit w old (call ∷ []) more new → Continues limit w old call more new
join_runs limit w old new call more step first [] [] run = rw (← run) step
join_runs limit w old new call more step first [] (x ∷ xs) run = absurd run
join_runs limit w old new call more step first (Put id part bytes ∷ calls) [] run = absurd run
join_runs limit w old new call more step first (Put id part bytes ∷ calls) (x ∷ xs) run =
    (run.0, join_runs limit w old new call more step (after_put first id part bytes x) calls xs run.1)
join_runs limit w old new call more step first (drop ∷ calls) xs run =
    join_runs limit w old new call more step (after_call first drop) calls xs run

pub put_continues : (limit : Option ℕ) (w : Bool) (old new : Contents) (id : BlobId) (part : Part) (bytes : List ℕ) (a : PutAnswer) → IsPutAnswer limit w old id bytes a → OnOk a (new ≡ with_bytes old id part bytes) → OnErr a (new ≡ old) → Continues limit w old (Put id part bytes) (a ∷ []) new
put_continues limit w old new id part bytes a answer stored refused =
    join_runs limit w old new (Put id part bytes) (a ∷ []) (answer, grind arith)

-- whether a put found memory short
wants_or_not : (a : PutAnswer) → (a ≡ Err Memory) ⊎ (a ≢ Err Memory)
wants_or_not (Err Memory) = inl refl
wants_or_not a = inr (λ is. cc)

-- two runs that stop at once
stop_here : (limit : Option ℕ) (l r : Bool) (old m n : Contents) (calls : List Call) (xs ys : List PutAnswer) → RunsTo limit l old calls xs m → RunsTo limit r old calls ys n
    → (calls ≡ []) ⊎ (WantsNext xs ⊎ WantsNext ys) → GoTogether limit l r old calls xs ys m n
stop_here limit l r old m n calls xs ys p q ends = record {
  first = [];
  rest = calls;
  common = [];
  left_rest = xs;
  right_rest = ys;
  calls_are = refl;
  lefts_are = refl;
  rights_are = refl;
  reached = old;
  none_wants = All-nil has_memory;
  left_first = refl;
  right_first = refl;
  left_goes_on = p;
  right_goes_on = q;
  ends = ends;
}

-- a call in front, with the same answers to it
call_first : (limit : Option ℕ) (l r : Bool) (old now m n : Contents) (call : Call) (calls : List Call)
    (more xs ys : List PutAnswer) → NoneWants more
    → ((cs : List Call) (zs : List PutAnswer) (o : Contents) → RunsTo limit l now cs zs o
    → RunsTo limit l old (call ∷ cs) (more ++ zs) o)
    → ((cs : List Call) (zs : List PutAnswer) (o : Contents) → RunsTo limit r now cs zs o
    → RunsTo limit r old (call ∷ cs) (more ++ zs) o)
    → GoTogether limit l r now calls xs ys m n → GoTogether limit l r old (call ∷ calls) (more ++ xs) (more ++ ys) m n
call_first limit l r old now m n call calls more xs ys none left right t = record {
  first = call ∷ t.first;
  rest = t.rest;
  common = more ++ t.common;
  left_rest = t.left_rest;
  right_rest = t.right_rest;
  calls_are = ap (λ cs. call ∷ cs) t.calls_are;
  lefts_are = ap (λ zs. more ++ zs) t.lefts_are ∙ sym (append_assoc more t.common t.left_rest);
  rights_are = ap (λ zs. more ++ zs) t.rights_are ∙ sym (append_assoc more t.common t.right_rest);
  reached = t.reached;
  none_wants = All-append has_memory more t.common none t.none_wants;
  left_first = left t.first t.common t.reached t.left_first;
  right_first = right t.first t.common t.reached t.right_first;
  left_goes_on = t.left_goes_on;
  right_goes_on = t.right_goes_on;
  ends = t.ends;
}

pub runs_together : (limit : Option ℕ) (l r : Bool) (old m n : Contents) (calls : List Call) (xs ys : List PutAnswer) → RunsTo limit l old calls xs m → RunsTo limit r old calls ys n → GoTogether limit l r old calls xs ys m n
runs_together limit l r old m n [] [] [] p q = stop_here limit l r old m n [] [] [] p q (inl refl)
runs_together limit l r old m n (Put id part bytes ∷ calls) (a ∷ xs) (b ∷ ys) p q =
    let put : Call = Put id part bytes in
    elim (wants_or_not a) [
      | inl wants ↦ stop_here limit l r old m n (put ∷ calls) (a ∷ xs) (b ∷ ys) p q (inr (inl wants))
      | inr some ↦ elim (wants_or_not b) [
        | inl wants ↦ stop_here limit l r old m n (put ∷ calls) (a ∷ xs) (b ∷ ys) p q (inr (inr wants))
        | inr other ↦
            let same : a ≡ b = puts_agree limit l r old id bytes a b p.0 q.0 some other in
            let now : Contents = after_put old id part bytes a in
            let rest = runs_together limit l r now m n calls xs ys p.1 (rw same q.1) in
            let one = All-cons has_memory a [] some (All-nil has_memory) in
            rw (← same) (call_first limit l r old now m n put calls (a ∷ []) xs ys one (λ cs zs o run. (p.0, run))
            (λ cs zs o run. (rw same q.0, run)) rest)
      ]
    ]
runs_together limit l r old m n (Put id part bytes ∷ calls) xs ys p q = grind arith
runs_together limit l r old m n (call ∷ calls) xs ys p q =
    let now : Contents = after_call old call in
    call_first limit l r old now m n call calls [] xs ys (All-nil has_memory) (λ cs zs o run. run)
    (λ cs zs o run. run) (runs_together limit l r now m n calls xs ys p q)
runs_together limit l r old m n [] xs ys p q = grind arith

-- a run in which each put stores
put_stored : (old : Contents) (id : BlobId) (part : Part) (bytes : List ℕ) (a : PutAnswer) → IsOk a → after_put old id part bytes a ≡ with_bytes old id part bytes
put_stored old id part bytes a is = grind arith

pub ends_after_calls : (limit : Option ℕ) (w : Bool) (old new : Contents) (calls : List Call) (xs : List PutAnswer) → RunsTo limit w old calls xs new → All IsOk xs → new ≡ after_calls old calls
ends_after_calls limit w old new [] [] p all = p
ends_after_calls limit w old new [] (a ∷ xs) p all = absurd p
ends_after_calls limit w old new (Put id part bytes ∷ calls) [] p all = absurd p
ends_after_calls limit w old new (Put id part bytes ∷ calls) (a ∷ xs) p all =
    ends_after_calls limit w (after_put old id part bytes a) new calls xs p.1 (All-tail IsOk a xs all)
    ∙ ap (λ m. after_calls m calls) (put_stored old id part bytes a (All-head IsOk a xs all))
ends_after_calls limit w old new (call ∷ calls) xs p all =
    ends_after_calls limit w (after_call old call) new calls xs p all

-- calls in two parts
pub after_calls-append : (old : Contents) (first more : List Call) → after_calls old (first ++ more) ≡ after_calls (after_calls old first) more
after_calls-append old [] more = refl
after_calls-append old (call ∷ first) more = after_calls-append (after_call old call) first more

pub lawful-append : (old : Contents) (first more : List Call) → AreLawful old (first ++ more) ↔ (AreLawful old first × AreLawful (after_calls old first) more)
lawful-append old [] more = (λ all. (tt, all), λ both. both.1)
lawful-append old (call ∷ first) more =
    let rest = lawful-append (after_call old call) first more in
    (λ all. let both = rest.0 all.1 in ((all.0, both.0), both.1), λ both. (both.0.0, rest.1 (both.0.1, both.1)))

-- ---- Copies of consecutive ranges.

-- the copies, joined, are the bytes from `at` on, as many as their sizes say
pub copies_join : (bytes : List ℕ) (at : ℕ) (sizes : List ℕ) → copies bytes at sizes ≡ take (sum sizes) (drop at bytes)
copies_join bytes at [] = refl
copies_join bytes at (size ∷ sizes) =
    ap (λ bs. take size (drop at bytes) ++ bs) (copies_join bytes (at + size) sizes ∙ ap (take (sum sizes)) (sym (drop-drop size at bytes)))
    ∙ sym (take-add size (sum sizes) (drop at bytes))
    ∙ ap (λ n. take n (drop at bytes)) (sym (sum_by-cons (λ n. n) size sizes))

pub copies_make_all : (bytes : List ℕ) (sizes : List ℕ) → sum sizes ≡ length bytes → copies bytes 0 sizes ≡ bytes
copies_make_all bytes sizes all = copies_join bytes 0 sizes ∙ ap (λ n. take n bytes) all ∙ take-length bytes
