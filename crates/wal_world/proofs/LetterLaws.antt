-- Puts of frames, one after the other, come to what the puts of all of them do.
use Rattle.wal_world.proofs.Common.{◌≡◌, ℕ, Bool, true, false, cond, List, [], ◌∷◌, ◌++◌, Option, Some, None, is_some, refl, ap, ◌∙◌, subst, arith, Side, Collision, Frame, IsFrame, frame_text, Log, Contents, PutAnswer, World, Committee, side_of, with_side, with_contents, contents_of, keeps, Rules, PutsFrame, rules_of, PutsTo, Continues, frame_in, frame_read, PutsEach, is_clash, OtherMetadata}
use Rattle.wal_frame.proofs.FrameLaws.{read_again}
use Rattle.wal_shape.specs.declared.text.MetaClash.{MetaClash}
use Rattle.wal_world.proofs.Placing.{keeps_same}

either : {P Q R S : Type 0} (b : Bool) → cond b P R → (P → Q) → (R → S) → cond b Q S
either true h f g = f h
either false h f g = g h

-- puts without a clash, and more of them
pub each_append : (r : Rules) (log : Log) (c mid new : Committee) (a b : List (ℕ × Frame)) (clashed : Bool)
    → PutsEach r log c a false mid → PutsEach r log mid b clashed new → PutsEach r log c (a ++ b) clashed new
each_append r log c mid new [] b clashed h k = subst (λ (x : Committee). PutsEach r log x b clashed new) h.1 k
each_append r log c mid new (p ∷ more) b clashed h k =
    (h.0, h.1, h.2, either (is_clash h.0) h.3 (λ g. let e : false ≡ true = g.0 in absurd cc) (λ g. each_append r log (with_contents c p.0 h.1) mid new more b clashed g k))

-- puts up to a clash
pub each_stops : (r : Rules) (log : Log) (c new : Committee) (a b : List (ℕ × Frame)) → PutsEach r log c a true new → PutsEach r log c (a ++ b) true new
each_stops r log c new [] b h = absurd (let e : true ≡ false = h.0 in cc)
each_stops r log c new (p ∷ more) b h = (h.0, h.1, h.2, either (is_clash h.0) h.3 (λ g. g) (λ g. each_stops r log (with_contents c p.0 h.1) new more b g))

-- to change a committee of a world leaves its log
pub side_log : (side : Side) (w : World) (c : Committee) → (with_side side w c).log ≡ w.log
side_log side w c = grind arith

side_same : (side : Side) (w : World) → w ≡ with_side side w (side_of side w)
side_same side w = grind arith

module _ (digest : List ℕ → List ℕ) where
  -- no puts
  pub puts_none : (w : World) (side : Side) → PutsTo digest w side [] None w
  puts_none w side = record { mid = side_of side w; puts = (refl, refl); state = side_same side w; collides = tt }

  -- puts without a clash, and more of them
  pub puts_append : (old here new : World) (side : Side) (a b : List (ℕ × Frame)) (clash : Option Collision)
      → PutsTo digest old side a None here → PutsTo digest here side b clash new → PutsTo digest old side (a ++ b) clash new
  puts_append old here new side a b clash h k =
      let log : here.log ≡ old.log = rw h.state (side_log side old h.mid) in
      let there : side_of side here ≡ h.mid = rw h.state (back old h.mid) in
      record {
        mid = k.mid;
        puts = each_append (rules_of digest old.log.f) old.log (side_of side old) h.mid k.mid a b (is_some clash) h.puts (rw (there, log) at k.puts);
        state = rw h.state at k.state ∙ twice old h.mid k.mid;
        collides = k.collides;
      }
    where
      back : (w : World) (c : Committee) → side_of side (with_side side w c) ≡ c
      back w c = grind arith

      twice : (w : World) (c d : Committee) → with_side side (with_side side w c) d ≡ with_side side w d
      twice w c d = grind arith

  -- puts up to a clash
  pub puts_stop : (old new : World) (side : Side) (a b : List (ℕ × Frame)) (c : Collision)
      → PutsTo digest old side a (Some c) new → PutsTo digest old side (a ++ b) (Some c) new
  puts_stop old new side a b c h = record {
    mid = h.mid;
    puts = each_stops (rules_of digest old.log.f) old.log (side_of side old) h.mid a b h.puts;
    state = h.state;
    collides = h.collides;
  }

  -- one put that finds no other metadata
  pub put_stays : (w new : World) (side : Side) (shard : ℕ) (frame : Frame) (contents : Contents) (answer : PutAnswer) → is_clash answer ≡ false
      → PutsFrame digest w.log.f w.log shard (contents_of (side_of side w) shard) frame answer contents → new ≡ keeps w side shard contents
      → PutsTo digest w side ((shard, frame) ∷ []) None new
  put_stays w new side shard frame contents answer stays p same =
      let mid : Committee = with_contents (side_of side w) shard contents in
      record { mid = mid; puts = (answer, contents, p, rw stays (refl, refl)); state = same; collides = tt }

  -- one that does
  pub put_clashes : (w new : World) (side : Side) (shard : ℕ) (frame : Frame) (contents : Contents) (clash : MetaClash) (c : Collision)
      → PutsFrame digest w.log.f w.log shard (contents_of (side_of side w) shard) frame (OtherMetadata clash) contents → new ≡ keeps w side shard contents
      → c.left ≡ clash.left → c.right ≡ clash.right → PutsTo digest w side ((shard, frame) ∷ []) (Some c) new
  put_clashes w new side shard frame contents clash c p same left right = record {
    mid = side_of side w;
    puts = (OtherMetadata clash, contents, p, (refl, refl));
    state = rw p.1.7 at same ∙ keeps_same side w shard ∙ side_same side w;
    collides = rw (left, right) p.1.6;
  }

-- one step of a loop over what is sent
pub continues_more : {digest : List ℕ → List ℕ} {old here next : World} {side : Side} {all first rest letters : List (ℕ × Frame)} → Continues digest old all side here letters
    → letters ≡ first ++ rest → PutsTo digest here side first None next → Continues digest old all side next rest
continues_more go same step clash new k = go clash new (rw same (puts_append _ _ _ _ _ _ _ _ step k))

pub continues_stop : {digest : List ℕ → List ℕ} {old here new : World} {side : Side} {all first letters : List (ℕ × Frame)} {c : Collision} (rest : List (ℕ × Frame))
    → Continues digest old all side here letters → letters ≡ first ++ rest → PutsTo digest here side first (Some c) new → PutsTo digest old side all (Some c) new
continues_stop rest go same step = go _ _ (rw same (puts_stop _ _ _ _ _ rest _ step))

pub continues_done : {digest : List ℕ → List ℕ} {old here : World} {side : Side} {all letters : List (ℕ × Frame)} → Continues digest old all side here letters → letters ≡ []
    → PutsTo digest old side all None here
continues_done go none = go None _ (rw none (puts_none _ _ _))

-- the spelling of a frame is read as it
pub frame_again : (x : Frame) → IsFrame x → frame_in (frame_text x) ≡ x
frame_again x fit = ap frame_read (read_again x fit)
