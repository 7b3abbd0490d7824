-- What deeds leave of what is held.
use Rattle.wal_network.proofs.Common.{◌≢◌, ◌≡◌, ℕ, zero, suc, ◌<◌, List, [], ◌∷◌, take, length, get_or, true, is_some, sym, refl, ap, subst, arith, ⊎_elim, ◌∙◌, Axis, BlobId, Log, Contents, parts_at, Parts, part_of, Metadata, Primary, Secondary, has_proof, settled_by_slivers, PutAnswer, Rules, Laws, IsAbove, AreAbove, AllSound, Line}
use Rattle.wal_shape.specs.declared.part.Part.{Part}
use Rattle.wal_event.specs.declared.line.Line.TheVariants as line
use Rattle.wal_event.specs.declared.line.RecoverWord.TheVariants as recovering
use Rattle.wal_event.specs.declared.line.ForgetWord.TheVariants as forgetting
use Rattle.wal_protocol.proofs.Lookups.{parts_forgotten, Firmer, firmer_above, firmer_same, firmer_forgotten}
use Rattle.wal_network.specs.Deeds.{Deed, Acts, stored, missed, found, forgot, Done, last_held, ActsEach, KeepsNothing, KeepsSomething}
use Rattle.wal_network.specs.Network.{Spares}

some_kept : (old new : Parts) (p : Part) → IsAbove old new → is_some (part_of old p) ≡ true → is_some (part_of new p) ≡ true
some_kept old new p above h = grind (arith, above p)

-- what is left: both slivers of a blob that is spared, what is settled, proofs, and soundness
pub record Leaves (r : Rules) (s : ℕ) (old new : Contents) (Spared : BlobId → Type 0) : Type 0 where
  pub holds_still : (id : BlobId) → Spared id → settled_by_slivers (parts_at old id) ≡ true → settled_by_slivers (parts_at new id) ≡ true
  pub firmer : (id : BlobId) → Firmer (parts_at old id) (parts_at new id)
  pub sound : AllSound r s old → AllSound r s new

more_leaves : (r : Rules) (s : ℕ) (old new : Contents) (Spared : BlobId → Type 0) → AreAbove old new → (AllSound r s old → AllSound r s new) → Leaves r s old new Spared
more_leaves r s old new Spared above sound = record {
  holds_still = λ id spared h. grind (arith, some_kept (parts_at old id) (parts_at new id) Metadata (above id), some_kept (parts_at old id) (parts_at new id) Primary (above id), some_kept (parts_at old id) (parts_at new id) Secondary (above id));
  firmer = λ id. firmer_above (parts_at old id) (parts_at new id) (above id);
  sound = sound;
}

module _ (r : Rules) (laws : Laws r) (log : Log) (s : ℕ) where
  act_leaves : (old : Contents) (deed : Deed) (said : Line) (new : Contents) → Acts r log s old deed said new → Leaves r s old new (λ id. said ≢ line.Forget s id forgetting.Done)
  act_leaves old _ _ new (stored bytes frame _ reads puts) =
      more_leaves r s old new _ (laws.put_adds log s old new frame PutAnswer.Stored puts) (laws.put_sound log s old new frame PutAnswer.Stored puts)
  act_leaves old _ _ new (found axis i heard word _ run keeps) =
      more_leaves r s old new _ (laws.recover_adds i s axis old new heard word run.recovers) (laws.recover_sound i s axis old new heard word run.recovers run.one_metadata)
  act_leaves old _ _ _ (forgot i may) = record {
    holds_still = λ id other h. ⊎_elim (λ same. ap settled_by_slivers same ∙ h) (λ is. absurd (other (ap (λ q. line.Forget s q forgetting.Done) (sym is.0)))) (parts_forgotten old i id);
    firmer = λ id. ⊎_elim (λ same. firmer_same _ _ same)
        (λ is. subst (Firmer (parts_at old id)) (sym is.1) (firmer_forgotten (parts_at old id) (ap (λ (q : BlobId). has_proof (parts_at old q)) is.0 ∙ may.proof)))
        (parts_forgotten old i id);
    sound = λ sound q. ⊎_elim (λ same. subst (r.IsSound q s) (sym same) (sound q)) (λ is. subst (r.IsSound q s) (sym is.1) (laws.forget_sound q s (parts_at old q) (sound q)))
        (parts_forgotten old i q);
  }
  act_leaves old deed said new act = record { holds_still = λ id spared h. h; firmer = λ id. firmer_same _ _ refl; sound = λ h. h }

  pub each_leaves : (old : Contents) (dones : List Done) → ActsEach r log s old dones → Leaves r s old (last_held dones old) (λ id. Spares s id dones)
  each_leaves old [] acts = record { holds_still = λ id spared h. h; firmer = λ id. firmer_same _ _ refl; sound = λ h. h }
  each_leaves old (done ∷ more) acts =
      let one = act_leaves old done.deed done.said done.after acts.0 in
      let rest = each_leaves done.after more acts.1 in
      record {
        holds_still = λ id spared h. rest.holds_still id spared.1 (one.holds_still id spared.0 h);
        firmer = λ id. record { settles = λ h. (rest.firmer id).settles ((one.firmer id).settles h); by_proof = λ h. (rest.firmer id).by_proof ((one.firmer id).by_proof h) };
        sound = λ h. rest.sound (one.sound h);
      }

  -- the first of them are deeds too
  pub acts_first : (old : Contents) (dones : List Done) (k : ℕ) → ActsEach r log s old dones → ActsEach r log s old (take k dones)
  acts_first old dones zero acts = tt
  acts_first old [] (suc k) acts = tt
  acts_first old (done ∷ more) (suc k) acts = (acts.0, acts_first done.after more k acts.1, acts.2)

  -- a sliver that was recovered is committed
  act_commits : (old : Contents) (deed : Deed) (said : Line) (new : Contents) (axis : Axis) (id : BlobId) (bytes : List ℕ) → Acts r log s old deed said new → AllSound r s old
      → said ≡ line.Recover s axis id (recovering.Sliver bytes) → r.CommitsTo id s axis bytes (parts_at new id)
  act_commits old _ _ new axis id bytes (found a i heard _ _ run (KeepsSomething.sliver own)) sound is =
      let same_axis : a ≡ axis = cc in
      let same_id : i ≡ id = cc in
      let same_bytes : own ≡ bytes = cc in
      rw (same_axis, same_id, same_bytes) at (laws.recover_commits i s a old new heard own run.recovers run.one_metadata sound)
  act_commits old _ _ _ axis id bytes (missed a i heard _ contents run (KeepsNothing.short have need)) sound is = absurd cc
  act_commits old deed said new axis id bytes act sound is = absurd cc

  pub each_commits : (old : Contents) (dones : List Done) (done : Done) (k : ℕ) (axis : Axis) (id : BlobId) (bytes : List ℕ) → ActsEach r log s old dones → AllSound r s old
      → k < length dones → get_or dones k done ≡ done → done.said ≡ line.Recover s axis id (recovering.Sliver bytes) → r.CommitsTo id s axis bytes (parts_at done.after id)
  each_commits old [] done k axis id bytes acts sound lt at is = absurd (omega arith)
  each_commits old (one ∷ more) done zero axis id bytes acts sound lt at is = rw at at (act_commits old one.deed one.said one.after axis id bytes acts.0 sound (ap (λ (d : Done). d.said) at ∙ is))
  each_commits old (one ∷ more) done (suc k) axis id bytes acts sound lt at is =
      each_commits one.after more done k axis id bytes acts.1 ((act_leaves old one.deed one.said one.after acts.0).sound sound) (omega arith) at is
