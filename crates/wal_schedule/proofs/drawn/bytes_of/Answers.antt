use Rattle.wal_schedule.proofs.Common.{◌++◌, ◌∷◌, [], ◌%◌, ◌+◌, length, refl, sym, ap, ◌∙◌, next_state, state_after}
use Rattle.wal_schedule.proofs.Drawing.{pushed_byte, pushed_count, state_after-more}
use Rattle.wal_schedule.proofs.drawn.bytes_of.Goals as goal

pub loop-k-init : goal.loop-k-init
unfolding state_after
loop-k-init c =
    let first = c.in_ok-push.ensures.items ∙ ap (λ xs. xs ++ c.args.b ∷ []) c.in_ok-bytes.ensures.items in
    record { count = ap length first; bytes = first; state = refl }

pub loop-k-preserved : goal.loop-k-preserved
loop-k-preserved c =
    let x = c.args.draws.now.state in
    let k = c.loop-k.k in
    let items = c.in_ok-push-2.ensures.items in
    let drew = c.draw.ensures.state ∙ ap next_state c.loop-k.invariant.state in
    record {
      count = pushed_count (k + 1) _ _ _ c.loop-k.invariant.count items;
      bytes = pushed_byte x c.args.b k _ _ _ c.loop-k.invariant.bytes drew
          (items ∙ ap (λ v. c.loop-k.bytes.items ++ v % 256 ∷ []) c.draw.ensures.value);
      state = drew ∙ sym (state_after-more x k);
    }
