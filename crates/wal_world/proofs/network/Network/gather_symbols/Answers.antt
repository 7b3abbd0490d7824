use Rattle.wal_world.proofs.Common.{◌≡◌, ℕ, ◌+◌, List, [], ◌∷◌, ◌++◌, take, get_or, sym, ap, ◌∙◌, subst, take_more, Reply, World, rules_of, world_of, AreReplies, IsReplyOf}
use Rattle.wal_world.proofs.ReplyTexts.{like_world, like_trans}
use Rattle.wal_world.proofs.Symbols.{replies_more}
use Rattle.wal_world.proofs.network.Network.gather_symbols.Goals as goal

pub loop-reply-preserved : goal.loop-reply-preserved
loop-reply-preserved g c =
    let w = world_of c.args.self.now in
    let r = rules_of g.H.Hash32.digest w.log.f in
    let i = c.loop-reply.reply-index in
    let all = c.args.replies.now in
    let item = c.reply-item.is in
    let here : c.reply-item.result ≡ get_or all i c.reply-item.result = cc in
    let grown : take i all ++ c.reply-item.result ∷ [] ≡ take (i + 1) all
    = ap (λ (x : Reply). take i all ++ x ∷ []) here ∙ sym (take_more all i c.reply-item.result c.loop-reply-test.true) in
    let own : IsReplyOf r w c.args.id.now c.args.axis c.args.shard c.reply-item.result c.in_ok-more.more
    = subst (λ (v : World). IsReplyOf (rules_of g.H.Hash32.digest v.log.f) v c.args.id.now c.args.axis c.args.shard c.reply-item.result c.in_ok-more.more)
    (like_world c.loop-reply.invariant.like) c.in_ok-more.ensures.payloads in
    let more : AreReplies r w c.args.id.now c.args.axis c.args.shard (take i all ++ c.reply-item.result ∷ []) (c.loop-reply.payloads.items ++ c.in_ok-more.more)
    = replies_more r w c.args.id.now c.args.axis c.args.shard (take i all) c.reply-item.result c.loop-reply.payloads.items c.in_ok-more.more c.loop-reply.invariant.replied own in
    record {
      network = c.in_ok-more.ensures.network;
      like = like_trans c.loop-reply.invariant.like c.in_ok-more.ensures.like;
      replied = subst (λ (l : List Reply). AreReplies r w c.args.id.now c.args.axis c.args.shard l c.add_payloads.new.payloads.items) grown
          (subst (λ (p : List (List ℕ)). AreReplies r w c.args.id.now c.args.axis c.args.shard (take i all ++ c.reply-item.result ∷ []) p) (sym c.in_ok-add_payloads.ensures) more);
    }
