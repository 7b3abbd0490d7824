use Rattle.wal_world.proofs.Common.{◌≡◌, ℕ, ◌+◌, List, [], ◌∷◌, ◌++◌, take, get_or, sym, ap, ◌∙◌, take_more, Reply, World, rules_of, world_of, read_payloads, reply_payloads}
use Rattle.wal_world.proofs.ReplyTexts.{like_world, like_trans, payloads_more}
use Rattle.wal_world.proofs.network.Network.gather.Goals as goal

pub loop-reply-preserved : goal.loop-reply-preserved
loop-reply-preserved g c =
    let w = world_of c.args.self.now in
    let r = rules_of g.H.Hash32.digest w.log.f in
    let id = c.args.id.now in
    let i = c.loop-reply.reply-index in
    let all = c.args.replies.now in
    let reply = c.reply-item.result in
    let item = c.reply-item.is in
    let here : reply ≡ get_or all i reply = cc in
    let grown : take i all ++ reply ∷ [] ≡ take (i + 1) all = ap (λ (x : Reply). take i all ++ x ∷ []) here ∙ sym (take_more all i reply c.loop-reply-test.true) in
    let own = ap (λ (v : World). reply_payloads (rules_of g.H.Hash32.digest v.log.f) v id reply) (like_world c.loop-reply.invariant.like) in
    record {
      network = c.in_ok-add_reply.ensures.network;
      like = like_trans c.loop-reply.invariant.like c.in_ok-add_reply.ensures.like;
      items = c.in_ok-add_reply.ensures.payloads ∙ ap (λ (p : List (List ℕ)). c.loop-reply.payloads.items ++ p) own
          ∙ ap (λ (p : List (List ℕ)). p ++ reply_payloads r w id reply) c.loop-reply.invariant.items ∙ sym (payloads_more r w id (take i all) reply) ∙ ap (λ (l : List Reply). read_payloads r w id l) grown;
    }
