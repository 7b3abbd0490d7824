use Rattle.wal_bundle.proofs.Common.{◌≡◌, [], length, vec_len, ◌∙◌, arith, rules, get_or_read, take_all, columns_text}
use Rattle.wal_bundle.proofs.IndexTexts.{member_room, index_room}
use Rattle.wal_bundle.proofs.laying.columns_text.Goals as goal

pub add_whole-requires-clause-room : goal.add_whole-requires-clause-room
add_whole-requires-clause-room c =
    let room = index_room c.args.size c.args.members.now c.args.index.now c.requires.index in
    omega (arith, c.in_ok-columns.ensures.len, room, c.requires.total, c.requires.fits)

pub add_whole-requires-in-loop-member-clause-room : goal.add_whole-requires-in-loop-member-clause-room
add_whole-requires-in-loop-member-clause-room c =
    let members = c.args.members.now in
    let i = c.loop-member.member-index in
    let h = c.loop-member-test.true in
    let own = c.as_slice.ensures ∙ get_or_read members i c.member-item.result h c.member-item.is [] in
    let room = member_room c.args.size members c.args.index.now c.loop-member.columns.items i c.requires.some h c.requires.index c.loop-member.invariant in
    let len : vec_len c.loop-member.columns ≡ length c.loop-member.columns.items = search rules in
    omega (arith, len, rw (← own) at room, c.requires.total, c.requires.fits)

pub returns : goal.returns
unfolding columns_text
returns c =
    let all = take_all c.loop-member.member-index c.args.members.now (omega arith) in
    rw (c.loop-member.invariant, c.requires.index, all)
