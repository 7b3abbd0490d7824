use Rattle.std.proofs.Common.{◌≡◌, ◌≢◌, length, sym, rules, arith}
use Rattle.wal_pool.specs.Pages.{IsTakenPage}
use Rattle.wal_pool.proofs.PageLaws.{taken_kept, free_apart, all_free}
use Rattle.test_shards.proofs.pages.two_pages.Goals as goal

pub give-requires-3 : goal.give-requires-3
give-requires-3 g c =
    let right = c.one_of-right.result in
    let left = c.one_of-left.result in
    let again = c.one_of-again.result in
    let apart = free_apart c.one_of-left.new.pool right left c.one_of-right.ensures.free c.one_of-left.ensures.own in
    let other : right ≢ left = λ same. apart (sym same) in
    let written = taken_kept c.one_of-right.new.pool c.write.new.self left right _ c.write.ensures.written other c.one_of-right.ensures.own in
    let given : IsTakenPage c.give.new.self right = taken_kept c.take.new.self c.give.new.self left right _ c.give.ensures.free other (search (rules, written)) in
    let back = free_apart c.give.new.self again right c.one_of-again.ensures.free given in
    let taken = taken_kept c.give.new.self c.one_of-again.new.pool again right _ c.one_of-again.ensures.taken back given in
    taken_kept c.one_of-again.new.pool c.give-2.new.self again right _ c.give-2.ensures.free back taken

pub close-requires : goal.close-requires
close-requires g c =
    let start : length c.expect-pool.result ≡ 2 = search rules in
    all_free c.give-3.new.self (omega arith)
