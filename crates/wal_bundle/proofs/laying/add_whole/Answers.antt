use Rattle.wal_bundle.proofs.Common.{◌≡◌, ◌+◌, ◌++◌, length, vec_len, rules}
use Rattle.wal_bundle.proofs.IndexTexts.{whole_added}
use Rattle.wal_bundle.proofs.laying.add_whole.Goals as goal

pub returns : goal.returns
returns c =
    let before = c.args.columns.now.items in
    let bytes = c.args.bytes.now in
    let is : c.extend_from_slice.new.self.items ≡ before ++ bytes = search rules in
    let len : c.len.result ≡ length before = search rules in
    let long : vec_len c.extend_from_slice.new.self ≡ length before + length bytes = search rules in
    whole_added c.args.size before bytes _ _ _ _ c.requires.some is (rw (len, c.columns_for.ensures.value)) long
    c.in_ok-resize.ensures.items
