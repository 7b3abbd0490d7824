-- One level higher the entries still differ, and the paths still lead to one root.
use Rattle.wal_tree.proofs.Common.{◌≡◌, ◌≢◌, ◌+◌, ◌/◌, ◌∙◌, length, refl, sym, ap, arith, rules, parent_text}
use Rattle.std.proofs.lemmas.List.{length-drop}
use Rattle.wal_tree.proofs.Collisions.{alone, are_bytes, meet_here, meet_next, one_above, texts_apart_above, way_on}
use Rattle.wal_tree.proofs.collide.+collide_nodes.Goals as goal

pub split_at-requires : goal.split_at-requires
split_at-requires g t c =
    way_on g.H.Hash32.digest c.args.place c.args.entry_a c.args.entry_b c.args.path_a.now c.args.path_b.now c.requires.whole c.requires.long c.requires.differ c.requires.one

pub collide_nodes-requires : goal.collide_nodes-requires
collide_nodes-requires g t c κs within =
    let digest = g.H.Hash32.digest in
    let p = c.args.path_a.now in
    let q = c.args.path_b.now in
    let some = way_on digest c.args.place c.args.entry_a c.args.entry_b p q c.requires.whole c.requires.long c.requires.differ c.requires.one in
    let a_is : c.hash3-above_a.result ≡ digest c.parent_text_of-left.result = c.hash3-above_a.ensures ∙ alone digest c.parent_text_of-left.result c.bytes.result.now c.bytes.ensures.value in
    let b_is : c.hash3-above_b.result ≡ digest c.parent_text_of-right.result = c.hash3-above_b.ensures ∙ alone digest c.parent_text_of-right.result c.bytes-2.result.now c.bytes-2.ensures.value in
    let differ : c.hash3-above_a.result ≢ c.hash3-above_b.result = search rules in
    let rest_a : length c.split_at.result.1.now + 32 ≡ length p = omega (arith, some, ap length c.split_at.ensures.back, length-drop 32 p) in
    let rest_b : length c.split_at-2.result.1.now + 32 ≡ length p = omega (arith, some, c.requires.long, ap length c.split_at-2.ensures.back, length-drop 32 q) in
    let one = one_above digest c.args.place c.args.entry_a c.args.entry_b p q c.split_at.result.0.now c.split_at-2.result.0.now c.parent_text_of-left.result c.parent_text_of-right.result
    c.hash3-above_a.result c.hash3-above_b.result c.split_at.result.1.now c.split_at-2.result.1.now some c.requires.long c.split_at.ensures.front c.split_at-2.ensures.front
    c.split_at.ensures.back c.split_at-2.ensures.back c.parent_text_of-left.ensures c.parent_text_of-right.ensures a_is b_is c.requires.one in
    search (arith, within, rest_a, rest_b, c.requires.whole, differ, one)

-- texts that differ and have one digest
pub returns-then-eq-clause-collision : goal.returns-then-eq-clause-collision
returns-then-eq-clause-collision g t c =
    let digest = g.H.Hash32.digest in
    let a_is : c.hash3-above_a.result ≡ digest c.parent_text_of-left.result = c.hash3-above_a.ensures ∙ alone digest c.parent_text_of-left.result c.bytes.result.now c.bytes.ensures.value in
    let b_is : c.hash3-above_b.result ≡ digest c.parent_text_of-right.result = c.hash3-above_b.ensures ∙ alone digest c.parent_text_of-right.result c.bytes-2.result.now c.bytes-2.ensures.value in
    let same : c.hash3-above_a.result ≡ c.hash3-above_b.result = search rules in
    record {
      left = are_bytes c.parent_text_of-left.result c.bytes.result.now c.bytes.ensures.value c.bytes.ensures.range;
      right = are_bytes c.parent_text_of-right.result c.bytes-2.result.now c.bytes-2.ensures.value c.bytes-2.ensures.range;
      differ = texts_apart_above c.args.place c.args.entry_a c.args.entry_b c.split_at.result.0.now c.split_at-2.result.0.now c.parent_text_of-left.result c.parent_text_of-right.result
          (omega arith) (omega arith) c.requires.differ c.parent_text_of-left.ensures c.parent_text_of-right.ensures;
      same = sym a_is ∙ same ∙ b_is;
    }

-- the parents' texts meet
pub returns-then-eq-clause-texts : goal.returns-then-eq-clause-texts
returns-then-eq-clause-texts g t c = λ x y x_is y_is.
    let digest = g.H.Hash32.digest in
    let place = c.args.place in
    let left = c.parent_text_of-left.result in
    let right = c.parent_text_of-right.result in
    let a_is : c.hash3-above_a.result ≡ digest left = c.hash3-above_a.ensures ∙ alone digest left c.bytes.result.now c.bytes.ensures.value in
    let b_is : c.hash3-above_b.result ≡ digest right = c.hash3-above_b.ensures ∙ alone digest right c.bytes-2.result.now c.bytes-2.ensures.value in
    let same : c.hash3-above_a.result ≡ c.hash3-above_b.result = search rules in
    meet_next digest place x y c.args.entry_a c.args.entry_b c.args.path_a.now c.args.path_b.now left right _ _ left right c.requires.whole c.requires.long c.requires.differ c.requires.one x_is y_is
    (c.parent_text_of-left.ensures ∙ ap (parent_text place c.args.entry_a) c.split_at.ensures.front) (c.parent_text_of-right.ensures ∙ ap (parent_text place c.args.entry_b) c.split_at-2.ensures.front)
    refl refl (meet_here digest (place / 2) left _ right _ left right (sym a_is ∙ same ∙ b_is) refl refl)

-- or those above them
pub returns-clause-texts : goal.returns-clause-texts
returns-clause-texts g t c = λ x y x_is y_is.
    let digest = g.H.Hash32.digest in
    let place = c.args.place in
    let left = c.parent_text_of-left.result in
    let right = c.parent_text_of-right.result in
    let a_is : c.hash3-above_a.result ≡ digest left = c.hash3-above_a.ensures ∙ alone digest left c.bytes.result.now c.bytes.ensures.value in
    let b_is : c.hash3-above_b.result ≡ digest right = c.hash3-above_b.ensures ∙ alone digest right c.bytes-2.result.now c.bytes-2.ensures.value in
    meet_next digest place x y c.args.entry_a c.args.entry_b c.args.path_a.now c.args.path_b.now left right c.split_at.result.1.now c.split_at-2.result.1.now c.collide_nodes.result.left c.collide_nodes.result.right
    c.requires.whole c.requires.long c.requires.differ c.requires.one x_is y_is
    (c.parent_text_of-left.ensures ∙ ap (parent_text place c.args.entry_a) c.split_at.ensures.front) (c.parent_text_of-right.ensures ∙ ap (parent_text place c.args.entry_b) c.split_at-2.ensures.front)
    c.split_at.ensures.back c.split_at-2.ensures.back (c.collide_nodes.ensures.texts left right (sym a_is) (sym b_is))
