-- The draw is the one of the metadata, and the opening is the one that was made.
use Rattle.wal_run.proofs.Common.{◌≡◌, ◌+◌, ◌<◌, ◌≤◌, ℕ, List, length, arith, Axis, BlobMetadata, IsMetadata, IsBody, opening_shown, symbol_size, crossing, shard_count, held_body, Opening, envelope, frame_text, Draw, HoldsBoth, ShowsDrawn, identifier_of, same_draw, shown_holds, refl, Audit, IsAnswer}
use Rattle.wal_shape.specs.declared.opening.Opening as single
use Rattle.wal_challenge.specs.Draw.{drawn}
use Rattle.wal_run.proofs.Endings.{piece_cut}
use Rattle.wal_run.proofs.challenge.put_answer.Goals as goal

module _ (digest : List ℕ → List ℕ) (a : Audit) (m : BlobMetadata) (draw : Draw) {n : ℕ} (n_is : n ≡ shard_count m.f) (o view : single.Opening)
    (cross : view.cross ≡ o.cross) (symbol : view.symbol ≡ o.symbol) (path : view.path ≡ o.path) (primary secondary : List ℕ)
    (shows : ShowsDrawn digest m a.shard primary secondary draw o) where
  abbrev same : view ≡ o
  same = λ i. record { cross = cross i; symbol = symbol i; path = path i }

  -- the opening holds, so that it fits into the room for an envelope
  fits : ((text : List ℕ) → length (digest text) ≡ 32) → IsMetadata m → draw.place < n → HoldsBoth digest m a.shard primary secondary
      → (room : ℕ) → 370 + symbol_size m.f m.length ≤ room → (draw.place ≤ 999) × IsBody view × (50 + length view.symbol + length view.path ≤ room)
  fits size_is fit within own room enough =
      let holds = shown_holds digest size_is m a.shard primary secondary draw o fit.shape.1 (omega (arith, n_is, within)) own shows in
      let body = held_body digest m (crossing draw.axis) draw.place o fit holds in
      (omega (arith, n_is, within, fit.shape.1), rw same body, rw same (omega (arith, body.path, holds.size, enough)))

  -- its envelope is that of the claim
  answers : {id : List ℕ} {axis : Axis} (d : ℕ) → draw ≡ drawn digest a.beacon id n a.shard d → id ≡ identifier_of digest m → axis ≡ crossing draw.axis
      → IsAnswer digest a m primary secondary d (envelope a.shard (frame_text (Opening a.id.0 axis draw.place view)))
  answers {id} d is id_is axis_is =
      let draw_is = same_draw digest m a.beacon id n a.shard d draw is id_is n_is in
      (o, rw draw_is at shows, rw (axis_is, same, draw_is) refl)

pub put_opening-requires : goal.put_opening-requires
put_opening-requires g c =
    let own = c.requires.words in
    let fit = fits g.H.Hash32.digest c.args.audit.now _ c.draw-draw.result (rw c.shape.ensures.value at c.n-n.ensures.value) c.in_ok-opening.opening (opening_shown c.view.result)
    c.view.ensures.cross c.view.ensures.symbol c.view.ensures.path own.0 own.1 (c.in_ok-opening.ensures own.0 own.1 own.3)
    g.met.H.Hash32.size c.shape.ensures.metadata c.draw-draw.ensures.within own.2 _ c.requires.room in
    record { index = fit.0; opening = fit.1; buffer = fit.2 }

pub returns-in_err-put_opening-clause-puts : goal.returns-in_err-put_opening-clause-puts
returns-in_err-put_opening-clause-puts g c = λ primary secondary are.
    let piece = answers g.H.Hash32.digest c.args.audit.now _ c.draw-draw.result (rw c.shape.ensures.value at c.n-n.ensures.value) c.in_ok-opening.opening (opening_shown c.view.result)
    c.view.ensures.cross c.view.ensures.symbol c.view.ensures.path primary secondary (c.in_ok-opening.ensures primary secondary are)
    c.args.d c.draw-draw.ensures.drawn c.requires.id c.crossing.ensures in
    piece_cut _ _ _ _ _ _ c.from_residual-in_err-put_opening.ensures.1 piece c.in_err-put_opening.ensures.fault c.in_err-put_opening.ensures.part

pub returns-clause-puts : goal.returns-clause-puts
returns-clause-puts g c = λ primary secondary are.
    let piece = answers g.H.Hash32.digest c.args.audit.now _ c.draw-draw.result (rw c.shape.ensures.value at c.n-n.ensures.value) c.in_ok-opening.opening (opening_shown c.view.result)
    c.view.ensures.cross c.view.ensures.symbol c.view.ensures.path primary secondary (c.in_ok-opening.ensures primary secondary are)
    c.args.d c.draw-draw.ensures.drawn c.requires.id c.crossing.ensures in
    (_, piece, c.in_ok-put_opening.ensures.whole)
