-- Texts that are appended one after the other.
use Rattle.wal_frame.proofs.Common.{◌≡◌, ℕ, ◌+◌, ◌-◌, ◌/◌, List, [], ◌∷◌, ◌++◌, length, ap, ◌∙◌, append_assoc, arith, w16, w32, length-append, Axis, IsBody, number_text, body_text, put_text, Frame, IsFrame, frame_text}
use Rattle.wal_shape.specs.declared.opening.Opening.{Opening}
use Rattle.wal_frame.specs.Frame as frame
use Rattle.wal_frame.specs.Buffer.{Buffer, appended}
use Rattle.wal_frame.proofs.FrameLaws.{length-opening_frame}

appended_then : (b : Buffer) (x y : List ℕ) → appended (appended b x) y ≡ appended b (x ++ y)
appended_then b x y =
    let room : b.spare - length x - length y ≡ b.spare - length (x ++ y) = omega (arith, length-append x y) in
    rw (append_assoc b.bytes x y, room)

-- an opening body, of which the cross and the symbol stand first
pub body_written : (b : Buffer) (o : Opening) → IsBody o
    → appended (appended (appended b (number_text w16 o.cross ++ number_text w32 (length o.symbol) ++ o.symbol)) (length o.path / 32 ∷ [])) o.path ≡ appended b (body_text o)
body_written b o h =
    let front = number_text w16 o.cross ++ number_text w32 (length o.symbol) ++ o.symbol in
    ap (λ (c : Buffer). appended c o.path) (appended_then b front _) ∙ appended_then b _ o.path ∙ ap (appended b) (put_text [] o h)

-- the number of bytes of an opening's frame
pub opening_size : (x : Frame) (id : List ℕ) (axis : Axis) (index : ℕ) (o : Opening) → x ≡ frame.Opening id axis index o → IsFrame x → length (frame_text x) ≡ 43 + length o.symbol + length o.path
opening_size x id axis index o e h =
    rw e (length-opening_frame id axis index o (rw e at h).0.id_size)
