-- The symbols of a blob's matrix are equally long, which the law of the trait cites.
use Rattle.std.specs.Prelude.{◌≡◌, ℕ, ◌+◌, ◌*◌, ◌<◌, ◌≤◌, List, length, take, drop}
use Rattle.std.proofs.Common.{arith, ap, ◌∙◌, length-take, length-drop}
use Rattle.std.proofs.Math.Nat.{mul-le-mul_right}
use Rattle.wal_commit.specs.inside.Strips.{BlobState, IsSymbolAt, bytes_of_symbol, symbols_of}

part_long : (size k count : ℕ) (extended : List ℕ) → k < count → length extended ≡ count * size
    → length (take size (drop (k * size) extended)) ≡ size
part_long size k count extended below long =
    let next : k + 1 ≤ count = omega arith in
    let room = mul-le-mul_right size next in
    omega (
      arith,
      length-take size (drop (k * size) extended),
      length-drop (k * size) extended,
      long,
      room,
    )

pub symbol_sized : (blob : BlobState) (place : ℕ) (piece : List ℕ) → IsSymbolAt blob place piece
    → length piece ≡ bytes_of_symbol blob
symbol_sized blob place piece is =
    ap length is.part
    ∙ part_long (bytes_of_symbol blob) place (symbols_of blob)
    is.matrix is.within is.extended.coded.size
