-- What serves private functions and proofs beside Reply.
use Rattle.std.specs.Prelude.{◌≤◌, Result, Ok, Err, ⊤}
use Rattle.wal_shape.specs.declared.text.MetaClash.{MetaClash}
use Rattle.wal_serve.specs.declared.reply.Reply.{Reply}

-- the code of a reply is one that an answer may have
abbrev pub HasCode : Result Reply MetaClash → Type 0
HasCode (Ok reply) = reply.code ≤ 15
HasCode (Err clash) = ⊤
